-- The events of one end alone, which read and write no link. Other events change nothing here.
use Rattle.std.specs.Prelude.{ℕ, ◌+◌, Option, None}
use Rattle.ra_base.specs.declared.event.Event.{Event}
use Rattle.ra_base.specs.declared.event.Event.TheVariants.{Finish, Say, Control, Pause, Resume, Leave, Take, Tick, Lose}
use Rattle.ra_model.specs.declared.effect.Effect.{Effect}
use Rattle.ra_model.specs.declared.effect.Effect.TheVariants.{Done, Said, Ticked}
use Rattle.ra_model.specs.declared.fault.EventFault.{EventFault}
use Rattle.ra_model.specs.Endpoints.{sent}
use Rattle.ra_model.specs.Calls.{say, control, ask_pause, ask_resume, finish, tick, times_out, lose, leave}
use Rattle.ra_model.specs.Taking.{delivery}
use Rattle.ra_model.specs.Refusals.{at_end, finish_refusal, say_refusal, control_refusal, ask_refusal, leave_refusal, take_refusal}
use Rattle.ra_model.specs.Worlds.{Peer}
use Rattle.ra_model.specs.Views.{called}
use Rattle.ra_model.specs.Events.{taken, handed_up}

unfoldable pub end_refusal : Event → Peer → Option EventFault
end_refusal (Finish side) p = at_end (finish_refusal p.endpoint)
end_refusal (Say side body) p = at_end (say_refusal body p.endpoint)
end_refusal (Control side body) p = at_end (control_refusal body p.endpoint)
end_refusal (Pause side) p = at_end (ask_refusal p.endpoint)
end_refusal (Resume side) p = at_end (ask_refusal p.endpoint)
end_refusal (Leave side) p = at_end (leave_refusal p.endpoint)
end_refusal (Take side) p = at_end (take_refusal p.endpoint)
end_refusal _ p = None

unfoldable pub end_happens : Event → ℕ → Peer → Peer
end_happens (Finish side) now p = called (finish now) p
end_happens (Say side body) now p = called (say body now) p
end_happens (Control side body) now p = called (control body) p
end_happens (Pause side) now p = called ask_pause p
end_happens (Resume side) now p = called ask_resume p
end_happens (Leave side) now p = called leave p
end_happens (Take side) now p = taken now p
end_happens (Tick side) now p = called (tick now) p
end_happens (Lose side) now p = called (lose p.endpoint.epoch) p
end_happens _ now p = p

unfoldable pub end_effect : Event → ℕ → Peer → Effect
end_effect (Say side body) now p = Said (sent p.endpoint + 1)
end_effect (Take side) now p = handed_up (delivery p.endpoint)
end_effect (Tick side) now p = Ticked (times_out now p.endpoint)
end_effect _ now p = Done
