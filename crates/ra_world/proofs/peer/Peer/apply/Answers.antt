use Rattle.std.proofs.Common.{refl}
use Rattle.ra_model.specs.Calls.{finish, control, ask_pause, ask_resume, leave}
use Rattle.ra_model.specs.Refusals.{finish_refusal, control_refusal, ask_refusal, leave_refusal}
use Rattle.ra_world.specs.EndEvents.{end_refusal, end_happens, end_effect}
use Rattle.ra_world.proofs.PeerCalls.{call_answers, elsewhere, silent_finish, silent_control, silent_pause, silent_resume, silent_leave}
use Rattle.ra_world.proofs.peer.Peer.apply.Goals as goal

pub returns-in-Finish-clause-does : goal.returns-in-Finish-clause-does
unfolding end_refusal end_happens end_effect
returns-in-Finish-clause-does c =
    rw (c.in-Finish.is, c.done.ensures, ← c.self.view_is)
    (λ p h. call_answers _ _ (finish c.args.now) finish_refusal _ c.end_link.result (λ e. silent_finish e c.args.now) (λ base said. refl) c.end_link.ensures.refused c.end_link.ensures.stands p p.applied h)

pub returns-in-Say-clause-does : goal.returns-in-Say-clause-does
unfolding end_refusal end_happens end_effect
returns-in-Say-clause-does c = rw c.in-Say.is c.say.ensures.does

pub returns-in-Control-clause-does : goal.returns-in-Control-clause-does
unfolding end_refusal end_happens end_effect
returns-in-Control-clause-does c =
    rw (c.in-Control.is, c.done-in-Control.ensures, ← c.self-in-Control.view_is)
    (λ p h. call_answers _ _ (control c.in-Control.body) (control_refusal c.in-Control.body) _ c.control.result (λ e. silent_control e c.in-Control.body) (λ base said. refl) (rw c.as_slice.ensures at c.control.ensures.refused) (rw c.as_slice.ensures at c.control.ensures.stands) p p.applied h)

pub returns-in-Pause-clause-does : goal.returns-in-Pause-clause-does
unfolding end_refusal end_happens end_effect
returns-in-Pause-clause-does c =
    rw (c.in-Pause.is, c.done-in-Pause.ensures, ← c.self-in-Pause.view_is)
    (λ p h. call_answers _ _ ask_pause ask_refusal _ c.ask_pause.result silent_pause (λ base said. refl) c.ask_pause.ensures.refused c.ask_pause.ensures.stands p p.applied h)

pub returns-in-Resume-clause-does : goal.returns-in-Resume-clause-does
unfolding end_refusal end_happens end_effect
returns-in-Resume-clause-does c =
    rw (c.in-Resume.is, c.done-in-Resume.ensures, ← c.self-in-Resume.view_is)
    (λ p h. call_answers _ _ ask_resume ask_refusal _ c.ask_resume.result silent_resume (λ base said. refl) c.ask_resume.ensures.refused c.ask_resume.ensures.stands p p.applied h)

pub returns-in-Leave-clause-does : goal.returns-in-Leave-clause-does
unfolding end_refusal end_happens end_effect
returns-in-Leave-clause-does c =
    rw (c.in-Leave.is, c.done-in-Leave.ensures, ← c.self-in-Leave.view_is)
    (λ p h. call_answers _ _ leave leave_refusal _ c.disconnect.result silent_leave (λ base said. refl) c.disconnect.ensures.refused c.disconnect.ensures.stands p p.applied h)

pub returns-in-Take-clause-does : goal.returns-in-Take-clause-does
unfolding end_refusal end_happens end_effect
returns-in-Take-clause-does c = rw c.in-Take.is c.take.ensures.does

pub returns-in-Tick-clause-does : goal.returns-in-Tick-clause-does
unfolding end_refusal end_happens end_effect
returns-in-Tick-clause-does c = rw c.in-Tick.is c.tick.ensures.does

pub returns-in-Lose-clause-does : goal.returns-in-Lose-clause-does
unfolding end_refusal end_happens end_effect
returns-in-Lose-clause-does c = rw c.in-Lose.is (λ p h. (refl, refl, c.lose.ensures p h))

pub returns-in_default-clause-does : goal.returns-in_default-clause-does
returns-in_default-clause-does c =
    let d = c.in_default in
    elsewhere c.args.event.now d.not-Finish d.not-Say d.not-Control d.not-Pause d.not-Resume d.not-Leave d.not-Take d.not-Tick d.not-Lose c.args.now c.args.self.now
