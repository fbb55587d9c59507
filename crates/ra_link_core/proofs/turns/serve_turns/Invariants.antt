use Rattle.std.proofs.Common.{◌≡◌, ◌-◌, Some}
use Rattle.ra_link_core.specs.Carried.{Carries}
use Rattle.ra_link_core.specs.LinkRuns.{Serving, served}
use Rattle.ra_link_core.specs.Makes.{Base, IsGoing, Happens, Follows, Holds, Balance, NotUnkept, seat_after, step_of}
use Rattle.ra_link_core.proofs.turns.serve_turns.Given as goal

abbrev pub invariant-loop-turn : goal.invariant-loop-turn
invariant-loop-turn g l = Holds (g.H.Hub.seats l.hub) (seat_after l.state)
    × Balance (Some l.fn.seat) (g.H.Hub.seats l.fn.hub) (seat_after l.state) (g.H.Hub.seats l.hub)
    × (g.H.Hub.keep_faults l.hub ≡ g.H.Hub.keep_faults l.fn.hub)
    × NotUnkept (step_of l.state).end
    × ((base : Base) (s v : Serving) → IsGoing (Some l.fn.seat) (g.H.Hub.stands l.fn.hub) (g.J.JobSink.told l.fn.jobs) base l.fn.out.items v → Happens s v
    → Follows l.state (g.H.Hub.stands l.hub) (g.J.JobSink.told l.jobs) base l.out.items (l.more - l.turn) l.now s (served l.more l.fn.seat l.piece l.now v))
    × Carries (step_of l.state).end
