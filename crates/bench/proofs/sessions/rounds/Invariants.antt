use Rattle.std.proofs.Common.{◌<◌, All}
use Rattle.ra_base.specs.declared.key.Seat.{Seat}
use Rattle.bench.proofs.sessions.rounds.Given as goal

abbrev pub invariant-loop-round : goal.invariant-loop-round
invariant-loop-round g l =
    let seats = g.H.Hub.seats in
    All (λ (s : Seat). 0 < seats l.hub s) l.seats
