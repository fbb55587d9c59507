use Rattle.std.proofs.Common.{◌<◌, All}
use Rattle.ra_base.specs.declared.key.Seat.{Seat}
use Rattle.bench.proofs.sessions.echo_all.Given as goal

abbrev pub invariant-loop-seat : goal.invariant-loop-seat
invariant-loop-seat g l =
    let seats = g.H.Hub.seats in
    All (λ (s : Seat). 0 < seats l.hub s) l.seats
