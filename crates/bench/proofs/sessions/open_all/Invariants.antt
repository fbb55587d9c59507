use Rattle.std.proofs.Common.{◌<◌, All}
use Rattle.ra_base.specs.declared.key.Seat.{Seat}
use Rattle.bench.proofs.sessions.open_all.Given as goal

abbrev pub invariant-loop-n : goal.invariant-loop-n
invariant-loop-n g l =
    let seats = g.H.Hub.seats in
    All (λ (s : Seat). 0 < seats l.hub s) l.seats.items
