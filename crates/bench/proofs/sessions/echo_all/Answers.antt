use Rattle.std.proofs.Common.{◌<◌, subst, sym}
use Rattle.ra_base.specs.declared.key.Seat.{Seat}
use Rattle.bench.proofs.Stays.{all_stay}
use Rattle.bench.proofs.sessions.echo_all.Goals as goal

pub echo-requires : goal.echo-requires
echo-requires g c =
    let seats = g.H.Hub.seats in
    subst (λ (s : Seat). 0 < seats c.loop-seat.hub s) (sym c.seat-item.is) (c.loop-seat.invariant c.loop-seat.seat-index c.seat-item.result c.loop-seat-test.true)

pub loop-seat-preserved : goal.loop-seat-preserved
loop-seat-preserved g c =
    let seats = g.H.Hub.seats in
    all_stay (seats c.loop-seat.hub) (seats c.echo.new.hub) c.args.seats.now c.echo.ensures c.loop-seat.invariant
