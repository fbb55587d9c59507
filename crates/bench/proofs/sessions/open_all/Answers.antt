use Rattle.std.proofs.Common.{◌<◌, All, subst, sym}
use Rattle.ra_base.specs.declared.key.Seat.{Seat}
use Rattle.bench.proofs.Stays.{all_more}
use Rattle.bench.proofs.sessions.open_all.Goals as goal

pub loop-n-preserved : goal.loop-n-preserved
loop-n-preserved g c =
    let seats = g.H.Hub.seats in
    all_more (seats c.loop-n.hub) (seats c.open.new.hub) c.loop-n.seats.items c.push.new.self.items c.in_ok-seat.seat c.in_ok-seat.ensures.others c.in_ok-push.ensures.items c.in_ok-seat.ensures.seat c.loop-n.invariant
