use Rattle.ra_grand_server.proofs.SeatCounts.{seat_there, left_set}
use Rattle.ra_grand_server.proofs.ServerSteps.{leaves_at}
use Rattle.ra_grand_server.proofs.server.Server.leave.Goals as goal

pub leave-requires : goal.leave-requires
leave-requires c =
    let less = rw (← c.self.view_is) at c.requires in
    rw c.index_mut.ensures.value (seat_there c.self.inside.hub c.self.inside.links.items c.args.n c.index_mut.result.now less c.self.invariant)

pub invariant_of-self : goal.invariant_of-self
invariant_of-self c =
    let less = rw (← c.self.view_is) at c.requires in
    let left = rw c.index_mut.ensures.value at c.leave.ensures.left in
    let seats = rw c.index_mut.ensures.value at c.leave.ensures.seats in
    left_set c.self.inside.hub c.leave.new.hub c.self.inside.links.items c.args.n c.index_mut.result.now c.leave.new.self less c.self.invariant left seats

pub returns : goal.returns
returns c =
    let left = rw c.index_mut.ensures.value at c.leave.ensures.left in
    let made = rw c.index_mut.ensures.value at c.leave.ensures.made in
    rw (← c.self.view_is) (leaves_at _ _ _ _ _ _ _ _ _ left made)
