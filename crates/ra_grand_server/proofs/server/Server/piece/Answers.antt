use Rattle.ra_grand_server.proofs.SeatCounts.{seat_there, seats_set}
use Rattle.ra_grand_server.proofs.ServerSteps.{piece_at}
use Rattle.ra_grand_server.proofs.server.Server.piece.Goals as goal

pub piece-requires-clause-holds : goal.piece-requires-clause-holds
piece-requires-clause-holds c =
    let less = rw (← c.self.view_is) at c.requires.there in
    rw c.index_mut.ensures.value (seat_there c.self.inside.hub c.self.inside.links.items c.args.n c.index_mut.result.now less c.self.invariant)

pub invariant_of-self : goal.invariant_of-self
invariant_of-self c =
    let less = rw (← c.self.view_is) at c.requires.there in
    let seats = rw c.index_mut.ensures.value at c.piece.ensures.seats in
    seats_set c.self.inside.hub c.piece.new.hub c.self.inside.links.items c.args.n c.index_mut.result.now c.piece.new.self less c.self.invariant seats

pub returns-clause-piece : goal.returns-clause-piece
returns-clause-piece c =
    let same = rw c.index_mut.ensures.value at c.piece.ensures.same in
    let takes = rw c.index_mut.ensures.value at c.piece.ensures.takes in
    rw (← c.self.view_is) (piece_at _ _ _ _ _ _ _ _ _ _ _ _ _ _ same takes)
