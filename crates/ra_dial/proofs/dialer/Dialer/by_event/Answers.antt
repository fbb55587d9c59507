use Rattle.ra_dial.proofs.StepRows.{blind, blind_if}
use Rattle.ra_dial.proofs.dialer.Dialer.by_event.Goals as goal

pub returns-in-Tick-clause-steps : goal.returns-in-Tick-clause-steps
returns-in-Tick-clause-steps g c = rw c.in-Tick.is (blind_if _ _ _ _ c.on_tick.ensures.steps)

pub returns-in-Linked-clause-steps : goal.returns-in-Linked-clause-steps
returns-in-Linked-clause-steps g c = rw c.in-Linked.is (blind_if _ _ _ _ c.on_linked.ensures.steps)

pub returns-in-NoLink-clause-steps : goal.returns-in-NoLink-clause-steps
returns-in-NoLink-clause-steps g c = rw c.in-NoLink.is (blind _ _ _ _ c.on_no_link.ensures.steps)

pub returns-in-Piece-clause-steps : goal.returns-in-Piece-clause-steps
returns-in-Piece-clause-steps g c =
    let steps = rw c.as_slice.ensures at c.on_piece.ensures.steps in
    rw c.in-Piece.is (blind_if _ _ _ _ steps)

pub returns-in-LinkLost-clause-steps : goal.returns-in-LinkLost-clause-steps
returns-in-LinkLost-clause-steps g c = rw c.in-LinkLost.is (blind _ _ _ _ c.on_link_lost.ensures.steps)

pub returns-in-Stop-clause-steps : goal.returns-in-Stop-clause-steps
returns-in-Stop-clause-steps g c = rw c.in-Stop.is (blind_if _ _ _ _ c.on_stop.ensures.steps)
