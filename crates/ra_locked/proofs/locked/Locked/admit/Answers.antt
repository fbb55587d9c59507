use Rattle.std.proofs.Common.{refl, arith}
use Rattle.ra_locked.proofs.Steps.{admitted_kept, refused_kept, same_kept, rises, fails_one, given_one, refused_one, room_for}
use Rattle.ra_locked.proofs.locked.Locked.admit.Goals as goal

pub invariant_of-self : goal.invariant_of-self
invariant_of-self g c = same_kept _ _ _ _ _ _ _ _ _ c.self.inside.seats.items c.reserve.new.self.items refl (λ k. k) c.reserve.ensures.items (λ w. w) c.self.invariant

pub invariant_of-self-in_default : goal.invariant_of-self-in_default
invariant_of-self-in_default g c = same_kept _ _ _ _ _ _ _ _ _ c.self.inside.seats.items c.reserve.new.self.items refl (λ k. k) c.reserve.ensures.items (λ w. w) c.self.invariant

pub last_receipt-receipt-requires : goal.last_receipt-receipt-requires
last_receipt-receipt-requires g c = room_for _ _ _ _ c.history-place.ensures.value (rw c.in-Ok-answer.is at c.admit-answer.ensures.answered).2

pub invariant_of-self-in-Ok-answer : goal.invariant_of-self-in-Ok-answer
invariant_of-self-in-Ok-answer g c =
    let answered = rw c.in-Ok-answer.is at c.admit-answer.ensures.answered in
    rw (c.add.ensures.total, c.push_reserved.ensures.items, c.same_seat.ensures, c.reserve.ensures.items)
    (admitted_kept _ _ _ _ c.in-Ok-answer.seat _ _ _ _ _ _ c.self.inside.seats.items answered c.admit-answer.ensures.kept c.admit-answer.ensures.was_legal c.admit-answer.ensures.cause.later c.self.invariant)

pub returns-in-Ok-answer-clause-answered : goal.returns-in-Ok-answer-clause-answered
returns-in-Ok-answer-clause-answered g c =
    given_one _ _ _ _ _ _ c.in-Ok-answer.seat c.in-Ok.session _ _ _ _ c.self.view_is c.history-place.ensures.value (rw c.in-Ok-answer.is at c.admit-answer.ensures.answered)
    c.last_receipt-receipt.ensures.place c.last_receipt-receipt.ensures.past c.add.ensures.amount

pub invariant_of-self-in-Refused : goal.invariant_of-self-in-Refused
invariant_of-self-in-Refused g c =
    let answered = rw c.in-Refused.is at (rw c.in-Err.is at c.admit-answer.ensures.answered) in
    rw (c.add-in-Refused.ensures.total, c.reserve.ensures.items)
    (refused_kept _ _ _ _ c.in-Refused.reason _ _ _ _ _ _ c.self.inside.seats.items answered c.admit-answer.ensures.kept c.admit-answer.ensures.cause.later c.self.invariant)

pub returns-in-Refused-clause-answered : goal.returns-in-Refused-clause-answered
returns-in-Refused-clause-answered g c =
    refused_one g.row.X.Denot _ _ _ _ _ _ c.in-Refused.reason _ _ _ _ c.self.view_is c.history-place.ensures.value
    (rw c.in-Refused.is at (rw c.in-Err.is at c.admit-answer.ensures.answered))
    c.last_receipt-receipt-in-Refused.ensures.place c.last_receipt-receipt-in-Refused.ensures.past c.add-in-Refused.ensures.amount

pub invariant_of-self-in-KeepFault : goal.invariant_of-self-in-KeepFault
invariant_of-self-in-KeepFault g c =
    same_kept _ _ _ _ _ _ _ _ _ c.self.inside.seats.items c.reserve.new.self.items
    (rw c.in-KeepFault.is at (rw c.in-Err.is at c.admit-answer.ensures.answered))
    c.admit-answer.ensures.kept c.reserve.ensures.items
    (rises _ _ _ _ c.saturating_add-self-inside.ensures (rw c.in-KeepFault.is at (rw c.in-Err.is at c.admit-answer.ensures.cause.failed))) c.self.invariant

pub returns-in-KeepFault-clause-answered : goal.returns-in-KeepFault-clause-answered
returns-in-KeepFault-clause-answered g c =
    (fails_one _ _ _ _ _ c.self.view_is (rw c.in-KeepFault.is at (rw c.in-Err.is at c.admit-answer.ensures.answered)) c.saturating_add-self-inside.ensures, refl)

pub invariant_of-self-in-NoMemory : goal.invariant_of-self-in-NoMemory
invariant_of-self-in-NoMemory g c =
    let later = c.admit-answer.ensures.cause.later in
    same_kept _ _ _ _ _ _ _ _ _ c.self.inside.seats.items c.reserve.new.self.items
    (rw c.in-NoMemory.is at (rw c.in-Err.is at c.admit-answer.ensures.answered))
    c.admit-answer.ensures.kept c.reserve.ensures.items (λ w. omega (arith, w, later)) c.self.invariant
