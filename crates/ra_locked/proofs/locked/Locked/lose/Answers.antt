use Rattle.std.proofs.Common.{◌≡◌, ◌<◌, ◌∙◌, refl, sym, subst, ap}
use Rattle.ra_registry.specs.Seats.{unspent}
use Rattle.ra_registry.proofs.CountLemmas.{is_unspent}
use Rattle.ra_locked.specs.LockedStates.{LockedState}
use Rattle.ra_locked.proofs.Steps.{end_kept, same_kept, enters}
use Rattle.ra_locked.proofs.locked.Locked.lose.Goals as goal

pub invariant_of-self : goal.invariant_of-self
invariant_of-self g c =
    same_kept _ _ _ _ _ _ _ _ _ c.self.inside.seats.items c.take_seat.new.seats.items refl (λ k. k)
    (ap (λ v. v.items) (c.take_seat.ensures.same c.if-not-take_seat.true)) (λ w. w) c.self.invariant

pub lost-requires : goal.lost-requires
lost-requires g c =
    is_unspent c.self.inside.registry.history c.args.seat
    (subst (λ n. 0 < n) (c.self.invariant.seats_are c.args.seat) (c.take_seat.ensures.there c.if-not-take_seat.false))

pub invariant_of-self-2 : goal.invariant_of-self-2
invariant_of-self-2 g c =
    rw c.add.ensures.total
    (end_kept _ _ _ _ _ _ _ c.self.inside.seats.items c.take_seat.new.seats.items refl refl refl (c.take_seat.ensures.there c.if-not-take_seat.false) (c.take_seat.ensures.left c.if-not-take_seat.false) c.lost.ensures.lost c.self.invariant)

pub returns-then-not-take_seat-clause-ended : goal.returns-then-not-take_seat-clause-ended
returns-then-not-take_seat-clause-ended g c =
    let none = sym (c.self.invariant.seats_are c.args.seat) ∙ c.take_seat.ensures.none c.if-not-take_seat.true in
    record {
      past = c.unplaced.ensures;
      there = subst (λ (s : LockedState). unspent c.args.seat s.registry.history ≡ 0) c.self.view_is none;
      change = c.self.view_is;
      counted = refl;
    }

pub returns-clause-ended : goal.returns-clause-ended
returns-clause-ended g c =
    let r = enters _ _ _ _ _ c.last_receipt.result _ c.self.view_is c.history-place.ensures.value c.lost.ensures.lost c.last_receipt.ensures.place c.last_receipt.ensures.past in
    let there = subst (λ n. 0 < n) (c.self.invariant.seats_are c.args.seat) (c.take_seat.ensures.there c.if-not-take_seat.false) in
    record {
      past = r.past;
      there = subst (λ (s : LockedState). 0 < unspent c.args.seat s.registry.history) c.self.view_is there;
      change = r;
      counted = c.add.ensures.amount;
    }
