-- The place of a seat in a list, and the list without it.
use Rattle.std.proofs.Common.{◌≡◌, ℕ, ◌<◌, ◌≤◌, ◌+◌, Bool, true, false, cond, ◌&&◌, eqb, List, [], ◌∷◌, length, get_or, set, zero, suc, arith, refl, sym, ap, ◌∙◌}
use borrow.Author.Tests.{eqb-true}
use Rattle.std.specs.Prelude.{Some, None, not, ◌||◌}
use Rattle.std.specs.List.{count_by, list_any, position, prefix_len, remove}
use Rattle.std.proofs.lemmas.Grind.{common_steps}
use Rattle.std.proofs.lemmas.List.Quantifiers.{position-Some}
use Rattle.std.proofs.lemmas.List.Sums.{sum_by-remove, sum_by-cons}
use Rattle.ra_base.specs.declared.key.Key.{Key}
use Rattle.ra_base.specs.declared.key.Seat.{Seat}
use Rattle.ra_registry.specs.Rows.{same_key}
use Rattle.ra_registry.proofs.SameKeys.{same_key_is}
use Rattle.ra_locked.specs.SeatLists.{same_seat, TakesOne}
use Rattle.ra_locked.specs.HandleSeats.{Less}
use Rattle.ra_locked.specs.declared.held.HeldSeat.{HeldSeat}

none_len : {X : Type 0} (p : X → Bool) (xs : List X) → length xs ≤ prefix_len (λ x. not (p x)) xs → count_by p xs ≡ 0
none_len p [] h = refl
none_len p (x ∷ xs) h =
    let here : (b : Bool) → length (x ∷ xs) ≤ cond (not b) (1 + (prefix_len (λ x. not (p x)) xs)) 0 → cond b 1 0 + count_by p xs ≡ 0 =
    elim [ true ↦ λ k. absurd (omega arith) | false ↦ λ k. let r = none_len p xs (omega arith) in omega (arith, r) ] in
    sum_by-cons (λ y. cond (p y) 1 0) x xs ∙ here (p x) h

pub none_there : {X : Type 0} (p : X → Bool) (xs : List X) → position p xs ≡ None → count_by p xs ≡ 0
none_there p xs e = none_len p xs (grind (arith, common_steps))

pub some_there : {X : Type 0} (p : X → Bool) (xs : List X) (i : ℕ) (d : X) → position p xs ≡ Some i → 0 < count_by p xs
some_there p xs i d e =
    let h = position-Some p xs i d e in
    let s = sum_by-remove (λ x. cond (p x) 1 0) xs i d h.0 in
    let t = ap (λ b. cond {A = ℕ} b 1 0) h.1 in
    omega (arith, s, t)

same_seat_is : (a b : Seat) → same_seat a b ≡ true → a ≡ b
same_seat_is a b h =
    let parts : (s t : Bool) → (s && t) ≡ true → (s ≡ true) × (t ≡ true) =
    elim [ true ↦ λ t e. (refl, e) | false ↦ λ t e. cc ] in
    let both = parts (same_key a.key b.key) (eqb a.epoch b.epoch) h in
    let keys : a.key ≡ b.key = same_key_is a.key b.key both.0 in
    let epochs : a.epoch ≡ b.epoch = eqb-true a.epoch b.epoch both.1 in
    let with_key : Key → Seat = λ key. record { key = key; epoch = a.epoch } in
    let with_epoch : ℕ → Seat = λ epoch. record { key = b.key; epoch = epoch } in
    ap with_key keys ∙ ap with_epoch epochs

pub takes_one : (seats : List Seat) (seat : Seat) (i : ℕ) → position (λ o. same_seat seat o) seats ≡ Some i → TakesOne seat seats (remove seats i)
takes_one seats seat i e other =
    let h = position-Some (λ (o : Seat). same_seat seat o) seats i seat e in
    let s = sum_by-remove (λ (o : Seat). cond (same_seat other o) 1 0) seats i seat h.0 in
    let t = ap (λ (z : Seat). cond {A = ℕ} (same_seat other z) 1 0) (same_seat_is seat (get_or seats i seat) h.1) in
    omega (arith, s, t)

pub held_less : {X : Type 0} (held : List (HeldSeat X)) (seat : Seat) (i : ℕ) (d : HeldSeat X) → position (λ h. same_seat seat h.seat) held ≡ Some i
    → Less seat held (remove held i)
held_less held seat i d e other =
    let h = position-Some (λ x. same_seat seat x.seat) held i d e in
    let s = sum_by-remove (λ x. cond (same_seat other x.seat) 1 0) held i d h.0 in
    let t = ap (λ (z : Seat). cond {A = ℕ} (same_seat other z) 1 0) (same_seat_is seat (get_or held i d).seat h.1) in
    omega (arith, s, t)

-- an element is put in the place of one that counts as it does
pub set_stays : {X : Type 0} (p : X → Bool) (xs : List X) (i : ℕ) (x d : X) → i < length xs → p x ≡ p (get_or xs i d) → count_by p (set xs i x) ≡ count_by p xs
set_stays p [] i x d within same = absurd (omega arith)
set_stays p (y ∷ ys) zero x d within same =
    sum_by-cons (λ z. cond (p z) 1 0) x ys ∙ (ap (λ b. cond {A = ℕ} b 1 0 + count_by p ys) same ∙ sym (sum_by-cons (λ z. cond (p z) 1 0) y ys))
set_stays p (y ∷ ys) (suc i) x d within same =
    sum_by-cons (λ z. cond (p z) 1 0) y (set ys i x)
    ∙ (ap (λ n. cond {A = ℕ} (p y) 1 0 + n) (set_stays p ys i x d (omega arith) same) ∙ sym (sum_by-cons (λ z. cond (p z) 1 0) y ys))

or_true : (b : Bool) → (b || true) ≡ true
or_true true = refl
or_true false = refl

pub any_set : {X : Type 0} (p : X → Bool) (xs : List X) (i : ℕ) (x : X) → i < length xs → p x ≡ true → list_any p (set xs i x) ≡ true
any_set p [] i x within is = absurd (omega arith)
any_set p (y ∷ ys) zero x within is = ap (λ b. b || list_any p ys) is
any_set p (y ∷ ys) (suc i) x within is = ap (λ b. p y || b) (any_set p ys i x (omega arith) is) ∙ or_true (p y)
