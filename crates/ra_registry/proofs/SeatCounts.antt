-- The seats that are not spent, and how many entries of each kind a legal history has.
use Rattle.std.proofs.Common.{◌≡◌, ℕ, ◌<◌, ◌+◌, ◌≤◌, Bool, true, false, cond, ◌&&◌, ◌||◌, eqb, List, [], ◌∷◌, ◌++◌, length, arith, refl, sym, ap, ◌∙◌}
use borrow.Author.Tests.{eqb-true, eq-eqb}
use Rattle.std.specs.List.{count_by, list_any}
use Rattle.std.specs.Set.{remove_key}
use Rattle.std.proofs.lemmas.List.Sums.{fold-append, sum_by-cons}
use Rattle.std.proofs.lemmas.Map.Made.{length-remove_key}
use Rattle.ra_base.specs.declared.key.Key.{Key}
use Rattle.ra_base.specs.declared.key.Seat.{Seat}
use Rattle.ra_registry.specs.declared.past.Did.{Did}
use Rattle.ra_registry.specs.declared.past.Did.TheVariants.{Admitted, Refused, Lost, Closed, Expired, Missed}
use Rattle.ra_registry.specs.declared.past.Past.{Past}
use Rattle.ra_registry.specs.RegistryStates.{RegistryState, with_entry}
use Rattle.ra_registry.specs.Rows.{same_key}
use Rattle.ra_registry.specs.Seats.{admissions, endings, given, spent, IsUnspent, admits, ends, is_of}
use Rattle.ra_registry.specs.Legal.{IsLegal, Allows}
use Rattle.ra_registry.proofs.SameKeys.{same_key_is, same_key_itself}
use Rattle.ra_registry.proofs.LegalHistories.{each_legal, legal_push}

-- one more element
pub count_by-push : {X : Type 0} (p : X → Bool) (xs : List X) (x : X) → count_by p (xs ++ x ∷ []) ≡ count_by p xs + cond (p x) 1 0
count_by-push p xs x = fold-append (λ a y. a + cond (p y) 1 0) 0 xs (x ∷ [])

count_by-cons : {X : Type 0} (p : X → Bool) (x : X) (xs : List X) → count_by p (x ∷ xs) ≡ cond (p x) 1 0 + count_by p xs
count_by-cons p x xs = sum_by-cons (λ y. cond (p y) 1 0) x xs

-- where some are counted, one is there
any_counted : {X : Type 0} (p : X → Bool) (xs : List X) → 0 < count_by p xs → list_any p xs ≡ true
any_counted p [] some = absurd (omega arith)
any_counted p (x ∷ xs) some =
    let here : (b : Bool) → 0 < cond b 1 0 + count_by p xs → (b || list_any p xs) ≡ true =
    elim [ true ↦ λ h. refl | false ↦ λ h. any_counted p xs (omega arith) ] in
    here (p x) (rw count_by-cons at some)

abbrev is_seat : Seat → Seat → Bool
is_seat a b = same_key a.key b.key && eqb a.epoch b.epoch

is_seat_is : (a b : Seat) → is_seat a b ≡ true → a ≡ b
is_seat_is a b h =
    let parts : (s t : Bool) → (s && t) ≡ true → (s ≡ true) × (t ≡ true) =
    elim [ true ↦ λ t e. (refl, e) | false ↦ λ t e. cc ] in
    let both = parts (same_key a.key b.key) (eqb a.epoch b.epoch) h in
    let keys : a.key ≡ b.key = same_key_is a.key b.key both.0 in
    let epochs : a.epoch ≡ b.epoch = eqb-true a.epoch b.epoch both.1 in
    let with_key : Key → Seat = λ key. record { key = key; epoch = a.epoch } in
    let with_epoch : ℕ → Seat = λ epoch. record { key = b.key; epoch = epoch } in
    ap with_key keys ∙ ap with_epoch epochs

-- a seat less
seat_removed : (x : Seat) (seats : List Seat) → list_any (is_seat x) seats ≡ true → (s : Seat)
    → count_by (is_seat s) (remove_key (is_seat x) seats) + cond (is_seat s x) 1 0 ≡ count_by (is_seat s) seats
seat_removed x [] there s = cc
seat_removed x (y ∷ ys) there s =
    let here : (b : Bool) → is_seat x y ≡ b → (b || list_any (is_seat x) ys) ≡ true
    → count_by (is_seat s) (cond b ys (y ∷ remove_key (is_seat x) ys)) + cond (is_seat s x) 1 0 ≡ cond (is_seat s y) 1 0 + count_by (is_seat s) ys =
    elim [
      | true ↦ λ e any.
          let same = ap (λ (z : Seat). cond {A = ℕ} (is_seat s z) 1 0) (is_seat_is x y e) in
          omega (arith, same)
      | false ↦ λ e any.
          let less = seat_removed x ys any s in
          omega (arith, less, count_by-cons (is_seat s) y (remove_key (is_seat x) ys))
    ] in
    here (is_seat x y) refl there ∙ sym (count_by-cons (is_seat s) y ys)

-- the seats of a history that are not spent
record HasUnspent (h : List Past) : Type 0 where
  seats : List Seat
  total : admissions h ≡ endings h + length seats
  each : (s : Seat) → given s h ≡ spent s h + count_by (is_seat s) seats

abbrev pushed : (h : List Past) (entry : Past) → Type 0
pushed h entry =
    (admissions (h ++ entry ∷ []) ≡ admissions h + cond (admits entry.did) 1 0)
    × (endings (h ++ entry ∷ []) ≡ endings h + cond (ends entry.did) 1 0)
    × ((s : Seat) → given s (h ++ entry ∷ []) ≡ given s h + cond (admits entry.did && is_of s entry) 1 0)
    × ((s : Seat) → spent s (h ++ entry ∷ []) ≡ spent s h + cond (ends entry.did && is_of s entry) 1 0)

pub pushing : (h : List Past) (entry : Past) → pushed h entry
pushing h entry = (
  count_by-push (λ (e : Past). admits e.did) h entry,
  count_by-push (λ (e : Past). ends e.did) h entry,
  λ s. count_by-push (λ (e : Past). admits e.did && is_of s e) h entry,
  λ s. count_by-push (λ (e : Past). ends e.did && is_of s e) h entry,
)

quiet : (h : List Past) (entry : Past) → admits entry.did ≡ false → ends entry.did ≡ false → HasUnspent h → HasUnspent (h ++ entry ∷ [])
quiet h entry no_admission no_end u =
    let p = pushing h entry in
    record {
      seats = u.seats;
      total = rw (p.0, p.1, no_admission, no_end) (omega (arith, u.total));
      each = λ s. rw (p.2 s, p.3 s, no_admission, no_end) (omega (arith, u.each s));
    }

ending : (h : List Past) (entry : Past) (epoch : ℕ) → admits entry.did ≡ false → ends entry.did ≡ true
    → ((s : Seat) → is_of s entry ≡ is_seat s (record { key = entry.key; epoch = epoch }))
    → IsUnspent (record { key = entry.key; epoch = epoch }) h → HasUnspent h → HasUnspent (h ++ entry ∷ [])
ending h entry epoch no_admission is_end of left u =
    let p = pushing h entry in
    let x : Seat = record { key = entry.key; epoch = epoch } in
    let some : 0 < count_by (is_seat x) u.seats = omega (arith, u.each x, left) in
    let there : list_any (is_seat x) u.seats ≡ true = any_counted (is_seat x) u.seats some in
    let shorter = length-remove_key (is_seat x) u.seats there in
    record {
      seats = remove_key (is_seat x) u.seats;
      total = rw (p.0, p.1, no_admission, is_end) (omega (arith, u.total, shorter));
      each = λ s. rw (p.2 s, p.3 s, no_admission, is_end, of s) (omega (arith, u.each s, seat_removed x u.seats there s));
    }

step : (r : RegistryState) (h : List Past) (key : Key) (at : ℕ) (did : Did) → Allows (record r { history = h }) key at did
    → HasUnspent h → HasUnspent (h ++ record { at = at; key = key; did = did } ∷ [])
step r h key at (Admitted epoch reconnection) fits u =
    let p = pushing h (record { at = at; key = key; did = Admitted epoch reconnection }) in
    record {
      seats = record { key = key; epoch = epoch } ∷ u.seats;
      total = omega (arith, p.0, p.1, u.total);
      each = λ s. omega (arith, p.2 s, p.3 s, u.each s, count_by-cons (is_seat s) (record { key = key; epoch = epoch }) u.seats);
    }
step r h key at (Refused kind reconnection reason) fits u = quiet h _ refl refl u
step r h key at (Lost epoch) fits u = ending h _ epoch refl refl (λ s. refl) fits u
step r h key at (Closed epoch cause) fits u = ending h _ epoch refl refl (λ s. refl) fits u
step r h key at Expired fits u = quiet h _ refl refl u
step r h key at Missed fits u = quiet h _ refl refl u

has_unspent : (r : RegistryState) → IsLegal r → HasUnspent r.history
has_unspent r legal =
    each_legal r HasUnspent (record { seats = []; total = refl; each = λ s. refl })
    (λ h entry l u fits. step r h entry.key entry.at entry.did fits u) legal

-- a legal history has no more Lost and Closed entries than Admitted ones
pub ends_within : (r : RegistryState) → IsLegal r → endings r.history ≤ admissions r.history
ends_within r legal = let u = has_unspent r legal in omega (arith, u.total)

-- no seat is spent more often than given
pub spent_within : (r : RegistryState) (seat : Seat) → IsLegal r → spent seat r.history ≤ given seat r.history
spent_within r seat legal = let u = has_unspent r legal in omega (arith, u.each seat)

-- and fewer, where a seat is not spent
pub some_left : (r : RegistryState) (seat : Seat) → IsLegal r → IsUnspent seat r.history → endings r.history < admissions r.history
some_left r seat legal left =
    let entry : Past = record { at = 0; key = seat.key; did = Lost seat.epoch } in
    let p = pushing r.history entry in
    let within = ends_within (with_entry r entry) (legal_push r entry legal left) in
    omega (arith, p.0, p.1, within)

-- a seat that was just given is not spent
pub just_given : (r : RegistryState) (key : Key) (epoch at : ℕ) (reconnection : Bool) → IsLegal r
    → IsUnspent (record { key = key; epoch = epoch }) (r.history ++ record { at = at; key = key; did = Admitted epoch reconnection } ∷ [])
just_given r key epoch at reconnection legal =
    let seat : Seat = record { key = key; epoch = epoch } in
    let entry : Past = record { at = at; key = key; did = Admitted epoch reconnection } in
    let p = pushing r.history entry in
    let own : is_of seat entry ≡ true = rw (same_key_itself key, eq-eqb epoch epoch refl) refl in
    let one : given seat (r.history ++ entry ∷ []) ≡ given seat r.history + 1 = p.2 seat ∙ ap (λ b. given seat r.history + cond b 1 0) own in
    omega (arith, p.3 seat, one, spent_within r seat legal)
