-- A row is there where its key has a start record, or was admitted.
use Rattle.std.proofs.Common.{◌≡◌, ℕ, ◌+◌, ◌<◌, ◌≤◌, Bool, true, false, cond, ◌&&◌, ◌||◌, List, [], ◌∷◌, ◌++◌, Option, is_some, arith, refl, sym, ap, ◌∙◌}
use Rattle.std.specs.Prelude.{fold, count_by, nat_lt, ◌==◌}
use Rattle.std.proofs.lemmas.Bool.{lt-ltb}
use Rattle.std.proofs.lemmas.List.Sums.{sum_by-cons}
use Rattle.ra_base.specs.declared.key.Key.{Key}
use Rattle.ra_base.specs.declared.key.Seat.{Seat}
use Rattle.ra_registry.specs.declared.past.Did.{Did}
use Rattle.ra_registry.specs.declared.past.Did.TheVariants.{Admitted, Refused, Lost, Closed, Expired, Missed}
use Rattle.ra_registry.specs.declared.past.Past.{Past}
use Rattle.ra_registry.specs.declared.row.Row.{Row}
use Rattle.ra_registry.specs.RegistryStates.{RegistryState}
use Rattle.ra_registry.specs.RowChanges.{shorten, lose, close, expire}
use Rattle.ra_registry.specs.Rows.{same_key, own_change, other_change, change, start_row, row_of}
use Rattle.ra_registry.specs.Seats.{admits, epoch_in, is_of, given, unspent, admissions_of}
use Rattle.ra_registry.proofs.Epochs.{is_some-map}
use Rattle.ra_registry.proofs.HistoryRows.{change_is}
use Rattle.ra_registry.proofs.SameKeys.{same_key_other_way}
use Rattle.ra_registry.proofs.SeatCounts.{count_by-push}

abbrev is_its_admission : Key → Past → Bool
is_its_admission key entry = admits entry.did && same_key entry.key key

changed_there : (same : Bool) (at : ℕ) (did : Did) (row : Option Row)
    → is_some (cond same (own_change at did row) (other_change at did row)) ≡ ((admits did && same) || is_some row)
changed_there true at (Admitted epoch reconnection) row = refl
changed_there false at (Admitted epoch reconnection) row = is_some-map (shorten at) row
changed_there true at (Refused kind reconnection reason) row = is_some-map (shorten at) row
changed_there false at (Refused kind reconnection reason) row = is_some-map (shorten at) row
changed_there true at (Lost epoch) row = is_some-map (lose epoch at) row
changed_there false at (Lost epoch) row = refl
changed_there true at (Closed epoch cause) row = is_some-map (close epoch cause) row
changed_there false at (Closed epoch cause) row = refl
changed_there true at Expired row = is_some-map expire row
changed_there false at Expired row = refl
changed_there true at Missed row = refl
changed_there false at Missed row = refl

more_than_none : (p : Bool) (n : ℕ) → nat_lt 0 (cond p 1 0 + n) ≡ (p || nat_lt 0 n)
more_than_none true n = lt-ltb 0 (1 + n) (omega arith)
more_than_none false n = ap (λ (m : ℕ). nat_lt 0 m) (nothing n)
  where
    nothing : (m : ℕ) → 0 + m ≡ m
    nothing m = omega arith

count_by-cons : {X : Type 0} (p : X → Bool) (x : X) (xs : List X) → count_by p (x ∷ xs) ≡ cond (p x) 1 0 + count_by p xs
count_by-cons p x xs = sum_by-cons (λ y. cond (p y) 1 0) x xs

regroup : (p a b : Bool) → ((p || a) || b) ≡ (a || (p || b))
regroup true true b = refl
regroup true false b = refl
regroup false a b = refl

rows_from : (key : Key) (history : List Past) (row : Option Row)
    → is_some (fold (change key) row history) ≡ (is_some row || nat_lt 0 (admissions_of key history))
rows_from key [] row = none_more (is_some row)
  where
    none_more : (b : Bool) → b ≡ (b || false)
    none_more true = refl
    none_more false = refl
rows_from key (entry ∷ history) row =
    rows_from key history (change key row entry)
    ∙ ap (λ (b : Bool). b || nat_lt 0 (admissions_of key history)) (ap is_some (change_is key row entry) ∙ changed_there (same_key entry.key key) entry.at entry.did row)
    ∙ regroup (is_its_admission key entry) (is_some row) (nat_lt 0 (admissions_of key history))
    ∙ ap (λ (b : Bool). is_some row || b) (sym (ap (λ (n : ℕ). nat_lt 0 n) (count_by-cons (is_its_admission key) entry history) ∙ more_than_none (is_its_admission key entry) (admissions_of key history)))

pub rows_are : (r : RegistryState) (key : Key) → is_some (row_of r key) ≡ (is_some (start_row r.start key) || nat_lt 0 (admissions_of key r.history))
unfolding row_of
rows_are r key = rows_from key r.history (start_row r.start key)

-- the key of a seat that was given was admitted
given_admitted : (seat : Seat) (history : List Past) → given seat history ≤ admissions_of seat.key history
given_admitted seat [] = omega arith
given_admitted seat (entry ∷ history) =
    omega (arith, count_by-cons (λ (e : Past). admits e.did && is_of seat e) entry history, count_by-cons (is_its_admission seat.key) entry history, given_admitted seat history, less (admits entry.did) (same_key entry.key seat.key) (same_key seat.key entry.key) (seat.epoch == epoch_in entry.did) (same_key_other_way entry.key seat.key))
  where
    less : (a b c d : Bool) → b ≡ c → cond {A = ℕ} (a && (c && d)) 1 0 ≤ cond {A = ℕ} (a && b) 1 0
    less false b c d is = omega arith
    less true true true true is = omega arith
    less true true true false is = omega arith
    less true true false d is = omega arith
    less true false false d is = omega arith
    less true false true d is = cc

pub seat_admitted : (seat : Seat) (history : List Past) → 0 < unspent seat history → nat_lt 0 (admissions_of seat.key history) ≡ true
seat_admitted seat history some = lt-ltb 0 (admissions_of seat.key history) (omega (arith, some, given_admitted seat history))

-- an entry that admits nobody
pub admissions_stay : (key : Key) (history : List Past) (entry : Past) → admits entry.did ≡ false → admissions_of key (history ++ entry ∷ []) ≡ admissions_of key history
admissions_stay key history entry none =
    let more : admissions_of key (history ++ entry ∷ []) ≡ admissions_of key history + cond (is_its_admission key entry) 1 0 = count_by-push (is_its_admission key) history entry in
    let no_one : cond {A = ℕ} (is_its_admission key entry) 1 0 ≡ 0 = ap (λ (b : Bool). cond {A = ℕ} (b && same_key entry.key key) 1 0) none in
    omega (arith, more, no_one)

-- and one that admits a key
pub admissions_grow : (key : Key) (history : List Past) (entry : Past) → admits entry.did ≡ true
    → nat_lt 0 (admissions_of key (history ++ entry ∷ [])) ≡ (same_key entry.key key || nat_lt 0 (admissions_of key history))
admissions_grow key history entry one =
    ap (λ (n : ℕ). nat_lt 0 n) (count_by-push (is_its_admission key) history entry ∙ swap (admissions_of key history) (cond (is_its_admission key entry) 1 0))
    ∙ more_than_none (is_its_admission key entry) (admissions_of key history)
    ∙ ap (λ (b : Bool). (b && same_key entry.key key) || nat_lt 0 (admissions_of key history)) one
  where
    swap : (a b : ℕ) → a + b ≡ b + a
    swap a b = omega arith
