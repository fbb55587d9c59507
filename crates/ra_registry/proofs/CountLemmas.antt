-- How many seats of a key and epoch are given and not spent, entry by entry.
use Rattle.std.proofs.Common.{◌≡◌, ℕ, zero, suc, ◌<◌, ◌+◌, ◌≤◌, Bool, true, false, cond, ◌&&◌, eqb, List, [], ◌∷◌, ◌++◌, map, fold, arith, refl, sym, ap, subst, ◌∙◌, add-zero}
use borrow.Author.Tests.{eqb-true}
use Rattle.std.proofs.lemmas.List.Sums.{fold-append}
use Rattle.ra_base.specs.declared.key.Key.{Key}
use Rattle.ra_base.specs.declared.key.Seat.{Seat}
use Rattle.ra_registry.specs.declared.past.Did.{Did}
use Rattle.ra_registry.specs.declared.past.Did.TheVariants.{Admitted, Refused, Lost, Closed, Expired, Missed}
use Rattle.ra_registry.specs.declared.past.Past.{Past}
use Rattle.ra_registry.specs.RegistryStates.{RegistryState}
use Rattle.ra_registry.specs.Rows.{same_key, epoch_of, start_row, row_of}
use Rattle.ra_registry.specs.Seats.{given, spent, unspent, IsUnspent, admits, ends, epoch_in, seat_of, is_of, admissions_of}
use Rattle.ra_registry.specs.Admission.{next_epoch}
use Rattle.ra_registry.specs.Legal.{IsLegal, Allows, Fits}
use Rattle.ra_registry.specs.Expiry.{expiry_of}
use Rattle.ra_registry.proofs.SameKeys.{same_key_is, same_key_other_way}
use Rattle.ra_registry.proofs.LegalHistories.{each_legal}
use Rattle.ra_registry.proofs.SeatCounts.{count_by-push, pushing, spent_within}
use Rattle.ra_registry.proofs.Epochs.{next_is, epoch_is}

both_hold : (a b : Bool) → (a && b) ≡ true → (a ≡ true) × (b ≡ true)
both_hold true b h = (refl, h)
both_hold false b h = cc

-- an entry is of the seat that it speaks of, and of no other
is_of_is : (seat : Seat) (entry : Past) → is_of seat entry ≡ true → seat ≡ seat_of entry
is_of_is seat entry h =
    let both = both_hold (same_key seat.key entry.key) (eqb seat.epoch (epoch_in entry.did)) h in
    let keys : seat.key ≡ entry.key = same_key_is seat.key entry.key both.0 in
    let epochs : seat.epoch ≡ epoch_in entry.did = eqb-true seat.epoch (epoch_in entry.did) both.1 in
    let with_key : Key → Seat = λ key. record { key = key; epoch = seat.epoch } in
    let with_epoch : ℕ → Seat = λ epoch. record { key = entry.key; epoch = epoch } in
    ap with_key keys ∙ ap with_epoch epochs

admitted_ends_none : (did : Did) → admits did ≡ true → ends did ≡ false
admitted_ends_none (Admitted epoch reconnection) h = refl
admitted_ends_none (Refused kind reconnection reason) h = cc
admitted_ends_none (Lost epoch) h = cc
admitted_ends_none (Closed epoch cause) h = cc
admitted_ends_none Expired h = cc
admitted_ends_none Missed h = cc

end_admits_none : (did : Did) → ends did ≡ true → admits did ≡ false
end_admits_none (Admitted epoch reconnection) h = cc
end_admits_none (Refused kind reconnection reason) h = cc
end_admits_none (Lost epoch) h = refl
end_admits_none (Closed epoch cause) h = refl
end_admits_none Expired h = cc
end_admits_none Missed h = cc

-- an admission adds its seat
pub admission_counts : (r : RegistryState) (entry : Past) (seat : Seat) → IsLegal r → admits entry.did ≡ true
    → unspent seat (r.history ++ entry ∷ []) ≡ unspent seat r.history + cond (is_of seat entry) 1 0
admission_counts r entry seat legal admitted =
    let p = pushing r.history entry in
    let more : given seat (r.history ++ entry ∷ []) ≡ given seat r.history + cond (is_of seat entry) 1 0 =
    p.2 seat ∙ ap (λ b. given seat r.history + cond (b && is_of seat entry) 1 0) admitted in
    let same : spent seat (r.history ++ entry ∷ []) ≡ spent seat r.history + 0 =
    p.3 seat ∙ ap (λ b. spent seat r.history + cond (b && is_of seat entry) 1 0) (admitted_ends_none entry.did admitted) in
    omega (arith, more, same, spent_within r seat legal)

-- the end of a seat that is not spent takes it away
pub end_counts : (h : List Past) (entry : Past) (seat : Seat) → ends entry.did ≡ true → IsUnspent (seat_of entry) h
    → unspent seat (h ++ entry ∷ []) + cond (is_of seat entry) 1 0 ≡ unspent seat h
end_counts h entry seat is_end left =
    let p = pushing h entry in
    let same : given seat (h ++ entry ∷ []) ≡ given seat h + 0 =
    p.2 seat ∙ ap (λ b. given seat h + cond (b && is_of seat entry) 1 0) (end_admits_none entry.did is_end) in
    let more : spent seat (h ++ entry ∷ []) ≡ spent seat h + cond (is_of seat entry) 1 0 =
    p.3 seat ∙ ap (λ b. spent seat h + cond (b && is_of seat entry) 1 0) is_end in
    let here : (b : Bool) → is_of seat entry ≡ b → spent seat (h ++ entry ∷ []) ≡ spent seat h + cond b 1 0
    → unspent seat (h ++ entry ∷ []) + cond b 1 0 ≡ unspent seat h =
    elim [
      | true ↦ λ e one.
          let own : IsUnspent seat h = subst (λ (s : Seat). IsUnspent s h) (sym (is_of_is seat entry e)) left in
          omega (arith, same, one, own)
      | false ↦ λ e none. omega (arith, same, none)
    ] in
    here (is_of seat entry) refl more

-- any other entry leaves the number
pub other_counts : (h : List Past) (entry : Past) (seat : Seat) → admits entry.did ≡ false → ends entry.did ≡ false
    → unspent seat (h ++ entry ∷ []) ≡ unspent seat h
other_counts h entry seat no_admission no_end =
    let p = pushing h entry in
    let same_given : given seat (h ++ entry ∷ []) ≡ given seat h + 0 =
    p.2 seat ∙ ap (λ b. given seat h + cond (b && is_of seat entry) 1 0) no_admission in
    let same_spent : spent seat (h ++ entry ∷ []) ≡ spent seat h + 0 =
    p.3 seat ∙ ap (λ b. spent seat h + cond (b && is_of seat entry) 1 0) no_end in
    omega (arith, same_given, same_spent)

none_given : (seat : Seat) (at : ℕ) (keys : List Key) (n : ℕ)
    → fold (λ (a : ℕ) (e : Past). a + cond (admits e.did && is_of seat e) 1 0) n (map (expiry_of at) keys) ≡ n
none_given seat at [] n = refl
none_given seat at (q ∷ qs) n = none_given seat at qs (n + 0) ∙ add-zero n

none_spent : (seat : Seat) (at : ℕ) (keys : List Key) (n : ℕ)
    → fold (λ (a : ℕ) (e : Past). a + cond (ends e.did && is_of seat e) 1 0) n (map (expiry_of at) keys) ≡ n
none_spent seat at [] n = refl
none_spent seat at (q ∷ qs) n = none_spent seat at qs (n + 0) ∙ add-zero n

-- expiries leave it
pub expiries_count : (h : List Past) (at : ℕ) (keys : List Key) (seat : Seat) → unspent seat (h ++ map (expiry_of at) keys) ≡ unspent seat h
expiries_count h at keys seat =
    let same_given : given seat (h ++ map (expiry_of at) keys) ≡ given seat h =
    fold-append (λ (a : ℕ) (e : Past). a + cond (admits e.did && is_of seat e) 1 0) 0 h (map (expiry_of at) keys) ∙ none_given seat at keys (given seat h) in
    let same_spent : spent seat (h ++ map (expiry_of at) keys) ≡ spent seat h =
    fold-append (λ (a : ℕ) (e : Past). a + cond (ends e.did && is_of seat e) 1 0) 0 h (map (expiry_of at) keys) ∙ none_spent seat at keys (spent seat h) in
    omega (arith, same_given, same_spent)

pub some_unspent : (h : List Past) (seat : Seat) → IsUnspent seat h → 0 < unspent seat h
some_unspent h seat left = omega (arith, left)

pub is_unspent : (h : List Past) (seat : Seat) → 0 < unspent seat h → IsUnspent seat h
is_unspent h seat some = omega (arith, some)

-- the epoch of an admission is one more than its row had
next_of_row : (r : RegistryState) (key : Key) (at : ℕ) (did : Did) → Allows r key at did → admits did ≡ true
    → epoch_in did ≡ epoch_of (row_of r key) + 1
next_of_row r key at (Admitted epoch reconnection) fits h =
    fits.4 ∙ ap (λ (k : Key). next_epoch (row_of r k)) (sym fits.1) ∙ next_is (row_of r key)
next_of_row r key at (Refused kind reconnection reason) fits h = cc
next_of_row r key at (Lost epoch) fits h = cc
next_of_row r key at (Closed epoch cause) fits h = cc
next_of_row r key at Expired fits h = cc
next_of_row r key at Missed fits h = cc

-- a seat is given once, and with an epoch that its key has reached
record IsGivenOnce (r : RegistryState) (seat : Seat) (h : List Past) : Type 0 where
  once : given seat h ≤ 1
  reached : 0 < given seat h → seat.epoch ≤ epoch_of (start_row r.start seat.key) + admissions_of seat.key h

one_more_given : (r : RegistryState) (seat : Seat) (h : List Past) (entry : Past) → IsLegal (record r { history = h })
    → Fits (record r { history = h }) entry → IsGivenOnce r seat h → IsGivenOnce r seat (h ++ entry ∷ [])
one_more_given r seat h entry legal fits so_far =
    let before : RegistryState = record r { history = h } in
    let counted = count_by-push (λ (e : Past). admits e.did && same_key e.key seat.key) h entry in
    let gives : given seat (h ++ entry ∷ []) ≡ given seat h + cond (admits entry.did && is_of seat entry) 1 0 = (pushing h entry).2 seat in
    let here : (b : Bool) → (admits entry.did && is_of seat entry) ≡ b → given seat (h ++ entry ∷ []) ≡ given seat h + cond b 1 0
    → IsGivenOnce r seat (h ++ entry ∷ []) =
    elim [
      | true ↦ λ e one.
          let both = both_hold (admits entry.did) (is_of seat entry) e in
          let parts = both_hold (same_key seat.key entry.key) (eqb seat.epoch (epoch_in entry.did)) both.1 in
          let own : (admits entry.did && same_key entry.key seat.key) ≡ true =
          rw (both.0, same_key_other_way entry.key seat.key) parts.0 in
          let more : admissions_of seat.key (h ++ entry ∷ []) ≡ admissions_of seat.key h + 1 =
          counted ∙ ap (λ b. admissions_of seat.key h + cond b 1 0) own in
          let epoch_now : seat.epoch ≡ epoch_in entry.did = eqb-true seat.epoch (epoch_in entry.did) parts.1 in
          let row_then : epoch_in entry.did ≡ epoch_of (row_of before seat.key) + 1 =
          next_of_row before entry.key entry.at entry.did fits both.0
          ∙ ap (λ (k : Key). epoch_of (row_of before k) + 1) (sym (same_key_is seat.key entry.key parts.0)) in
          let epoch_then : epoch_of (row_of before seat.key) ≡ epoch_of (start_row r.start seat.key) + admissions_of seat.key h =
          epoch_is before seat.key legal in
          let first : given seat h ≡ 0 = none_before (given seat h) seat.epoch _ so_far.reached (omega (arith, epoch_now, row_then, epoch_then)) in
          record {
            once = omega (arith, one, first);
            reached = λ some. omega (arith, epoch_now, row_then, epoch_then, more);
          }
      | false ↦ λ e same. record {
        once = omega (arith, same, so_far.once);
        reached = λ some.
            let then = so_far.reached (omega (arith, some, same)) in
            omega (arith, then, counted);
      }
    ] in
    here (admits entry.did && is_of seat entry) refl gives
  where
    none_before : (n epoch reached : ℕ) → (0 < n → epoch ≤ reached) → reached < epoch → n ≡ 0
    none_before zero epoch reached h less = refl
    none_before (suc n) epoch reached h less = let then = h (omega arith) in absurd (omega (arith, then, less))

given_once_so_far : (r : RegistryState) (seat : Seat) → IsLegal r → IsGivenOnce r seat r.history
given_once_so_far r seat legal =
    each_legal r (IsGivenOnce r seat) (record { once = omega arith; reached = λ some. absurd (omega (arith, some)) })
    (λ h entry l so_far fits. one_more_given r seat h entry l fits so_far) legal

-- a seat is given at most once
pub given_at_most_once : (r : RegistryState) (seat : Seat) → IsLegal r → given seat r.history ≤ 1
given_at_most_once r seat legal = (given_once_so_far r seat legal).once

pub unspent_at_most_once : (r : RegistryState) (seat : Seat) → IsLegal r → unspent seat r.history ≤ 1
unspent_at_most_once r seat legal = omega (arith, given_at_most_once r seat legal)
