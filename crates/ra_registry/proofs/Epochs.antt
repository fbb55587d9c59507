-- The epoch of a row is the number of its session's admissions.
use Rattle.std.proofs.Common.{◌≡◌, ℕ, ◌+◌, ◌≤◌, Bool, true, false, cond, ◌&&◌, List, [], ◌∷◌, ◌++◌, length, Option, None, Some, option_map, is_some, arith, refl, sym, ap, subst, ◌∙◌, add-zero}
use Rattle.std.proofs.Math.Bool.{and-true, and-false}
use Rattle.std.proofs.lemmas.List.Sums.{count_by-le-length}
use Rattle.ra_base.specs.declared.key.Key.{Key}
use Rattle.ra_registry.specs.declared.past.Did.{Did}
use Rattle.ra_registry.specs.declared.past.Did.TheVariants.{Admitted, Refused, Lost, Closed, Expired, Missed}
use Rattle.ra_registry.specs.declared.past.Past.{Past}
use Rattle.ra_registry.specs.declared.row.Row.{Row}
use Rattle.ra_registry.specs.RegistryStates.{RegistryState, with_entry}
use Rattle.ra_registry.specs.RowChanges.{shorten, lose, close, expire, admitted_at, is_open}
use Rattle.ra_registry.specs.Rows.{same_key, epoch_of, start_row, row_of, own_change, other_change}
use Rattle.ra_registry.specs.Seats.{admissions_of, admits}
use Rattle.ra_registry.proofs.SameKeys.{same_key_is}
use Rattle.ra_registry.specs.Legal.{IsLegal, Allows, Fits}
use Rattle.ra_registry.specs.Admission.{key_of, next_epoch}
use Rattle.ra_registry.proofs.RowLemmas.{epoch_of-shorten, epoch_of-lose, epoch_of-close, epoch_of-expire, is_open-shorten, is_open-lose, open-close, is_open-expire}
use Rattle.ra_registry.proofs.StartRows.{start_closed}
use Rattle.ra_registry.proofs.Accepted.{accepted_new, accepted_again, again_open}
use Rattle.ra_registry.proofs.HistoryRows.{row_of-none, row_of-push, change_is}
use Rattle.ra_registry.proofs.LegalHistories.{each_legal}
use Rattle.ra_registry.proofs.SeatCounts.{count_by-push}

pub next_is : (row : Option Row) → next_epoch row ≡ epoch_of row + 1
next_is None = refl
next_is (Some row) = refl

-- the epoch after one more entry
own_epoch : (r : RegistryState) (key : Key) (at : ℕ) (did : Did) → Allows r key at did
    → epoch_of (own_change at did (row_of r key)) ≡ epoch_of (row_of r key) + cond (admits did) 1 0
own_epoch r key at (Admitted epoch reconnection) fits =
    let next : epoch ≡ epoch_of (row_of r key) + 1 = fits.4 ∙ ap (λ (k : Key). next_epoch (row_of r k)) (sym fits.1) ∙ next_is (row_of r key) in
    let here : (row : Option Row) → epoch_of (Some (admitted_at epoch at row)) ≡ epoch =
    elim [ None ↦ refl | Some x ↦ refl ] in
    here (row_of r key) ∙ next
own_epoch r key at (Refused kind reconnection reason) fits = rw add-zero (epoch_of-shorten at (row_of r key))
own_epoch r key at (Lost epoch) fits = rw add-zero (epoch_of-lose epoch at (row_of r key))
own_epoch r key at (Closed epoch cause) fits = rw add-zero (epoch_of-close epoch cause (row_of r key))
own_epoch r key at Expired fits = rw add-zero (epoch_of-expire (row_of r key))
own_epoch r key at Missed fits = sym (add-zero (epoch_of (row_of r key)))

other_epoch : (at : ℕ) (did : Did) (row : Option Row) → epoch_of (other_change at did row) ≡ epoch_of row
other_epoch at (Admitted epoch reconnection) row = epoch_of-shorten at row
other_epoch at (Refused kind reconnection reason) row = epoch_of-shorten at row
other_epoch at (Lost epoch) row = refl
other_epoch at (Closed epoch cause) row = refl
other_epoch at Expired row = refl
other_epoch at Missed row = refl

-- the epochs are the start's and the number of admissions
abbrev Counted : RegistryState → Key → List Past → Type 0
Counted r key h = epoch_of (row_of (record r { history = h }) key) ≡ epoch_of (start_row r.start key) + admissions_of key h

one_more : (r : RegistryState) (key : Key) (h : List Past) (entry : Past) → Fits (record r { history = h }) entry → Counted r key h
    → Counted r key (h ++ entry ∷ [])
one_more r key h entry fits so_far =
    let before : RegistryState = record r { history = h } in
    let row = row_of before key in
    let counted = count_by-push (λ (e : Past). admits e.did && same_key e.key key) h entry in
    let here : (b : Bool) → same_key entry.key key ≡ b
    → epoch_of (cond b (own_change entry.at entry.did row) (other_change entry.at entry.did row)) ≡ epoch_of row + cond (admits entry.did && b) 1 0 =
    elim [
      | true ↦ λ e.
          let key_is : entry.key ≡ key = same_key_is entry.key key e in
          let own : epoch_of (own_change entry.at entry.did row) ≡ epoch_of row + cond (admits entry.did) 1 0 =
          subst (λ (k : Key). epoch_of (own_change entry.at entry.did (row_of before k)) ≡ epoch_of (row_of before k) + cond (admits entry.did) 1 0)
          key_is (own_epoch before entry.key entry.at entry.did fits) in
          own ∙ ap (λ (b : Bool). epoch_of row + cond b 1 0) (sym (and-true (admits entry.did)))
      | false ↦ λ e. other_epoch entry.at entry.did row ∙ sym (rw (and-false (admits entry.did)) (add-zero (epoch_of row)))
    ] in
    let after : epoch_of (row_of (with_entry before entry) key) ≡ epoch_of row + cond (admits entry.did && same_key entry.key key) 1 0 =
    ap epoch_of (row_of-push before entry key ∙ change_is key row entry) ∙ here (same_key entry.key key) refl in
    omega (arith, after, counted, so_far)

-- the epoch of a row is the greatest that was kept, and one more for each of its session's Admitted entries
pub epoch_is : (r : RegistryState) (key : Key) → IsLegal r → epoch_of (row_of r key) ≡ epoch_of (start_row r.start key) + admissions_of key r.history
epoch_is r key legal =
    each_legal r (Counted r key) (rw (row_of-none r key) (sym (add-zero (epoch_of (start_row r.start key)))))
    (λ h entry l so_far fits. one_more r key h entry fits so_far) legal

pub is_some-map : (change : Row → Row) (row : Option Row) → is_some (option_map change row) ≡ is_some row
is_some-map change None = refl
is_some-map change (Some row) = refl

-- a row that is there and is closed
abbrev IsClosedRow : Option Row → Type 0
IsClosedRow row = (is_some row ≡ true) × (is_open row ≡ false)

not_opened : (after before : Bool) → (after ≡ true → before ≡ true) → before ≡ false → after ≡ false
not_opened true before opens closed = let opened = opens refl in cc
not_opened false before opens closed = refl

shortened_closed : (at : ℕ) (row : Option Row) → IsClosedRow row → IsClosedRow (option_map (shorten at) row)
shortened_closed at row c = (is_some-map (shorten at) row ∙ c.0, is_open-shorten at row ∙ c.1)

own_closed : (r : RegistryState) (key : Key) (at : ℕ) (did : Did) → Allows r key at did → IsClosedRow (row_of r key)
    → IsClosedRow (own_change at did (row_of r key))
own_closed r key at (Admitted epoch reconnection) fits c =
    let ask = fits.0 in
    let there : is_some (row_of r (key_of ask)) ≡ true = ap (λ (k : Key). is_some (row_of r k)) (sym fits.1) ∙ c.0 in
    let closed : is_open (row_of r (key_of ask)) ≡ false = ap (λ (k : Key). is_open (row_of r k)) (sym fits.1) ∙ c.1 in
    let never : (b : Bool) → ask.reconnection ≡ b → true ≡ false =
    elim [
      | true ↦ λ e. sym (again_open r ask at (accepted_again r ask at fits.3 e)) ∙ closed
      | false ↦ λ e. sym there ∙ ap is_some (accepted_new r ask at fits.3 e)
    ] in
    let no = never ask.reconnection refl in cc
own_closed r key at (Refused kind reconnection reason) fits c = shortened_closed at (row_of r key) c
own_closed r key at (Lost epoch) fits c = (is_some-map (lose epoch at) (row_of r key) ∙ c.0, is_open-lose epoch at (row_of r key) ∙ c.1)
own_closed r key at (Closed epoch cause) fits c =
    (is_some-map (close epoch cause) (row_of r key) ∙ c.0, not_opened _ _ (open-close epoch cause (row_of r key)) c.1)
own_closed r key at Expired fits c = (is_some-map expire (row_of r key) ∙ c.0, is_open-expire (row_of r key))
own_closed r key at Missed fits c = c

other_closed : (at : ℕ) (did : Did) (row : Option Row) → IsClosedRow row → IsClosedRow (other_change at did row)
other_closed at (Admitted epoch reconnection) row c = shortened_closed at row c
other_closed at (Refused kind reconnection reason) row c = shortened_closed at row c
other_closed at (Lost epoch) row c = c
other_closed at (Closed epoch cause) row c = c
other_closed at Expired row c = c
other_closed at Missed row c = c

-- where a session was there at the start, its row is closed
abbrev StaysClosed : RegistryState → Key → List Past → Type 0
StaysClosed r key h = is_some (start_row r.start key) ≡ true → IsClosedRow (row_of (record r { history = h }) key)

one_more_closed : (r : RegistryState) (key : Key) (h : List Past) (entry : Past) → Fits (record r { history = h }) entry → StaysClosed r key h
    → StaysClosed r key (h ++ entry ∷ [])
one_more_closed r key h entry fits so_far there =
    let before : RegistryState = record r { history = h } in
    let row = row_of before key in
    let here : (b : Bool) → same_key entry.key key ≡ b
    → IsClosedRow (cond b (own_change entry.at entry.did row) (other_change entry.at entry.did row)) =
    elim [
      | true ↦ λ e.
          let key_is : entry.key ≡ key = same_key_is entry.key key e in
          let closed : IsClosedRow (row_of before entry.key) = subst (λ (k : Key). IsClosedRow (row_of before k)) (sym key_is) (so_far there) in
          subst (λ (k : Key). IsClosedRow (own_change entry.at entry.did (row_of before k))) key_is
          (own_closed before entry.key entry.at entry.did fits closed)
      | false ↦ λ e. other_closed entry.at entry.did row (so_far there)
    ] in
    subst (λ (x : Option Row). IsClosedRow x) (sym (row_of-push before entry key ∙ change_is key row entry)) (here (same_key entry.key key) refl)

-- a session of the start records stays closed
pub stays_closed : (r : RegistryState) (key : Key) → IsLegal r → is_some (start_row r.start key) ≡ true
    → (is_some (row_of r key) ≡ true) × (is_open (row_of r key) ≡ false)
stays_closed r key legal =
    each_legal r (StaysClosed r key)
    (λ there. (ap is_some (row_of-none r key) ∙ there, ap is_open (row_of-none r key) ∙ start_closed r.start key))
    (λ h entry l so_far fits. one_more_closed r key h entry fits so_far) legal

-- the epoch of a row that is not closed is at most the number of entries
pub open_epoch : (r : RegistryState) (key : Key) → IsLegal r → is_open (row_of r key) ≡ true → epoch_of (row_of r key) ≤ length r.history
open_epoch r key legal opened =
    let here : (row : Option Row) → start_row r.start key ≡ row → epoch_of row ≡ 0 =
    elim [
      | None ↦ λ e. refl
      | Some row ↦ λ e. let closed = (stays_closed r key legal (ap is_some e)).1 in cc
    ] in
    let none : epoch_of (start_row r.start key) ≡ 0 = here (start_row r.start key) refl in
    let counted : admissions_of key r.history ≤ length r.history = count_by-le-length (λ (e : Past). admits e.did && same_key e.key key) r.history in
    omega (arith, epoch_is r key legal, none, counted)
