-- The records of a legal history are due behind due start records.
use Rattle.std.proofs.Common.{◌≡◌, ℕ, ◌+◌, Bool, true, false, cond, ◌&&◌, List, [], ◌∷◌, ◌++◌, append-nil, append_assoc, Option, None, Some, is_some, arith, refl, sym, ap, subst, ◌∙◌}
use Rattle.ra_base.specs.declared.handshake.Request.{Request}
use Rattle.ra_base.specs.declared.key.Key.{Key}
use Rattle.ra_keep.specs.declared.record.Record.{Record}
use Rattle.ra_registry.specs.declared.past.Did.{Did}
use Rattle.ra_registry.specs.declared.past.Did.TheVariants.{Admitted, Refused, Lost, Closed, Expired, Missed}
use Rattle.ra_registry.specs.declared.past.Past.{Past}
use Rattle.ra_registry.specs.declared.row.Row.{Row}
use Rattle.ra_registry.specs.Admission.{admission_refusal, key_of, seat_for}
use Rattle.ra_registry.specs.KeptRecords.{kept_of, records_of, record_of}
use Rattle.ra_registry.specs.Legal.{IsLegal, Allows}
use Rattle.ra_registry.specs.RegistryStates.{RegistryState}
use Rattle.ra_registry.specs.Rows.{same_key, epoch_of, start_row, row_of}
use Rattle.ra_registry.specs.Seats.{admits, admissions_of}
use Rattle.ra_registry.proofs.Accepted.{accepted_new, accepted_again, again_open}
use Rattle.ra_registry.proofs.Epochs.{next_is, epoch_is, stays_closed}
use Rattle.ra_registry.proofs.KeptLemmas.{records_more}
use Rattle.ra_registry.proofs.LegalHistories.{each_legal}
use Rattle.ra_registry.proofs.SeatCounts.{count_by-push}
use Rattle.ra_audit.specs.Audits.{count_of, due_epoch, AreDue}
use Rattle.ra_record_laws.proofs.DueLists.{due_push, count_append, count_cons, not_started}

-- the records of one entry are of its session, and are as many as it admits
kept_count : (key own : Key) (at : ℕ) (did : Did) → count_of key (kept_of own at did) ≡ cond (admits did && same_key own key) 1 0
kept_count key own at (Admitted epoch reconnection) =
    count_cons key (record { key = own; epoch = epoch; at = at }) []
    ∙ elim (same_key own key) as (λ b. cond b 1 0 + 0 ≡ cond b 1 0) [ true ↦ refl | false ↦ refl ]
kept_count key own at (Refused kind reconnection reason) = refl
kept_count key own at (Lost epoch) = refl
kept_count key own at (Closed epoch cause) = refl
kept_count key own at Expired = refl
kept_count key own at Missed = refl

module _ (r : RegistryState) where
  abbrev list_of : List Past → List Record
  list_of h = r.start ++ records_of h

  more : (h : List Past) (entry : Past) → list_of (h ++ entry ∷ []) ≡ list_of h ++ kept_of entry.key entry.at entry.did
  more h entry = ap (λ l. r.start ++ l) (records_more h entry) ∙ sym (append_assoc r.start (records_of h) (kept_of entry.key entry.at entry.did))

  abbrev Counted : Key → List Past → Type 0
  Counted key h = count_of key (list_of h) ≡ count_of key r.start + admissions_of key h

  counted_push : (key : Key) (h : List Past) (entry : Past) → Counted key h → Counted key (h ++ entry ∷ [])
  counted_push key h entry so_far =
      let split = ap (count_of key) (more h entry) ∙ count_append key (list_of h) (kept_of entry.key entry.at entry.did) in
      let one = kept_count key entry.key entry.at entry.did in
      let pushed = count_by-push (λ (e : Past). admits e.did && same_key e.key key) h entry in
      omega (arith, split, one, pushed, so_far)

  -- a session that is admitted has no start record
  admitted_new : (ask : Request) (at : ℕ) → IsLegal r → admission_refusal r ask at ≡ None → start_row r.start (key_of ask) ≡ None
  admitted_new ask at legal accepted = by (start_row r.start (key_of ask)) refl
    where
      never : (b : Bool) → ask.reconnection ≡ b → is_some (start_row r.start (key_of ask)) ≡ true → true ≡ false
      never true again there = sym (again_open r ask at (accepted_again r ask at accepted again)) ∙ (stays_closed r (key_of ask) legal there).1
      never false new there = sym (stays_closed r (key_of ask) legal there).0 ∙ ap is_some (accepted_new r ask at accepted new)

      by : (row : Option Row) → start_row r.start (key_of ask) ≡ row → row ≡ None
      by None e = refl
      by (Some row) e = let no = never ask.reconnection refl (ap is_some e) in cc

-- so many records of a session were kept
counted : (r : RegistryState) (key : Key) → IsLegal r → count_of key (r.start ++ records_of r.history) ≡ count_of key r.start + admissions_of key r.history
counted r key legal =
    each_legal r (Counted r key) (let base = ap (count_of key) (append-nil r.start) in omega (arith, base))
    (λ h entry l so_far fits. counted_push r key h entry so_far) legal

-- the epoch of the next acceptance is due
pub next_due : (r : RegistryState) (ask : Request) (at : ℕ) → IsLegal r → admission_refusal r ask at ≡ None
    → (seat_for r ask).epoch ≡ due_epoch (r.start ++ records_of r.history) (key_of ask)
next_due r ask at legal accepted =
    let key = key_of ask in
    let none = admitted_new r ask at legal accepted in
    let no_epoch : epoch_of (start_row r.start key) ≡ 0 = ap epoch_of none in
    let no_record = not_started r.start key none in
    omega (arith, next_is (row_of r key), epoch_is r key legal, counted r key legal, no_epoch, no_record)

abbrev IsDue : RegistryState → List Past → Type 0
IsDue r h = AreDue (r.start ++ records_of h)

entry_due : (r : RegistryState) (key : Key) (at : ℕ) (did : Did) → IsLegal r → IsDue r r.history → Allows r key at did
    → AreDue ((r.start ++ records_of r.history) ++ kept_of key at did)
entry_due r key at (Admitted epoch reconnection) legal due fits =
    let ask = fits.0 in
    let list : List Record = r.start ++ records_of r.history in
    let next : epoch ≡ due_epoch list key = fits.4 ∙ next_due r ask at legal fits.3 ∙ ap (due_epoch list) (sym fits.1) in
    due_push [] list (record { key = key; epoch = epoch; at = at }) due next
entry_due r key at (Refused kind reconnection reason) legal due fits = subst AreDue (sym (append-nil (r.start ++ records_of r.history))) due
entry_due r key at (Lost epoch) legal due fits = subst AreDue (sym (append-nil (r.start ++ records_of r.history))) due
entry_due r key at (Closed epoch cause) legal due fits = subst AreDue (sym (append-nil (r.start ++ records_of r.history))) due
entry_due r key at Expired legal due fits = subst AreDue (sym (append-nil (r.start ++ records_of r.history))) due
entry_due r key at Missed legal due fits = subst AreDue (sym (append-nil (r.start ++ records_of r.history))) due

pub history_due : (r : RegistryState) → IsLegal r → AreDue r.start → AreDue (r.start ++ records_of r.history)
history_due r legal due =
    each_legal r (IsDue r) (subst AreDue (sym (append-nil r.start)) due)
    (λ h entry l so_far fits. subst AreDue (sym (more r h entry)) (entry_due (record r { history = h }) entry.key entry.at entry.did l so_far fits)) legal

pub next_record_due : (r : RegistryState) (ask : Request) (now : ℕ) → IsLegal r → AreDue r.start → admission_refusal r ask now ≡ None
    → AreDue ((r.start ++ records_of r.history) ++ record_of (seat_for r ask) now ∷ [])
next_record_due r ask now legal due accepted =
    due_push [] (r.start ++ records_of r.history) (record_of (seat_for r ask) now) (history_due r legal due) (next_due r ask now legal accepted)
