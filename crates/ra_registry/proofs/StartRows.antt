-- The rows at the start, which are closed.
use Rattle.std.proofs.Common.{◌≡◌, ℕ, zero, suc, ◌<◌, ◌≤◌, max, Bool, true, false, cond, List, [], ◌∷◌, fold, length, get_or, Option, None, Some, arith, refl, sym, ap, ◌∙◌}
use Rattle.std.specs.BTreeMap.{BTreeMap, get}
use Rattle.std.specs.BTreeSet.{BTreeSet, IsEmpty}
use Rattle.ra_base.specs.Keys.{key_cmp}
use Rattle.ra_base.specs.declared.key.Key.{Key}
use Rattle.ra_keep.specs.declared.record.Record.{Record}
use Rattle.ra_registry.specs.declared.row.Row.{Row}
use Rattle.ra_registry.specs.RegistryStates.{RegistryState}
use Rattle.ra_registry.specs.RowChanges.{is_open, is_unshortened}
use Rattle.ra_registry.specs.Rows.{same_key, epoch_of, stopped, with_record, start_row, row_of}
use Rattle.ra_registry.specs.Consistent.{IsConsistent}
use Rattle.ra_registry.proofs.RowLemmas.{each_row}
use Rattle.ra_registry.proofs.HistoryRows.{row_of-none}

closed_fold : (key : Key) (records : List Record) (row : Option Row) → is_open row ≡ false → is_open (fold (with_record key) row records) ≡ false
closed_fold key [] row closed = closed
closed_fold key (kept ∷ records) row closed =
    let next : is_open (with_record key row kept) ≡ false =
    elim (same_key kept.key key) as (λ b. is_open (cond b (Some (stopped (max kept.epoch (epoch_of row)))) row) ≡ false) [ true ↦ refl | false ↦ closed ] in
    closed_fold key records (with_record key row kept) next

-- a row at the start is closed
pub start_closed : (records : List Record) (key : Key) → is_open (start_row records key) ≡ false
unfolding start_row
start_closed records key = closed_fold key records None refl

-- a row at the start keeps at least its epoch
stopped_stays : (key : Key) (records : List Record) (e : ℕ) → (f : ℕ) × (fold (with_record key) (Some (stopped e)) records ≡ Some (stopped f)) × (e ≤ f)
stopped_stays key [] e = (e, refl, omega arith)
stopped_stays key (kept ∷ records) e =
    let here : (b : Bool) → (f : ℕ) × (fold (with_record key) (cond b (Some (stopped (max kept.epoch e))) (Some (stopped e))) records ≡ Some (stopped f)) × (e ≤ f) =
    elim [
      | true ↦ let r = stopped_stays key records (max kept.epoch e) in (r.0, r.1, omega (arith, r.2))
      | false ↦ stopped_stays key records e
    ] in
    here (same_key kept.key key)

each_fold : (key : Key) (records : List Record) (row : Option Row) (i : ℕ) (d : Record) → i < length records
    → same_key (get_or records i d).key key ≡ true
    → (f : ℕ) × (fold (with_record key) row records ≡ Some (stopped f)) × ((get_or records i d).epoch ≤ f)
each_fold key [] row i d small same = absurd (omega arith)
each_fold key (kept ∷ records) row zero d small same =
    let first : with_record key row kept ≡ Some (stopped (max kept.epoch (epoch_of row))) =
    ap (λ b. cond b (Some (stopped (max kept.epoch (epoch_of row)))) row) same in
    let r = stopped_stays key records (max kept.epoch (epoch_of row)) in
    (r.0, ap (λ x. fold (with_record key) x records) first ∙ r.1, omega (arith, r.2))
each_fold key (kept ∷ records) row (suc i) d small same =
    let less : i < length records = omega arith in
    each_fold key records (with_record key row kept) i d less same

-- each key of the records has a row at the start, with no smaller epoch
pub each_record : (records : List Record) (key : Key) (i : ℕ) (d : Record) → i < length records → same_key (get_or records i d).key key ≡ true
    → (f : ℕ) × (start_row records key ≡ Some (stopped f)) × ((get_or records i d).epoch ≤ f)
unfolding start_row
each_record records key i d small same = each_fold key records None i d small same

closed_shortened : (row : Row) → is_open (Some row) ≡ false → is_unshortened (Some row) ≡ false
closed_shortened = each_row (λ row. is_open (Some row) ≡ false → is_unshortened (Some row) ≡ false) (λ e c h. refl) (λ e c l h. cc) (λ e c l s h. refl) (λ e c k h. refl)

pub closed_is_shortened : (row : Option Row) → is_open row ≡ false → is_unshortened row ≡ false
closed_is_shortened None closed = refl
closed_is_shortened (Some row) closed = closed_shortened row closed

-- with no entries
pub start_consistent : (long short : ℕ) (start : List Record) (rows : BTreeMap Key Row) (open_keys : BTreeSet Key) (room : ℕ)
    → ((key : Key) → get key_cmp rows key ≡ start_row start key) → IsEmpty open_keys
    → IsConsistent (record { long_grace = long; short_grace = short; start = start; history = [] }) rows open_keys 0 0 room
start_consistent long short start rows open_keys room rows_are empty =
    let r : RegistryState = record { long_grace = long; short_grace = short; start = start; history = [] } in
    let row_is : (k : Key) → row_of r k ≡ start_row start k = λ k. row_of-none r k in
    let closed : (k : Key) → is_open (row_of r k) ≡ false = λ k. ap is_open (row_is k) ∙ start_closed start k in
    record {
      legal = record { fits = λ i d below. absurd (omega arith) };
      rows_are = λ k. rows_are k ∙ sym (row_is k);
      open_are = λ k. rw empty (sym (closed k));
      within = omega arith;
      unshortened = λ k e. let never = closed_is_shortened (row_of r k) (closed k) in cc;
      seats_are = refl;
      has_room = rw empty (omega arith);
    }
