-- Lists of due records that grow, and how many records of a session there are.
use Rattle.std.proofs.Common.{◌≡◌, ◌+◌, Bool, true, false, cond, List, [], ◌∷◌, ◌++◌, append-nil, append_assoc, fold, max, None, Some, arith, refl, sym, ap, ◌∙◌}
use Rattle.std.proofs.lemmas.List.Sums.{sum_by-append, sum_by-cons}
use Rattle.ra_base.specs.declared.key.Key.{Key}
use Rattle.ra_keep.specs.declared.record.Record.{Record}
use Rattle.ra_registry.specs.declared.row.Row.{Row}
use Rattle.ra_registry.specs.Rows.{same_key, stopped, with_record, start_row, epoch_of}
use Rattle.ra_audit.specs.Audits.{count_of, due_epoch, AreDueFrom, AreDue}

-- one more record, which is due behind those before it
pub due_push : (earlier list : List Record) (r : Record) → AreDueFrom earlier list → r.epoch ≡ due_epoch (earlier ++ list) r.key → AreDueFrom earlier (list ++ r ∷ [])
unfolding AreDueFrom
due_push earlier [] r due next = (next ∙ ap (λ l. due_epoch l r.key) (append-nil earlier), tt)
due_push earlier (x ∷ xs) r due next =
    (due.0, due_push (earlier ++ x ∷ []) xs r due.1 (next ∙ ap (λ l. due_epoch l r.key) (sym (append_assoc earlier (x ∷ []) xs))))

pub due_none : AreDue []
unfolding AreDueFrom
due_none = tt

pub count_append : (key : Key) (xs ys : List Record) → count_of key (xs ++ ys) ≡ count_of key xs + count_of key ys
count_append key xs ys = sum_by-append (λ (r : Record). cond (same_key r.key key) 1 0) xs ys

pub count_cons : (key : Key) (r : Record) (rs : List Record) → count_of key (r ∷ rs) ≡ cond (same_key r.key key) 1 0 + count_of key rs
count_cons key r rs = sum_by-cons (λ (x : Record). cond (same_key x.key key) 1 0) r rs

-- a row that is there stays there with more records
stays : (key : Key) (records : List Record) (row : Row) → fold (with_record key) (Some row) records ≡ None → ⊥
stays key [] row none = cc
stays key (kept ∷ records) row none =
    let here : (b : Bool) → fold (with_record key) (cond b (Some (stopped (max kept.epoch row.epoch))) (Some row)) records ≡ None → ⊥ =
    elim [ true ↦ λ e. stays key records (stopped (max kept.epoch row.epoch)) e | false ↦ λ e. stays key records row e ] in
    here (same_key kept.key key) none

none_counted : (key : Key) (records : List Record) → fold (with_record key) None records ≡ None → count_of key records ≡ 0
none_counted key [] none = refl
none_counted key (kept ∷ records) none =
    let here : (b : Bool) → fold (with_record key) (cond b (Some (stopped (max kept.epoch (epoch_of None)))) None) records ≡ None
    → cond b 1 0 + count_of key records ≡ 0 =
    elim [
      | true ↦ λ e. absurd (stays key records (stopped (max kept.epoch (epoch_of None))) e)
      | false ↦ λ e. let rest = none_counted key records e in omega (arith, rest)
    ] in
    count_cons key kept records ∙ here (same_key kept.key key) none

-- a session with no row at the start has no start record
pub not_started : (records : List Record) (key : Key) → start_row records key ≡ None → count_of key records ≡ 0
unfolding start_row
not_started records key none = none_counted key records none
