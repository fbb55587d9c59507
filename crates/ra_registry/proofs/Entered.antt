-- What a registry holds stays consistent with its history when an entry is made.
use Rattle.std.proofs.Common.{◌≡◌, ℕ, ◌+◌, ◌-◌, ◌<◌, ◌≤◌, Bool, true, false, cond, ◌||◌, [], ◌∷◌, ◌++◌, length, drop, Option, None, Some, option_map, is_some, arith, length-append, refl, sym, ap, ◌∙◌}
use Rattle.std.specs.BTreeMap.{BTreeMap, get}
use Rattle.std.specs.BTreeSet.{BTreeSet, contains, btree_set_len}
use Rattle.std.proofs.Math.Bool.{or-true}
use Rattle.std.proofs.lemmas.List.{drop-append-le}
use Rattle.std.proofs.lemmas.List.Folds.{list_any-append}
use Rattle.ra_base.specs.Keys.{key_cmp}
use Rattle.ra_base.specs.declared.handshake.Reason.{Reason}
use Rattle.ra_base.specs.declared.handshake.Request.{Request}
use Rattle.ra_base.specs.declared.kind.Kind.{Kind}
use Rattle.ra_base.specs.declared.key.Cause.{Cause}
use Rattle.ra_base.specs.declared.key.Key.{Key}
use Rattle.ra_base.specs.declared.key.Seat.{Seat}
use Rattle.ra_registry.specs.declared.past.Did.TheVariants.{Refused, Lost, Closed, Missed}
use Rattle.ra_registry.specs.declared.past.Past.{Past}
use Rattle.ra_registry.specs.declared.row.Row.{Row}
use Rattle.ra_registry.specs.RegistryStates.{RegistryState, with_entry}
use Rattle.ra_registry.specs.RowChanges.{shorten, lose, close, admitted_at, is_open, is_unshortened}
use Rattle.ra_registry.specs.Rows.{same_key, own_change, other_change, row_of}
use Rattle.ra_registry.specs.Seats.{IsUnspent}
use Rattle.ra_registry.specs.Legal.{Fits}
use Rattle.ra_registry.specs.TableChanges.{has_key, SetsRow, ChangesRow, ChangesRows, SameRows, SetsKey, SameKeys}
use Rattle.ra_registry.specs.Admission.{admission_refusal, admission_entry, seat_for, key_of, next_epoch}
use Rattle.ra_registry.specs.Consistent.{IsConsistent}
use Rattle.ra_registry.proofs.SameKeys.{same_key_is, same_key_itself}
use Rattle.ra_registry.proofs.RowLemmas.{shortening_leaves, shortened, is_open-shorten, is_open-lose, open-close}
use Rattle.ra_registry.proofs.HistoryRows.{row_of-push, change_is, refusal_shortens}
use Rattle.ra_registry.proofs.LegalHistories.{legal_push}
use Rattle.ra_registry.proofs.SeatCounts.{pushing, some_left}

module _ (r : RegistryState) (rows : BTreeMap Key Row) (open_keys : BTreeSet Key) (place seats room : ℕ) (is : IsConsistent r rows open_keys place seats room) where
  -- a row that is shortened where its key has an entry behind the place is shortened in any case
  pub shortened_one : (at : ℕ) (k : Key) (row : Option Row)
      → row ≡ cond (has_key (drop place r.history) k) (option_map (shorten at) (get key_cmp rows k)) (get key_cmp rows k)
      → row ≡ option_map (shorten at) (row_of r k)
  shortened_one at k row changed =
      let before = row_of r k in
      let stays : has_key (drop place r.history) k ≡ false → is_unshortened before ≡ false =
      λ none.
      let by : (b : Bool) → is_unshortened before ≡ b → b ≡ false =
      elim [ true ↦ λ e. let some = is.unshortened k e in cc | false ↦ λ e. refl ] in
      by (is_unshortened before) refl in
      let here : (b : Bool) → has_key (drop place r.history) k ≡ b → cond b (option_map (shorten at) before) before ≡ option_map (shorten at) before =
      elim [ true ↦ λ e. refl | false ↦ λ e. sym (shortening_leaves at before (stays e)) ] in
      changed ∙ ap (λ x. cond (has_key (drop place r.history) k) (option_map (shorten at) x) x) (is.rows_are k) ∙ here (has_key (drop place r.history) k) refl

  -- a refused request
  pub refused_consistent : (after : BTreeMap Key Row) (larger : ℕ) (key : Key) (at : ℕ) (kind : Option Kind) (reconnection : Bool) (reason : Reason)
      → Fits r (record { at = at; key = key; did = Refused kind reconnection reason })
      → ChangesRows rows after (drop place r.history) (shorten at)
      → length r.history + 1 + seats + btree_set_len open_keys ≤ larger
      → IsConsistent (with_entry r (record { at = at; key = key; did = Refused kind reconnection reason })) after open_keys (length r.history + 1) seats larger
  refused_consistent after larger key at kind reconnection reason fits changes enough =
      let entry : Past = record { at = at; key = key; did = Refused kind reconnection reason } in
      let row_is : (k : Key) → row_of (with_entry r entry) k ≡ option_map (shorten at) (row_of r k) =
      λ k. row_of-push r entry k ∙ refusal_shortens k (row_of r k) key at kind reconnection reason in
      let p = pushing r.history entry in
      let len = length-append r.history (entry ∷ []) in
      record {
        legal = legal_push r entry is.legal fits;
        rows_are = λ k. shortened_one at k (get key_cmp after k) (changes k) ∙ sym (row_is k);
        open_are = λ k. is.open_are k ∙ sym (ap is_open (row_is k) ∙ is_open-shorten at (row_of r k));
        within = omega (arith, len);
        unshortened = λ k e. let never : is_unshortened (row_of (with_entry r entry) k) ≡ false = ap is_unshortened (row_is k) ∙ shortened at (row_of r k) in cc;
        seats_are = omega (arith, p.0, p.1, is.seats_are);
        has_room = omega (arith, len, enough);
      }

  -- a seat that is not spent has room for its end
  pub seat_left : (seat : Seat) → IsUnspent seat r.history → 0 < seats
  seat_left seat left = omega (arith, some_left r seat is.legal left, is.seats_are)

  -- a row that is not shortened has an entry behind the place, also after an entry that leaves the rows of others
  behind : (entry : Past) → ((row : Option Row) → other_change entry.at entry.did row ≡ row)
      → (k : Key) → is_unshortened (row_of (with_entry r entry) k) ≡ true → has_key (drop place (r.history ++ entry ∷ [])) k ≡ true
  behind entry others k un =
      let row = row_of r k in
      let earlier = has_key (drop place r.history) k in
      let parts : has_key (drop place (r.history ++ entry ∷ [])) k ≡ (earlier || (same_key entry.key k || false)) =
      ap (λ es. has_key es k) (drop-append-le place r.history (entry ∷ []) is.within)
      ∙ list_any-append (λ (e : Past). same_key e.key k) (drop place r.history) (entry ∷ []) in
      let here : (b : Bool) → same_key entry.key k ≡ b
      → is_unshortened (cond b (own_change entry.at entry.did row) (other_change entry.at entry.did row)) ≡ true
      → (earlier || (b || false)) ≡ true =
      elim [
        | true ↦ λ e u. or-true earlier
        | false ↦ λ e u. let there : earlier ≡ true = is.unshortened k (ap is_unshortened (sym (others row)) ∙ u) in ap (λ b. b || false) there
      ] in
      parts ∙ here (same_key entry.key k) refl (ap is_unshortened (sym (row_of-push r entry k ∙ change_is k row entry)) ∙ un)

  -- a lost link
  pub lost_consistent : (after : BTreeMap Key Row) (larger : ℕ) (seat : Seat) (at : ℕ) → IsUnspent seat r.history
      → ChangesRow rows after seat.key (lose seat.epoch at) → room ≤ larger
      → IsConsistent (with_entry r (record { at = at; key = seat.key; did = Lost seat.epoch })) after open_keys place (seats - 1) larger
  lost_consistent after larger seat at left changes enough =
      let entry : Past = record { at = at; key = seat.key; did = Lost seat.epoch } in
      let row_is : (k : Key) → row_of (with_entry r entry) k ≡ cond (same_key seat.key k) (option_map (lose seat.epoch at) (row_of r k)) (row_of r k) =
      λ k. row_of-push r entry k ∙ change_is k (row_of r k) entry in
      let same_open : (k : Key) (b : Bool) → is_open (cond b (option_map (lose seat.epoch at) (row_of r k)) (row_of r k)) ≡ is_open (row_of r k) =
      λ k. elim [ true ↦ is_open-lose seat.epoch at (row_of r k) | false ↦ refl ] in
      let p = pushing r.history entry in
      let len = length-append r.history (entry ∷ []) in
      let some = seat_left seat left in
      record {
        legal = legal_push r entry is.legal left;
        rows_are = λ k. changes k ∙ ap (λ x. cond (same_key seat.key k) (option_map (lose seat.epoch at) x) x) (is.rows_are k) ∙ sym (row_is k);
        open_are = λ k. is.open_are k ∙ sym (ap is_open (row_is k) ∙ same_open k (same_key seat.key k));
        within = omega (arith, len, is.within);
        unshortened = behind entry (λ row. refl);
        seats_are = omega (arith, p.0, p.1, is.seats_are, some);
        has_room = omega (arith, len, is.has_room, enough, some);
      }

  -- a session that has ended was open before, where it is still
  pub closed_known : (after : BTreeMap Key Row) (key : Key) (epoch : ℕ) (cause : Cause) → ChangesRow rows after key (close epoch cause)
      → is_open (get key_cmp after key) ≡ true → contains key_cmp open_keys key ≡ true
  closed_known after key epoch cause changes still =
      let row_is : get key_cmp after key ≡ option_map (close epoch cause) (row_of r key) =
      changes key ∙ ap (λ b. cond b (option_map (close epoch cause) (get key_cmp rows key)) (get key_cmp rows key)) (same_key_itself key)
      ∙ ap (option_map (close epoch cause)) (is.rows_are key) in
      is.open_are key ∙ open-close epoch cause (row_of r key) (ap is_open (sym row_is) ∙ still)

  -- an ended session
  pub closed_consistent : (after : BTreeMap Key Row) (left_open : BTreeSet Key) (larger : ℕ) (seat : Seat) (cause : Cause) (at : ℕ)
      → IsUnspent seat r.history
      → ChangesRow rows after seat.key (close seat.epoch cause)
      → SetsKey open_keys left_open seat.key (is_open (get key_cmp after seat.key))
      → btree_set_len left_open ≤ btree_set_len open_keys → room ≤ larger
      → IsConsistent (with_entry r (record { at = at; key = seat.key; did = Closed seat.epoch cause })) after left_open place (seats - 1) larger
  closed_consistent after left_open larger seat cause at left changes sets fewer enough =
      let entry : Past = record { at = at; key = seat.key; did = Closed seat.epoch cause } in
      let row_is : (k : Key) → row_of (with_entry r entry) k ≡ cond (same_key seat.key k) (option_map (close seat.epoch cause) (row_of r k)) (row_of r k) =
      λ k. row_of-push r entry k ∙ change_is k (row_of r k) entry in
      let rows_are : (k : Key) → get key_cmp after k ≡ row_of (with_entry r entry) k =
      λ k. changes k ∙ ap (λ x. cond (same_key seat.key k) (option_map (close seat.epoch cause) x) x) (is.rows_are k) ∙ sym (row_is k) in
      let opens : (k : Key) (b : Bool) → same_key seat.key k ≡ b
      → cond b (is_open (get key_cmp after seat.key)) (contains key_cmp open_keys k) ≡ is_open (row_of (with_entry r entry) k) =
      λ k. elim [
        | true ↦ λ e. ap (λ q. is_open (get key_cmp after q)) (same_key_is seat.key k e) ∙ ap is_open (rows_are k)
        | false ↦ λ e. is.open_are k ∙ sym (ap is_open (row_is k ∙ ap (λ b. cond b (option_map (close seat.epoch cause) (row_of r k)) (row_of r k)) e))
      ] in
      let p = pushing r.history entry in
      let len = length-append r.history (entry ∷ []) in
      let some = seat_left seat left in
      record {
        legal = legal_push r entry is.legal left;
        rows_are = rows_are;
        open_are = λ k. sets k ∙ opens k (same_key seat.key k) refl;
        within = omega (arith, len, is.within);
        unshortened = behind entry (λ row. refl);
        seats_are = omega (arith, p.0, p.1, is.seats_are, some);
        has_room = omega (arith, len, is.has_room, enough, some, fewer);
      }

  -- a miss
  pub missed_consistent : (larger : ℕ) (key : Key) (at : ℕ) → row_of r key ≡ None → length r.history + 1 + seats + btree_set_len open_keys ≤ larger
      → IsConsistent (with_entry r (record { at = at; key = key; did = Missed })) rows open_keys place seats larger
  missed_consistent larger key at none enough =
      let entry : Past = record { at = at; key = key; did = Missed } in
      let same : (row : Option Row) (b : Bool) → cond b row row ≡ row = λ row. elim [ true ↦ refl | false ↦ refl ] in
      let row_is : (k : Key) → row_of (with_entry r entry) k ≡ row_of r k =
      λ k. row_of-push r entry k ∙ change_is k (row_of r k) entry ∙ same (row_of r k) (same_key key k) in
      let p = pushing r.history entry in
      let len = length-append r.history (entry ∷ []) in
      record {
        legal = legal_push r entry is.legal none;
        rows_are = λ k. is.rows_are k ∙ sym (row_is k);
        open_are = λ k. is.open_are k ∙ sym (ap is_open (row_is k));
        within = omega (arith, len, is.within);
        unshortened = behind entry (λ row. refl);
        seats_are = omega (arith, p.0, p.1, is.seats_are);
        has_room = omega (arith, len, enough);
      }

  -- an admitted request
  pub admitted_consistent : (ask : Request) (at : ℕ) → admission_refusal r ask at ≡ None
      → (after : BTreeMap Key Row) (opened : BTreeSet Key) (larger : ℕ)
      → ((k : Key) → get key_cmp after k
      ≡ cond (same_key (key_of ask) k) (Some (admitted_at (seat_for r ask).epoch at (row_of r (key_of ask)))) (option_map (shorten at) (row_of r k)))
      → SetsKey open_keys opened (key_of ask) true
      → length r.history + 1 + (seats + 1) + btree_set_len opened ≤ larger
      → IsConsistent (with_entry r (admission_entry r ask at)) after opened (length r.history + 1) (seats + 1) larger
  admitted_consistent ask at accepted after opened larger sets opens enough =
      let entry : Past = admission_entry r ask at in
      let key = key_of ask in
      let epoch = (seat_for r ask).epoch in
      let row_is : (k : Key) → row_of (with_entry r entry) k ≡ cond (same_key key k) (Some (admitted_at epoch at (row_of r k))) (option_map (shorten at) (row_of r k)) =
      λ k. row_of-push r entry k ∙ change_is k (row_of r k) entry in
      let own : (k : Key) (b : Bool) → same_key key k ≡ b
      → cond b (Some (admitted_at epoch at (row_of r key))) (option_map (shorten at) (row_of r k))
      ≡ cond b (Some (admitted_at epoch at (row_of r k))) (option_map (shorten at) (row_of r k)) =
      λ k. elim [
        | true ↦ λ e. ap (λ q. Some (admitted_at epoch at (row_of r q))) (same_key_is key k e)
        | false ↦ λ e. refl
      ] in
      let up : (row : Option Row) → (is_open (Some (admitted_at epoch at row)) ≡ true) × (is_unshortened (Some (admitted_at epoch at row)) ≡ false) =
      elim [ None ↦ (refl, refl) | Some x ↦ (refl, refl) ] in
      let opens_is : (k : Key) (b : Bool) → cond b true (is_open (row_of r k))
      ≡ is_open (cond b (Some (admitted_at epoch at (row_of r k))) (option_map (shorten at) (row_of r k))) =
      λ k. elim [ true ↦ sym (up (row_of r k)).0 | false ↦ sym (is_open-shorten at (row_of r k)) ] in
      let short : (k : Key) (b : Bool) → is_unshortened (cond b (Some (admitted_at epoch at (row_of r k))) (option_map (shorten at) (row_of r k))) ≡ false =
      λ k. elim [ true ↦ (up (row_of r k)).1 | false ↦ shortened at (row_of r k) ] in
      let p = pushing r.history entry in
      let len = length-append r.history (entry ∷ []) in
      record {
        legal = legal_push r entry is.legal (ask, refl, refl, accepted, refl);
        rows_are = λ k. sets k ∙ own k (same_key key k) refl ∙ sym (row_is k);
        open_are = λ k. opens k ∙ ap (cond (same_key key k) true) (is.open_are k) ∙ opens_is k (same_key key k) ∙ ap is_open (sym (row_is k));
        within = omega (arith, len);
        unshortened = λ k e. let never : is_unshortened (row_of (with_entry r entry) k) ≡ false = ap is_unshortened (row_is k) ∙ short k (same_key key k) in cc;
        seats_are = omega (arith, p.0, p.1, is.seats_are);
        has_room = omega (arith, len, enough);
      }

  -- the rows of a new session and of all others
  pub new_rows : (ask : Request) (at : ℕ) → row_of r (key_of ask) ≡ None → (added after : BTreeMap Key Row)
      → SetsRow rows added (key_of ask) (Some (admitted_at 1 at None)) → ChangesRows added after (drop place r.history) (shorten at)
      → (k : Key) → get key_cmp after k
      ≡ cond (same_key (key_of ask) k) (Some (admitted_at (seat_for r ask).epoch at (row_of r (key_of ask)))) (option_map (shorten at) (row_of r k))
  new_rows ask at none added after adds changes k =
      let key = key_of ask in
      let up : Option Row = Some (admitted_at 1 at None) in
      let there = has_key (drop place r.history) k in
      let stays : (b : Bool) → cond b (option_map (shorten at) up) up ≡ up = elim [ true ↦ refl | false ↦ refl ] in
      let here : (b : Bool) → same_key key k ≡ b
      → cond there (option_map (shorten at) (cond b up (get key_cmp rows k))) (cond b up (get key_cmp rows k))
      ≡ cond b up (option_map (shorten at) (row_of r k)) =
      elim [
        | true ↦ λ e. stays there
        | false ↦ λ e. shortened_one at k (cond there (option_map (shorten at) (get key_cmp rows k)) (get key_cmp rows k)) refl
      ] in
      let as_seat : up ≡ Some (admitted_at (next_epoch (row_of r key)) at (row_of r key)) = ap (λ row. Some (admitted_at (next_epoch row) at row)) (sym none) in
      changes k ∙ ap (λ x. cond there (option_map (shorten at) x) x) (adds k) ∙ here (same_key key k) refl
      ∙ ap (λ x. cond (same_key key k) x (option_map (shorten at) (row_of r k))) as_seat

  -- the rows of a session that is reconnected and of all others
  pub later_rows : (key : Key) (at : ℕ) (row : Row) (shorter after : BTreeMap Key Row) → ChangesRows rows shorter (drop place r.history) (shorten at)
      → SetsRow shorter after key (Some row) → (k : Key)
      → get key_cmp after k ≡ cond (same_key key k) (Some row) (option_map (shorten at) (row_of r k))
  later_rows key at row shorter after changes sets k =
      sets k ∙ ap (cond (same_key key k) (Some row)) (shortened_one at k (get key_cmp shorter k) (changes k))

  -- a key that is open stays so
  pub stays_open : (key : Key) → is_open (row_of r key) ≡ true → SetsKey open_keys open_keys key true
  stays_open key opened k =
      let here : (b : Bool) → same_key key k ≡ b → contains key_cmp open_keys k ≡ cond b true (contains key_cmp open_keys k) =
      elim [
        | true ↦ λ e. ap (contains key_cmp open_keys) (sym (same_key_is key k e)) ∙ is.open_are key ∙ opened
        | false ↦ λ e. refl
      ] in
      here (same_key key k) refl

  -- a row that is open is there, also once all are shortened
  pub still_there : (key : Key) (at : ℕ) (after : BTreeMap Key Row) → is_open (row_of r key) ≡ true
      → ChangesRows rows after (drop place r.history) (shorten at) → is_some (get key_cmp after key) ≡ true
  still_there key at after opened changes =
      let there : (row : Option Row) → is_open row ≡ true → is_some (option_map (shorten at) row) ≡ true =
      elim [ None ↦ λ e. cc | Some row ↦ λ e. refl ] in
      ap is_some (shortened_one at key (get key_cmp after key) (changes key)) ∙ there (row_of r key) opened

  -- undone additions leave all as it was
  pub undone_consistent : (after : BTreeMap Key Row) (left_open : BTreeSet Key) (larger : ℕ) → SameRows rows after → SameKeys open_keys left_open
      → btree_set_len left_open ≡ btree_set_len open_keys → room ≤ larger
      → IsConsistent r after left_open place seats larger
  undone_consistent after left_open larger same_rows same_keys count enough = record {
    legal = is.legal;
    rows_are = λ k. same_rows k ∙ is.rows_are k;
    open_are = λ k. same_keys k ∙ is.open_are k;
    within = is.within;
    unshortened = is.unshortened;
    seats_are = is.seats_are;
    has_room = omega (arith, is.has_room, count, enough);
  }
