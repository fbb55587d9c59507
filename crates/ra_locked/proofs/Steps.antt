-- What one more entry, and what expiries change of what is kept under the lock.
use Rattle.std.proofs.Common.{◌≡◌, ℕ, ◌+◌, ◌<◌, ◌≤◌, true, false, cond, List, [], ◌∷◌, ◌++◌, length, map, refl, sym, ap, subst, ◌∙◌, arith, length-append}
use Rattle.std.specs.Prelude.{fold, Option, Some, Ok, Err, slice_get}
use Rattle.std.proofs.lemmas.List.Sums.{fold-append}
use Rattle.ra_base.specs.declared.handshake.Reason.{Reason}
use Rattle.ra_base.specs.declared.handshake.Request.{Request}
use Rattle.ra_base.specs.declared.key.Key.{Key}
use Rattle.ra_base.specs.declared.key.Seat.{Seat}
use Rattle.ra_keep.specs.Causes.{Rose, next_count}
use Rattle.ra_keep.specs.declared.record.Record.{Record}
use Rattle.ra_registry.specs.declared.fault.AdmitFault.TheVariants as faults
use Rattle.ra_registry.specs.declared.past.Past.{Past}
use Rattle.ra_registry.specs.Admission.{Admits, admission_entry, refusal_entry}
use Rattle.ra_registry.specs.Expiry.{expiry_of, Expires}
use Rattle.ra_registry.specs.KeptRecords.{kept_of, IsKept}
use Rattle.ra_registry.specs.Legal.{IsLegal}
use Rattle.ra_registry.specs.RegistryStates.{RegistryState, with_entry}
use Rattle.ra_registry.specs.Seats.{unspent, IsUnspent, admits, ends, seat_of}
use Rattle.ra_registry.proofs.CountLemmas.{admission_counts, end_counts, other_counts, expiries_count, is_unspent}
use Rattle.ra_registry.proofs.KeptLemmas.{kept_without, kept_expired}
use Rattle.ra_registry.proofs.SeatCounts.{count_by-push}
use Rattle.ra_locked.specs.declared.answer.Answer.TheVariants.{Given, Refused}
use Rattle.ra_locked.specs.declared.receipt.Receipt.{Receipt}
use Rattle.ra_locked.specs.LockedStates.{LockedState, IsConsistent}
use Rattle.ra_locked.specs.Receipts.{calls, is_call}
use Rattle.ra_locked.specs.SeatLists.{seats_in, same_seat, TakesOne}
use Rattle.ra_locked.specs.SharedCalls.{AdmitsOne, Adds}

calls_push : (h : List Past) (e : Past) → calls (h ++ e ∷ []) ≡ calls h + cond (is_call e.did) 1 0
calls_push h e = count_by-push (λ (x : Past). is_call x.did) h e

add_zero : (n : ℕ) → n + 0 ≡ n
add_zero n = omega arith

none_called : (at : ℕ) (keys : List Key) (n : ℕ)
    → fold (λ (a : ℕ) (e : Past). a + cond (is_call e.did) 1 0) n (map (expiry_of at) keys) ≡ n
none_called at [] n = refl
none_called at (q ∷ qs) n = none_called at qs (n + 0) ∙ add_zero n

calls_expired : (h : List Past) (at : ℕ) (keys : List Key) → calls (h ++ map (expiry_of at) keys) ≡ calls h
calls_expired h at keys =
    fold-append (λ (a : ℕ) (e : Past). a + cond (is_call e.did) 1 0) 0 h (map (expiry_of at) keys) ∙ none_called at keys (calls h)

-- one seat more
seats_push : (seats : List Seat) (seat other : Seat) → seats_in other (seats ++ seat ∷ []) ≡ seats_in other seats + cond (same_seat other seat) 1 0
seats_push seats seat other = count_by-push (λ (x : Seat). same_seat other x) seats seat

one_call : (h : List Past) (e : Past) (total : ℕ) → is_call e.did ≡ true → total ≡ calls h → total + 1 ≡ calls (h ++ e ∷ [])
one_call h e total call was = ap (λ n. n + 1) was ∙ sym (calls_push h e ∙ ap (λ b. calls h + cond b 1 0) call)

pub expired_kept : (r after : RegistryState) (at count : ℕ) (t : Option (List Record)) (faults failed total : ℕ) (seats : List Seat) → Expires r at count after
    → IsConsistent r t faults failed total seats → IsConsistent after t faults failed total seats
expired_kept r after at count t faults failed total seats e was =
    subst (λ (q : RegistryState). IsConsistent q t faults failed total seats) (sym e.entered) (record {
      counted = was.counted ∙ sym (calls_expired r.history at e.keys);
      kept = subst (λ (q : RegistryState). IsKept t q) e.entered (kept_expired r after at count t e was.kept);
      within = was.within;
      seats_are = λ seat. was.seats_are seat ∙ sym (expiries_count r.history at e.keys seat);
    })

-- an entry that neither gives nor ends a seat
pub entry_kept : (r after : RegistryState) (e : Past) (t : Option (List Record)) (faults failed total : ℕ) (seats : List Seat) → is_call e.did ≡ true
    → kept_of e.key e.at e.did ≡ [] → admits e.did ≡ false → ends e.did ≡ false → after ≡ with_entry r e
    → IsConsistent r t faults failed total seats → IsConsistent after t faults failed (total + 1) seats
entry_kept r after e t faults failed total seats call none no_admission no_end is was =
    subst (λ (q : RegistryState). IsConsistent q t faults failed (total + 1) seats) (sym is) (record {
      counted = one_call r.history e total call was.counted;
      kept = kept_without r e t none was.kept;
      within = was.within;
      seats_are = λ seat. was.seats_are seat ∙ sym (other_counts r.history e seat no_admission no_end);
    })

-- the end of a seat
pub end_kept : (r after : RegistryState) (e : Past) (t : Option (List Record)) (faults failed total : ℕ) (seats left : List Seat) → is_call e.did ≡ true
    → kept_of e.key e.at e.did ≡ [] → ends e.did ≡ true → 0 < seats_in (seat_of e) seats → TakesOne (seat_of e) seats left → after ≡ with_entry r e
    → IsConsistent r t faults failed total seats → IsConsistent after t faults failed (total + 1) left
end_kept r after e t faults failed total seats left call none is_end some go is was =
    let unspent_is : IsUnspent (seat_of e) r.history = is_unspent r.history (seat_of e) (subst (λ n. 0 < n) (was.seats_are (seat_of e)) some) in
    subst (λ (q : RegistryState). IsConsistent q t faults failed (total + 1) left) (sym is) (record {
      counted = one_call r.history e total call was.counted;
      kept = kept_without r e t none was.kept;
      within = was.within;
      seats_are = λ seat. omega (arith, go seat, end_counts r.history e seat is_end unspent_is, was.seats_are seat);
    })

pub admitted_kept : (r after : RegistryState) (ask : Request) (at : ℕ) (seat : Seat) (t now : Option (List Record)) (faults after_faults failed total : ℕ) (seats : List Seat)
    → Admits r ask at (Ok seat) after → (IsKept t r → IsKept now after) → IsLegal r → faults ≤ after_faults
    → IsConsistent r t faults failed total seats → IsConsistent after now after_faults failed (total + 1) (seats ++ seat ∷ [])
admitted_kept r after ask at seat t now faults after_faults failed total seats admits kept legal later was =
    let e = admission_entry r ask at in
    record {
      counted = one_call r.history e total refl was.counted ∙ ap (λ (q : RegistryState). calls q.history) (sym admits.2);
      kept = kept was.kept;
      within = (let w = was.within in omega (arith, w, later));
      seats_are = λ other.
          seats_push seats seat other
          ∙ (ap (λ n. n + cond (same_seat other seat) 1 0) (was.seats_are other)
          ∙ (ap (λ (s : Seat). unspent other r.history + cond (same_seat other s) 1 0) admits.1
          ∙ (sym (admission_counts r e other legal refl) ∙ ap (λ (q : RegistryState). unspent other q.history) (sym admits.2))));
    }

pub refused_kept : (r after : RegistryState) (ask : Request) (at : ℕ) (reason : Reason) (t now : Option (List Record)) (before_faults after_faults failed total : ℕ) (seats : List Seat)
    → Admits r ask at (Err (faults.Refused reason)) after → (IsKept t r → IsKept now after) → before_faults ≤ after_faults
    → IsConsistent r t before_faults failed total seats → IsConsistent after now after_faults failed (total + 1) seats
refused_kept r after ask at reason t now before_faults after_faults failed total seats admits kept later was =
    let e = refusal_entry ask at reason in
    record {
      counted = one_call r.history e total refl was.counted ∙ ap (λ (q : RegistryState). calls q.history) (sym admits.1);
      kept = kept was.kept;
      within = (let w = was.within in omega (arith, w, later));
      seats_are = λ other. was.seats_are other ∙ (sym (other_counts r.history e other refl refl) ∙ ap (λ (q : RegistryState). unspent other q.history) (sym admits.1));
    }

-- the registry is as before, and the keeper failed as often as is counted
pub same_kept : (r after : RegistryState) (t now : Option (List Record)) (faults after_faults failed after_failed total : ℕ) (seats left : List Seat) → after ≡ r
    → (IsKept t r → IsKept now after) → left ≡ seats → (failed ≤ faults → after_failed ≤ after_faults)
    → IsConsistent r t faults failed total seats → IsConsistent after now after_faults after_failed total left
same_kept r after t now faults after_faults failed after_failed total seats left is kept lives within was =
    record {
      counted = was.counted ∙ ap (λ (q : RegistryState). calls q.history) (sym is);
      kept = kept was.kept;
      within = within was.within;
      seats_are = λ seat. ap (seats_in seat) lives ∙ (was.seats_are seat ∙ ap (λ (q : RegistryState). unspent seat q.history) (sym is));
    }

pub rises : (failed after_failed before_faults after_faults : ℕ) → after_failed ≡ next_count failed → Rose before_faults after_faults → failed ≤ before_faults → after_failed ≤ after_faults
rises failed after_failed before_faults after_faults next rose within = grind arith

-- ---- what the calls under the lock answer

abbrev pub state : RegistryState → ℕ → LockedState
state registry failed = record { registry = registry; failed = failed }

-- the last entry
get_last : {A : Type 0} (xs : List A) (x : A) → slice_get (xs ++ x ∷ []) (length xs) ≡ Some x
get_last [] x = refl
get_last (y ∷ ys) x = get_last ys x

-- the receipt of what was entered
adds_of : (r after : RegistryState) (failed : ℕ) (e : Past) (receipt : Receipt) → after ≡ with_entry r e → receipt.place ≡ length r.history
    → slice_get after.history (length r.history) ≡ Some receipt.past → Adds receipt e (state r failed) (state after failed)
adds_of r after failed e receipt is place there =
    let last : Some e ≡ Some receipt.past =
    sym (get_last r.history e) ∙ (ap (λ (q : RegistryState). slice_get q.history (length r.history)) (sym is) ∙ there) in
    record { place = place; past = cc; entered = ap (λ (q : RegistryState). state q failed) is }

pub enters : (r after : RegistryState) (failed : ℕ) (q : LockedState) (e : Past) (receipt : Receipt) (was : List Past) → state r failed ≡ q → was ≡ r.history
    → after ≡ with_entry r e → receipt.place ≡ length was → slice_get after.history (length was) ≡ Some receipt.past → Adds receipt e q (state after failed)
enters r after failed q e receipt was is same entered place there =
    subst (λ (p : LockedState). Adds receipt e p (state after failed)) is
    (adds_of r after failed e receipt entered (place ∙ ap length same) (ap (λ h. slice_get after.history (length h)) (sym same) ∙ there))

pub room_for : (r after : RegistryState) (e : Past) (was : List Past) → was ≡ r.history → after ≡ with_entry r e → length after.history ≡ length was + 1
room_for r after e was same entered =
    ap (λ (q : RegistryState). length q.history) entered ∙ length-append r.history (e ∷ []) ∙ ap (λ h. length h + 1) (sym same)

pub given_one : {X : Type 0} (r after : RegistryState) (failed : ℕ) (q : LockedState) (ask : Request) (at : ℕ) (seat : Seat) (session : X) (receipt : Receipt) (was : List Past) (old new : ℕ)
    → state r failed ≡ q → was ≡ r.history → Admits r ask at (Ok seat) after → receipt.place ≡ length was
    → slice_get after.history (length was) ≡ Some receipt.past → new ≡ old + 1 → AdmitsOne q ask at (Given seat session receipt) (state after failed) old new
given_one r after failed q ask at seat session receipt was old new is same admitted place there more =
    subst (λ (p : LockedState). AdmitsOne p ask at (Given seat session receipt) (state after failed) old new) is
    (admitted.0, admitted.1, enters r after failed (state r failed) (admission_entry r ask at) receipt was refl same admitted.2 place there, more)

pub refused_one : (X : Type 0) (r after : RegistryState) (failed : ℕ) (q : LockedState) (ask : Request) (at : ℕ) (reason : Reason) (receipt : Receipt) (was : List Past) (old new : ℕ)
    → state r failed ≡ q → was ≡ r.history → Admits r ask at (Err (faults.Refused reason)) after → receipt.place ≡ length was
    → slice_get after.history (length was) ≡ Some receipt.past → new ≡ old + 1 → AdmitsOne {X = X} q ask at (Refused reason receipt) (state after failed) old new
refused_one X r after failed q ask at reason receipt was old new is same refused place there more =
    subst (λ (p : LockedState). AdmitsOne {X = X} p ask at (Refused reason receipt) (state after failed) old new) is
    (refused.0, enters r after failed (state r failed) (refusal_entry ask at reason) receipt was refl same refused.1 place there, more)

pub fails_one : (r after : RegistryState) (failed new : ℕ) (q : LockedState) → state r failed ≡ q → after ≡ r → new ≡ next_count failed
    → state after new ≡ record q { failed = next_count q.failed }
fails_one r after failed new q is same next =
    subst (λ (p : LockedState). state after new ≡ record p { failed = next_count p.failed }) is
    (ap (λ (s : RegistryState). state s new) same ∙ ap (state r) next)
