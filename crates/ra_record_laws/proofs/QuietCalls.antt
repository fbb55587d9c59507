-- What each call of a hub makes of its registry: it stays, or has an entry more that fits.
use Rattle.std.proofs.Common.{◌≡◌, ℕ, ◌<◌, Bool, true, false, cond, ◌||◌, option_map, List, [], ◌∷◌, ◌++◌, append-nil, append_assoc, map, Option, None, Some, Result, Ok, Err, arith, refl, sym, ap, subst, ◌∙◌}
use Rattle.std.proofs.Math.Bool.{or-true}
use Rattle.ra_base.specs.Keys.{key_cmp}
use Rattle.ra_registry.proofs.SameKeys.{same_key_itself}
use Rattle.std.specs.List.{list_any, AllByRecursion, IsDistinct}
use Rattle.std.proofs.lemmas.Map.Keys.{IsDistinct-from_sorted, IsDistinct-head, IsDistinct-tail}
use Rattle.ra_base.specs.declared.key.Cause.{Cause}
use Rattle.ra_base.specs.declared.key.Key.{Key}
use Rattle.ra_base.specs.declared.key.Seat.{Seat}
use Rattle.ra_keep.specs.declared.record.Record.{Record}
use Rattle.ra_registry.specs.declared.past.Did.TheVariants.{Lost, Closed, Missed}
use Rattle.ra_registry.specs.declared.past.Past.{Past}
use Rattle.ra_registry.specs.declared.row.Row.{Row}
use Rattle.ra_registry.specs.Expiry.{expiry_of, Expires}
use Rattle.ra_registry.specs.KeptRecords.{records_of, kept_of}
use Rattle.ra_registry.specs.Legal.{IsLegal, Fits, is_over}
use Rattle.ra_registry.specs.RegistryStates.{RegistryState, with_entry, with_entries}
use Rattle.ra_registry.specs.RowChanges.{expire}
use Rattle.ra_registry.specs.Rows.{same_key, row_of}
use Rattle.ra_registry.specs.Seats.{IsUnspent, unspent}
use Rattle.ra_registry.proofs.HistoryRows.{row_of-push, change_is}
use Rattle.ra_registry.proofs.KeptLemmas.{records_more, records_expired}
use Rattle.ra_registry.proofs.LegalHistories.{legal_push}
use Rattle.ra_session.specs.declared.values.SessionFault.{SessionFault}
use Rattle.ra_session.specs.declared.values.Tell.{Tell}
use Rattle.ra_session.specs.SessionCalls.{end_session}
use Rattle.ra_session.specs.SessionRefusals.{Refusal}
use Rattle.ra_session.specs.Sessions.{Session}
use Rattle.ra_session.specs.TurnRefusals.{is_bad_ipc}
use Rattle.ra_session.specs.View.{told}
use Rattle.ra_hub.specs.declared.fault.HubFault.{HubFault}
use Rattle.ra_hub.specs.declared.fault.HubFault.TheVariants as faults
use Rattle.ra_hub.specs.HubCalls.{Answers, Misses, TellsAt, after_fault}
use Rattle.ra_hub.specs.Hubs.{Hub, row, enter, entry_of, at_key, missed, seat_lost, seat_closed, closes}

-- the registry stays legal, and neither its start records nor those of its history change
pub record IsQuiet (before after : RegistryState) : Type 0 where
  pub legal : IsLegal before → IsLegal after
  pub start : after.start ≡ before.start
  pub records : records_of after.history ≡ records_of before.history

pub same_quiet : (before after : RegistryState) → after ≡ before → IsQuiet before after
same_quiet before after is = subst (IsQuiet before) (sym is) (record { legal = λ l. l; start = refl; records = refl })

-- one entry that fits and has no record
pub entry_quiet : (before after : RegistryState) (entry : Past) → after ≡ with_entry before entry → Fits before entry → kept_of entry.key entry.at entry.did ≡ []
    → IsQuiet before after
entry_quiet before after entry is fits none = subst (IsQuiet before) (sym is) (record {
  legal = λ l. legal_push before entry l fits;
  start = refl;
  records = records_more before.history entry ∙ ap (λ (l : List Record). records_of before.history ++ l) none ∙ append-nil (records_of before.history);
})

-- a call of one session leaves the registry, also where it is refused
pub answered_same : {X : Type 0} (refusal : Option Refusal) (Gives : X → Type 0) (made : Hub) (left : SessionFault → Hub) (same : Hub) (result : Result X HubFault) (after : Hub)
    (r : RegistryState) → made.registry ≡ r → ((fault : SessionFault) → (left fault).registry ≡ r) → same.registry ≡ r
    → Answers refusal Gives made left same result (λ h. h ≡ after) → after.registry ≡ r
answered_same refusal Gives made left same (Ok x) after r of_made of_left of_same a = ap (λ (h : Hub). h.registry) (sym a.2) ∙ of_made
answered_same refusal Gives made left same (Err (faults.Session fault)) after r of_made of_left of_same a = ap (λ (h : Hub). h.registry) (sym a.1) ∙ of_left fault
answered_same refusal Gives made left same (Err faults.NoMemory) after r of_made of_left of_same a = ap (λ (h : Hub). h.registry) (sym a) ∙ of_same
answered_same refusal Gives made left same (Err (faults.Refused reason)) after r of_made of_left of_same a = absurd a
answered_same refusal Gives made left same (Err faults.NoSession) after r of_made of_left of_same a = absurd a
answered_same refusal Gives made left same (Err faults.KeepFault) after r of_made of_left of_same a = absurd a

-- a bad message ends its session, and leaves the registry
pub fault_same : (h : Hub) (key : Key) (s : Session) (fault : SessionFault) → (after_fault (at_key key s h) h fault).registry ≡ h.registry
fault_same h key s fault = elim (is_bad_ipc fault) as (λ b. (cond b (at_key key s h) h).registry ≡ h.registry) [ true ↦ refl | false ↦ refl ]

miss_is : (h : Hub) (key : Key) (now : ℕ) → (missed key now h).registry ≡ with_entry h.registry (entry_of key now Missed)
unfolding missed
miss_is h key now = refl

misses_quiet : {X : Type 0} (h : Hub) (key : Key) (now : ℕ) (result : Result X HubFault) (after : Hub) → row h key ≡ None
    → Misses h key now result (λ k. k ≡ after) → IsQuiet h.registry after.registry
misses_quiet h key now (Err faults.NoSession) after none m =
    entry_quiet h.registry after.registry (entry_of key now Missed) (ap (λ (k : Hub). k.registry) (sym m) ∙ miss_is h key now) none refl
misses_quiet h key now (Err faults.NoMemory) after none m = same_quiet h.registry after.registry (ap (λ (k : Hub). k.registry) (sym m))
misses_quiet h key now (Err (faults.Refused reason)) after none m = absurd m
misses_quiet h key now (Err (faults.Session fault)) after none m = absurd m
misses_quiet h key now (Err faults.KeepFault) after none m = absurd m
misses_quiet h key now (Ok x) after none m = absurd m

pub tells_quiet : {X : Type 0} (h : Hub) (key : Key) (word : Tell) (now : ℕ) (found : Option Row) (session : Option Session) (result : Result X HubFault) (after : Hub)
    → row h key ≡ found → TellsAt h key word now found session result (λ k. k ≡ after) → IsQuiet h.registry after.registry
tells_quiet h key word now None session result after is t = misses_quiet h key now result after is t
tells_quiet h key word now (Some x) None result after is t =
    same_quiet h.registry after.registry (answered_same _ _ h (λ fault. h) h result after h.registry refl (λ fault. refl) refl t)
tells_quiet h key word now (Some x) (Some s) result after is t =
    same_quiet h.registry after.registry (answered_same _ _ (at_key key (told word now s) h) (λ fault. h) h result after h.registry refl (λ fault. refl) refl t)

is_unspent : (seat : Seat) (h : List Past) → 0 < unspent seat h → IsUnspent seat h
is_unspent seat h some = omega (arith, some)

lost_is : (h : Hub) (seat : Seat) (now : ℕ) (s : Session) → (seat_lost seat now s h).registry ≡ with_entry h.registry (entry_of seat.key now (Lost seat.epoch))
unfolding seat_lost
lost_is h seat now s = refl

pub lose_quiet : (h after : Hub) (seat : Seat) (now : ℕ) (s : Session) → 0 < unspent seat h.registry.history → seat_lost seat now s h ≡ after
    → IsQuiet h.registry after.registry
lose_quiet h after seat now s some is =
    entry_quiet h.registry after.registry (entry_of seat.key now (Lost seat.epoch)) (ap (λ (k : Hub). k.registry) (sym is) ∙ lost_is h seat now s)
    (is_unspent seat h.registry.history some) refl

closed_is : (h : Hub) (seat : Seat) (cause : Cause) (now : ℕ) (s : Session)
    → (seat_closed seat cause now s h).registry ≡ with_entry h.registry (entry_of seat.key now (Closed seat.epoch cause))
unfolding seat_closed
closed_is h seat cause now s =
    elim (closes seat.epoch (row h seat.key))
    as (λ b. (enter (entry_of seat.key now (Closed seat.epoch cause)) (cond b (at_key seat.key (end_session cause s) h) h)).registry
    ≡ with_entry h.registry (entry_of seat.key now (Closed seat.epoch cause)))
    [ true ↦ refl | false ↦ refl ]

pub close_quiet : (h after : Hub) (seat : Seat) (cause : Cause) (now : ℕ) (s : Session) → 0 < unspent seat h.registry.history → seat_closed seat cause now s h ≡ after
    → IsQuiet h.registry after.registry
close_quiet h after seat cause now s some is =
    entry_quiet h.registry after.registry (entry_of seat.key now (Closed seat.epoch cause)) (ap (λ (k : Hub). k.registry) (sym is) ∙ closed_is h seat cause now s)
    (is_unspent seat h.registry.history some) refl

-- ---- expiries

other_row : (r : RegistryState) (at : ℕ) (q k : Key) → same_key q k ≡ false → row_of (with_entry r (expiry_of at q)) k ≡ row_of r k
other_row r at q k differ =
    row_of-push r (expiry_of at q) k ∙ change_is k (row_of r k) (expiry_of at q)
    ∙ ap (λ (b : Bool). cond b (option_map expire (row_of r k)) (row_of r k)) differ

abbrev AreOver : RegistryState → ℕ → List Key → Type 0
AreOver r at keys = AllByRecursion (λ k. is_over r (row_of r k) at ≡ true) keys

still_over : (r : RegistryState) (at : ℕ) (q : Key) (keys : List Key) → AllByRecursion (λ k. same_key q k ≡ false) keys → AreOver r at keys
    → AreOver (with_entry r (expiry_of at q)) at keys
still_over r at q [] differ over = tt
still_over r at q (k ∷ ks) differ over =
    (ap (λ row. is_over r row at) (other_row r at q k differ.0) ∙ over.0, still_over r at q ks differ.1 over.1)

expiries_legal : (r : RegistryState) (at : ℕ) (keys : List Key) → IsDistinct same_key keys → AreOver r at keys → IsLegal r
    → IsLegal (with_entries r (map (expiry_of at) keys))
expiries_legal r at [] distinct over legal = subst (λ (h : List Past). IsLegal (record r { history = h })) (sym (append-nil r.history)) legal
expiries_legal r at (q ∷ qs) distinct over legal =
    let rest = expiries_legal (with_entry r (expiry_of at q)) at qs (IsDistinct-tail same_key q qs distinct)
    (still_over r at q qs (IsDistinct-head same_key q qs distinct) over.1) (legal_push r (expiry_of at q) legal over.0) in
    subst (λ (h : List Past). IsLegal (record r { history = h })) (append_assoc r.history (expiry_of at q ∷ []) (map (expiry_of at) qs)) rest

all_over : (r : RegistryState) (at : ℕ) (keys : List Key) → ((k : Key) → list_any (same_key k) keys ≡ true → is_over r (row_of r k) at ≡ true) → AreOver r at keys
all_over r at [] each = tt
all_over r at (k ∷ ks) each = (
  each k (ap (λ (b : Bool). b || list_any (same_key k) ks) (same_key_itself k)),
  all_over r at ks (λ j there. each j (ap (λ (b : Bool). same_key j k || b) there ∙ or-true (same_key j k))),
)

pub expiry_quiet : (before after : RegistryState) (at count : ℕ) → Expires before at count after → IsQuiet before after
expiry_quiet before after at count e = subst (IsQuiet before) (sym e.entered) (record {
  legal = expiries_legal before at e.keys (IsDistinct-from_sorted key_cmp e.keys e.in_order) (all_over before at e.keys (λ k there. sym (e.each k) ∙ there));
  start = refl;
  records = records_expired at before.history e.keys;
})
