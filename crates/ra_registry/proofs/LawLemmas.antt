-- The laws.
use Rattle.std.proofs.Common.{◌≡◌, ◌⊎◌, inl, inr, ℕ, ◌+◌, ◌≤◌, Bool, true, false, not, cond, ◌&&◌, ◌||◌, List, [], ◌∷◌, ◌++◌, length, take, Option, None, Some, option_map, is_some, arith, refl, ap, ◌∙◌}
use Rattle.std.specs.Option.{is_none}
use Rattle.std.proofs.Math.Bool.{or-true}
use Rattle.ra_base.specs.Outcome.{first_that}
use Rattle.ra_base.specs.declared.handshake.Reason.{Reason}
use Rattle.ra_base.specs.declared.handshake.Reason.TheVariants.{UnknownKind, NeverSeen, SeenBefore, Duplicate}
use Rattle.ra_base.specs.declared.handshake.Request.{Request}
use Rattle.ra_base.specs.declared.kind.Kind.{Kind}
use Rattle.ra_base.specs.declared.kind.Kind.TheVariants.{Management, ExtensionHost, Tunnel}
use Rattle.ra_base.specs.declared.key.Key.{Key}
use Rattle.ra_base.specs.declared.key.Seat.{Seat}
use Rattle.ra_registry.specs.declared.past.Did.{Did}
use Rattle.ra_registry.specs.declared.past.Did.TheVariants.{Admitted, Refused, Lost, Closed, Expired, Missed}
use Rattle.ra_registry.specs.declared.past.Past.{Past}
use Rattle.ra_registry.specs.declared.row.Row.{Row}
use Rattle.ra_registry.specs.RegistryStates.{RegistryState, with_entry, up_to}
use Rattle.ra_registry.specs.RowChanges.{shorten, is_open}
use Rattle.ra_registry.specs.Rows.{same_key, own_change, other_change, start_row, row_of}
use Rattle.ra_registry.specs.Admission.{admission_refusal, key_of, is_known, can_reconnect}
use Rattle.ra_registry.specs.Seats.{IsUnspent, admissions, endings, spent, ends, is_of}
use Rattle.ra_registry.specs.Legal.{IsLegal}
use Rattle.ra_registry.proofs.HistoryRows.{row_of-push, change_is}
use Rattle.ra_registry.proofs.LegalHistories.{legal_front}
use Rattle.ra_registry.proofs.SeatCounts.{pushing, ends_within}
use Rattle.ra_registry.proofs.Accepted.{again_open}
use Rattle.ra_registry.proofs.Epochs.{stays_closed}

of_four : (a b c d : Bool) (w x y z : Reason) → a ≡ false → b ≡ false → c ≡ false → d ≡ false
    → first_that ((a, w) ∷ (b, x) ∷ (c, y) ∷ (d, z) ∷ []) ≡ None
of_four a b c d w x y z ea eb ec ed = rw (ea, eb, ec, ed) refl

some_is : (kind : Option Kind) → is_some kind ≡ true → is_none kind ≡ false
some_is None h = cc
some_is (Some kind) h = refl

-- of two tables, the second one counts where no reason of the first applies
pub first_of_both : (xs ys : List (Bool × Reason)) (reason : Reason) → first_that xs ≡ Some reason → first_that (xs ++ ys) ≡ Some reason
first_of_both [] ys reason h = cc
first_of_both (x ∷ xs) ys reason h =
    let here : (b : Bool) → cond b (Some x.1) (first_that xs) ≡ Some reason → cond b (Some x.1) (first_that (xs ++ ys)) ≡ Some reason =
    elim [ true ↦ λ e. e | false ↦ λ e. first_of_both xs ys reason e ] in
    here x.0 h

pub second_of_both : (xs ys : List (Bool × Reason)) → first_that xs ≡ None → first_that (xs ++ ys) ≡ first_that ys
second_of_both [] ys h = refl
second_of_both (x ∷ xs) ys h =
    let here : (b : Bool) → cond b (Some x.1) (first_that xs) ≡ None → cond b (Some x.1) (first_that (xs ++ ys)) ≡ first_that ys =
    elim [ true ↦ λ e. cc | false ↦ λ e. second_of_both xs ys e ] in
    here x.0 h

-- a session that has a row is known
known : (rows : Key → Option Row) (token : List ℕ) (kind : Kind) → is_some (rows (record { kind = kind; token = token })) ≡ true → is_known rows token ≡ true
known rows token Management h = ap (λ b. b || (is_some (rows (record { kind = ExtensionHost; token = token })) || (is_some (rows (record { kind = Tunnel; token = token })) || false))) h
known rows token ExtensionHost h =
    ap (λ b. is_some (rows (record { kind = Management; token = token })) || (b || (is_some (rows (record { kind = Tunnel; token = token })) || false))) h
    ∙ or-true (is_some (rows (record { kind = Management; token = token })))
known rows token Tunnel h =
    ap (λ b. is_some (rows (record { kind = Management; token = token })) || (is_some (rows (record { kind = ExtensionHost; token = token })) || (b || false))) h
    ∙ ap (λ b. is_some (rows (record { kind = Management; token = token })) || b) (or-true (is_some (rows (record { kind = ExtensionHost; token = token }))))
    ∙ or-true (is_some (rows (record { kind = Management; token = token })))

open_there : (row : Option Row) → is_open row ≡ true → is_some row ≡ true
open_there None h = cc
open_there (Some row) h = refl

not_false : (a b : Bool) → b ≡ true → (a && not b) ≡ false
not_false true b h = ap not h
not_false false b h = refl

pub reconnected : (r : RegistryState) (ask : Request) (at : ℕ) → is_some ask.kind ≡ true → ask.reconnection ≡ true → can_reconnect r ask at ≡ true
    → admission_refusal r ask at ≡ None
unfolding admission_refusal
reconnected r ask at kind again can =
    of_four (is_none ask.kind) (ask.reconnection && not (is_known (row_of r) ask.token)) (ask.reconnection && not (can_reconnect r ask at))
    (not ask.reconnection && is_some (row_of r (key_of ask))) UnknownKind NeverSeen SeenBefore Duplicate
    (some_is ask.kind kind)
    (not_false ask.reconnection (is_known (row_of r) ask.token) (known (row_of r) ask.token (key_of ask).kind (open_there (row_of r (key_of ask)) (again_open r ask at can))))
    (not_false ask.reconnection (can_reconnect r ask at) can)
    (ap (λ b. not b && is_some (row_of r (key_of ask))) again)

by_other : (at : ℕ) (did : Did) (row : Option Row) → (other_change at did row ≡ row) ⊎ (other_change at did row ≡ option_map (shorten at) row)
by_other at (Admitted epoch reconnection) row = inr refl
by_other at (Refused kind reconnection reason) row = inr refl
by_other at (Lost epoch) row = inl refl
by_other at (Closed epoch cause) row = inl refl
by_other at Expired row = inl refl
by_other at Missed row = inl refl

pub of_another : (r : RegistryState) (entry : Past) (key : Key) → same_key entry.key key ≡ false
    → (row_of (with_entry r entry) key ≡ row_of r key) ⊎ (row_of (with_entry r entry) key ≡ option_map (shorten entry.at) (row_of r key))
of_another r entry key differ =
    let is : row_of (with_entry r entry) key ≡ other_change entry.at entry.did (row_of r key) =
    row_of-push r entry key ∙ change_is key (row_of r key) entry
    ∙ ap (λ b. cond b (own_change entry.at entry.did (row_of r key)) (other_change entry.at entry.did (row_of r key))) differ in
    elim (by_other entry.at entry.did (row_of r key)) [ inl e ↦ inl (is ∙ e) | inr e ↦ inr (is ∙ e) ]

pub ends_at : (r : RegistryState) → IsLegal r → (n : ℕ) → n ≤ length r.history → endings (take n r.history) ≤ admissions (take n r.history)
ends_at r legal n within = ends_within (up_to n r) (legal_front r n within legal)

-- where the entry ends no seat, or another one
pub stays_unspent : (h : List Past) (entry : Past) (seat : Seat) → (ends entry.did && is_of seat entry) ≡ false → IsUnspent seat h
    → IsUnspent seat (h ++ entry ∷ [])
stays_unspent h entry seat no_end left =
    let p = pushing h entry in
    let same : spent seat (h ++ entry ∷ []) ≡ spent seat h + 0 = p.3 seat ∙ ap (λ b. spent seat h + cond b 1 0) no_end in
    omega (arith, same, p.2 seat, left)

-- a closed row can't be reconnected
not_live : (r : RegistryState) (ask : Request) (at : ℕ) → is_open (row_of r (key_of ask)) ≡ false → can_reconnect r ask at ≡ false
not_live r ask at closed =
    let by : (b : Bool) → can_reconnect r ask at ≡ b → b ≡ false =
    elim [ true ↦ λ e. let opened = again_open r ask at e in cc | false ↦ λ e. refl ] in
    by (can_reconnect r ask at) refl

of_closed : (a b c d : Bool) → a ≡ false → (b ≡ true → c ≡ true) → d ≡ true
    → first_that ((a, UnknownKind) ∷ (b && not c, NeverSeen) ∷ (b && not false, SeenBefore) ∷ (not b && d, Duplicate) ∷ []) ≡ Some (cond b SeenBefore Duplicate)
of_closed true b c d ea ec ed = cc
of_closed false true c d ea ec ed = rw (ec refl) refl
of_closed false false c d ea ec ed = rw ed refl

pub refused_at_start : (r : RegistryState) (ask : Request) (at : ℕ) → IsLegal r → is_some ask.kind ≡ true
    → is_some (start_row r.start (key_of ask)) ≡ true → admission_refusal r ask at ≡ Some (cond ask.reconnection SeenBefore Duplicate)
unfolding admission_refusal
refused_at_start r ask at legal kind there =
    let closed = stays_closed r (key_of ask) legal there in
    let dead = not_live r ask at closed.1 in
    rw dead
    (of_closed (is_none ask.kind) ask.reconnection (is_known (row_of r) ask.token) (is_some (row_of r (key_of ask))) (some_is ask.kind kind)
    (λ e. known (row_of r) ask.token (key_of ask).kind closed.0) closed.0)
