-- What holds of a request that no reason is against.
use Rattle.std.proofs.Common.{◌≡◌, ◌≢◌, ℕ, Bool, true, false, not, ◌&&◌, [], ◌∷◌, Option, None, Some, option_map, unwrap_or, is_some, refl, sym, ap, ◌∙◌}
use Rattle.std.specs.Option.{is_none}
use Rattle.ra_base.specs.Outcome.{first_that}
use Rattle.ra_base.specs.declared.handshake.Reason.{Reason}
use Rattle.ra_base.specs.declared.handshake.Reason.TheVariants.{UnknownKind, NeverSeen, SeenBefore, Duplicate}
use Rattle.ra_base.specs.declared.kind.Kind.{Kind}
use Rattle.ra_base.specs.declared.kind.Kind.TheVariants.{Management, Tunnel}
use Rattle.ra_base.specs.declared.handshake.Request.{Request}
use Rattle.ra_base.specs.declared.key.Seat.{Seat}
use Rattle.ra_registry.specs.declared.past.Did.TheVariants.{Admitted}
use Rattle.ra_registry.specs.declared.past.Past.{Past}
use Rattle.ra_registry.specs.declared.row.Row.{Row}
use Rattle.ra_registry.specs.RegistryStates.{RegistryState}
use Rattle.ra_registry.specs.RowChanges.{shorten, is_open}
use Rattle.ra_registry.specs.Rows.{row_of}
use Rattle.ra_registry.specs.Admission.{admission_refusal, admission_entry, seat_for, key_of, is_known, can_reconnect, is_live_row, next_epoch}
use Rattle.ra_registry.proofs.RowLemmas.{each_row, is_open-shorten}

none_of_four : (a b c d : Bool) (w x y z : Reason) → first_that ((a, w) ∷ (b, x) ∷ (c, y) ∷ (d, z) ∷ []) ≡ None
    → (a ≡ false) × (b ≡ false) × (c ≡ false) × (d ≡ false)
none_of_four true b c d w x y z h = cc
none_of_four false true c d w x y z h = cc
none_of_four false false true d w x y z h = cc
none_of_four false false false true w x y z h = cc
none_of_four false false false false w x y z h = (refl, refl, refl, refl)

-- no reason applies
none_applies : (r : RegistryState) (ask : Request) (at : ℕ) → admission_refusal r ask at ≡ None
    → (is_none ask.kind ≡ false) × ((ask.reconnection && not (is_known (row_of r) ask.token)) ≡ false)
    × ((ask.reconnection && not (can_reconnect r ask at)) ≡ false) × ((not ask.reconnection && is_some (row_of r (key_of ask))) ≡ false)
unfolding admission_refusal
none_applies r ask at accepted =
    none_of_four (is_none ask.kind) (ask.reconnection && not (is_known (row_of r) ask.token)) (ask.reconnection && not (can_reconnect r ask at))
    (not ask.reconnection && is_some (row_of r (key_of ask))) UnknownKind NeverSeen SeenBefore Duplicate accepted

none_there : (row : Option Row) → is_some row ≡ false → row ≡ None
none_there None h = refl
none_there (Some row) h = cc

-- a new session has no row
pub accepted_new : (r : RegistryState) (ask : Request) (at : ℕ) → admission_refusal r ask at ≡ None → ask.reconnection ≡ false
    → row_of r (key_of ask) ≡ None
accepted_new r ask at accepted new =
    none_there (row_of r (key_of ask)) (ap (λ b. not b && is_some (row_of r (key_of ask))) (sym new) ∙ (none_applies r ask at accepted).3)

not_not : (b : Bool) → not b ≡ false → b ≡ true
not_not true h = refl
not_not false h = cc

-- a session that is reconnected can be
pub accepted_again : (r : RegistryState) (ask : Request) (at : ℕ) → admission_refusal r ask at ≡ None → ask.reconnection ≡ true
    → can_reconnect r ask at ≡ true
accepted_again r ask at accepted again =
    not_not (can_reconnect r ask at) (ap (λ b. b && not (can_reconnect r ask at)) (sym again) ∙ (none_applies r ask at accepted).2)

some_kind : (kind : Option Kind) → is_none kind ≡ false → kind ≢ Some Tunnel → unwrap_or kind Management ≢ Tunnel
some_kind None h other = cc
some_kind (Some kind) h other = λ e. other (ap Some e)

-- its kind is known
pub accepted_kind : (r : RegistryState) (ask : Request) (at : ℕ) → admission_refusal r ask at ≡ None → ask.kind ≢ Some Tunnel
    → (key_of ask).kind ≢ Tunnel
accepted_kind r ask at accepted other = some_kind ask.kind (none_applies r ask at accepted).0 other

live_open : (long short at : ℕ) (row : Row) → is_live_row long short (Some row) at ≡ true → is_open (Some row) ≡ true
live_open long short at = each_row (λ row. is_live_row long short (Some row) at ≡ true → is_open (Some row) ≡ true)
    (λ e c h. refl) (λ e c l h. refl) (λ e c l s h. refl) (λ e c k h. cc)

live_row_open : (long short at : ℕ) (row : Option Row) → is_live_row long short row at ≡ true → is_open row ≡ true
live_row_open long short at None h = cc
live_row_open long short at (Some row) h = live_open long short at row h

-- its row is not closed
pub again_open : (r : RegistryState) (ask : Request) (at : ℕ) → can_reconnect r ask at ≡ true → is_open (row_of r (key_of ask)) ≡ true
again_open r ask at can =
    sym (is_open-shorten at (row_of r (key_of ask))) ∙ live_row_open r.long_grace r.short_grace at (option_map (shorten at) (row_of r (key_of ask))) can

-- the entry of a new session
pub new_entry : (r : RegistryState) (ask : Request) (at : ℕ) → row_of r (key_of ask) ≡ None → ask.reconnection ≡ false
    → admission_entry r ask at ≡ record { at = at; key = key_of ask; did = Admitted 1 false }
new_entry r ask at none new =
    let with_row : Option Row → Past = λ row. record { at = at; key = key_of ask; did = Admitted (next_epoch row) ask.reconnection } in
    let with_flag : Bool → Past = λ b. record { at = at; key = key_of ask; did = Admitted 1 b } in
    ap with_row none ∙ ap with_flag new

pub new_seat : (r : RegistryState) (ask : Request) → row_of r (key_of ask) ≡ None → seat_for r ask ≡ record { key = key_of ask; epoch = 1 }
new_seat r ask none = let with_row : Option Row → Seat = λ row. record { key = key_of ask; epoch = next_epoch row } in ap with_row none

-- the entry of a session that is reconnected
pub later_entry : (r : RegistryState) (ask : Request) (at : ℕ) → ask.reconnection ≡ true
    → admission_entry r ask at ≡ record { at = at; key = key_of ask; did = Admitted (next_epoch (row_of r (key_of ask))) true }
later_entry r ask at again =
    let with_flag : Bool → Past = λ b. record { at = at; key = key_of ask; did = Admitted (next_epoch (row_of r (key_of ask))) b } in
    ap with_flag again
