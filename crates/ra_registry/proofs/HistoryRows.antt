-- The row of a session after one more entry.
use Rattle.std.proofs.Common.{◌≡◌, ℕ, Bool, true, false, cond, [], ◌∷◌, Option, option_map, refl}
use Rattle.std.proofs.lemmas.List.Sums.{fold-append}
use Rattle.ra_base.specs.declared.handshake.Reason.{Reason}
use Rattle.ra_base.specs.declared.kind.Kind.{Kind}
use Rattle.ra_base.specs.declared.key.Key.{Key}
use Rattle.ra_registry.specs.declared.past.Did.TheVariants.{Refused}
use Rattle.ra_registry.specs.declared.past.Past.{Past}
use Rattle.ra_registry.specs.declared.row.Row.{Row}
use Rattle.ra_registry.specs.RowChanges.{shorten}
use Rattle.ra_registry.specs.RegistryStates.{RegistryState, with_entry}
use Rattle.ra_registry.specs.Rows.{same_key, own_change, other_change, change, start_row, row_of}

-- with no entries, the row is that of the start
pub row_of-none : (r : RegistryState) (key : Key) → row_of (record r { history = [] }) key ≡ start_row r.start key
unfolding row_of
row_of-none r key = refl

pub row_of-push : (r : RegistryState) (entry : Past) (key : Key) → row_of (with_entry r entry) key ≡ change key (row_of r key) entry
unfolding row_of
row_of-push r entry key = fold-append (change key) (start_row r.start key) r.history (entry ∷ [])

-- what an entry does to the row of its own session, and to another
pub change_is : (key : Key) (row : Option Row) (entry : Past)
    → change key row entry ≡ cond (same_key entry.key key) (own_change entry.at entry.did row) (other_change entry.at entry.did row)
unfolding change
change_is key row entry = refl

-- a refused request shortens every row
pub refusal_shortens : (key : Key) (row : Option Row) (of : Key) (at : ℕ) (kind : Option Kind) (reconnection : Bool) (reason : Reason)
    → change key row (record { at = at; key = of; did = Refused kind reconnection reason }) ≡ option_map (shorten at) row
unfolding change
refusal_shortens key row of at kind reconnection reason =
    elim (same_key of key) as (λ b. cond b (option_map (shorten at) row) (option_map (shorten at) row) ≡ option_map (shorten at) row) [ true ↦ refl | false ↦ refl ]
