-- Which sessions have a row, entry by entry.
use Rattle.std.proofs.Common.{◌≡◌, ◌⊎◌, inl, inr, ℕ, Bool, true, false, cond, List, [], ◌∷◌, map, ◌||◌, Option, option_map, is_some, refl, sym, ap, ◌∙◌}
use Rattle.std.specs.List.{list_any}
use Rattle.ra_base.specs.declared.key.Key.{Key}
use Rattle.ra_registry.specs.declared.past.Did.{Did}
use Rattle.ra_registry.specs.declared.past.Did.TheVariants.{Admitted, Refused, Lost, Closed, Expired, Missed}
use Rattle.ra_registry.specs.declared.past.Past.{Past}
use Rattle.ra_registry.specs.declared.row.Row.{Row}
use Rattle.ra_registry.specs.RegistryStates.{RegistryState, with_entry, with_entries}
use Rattle.ra_registry.specs.RowChanges.{shorten, lose, close, expire}
use Rattle.ra_registry.specs.Rows.{same_key, own_change, other_change, row_of}
use Rattle.ra_registry.specs.Seats.{admits}
use Rattle.ra_registry.specs.Expiry.{expiry_of}
use Rattle.ra_registry.specs.TableChanges.{has_key}
use Rattle.ra_registry.proofs.SameKeys.{same_key_other_way}
use Rattle.ra_registry.proofs.HistoryRows.{row_of-push, change_is}
use Rattle.ra_registry.proofs.Epochs.{is_some-map}
use Rattle.ra_registry.proofs.Expiries.{row_of-expiries}

-- a row that another session's entry leaves there, and takes from nowhere
other_there : (at : ℕ) (did : Did) (row : Option Row) → is_some (other_change at did row) ≡ is_some row
other_there at (Admitted epoch reconnection) row = is_some-map (shorten at) row
other_there at (Refused kind reconnection reason) row = is_some-map (shorten at) row
other_there at (Lost epoch) row = refl
other_there at (Closed epoch cause) row = refl
other_there at Expired row = refl
other_there at Missed row = refl

-- only an admission makes a row
own_there : (at : ℕ) (did : Did) (row : Option Row) → is_some (own_change at did row) ≡ (admits did || is_some row)
own_there at (Admitted epoch reconnection) row = refl
own_there at (Refused kind reconnection reason) row = is_some-map (shorten at) row
own_there at (Lost epoch) row = is_some-map (lose epoch at) row
own_there at (Closed epoch cause) row = is_some-map (close epoch cause) row
own_there at Expired row = is_some-map expire row
own_there at Missed row = refl

there_after : (r : RegistryState) (entry : Past) (key : Key)
    → is_some (row_of (with_entry r entry) key)
    ≡ is_some (cond (same_key entry.key key) (own_change entry.at entry.did (row_of r key)) (other_change entry.at entry.did (row_of r key)))
there_after r entry key = ap is_some (row_of-push r entry key ∙ change_is key (row_of r key) entry)

some_or : (a b : Bool) → b ≡ true → (a || b) ≡ true
some_or true b h = refl
some_or false b h = h

either : (a b : Bool) → (a || b) ≡ true → (b ≡ true) ⊎ (a ≡ true)
either true b h = inr refl
either false b h = inl h

-- a row never vanishes
pub stays_there : (r : RegistryState) (entry : Past) (key : Key) → is_some (row_of r key) ≡ true → is_some (row_of (with_entry r entry) key) ≡ true
stays_there r entry key there =
    let row = row_of r key in
    let here : (b : Bool) → is_some (cond b (own_change entry.at entry.did row) (other_change entry.at entry.did row)) ≡ true =
    elim [
      | true ↦ own_there entry.at entry.did row ∙ some_or (admits entry.did) (is_some row) there
      | false ↦ other_there entry.at entry.did row ∙ there
    ] in
    there_after r entry key ∙ here (same_key entry.key key)

-- a row that is there was there before, or its session was admitted
pub made_there : (r : RegistryState) (entry : Past) (key : Key) → is_some (row_of (with_entry r entry) key) ≡ true
    → (is_some (row_of r key) ≡ true) ⊎ ((admits entry.did ≡ true) × (same_key entry.key key ≡ true))
made_there r entry key there =
    let row = row_of r key in
    let here : (b : Bool) → same_key entry.key key ≡ b
    → is_some (cond b (own_change entry.at entry.did row) (other_change entry.at entry.did row)) ≡ true
    → (is_some row ≡ true) ⊎ ((admits entry.did ≡ true) × (same_key entry.key key ≡ true)) =
    elim [
      | true ↦ λ e h.
          elim (either (admits entry.did) (is_some row) (sym (own_there entry.at entry.did row) ∙ h)) [
            | inl before ↦ inl before
            | inr admitted ↦ inr (admitted, e)
          ]
      | false ↦ λ e h. inl (sym (other_there entry.at entry.did row) ∙ h)
    ] in
    here (same_key entry.key key) refl (sym (there_after r entry key) ∙ there)

-- the keys of expiries
expired_keys : (at : ℕ) (keys : List Key) (key : Key) → has_key (map (expiry_of at) keys) key ≡ list_any (same_key key) keys
expired_keys at [] key = refl
expired_keys at (q ∷ qs) key =
    ap (λ b. b || has_key (map (expiry_of at) qs) key) (same_key_other_way q key) ∙ ap (λ b. same_key key q || b) (expired_keys at qs key)

pub expired_rows : (r : RegistryState) (at : ℕ) (keys : List Key) (key : Key)
    → row_of (with_entries r (map (expiry_of at) keys)) key ≡ cond (list_any (same_key key) keys) (option_map expire (row_of r key)) (row_of r key)
expired_rows r at keys key =
    row_of-expiries r at keys key ∙ ap (λ b. cond b (option_map expire (row_of r key)) (row_of r key)) (expired_keys at keys key)

pub expired_there : (r : RegistryState) (at : ℕ) (keys : List Key) (key : Key)
    → is_some (row_of (with_entries r (map (expiry_of at) keys)) key) ≡ is_some (row_of r key)
expired_there r at keys key =
    let here : (b : Bool) → is_some (cond b (option_map expire (row_of r key)) (row_of r key)) ≡ is_some (row_of r key) =
    elim [ true ↦ is_some-map expire (row_of r key) | false ↦ refl ] in
    ap is_some (expired_rows r at keys key) ∙ here (list_any (same_key key) keys)
