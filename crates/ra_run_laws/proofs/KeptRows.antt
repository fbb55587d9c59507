-- Entries of a history that keep the epoch of every row: all but an admission.
use Rattle.std.proofs.Common.{◌≡◌, ℕ, Bool, true, false, cond, Option, Some, None, option_map, List, [], ◌∷◌, ◌++◌, map, refl, ap, sym, ◌∙◌, subst}
use Rattle.std.specs.Prelude.{◌==◌}
use Rattle.std.specs.Option.{is_some}
use Rattle.ra_base.specs.declared.key.Cause.{Cause}
use Rattle.ra_base.specs.declared.key.Key.{Key}
use Rattle.ra_registry.specs.declared.past.Did.{Did}
use Rattle.ra_registry.specs.declared.past.Did.TheVariants.{Admitted, Refused, Lost, Closed, Expired, Missed}
use Rattle.ra_registry.specs.declared.past.Past.{Past}
use Rattle.ra_registry.specs.declared.row.Row.{Row}
use Rattle.ra_registry.specs.declared.row.RowState.{RowState}
use Rattle.ra_registry.specs.declared.row.RowState.TheVariants as states
use Rattle.ra_registry.specs.Expiry.{expiry_of}
use Rattle.ra_registry.specs.RegistryStates.{RegistryState, with_entry, with_entries}
use Rattle.ra_registry.specs.RowChanges.{shorten, shorten_in, lose, lose_in, close, close_in, expire, admitted_at}
use Rattle.ra_registry.specs.Rows.{same_key, own_change, other_change, row_of, epoch_of}
use Rattle.ra_registry.proofs.HistoryRows.{row_of-push, change_is}
use Rattle.ra_registry.proofs.SameKeys.{same_key_itself}
use Rattle.ra_run_laws.specs.KeptRows.{RowsAgree}

pub agree_itself : (o : Option Row) → RowsAgree o o
agree_itself o = record { epoch = refl; there = refl }

pub agree_trans : (o p q : Option Row) → RowsAgree o p → RowsAgree p q → RowsAgree o q
agree_trans o p q a b = record { epoch = b.epoch ∙ a.epoch; there = b.there ∙ a.there }

agree_map : (f : Row → Row) → ((r : Row) → (f r).epoch ≡ r.epoch) → (o : Option Row) → RowsAgree o (option_map f o)
agree_map f same None = agree_itself None
agree_map f same (Some r) = record { epoch = same r; there = refl }

agree_if : (b : Bool) (o p q : Option Row) → RowsAgree o p → RowsAgree o q → RowsAgree o (cond b p q)
agree_if true o p q so other = so
agree_if false o p q so other = other

-- ---- changes of a row

shortened_epoch : (at : ℕ) (r : Row) (s : RowState) → (shorten_in r s at).epoch ≡ r.epoch
shortened_epoch at r states.Up = refl
shortened_epoch at r (states.Lost lost None) = refl
shortened_epoch at r (states.Lost lost (Some shortened)) = refl
shortened_epoch at r (states.Closed cause) = refl

lost_epoch : (at : ℕ) (r : Row) (s : RowState) → (lose_in r s at).epoch ≡ r.epoch
lost_epoch at r states.Up = refl
lost_epoch at r (states.Lost lost shortened) = refl
lost_epoch at r (states.Closed cause) = refl

closed_epoch : (cause : Cause) (r : Row) (s : RowState) → (close_in r s cause).epoch ≡ r.epoch
closed_epoch cause r states.Up = refl
closed_epoch cause r (states.Lost lost shortened) = refl
closed_epoch cause r (states.Closed before) = refl

if_epoch : (b : Bool) (p r : Row) → p.epoch ≡ r.epoch → (cond b p r).epoch ≡ r.epoch
if_epoch true p r same = same
if_epoch false p r same = refl

-- the entry is no admission
abbrev pub KeepsEpochs : Did → Type 0
KeepsEpochs (Admitted epoch reconnection) = ⊥
KeepsEpochs (Refused kind reconnection reason) = Unit {0}
KeepsEpochs (Lost epoch) = Unit {0}
KeepsEpochs (Closed epoch cause) = Unit {0}
KeepsEpochs Expired = Unit {0}
KeepsEpochs Missed = Unit {0}

own_agrees : (at : ℕ) (did : Did) (o : Option Row) → KeepsEpochs did → RowsAgree o (own_change at did o)
own_agrees at (Admitted epoch reconnection) o keeps = absurd keeps
own_agrees at (Refused kind reconnection reason) o keeps = agree_map (shorten at) (λ r. shortened_epoch at r r.state) o
own_agrees at (Lost epoch) o keeps = agree_map (lose epoch at) (λ r. if_epoch (r.epoch == epoch) (lose_in r r.state at) r (lost_epoch at r r.state)) o
own_agrees at (Closed epoch cause) o keeps = agree_map (close epoch cause) (λ r. if_epoch (r.epoch == epoch) (close_in r r.state cause) r (closed_epoch cause r r.state)) o
own_agrees at Expired o keeps = agree_map expire (λ r. closed_epoch _ r r.state) o
own_agrees at Missed o keeps = agree_itself o

other_agrees : (at : ℕ) (did : Did) (o : Option Row) → RowsAgree o (other_change at did o)
other_agrees at (Admitted epoch reconnection) o = agree_map (shorten at) (λ r. shortened_epoch at r r.state) o
other_agrees at (Refused kind reconnection reason) o = agree_map (shorten at) (λ r. shortened_epoch at r r.state) o
other_agrees at (Lost epoch) o = agree_itself o
other_agrees at (Closed epoch cause) o = agree_itself o
other_agrees at Expired o = agree_itself o
other_agrees at Missed o = agree_itself o

-- ---- rows of a registry

entry_is : (r : RegistryState) (entry : Past) (key : Key)
    → row_of (with_entry r entry) key ≡ cond (same_key entry.key key) (own_change entry.at entry.did (row_of r key)) (other_change entry.at entry.did (row_of r key))
entry_is r entry key = row_of-push r entry key ∙ change_is key (row_of r key) entry

pub entry_agrees : (r : RegistryState) (entry : Past) (key : Key) → KeepsEpochs entry.did → RowsAgree (row_of r key) (row_of (with_entry r entry) key)
entry_agrees r entry key keeps =
    subst (λ (o : Option Row). RowsAgree (row_of r key) o) (sym (entry_is r entry key))
    (agree_if (same_key entry.key key) (row_of r key) _ _ (own_agrees entry.at entry.did (row_of r key) keeps) (other_agrees entry.at entry.did (row_of r key)))

pub other_entry_agrees : (r : RegistryState) (entry : Past) (key : Key) → same_key entry.key key ≡ false → RowsAgree (row_of r key) (row_of (with_entry r entry) key)
other_entry_agrees r entry key apart =
    subst (λ (o : Option Row). RowsAgree (row_of r key) o)
    (sym (entry_is r entry key ∙ ap (λ (b : Bool). cond b (own_change entry.at entry.did (row_of r key)) (other_change entry.at entry.did (row_of r key))) apart))
    (other_agrees entry.at entry.did (row_of r key))

-- the row of the session that is admitted
admitted_epoch : (epoch at : ℕ) (o : Option Row) → (admitted_at epoch at o).epoch ≡ epoch
admitted_epoch epoch at None = refl
admitted_epoch epoch at (Some r) = refl

pub own_entry : (r : RegistryState) (key : Key) (at epoch : ℕ) (reconnection : Bool)
    → (epoch_of (row_of (with_entry r (record { at = at; key = key; did = Admitted epoch reconnection })) key) ≡ epoch)
    × (is_some (row_of (with_entry r (record { at = at; key = key; did = Admitted epoch reconnection })) key) ≡ true)
own_entry r key at epoch reconnection =
    let e : Past = record { at = at; key = key; did = Admitted epoch reconnection } in
    let is : row_of (with_entry r e) key ≡ Some (admitted_at epoch at (row_of r key)) =
    entry_is r e key ∙ ap (λ (b : Bool). cond b (Some (admitted_at epoch at (row_of r key))) (other_change at (Admitted epoch reconnection) (row_of r key))) (same_key_itself key) in
    (ap epoch_of is ∙ admitted_epoch epoch at (row_of r key), ap (λ (o : Option Row). is_some o) is)

-- ---- keys that expire

expired_step : (r : RegistryState) (e : Past) (es : List Past) → with_entries r (e ∷ es) ≡ with_entries (with_entry r e) es
expired_step r e es = ap (λ (h : List Past). record r { history = h }) (more r.history e es)
  where
    more : (xs : List Past) (x : Past) (ys : List Past) → xs ++ x ∷ ys ≡ (xs ++ x ∷ []) ++ ys
    more [] x ys = refl
    more (z ∷ zs) x ys = ap (λ (l : List Past). z ∷ l) (more zs x ys)

no_entries : (r : RegistryState) → with_entries r [] ≡ r
no_entries r = ap (λ (h : List Past). record r { history = h }) (nil r.history)
  where
    nil : (xs : List Past) → xs ++ [] ≡ xs
    nil [] = refl
    nil (z ∷ zs) = ap (λ (l : List Past). z ∷ l) (nil zs)

pub expiries_agree : (now : ℕ) (keys : List Key) (r : RegistryState) (key : Key) → RowsAgree (row_of r key) (row_of (with_entries r (map (expiry_of now) keys)) key)
expiries_agree now [] r key = subst (λ (q : RegistryState). RowsAgree (row_of r key) (row_of q key)) (sym (no_entries r)) (agree_itself (row_of r key))
expiries_agree now (k ∷ ks) r key =
    subst (λ (q : RegistryState). RowsAgree (row_of r key) (row_of q key)) (sym (expired_step r (expiry_of now k) (map (expiry_of now) ks)))
    (agree_trans (row_of r key) (row_of (with_entry r (expiry_of now k)) key) _
    (entry_agrees r (expiry_of now k) key tt) (expiries_agree now ks (with_entry r (expiry_of now k)) key))
