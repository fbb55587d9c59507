-- The keys whose rows expire are among those that the history names.
use Rattle.std.proofs.Common.{◌≡◌, ℕ, Bool, true, false, ◌||◌, ◌&&◌, cond, Option, Some, None, option_map, List, [], ◌∷◌, map, filter, fold, max, true≢false, refl, ap, sym, ◌∙◌, subst}
use Rattle.std.specs.List.{list_any}
use Rattle.std.specs.List.Sorted.{IsStrictlySortedBy}
use Rattle.std.proofs.Math.Bool.{and-true, and-false}
use Rattle.std.proofs.lemmas.Map.Views.{any-filter_same}
use Rattle.std.proofs.Math.Path.{fun_ext}
use Rattle.ra_base.specs.Keys.{key_cmp}
use Rattle.ra_base.specs.declared.key.Cause.{Cause}
use Rattle.ra_base.specs.declared.key.Cause.TheVariants.{Stopped}
use Rattle.ra_base.specs.declared.key.Key.{Key}
use Rattle.ra_keep.specs.declared.record.Record.{Record}
use Rattle.ra_registry.specs.declared.past.Past.{Past}
use Rattle.ra_registry.specs.declared.past.Did.{Did}
use Rattle.ra_registry.specs.declared.past.Did.TheVariants as dids
use Rattle.ra_registry.specs.declared.row.Row.{Row}
use Rattle.ra_registry.specs.declared.row.RowState.{RowState}
use Rattle.ra_registry.specs.declared.row.RowState.TheVariants as states
use Rattle.ra_registry.specs.Expiry.{Expires, expiry_of}
use Rattle.ra_registry.specs.Legal.{is_over, is_over_in}
use Rattle.ra_registry.specs.RegistryStates.{RegistryState, with_entries}
use Rattle.ra_registry.specs.RowChanges.{shorten, shorten_in}
use Rattle.ra_registry.specs.Rows.{same_key, epoch_of, stopped, change, own_change, other_change, with_record, start_row, row_of}
use Rattle.ra_registry.proofs.SameKeys.{same_key_is, same_keys_laws}
use Rattle.ra_session.specs.Sessions.{Session}
use Rattle.ra_hub.specs.Hubs.{Hub}
use Rattle.ra_hub.specs.Sweeps.{grace_is_over, IsSwept, swept}
use Rattle.ra_grand_runs.specs.GrandSweeps.{expired_keys, swept_hub}
use Rattle.ra_grand_runs.specs.Grands.{Grand}
use Rattle.ra_grand_server.proofs.OrderedKeys.{sorted_in_order, has_in_order, same_lists}

-- there is no row, or it is closed
abbrev Shut : Option Row → Type 0
Shut None = Unit {0}
Shut (Some row) = (cause : Cause) × (row.state ≡ states.Closed cause)

shorten_shut : (at : ℕ) (row : Option Row) → Shut row → Shut (option_map (shorten at) row)
shorten_shut at None shut = shut
shorten_shut at (Some row) shut = (shut.0, ap (λ (s : RowState). (shorten_in row s at).state) shut.1 ∙ shut.1)

other_shut : (at : ℕ) (did : Did) (row : Option Row) → Shut row → Shut (other_change at did row)
other_shut at (dids.Admitted epoch reconnection) row shut = shorten_shut at row shut
other_shut at (dids.Refused kind reconnection reason) row shut = shorten_shut at row shut
other_shut at (dids.Lost epoch) row shut = shut
other_shut at (dids.Closed epoch cause) row shut = shut
other_shut at dids.Expired row shut = shut
other_shut at dids.Missed row shut = shut

record_shut : (key : Key) (kept : Record) (row : Option Row) → Shut row → Shut (with_record key row kept)
record_shut key kept row shut = by (same_key kept.key key)
  where
    by : (b : Bool) → Shut (cond b (Some (stopped (max kept.epoch (epoch_of row)))) row)
    by true = (Stopped, refl)
    by false = shut

records_shut : (key : Key) (records : List Record) (row : Option Row) → Shut row → Shut (fold (with_record key) row records)
records_shut key [] row shut = shut
records_shut key (kept ∷ records) row shut = records_shut key records (with_record key row kept) (record_shut key kept row shut)

start_shut : (records : List Record) (key : Key) → Shut (start_row records key)
unfolding start_row
start_shut records key = records_shut key records None tt

abbrev names : List Past → List Key
names es = map (λ (e : Past). e.key) es

change_shut : (key : Key) (e : Past) (row : Option Row) → same_key key e.key ≡ false → Shut row → Shut (change key row e)
unfolding change
change_shut key e row other shut =
    subst (λ (b : Bool). Shut (cond b (own_change e.at e.did row) (other_change e.at e.did row))) (sym (same_keys_laws.symm e.key key ∙ other))
    (other_shut e.at e.did row shut)

history_by : (key : Key) (e : Past) (es : List Past) (row : Option Row) (b : Bool) → same_key key e.key ≡ b → (b || list_any (same_key key) (names es)) ≡ false → Shut row
    → (list_any (same_key key) (names es) ≡ false → Shut (change key row e) → Shut (fold (change key) (change key row e) es)) → Shut (fold (change key) (change key row e) es)
history_by key e es row true is all shut rest = absurd (true≢false all)
history_by key e es row false is all shut rest = rest all (change_shut key e row is shut)

history_shut : (key : Key) (es : List Past) (row : Option Row) → list_any (same_key key) (names es) ≡ false → Shut row → Shut (fold (change key) row es)
history_shut key [] row none shut = shut
history_shut key (e ∷ es) row none shut =
    history_by key e es row (same_key key e.key) refl none shut (λ none then. history_shut key es (change key row e) none then)

row_shut : (r : RegistryState) (key : Key) → list_any (same_key key) (names r.history) ≡ false → Shut (row_of r key)
unfolding row_of
row_shut r key none = history_shut key r.history (start_row r.start key) none (start_shut r.start key)

not_over : (r : RegistryState) (row : Option Row) (at : ℕ) → Shut row → is_over r row at ≡ false
not_over r None at shut = refl
not_over r (Some row) at shut = ap (λ (s : RowState). is_over_in r.long_grace r.short_grace row s at) shut.1

-- ---- the keys that expire

over_named : (h : Hub) (now : ℕ) (key : Key) → (grace_is_over h now key && list_any (same_key key) (names h.registry.history)) ≡ grace_is_over h now key
over_named h now key = by (list_any (same_key key) (names h.registry.history)) refl
  where
    by : (b : Bool) → list_any (same_key key) (names h.registry.history) ≡ b → (grace_is_over h now key && b) ≡ grace_is_over h now key
    by true is = and-true (grace_is_over h now key)
    by false is = and-false (grace_is_over h now key) ∙ sym (not_over h.registry (row_of h.registry key) now (row_shut h.registry key is))

has_expired : (w : Grand) (key : Key) → list_any (same_key key) (expired_keys w) ≡ grace_is_over w.hub w.now key
unfolding expired_keys
has_expired w key =
    has_in_order key (filter (grace_is_over w.hub w.now) (names w.hub.registry.history))
    ∙ any-filter_same (same_key key) (grace_is_over w.hub w.now) (grace_is_over w.hub w.now key)
    (λ k is. ap (λ (x : Key). grace_is_over w.hub w.now x) (sym (same_key_is key k is))) (names w.hub.registry.history)
    ∙ over_named w.hub w.now key

expired_sorted : (w : Grand) → IsStrictlySortedBy key_cmp (expired_keys w)
unfolding expired_keys
expired_sorted w = sorted_in_order (filter (grace_is_over w.hub w.now) (names w.hub.registry.history))

pub keys_expire : (w : Grand) (count : ℕ) (after : RegistryState) (expires : Expires w.hub.registry w.now count after) → expires.keys ≡ expired_keys w
keys_expire w count after expires =
    same_lists expires.keys (expired_keys w) expires.in_order (expired_sorted w) (λ q. expires.each q ∙ sym (has_expired w q))

hub_is : (h : Hub) (r : RegistryState) (s : Key → Option Session) → h.registry ≡ r → ((key : Key) → h.session key ≡ s key) → h ≡ record { registry = r; session = s }
hub_is h r s one other =
    ap (λ (x : RegistryState). record { registry = x; session = h.session }) one
    ∙ ap (λ (f : Key → Option Session). record { registry = r; session = f }) (fun_ext other)

pub swept_is : (w : Grand) (expired short : ℕ) (after : Hub) (is : IsSwept w.hub w.now expired short after)
    → after ≡ swept_hub w.now (expired_keys w) is.left w.hub
swept_is w expired short after is =
    hub_is after (with_entries w.hub.registry (map (expiry_of w.now) (expired_keys w)))
    (λ (key : Key). option_map (swept (grace_is_over w.hub w.now key) (list_any (same_key key) is.left) w.now) (w.hub.session key))
    (is.rows.entered ∙ ap (λ (ks : List Key). with_entries w.hub.registry (map (expiry_of w.now) ks)) (keys_expire w expired after.registry is.rows))
    is.sessions
