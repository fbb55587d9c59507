-- The row of a key expires in a sweep where its own grace is over, whatever other rows there are.
use Rattle.std.proofs.Common.{◌≡◌, ℕ, Bool, true, false, true≢false, cond, ◌&&◌, ◌||◌, Option, Some, None, option_map, List, [], ◌∷◌, map, filter, fold, max, refl, ap, sym, ◌∙◌, subst}
use Rattle.std.specs.List.{list_any}
use Rattle.std.specs.BTreeSet.{insert_key}
use Rattle.std.specs.Ordering.{match_ordering}
use Rattle.std.specs.declared.cmp.Ordering.{Ordering}
use Rattle.std.specs.declared.cmp.Ordering.TheVariants.{Less, Equal, Greater}
use Rattle.std.proofs.Math.Bool.{and-true, and-false}
use Rattle.std.proofs.lemmas.Map.Views.{any-filter_same}
use Rattle.ra_base.specs.Keys.{key_cmp}
use Rattle.ra_base.proofs.KeyLemmas.{exact_keys}
use Rattle.ra_base.specs.declared.key.Cause.{Cause}
use Rattle.ra_base.specs.declared.key.Cause.TheVariants.{Stopped}
use Rattle.ra_base.specs.declared.key.Key.{Key}
use Rattle.ra_keep.specs.declared.record.Record.{Record}
use Rattle.ra_registry.specs.declared.past.Did.{Did}
use Rattle.ra_registry.specs.declared.past.Did.TheVariants as dids
use Rattle.ra_registry.specs.declared.past.Past.{Past}
use Rattle.ra_registry.specs.declared.row.Row.{Row}
use Rattle.ra_registry.specs.declared.row.RowState.{RowState}
use Rattle.ra_registry.specs.declared.row.RowState.TheVariants as states
use Rattle.ra_registry.specs.Legal.{is_over, is_over_in, is_over_row}
use Rattle.ra_registry.specs.RegistryStates.{RegistryState}
use Rattle.ra_registry.specs.RowChanges.{shorten, shorten_in, expire}
use Rattle.ra_registry.specs.Rows.{same_key, epoch_of, stopped, change, own_change, other_change, with_record, start_row, row_of}
use Rattle.ra_registry.proofs.PresentRows.{expired_rows}
use Rattle.ra_registry.proofs.SameKeys.{same_key_is, same_key_other_way}
use Rattle.ra_session.specs.Sessions.{Session}
use Rattle.ra_hub.specs.Hubs.{Hub, row}
use Rattle.ra_hub.specs.Sweeps.{grace_is_over, swept}
use Rattle.ra_grand_runs.specs.GrandSweeps.{in_order, expired_keys, sweeps}
use Rattle.ra_grand_runs.specs.Grands.{Grand}
use Rattle.ra_grand_runs.specs.Marks.{whole}
use Rattle.ra_isolation_laws.proofs.IsolatedHubs.{Agree}
use Rattle.ra_isolation_laws.proofs.IsolatedWorlds.{Alike, Between, left_itself, others_step}

-- ---- a key that the history does not name

-- there is no row, or it is closed
abbrev Shut : Option Row → Type 0
Shut None = Unit {0}
Shut (Some row) = (cause : Cause) × (row.state ≡ states.Closed cause)

shorten_shut : (at : ℕ) (row : Option Row) → Shut row → Shut (option_map (shorten at) row)
shorten_shut at None shut = shut
shorten_shut at (Some row) shut = (shut.0, ap (λ (s : RowState). (shorten_in row s at).state) shut.1 ∙ shut.1)

other_shut : (at : ℕ) (did : Did) (row : Option Row) → Shut row → Shut (other_change at did row)
other_shut at (dids.Admitted epoch reconnection) row shut = shorten_shut at row shut
other_shut at (dids.Refused kind reconnection reason) row shut = shorten_shut at row shut
other_shut at (dids.Lost epoch) row shut = shut
other_shut at (dids.Closed epoch cause) row shut = shut
other_shut at dids.Expired row shut = shut
other_shut at dids.Missed row shut = shut

records_shut : (key : Key) (records : List Record) (row : Option Row) → Shut row → Shut (fold (with_record key) row records)
records_shut key [] row shut = shut
records_shut key (kept ∷ records) row shut = records_shut key records (with_record key row kept) (by (same_key kept.key key))
  where
    by : (b : Bool) → Shut (cond b (Some (stopped (max kept.epoch (epoch_of row)))) row)
    by true = (Stopped, refl)
    by false = shut

start_shut : (records : List Record) (key : Key) → Shut (start_row records key)
unfolding start_row
start_shut records key = records_shut key records None tt

abbrev names : List Past → List Key
names es = map (λ (e : Past). e.key) es

change_shut : (key : Key) (e : Past) (row : Option Row) → same_key key e.key ≡ false → Shut row → Shut (change key row e)
unfolding change
change_shut key e row other shut =
    subst (λ (b : Bool). Shut (cond b (own_change e.at e.did row) (other_change e.at e.did row))) (sym (same_key_other_way e.key key ∙ other))
    (other_shut e.at e.did row shut)

history_by : (key : Key) (e : Past) (es : List Past) (row : Option Row) (b : Bool) → same_key key e.key ≡ b → (b || list_any (same_key key) (names es)) ≡ false → Shut row
    → (list_any (same_key key) (names es) ≡ false → Shut (change key row e) → Shut (fold (change key) (change key row e) es)) → Shut (fold (change key) (change key row e) es)
history_by key e es row true is all shut rest = absurd (true≢false all)
history_by key e es row false is all shut rest = rest all (change_shut key e row is shut)

history_shut : (key : Key) (es : List Past) (row : Option Row) → list_any (same_key key) (names es) ≡ false → Shut row → Shut (fold (change key) row es)
history_shut key [] row none shut = shut
history_shut key (e ∷ es) row none shut =
    history_by key e es row (same_key key e.key) refl none shut (λ none then. history_shut key es (change key row e) none then)

row_shut : (r : RegistryState) (key : Key) → list_any (same_key key) (names r.history) ≡ false → Shut (row_of r key)
unfolding row_of
row_shut r key none = history_shut key r.history (start_row r.start key) none (start_shut r.start key)

not_over : (r : RegistryState) (row : Option Row) (at : ℕ) → Shut row → is_over r row at ≡ false
not_over r None at shut = refl
not_over r (Some row) at shut = ap (λ (s : RowState). is_over_in r.long_grace r.short_grace row s at) shut.1

-- ---- the keys that expire

abbrev has : List Key → Key → Bool
has ks q = list_any (same_key q) ks

has_by : (q k x : Key) (xs rest : List Key) (o : Ordering) → key_cmp k x ≡ o → has rest q ≡ (same_key q k || has xs q)
    → has (match_ordering o (k ∷ x ∷ xs) (x ∷ xs) (x ∷ rest)) q ≡ (same_key q k || (same_key q x || has xs q))
has_by q k x xs rest Less e more = refl
has_by q k x xs rest Equal e more =
    twice (same_key q x) (has xs q) ∙ ap (λ (y : Key). same_key q y || (same_key q x || has xs q)) (sym (exact_keys k x e))
  where
    twice : (a b : Bool) → (a || b) ≡ (a || (a || b))
    twice true b = refl
    twice false b = refl
has_by q k x xs rest Greater e more = ap (λ b. same_key q x || b) more ∙ swapped (same_key q x) (same_key q k) (has xs q)
  where
    swapped : (a b c : Bool) → (a || (b || c)) ≡ (b || (a || c))
    swapped true true c = refl
    swapped true false c = refl
    swapped false true c = refl
    swapped false false c = refl

has_more : (q k : Key) (ks : List Key) → has (insert_key key_cmp ks k) q ≡ (same_key q k || has ks q)
has_more q k [] = refl
has_more q k (x ∷ xs) = has_by q k x xs (insert_key key_cmp xs k) (key_cmp k x) refl (has_more q k xs)

has_in_order : (q : Key) (ks : List Key) → has (in_order ks) q ≡ has ks q
has_in_order q [] = refl
has_in_order q (k ∷ ks) = has_more q k (in_order ks) ∙ ap (λ b. same_key q k || b) (has_in_order q ks)

over_named : (h : Hub) (now : ℕ) (key : Key) → (grace_is_over h now key && list_any (same_key key) (names h.registry.history)) ≡ grace_is_over h now key
over_named h now key = by (list_any (same_key key) (names h.registry.history)) refl
  where
    by : (b : Bool) → list_any (same_key key) (names h.registry.history) ≡ b → (grace_is_over h now key && b) ≡ grace_is_over h now key
    by true is = and-true (grace_is_over h now key)
    by false is = and-false (grace_is_over h now key) ∙ sym (not_over h.registry (row_of h.registry key) now (row_shut h.registry key is))

has_expired : (w : Grand) (key : Key) → list_any (same_key key) (expired_keys w) ≡ grace_is_over w.hub w.now key
unfolding expired_keys
has_expired w key =
    has_in_order key (filter (grace_is_over w.hub w.now) (names w.hub.registry.history))
    ∙ any-filter_same (same_key key) (grace_is_over w.hub w.now) (grace_is_over w.hub w.now key)
    (λ k is. ap (λ (x : Key). grace_is_over w.hub w.now x) (sym (same_key_is key k is))) (names w.hub.registry.history)
    ∙ over_named w.hub w.now key

-- ---- a sweep

-- the row after a sweep
row_after : (w : Grand) (key : Key) → row (sweeps whole w).hub key ≡ cond (grace_is_over w.hub w.now key) (option_map expire (row w.hub key)) (row w.hub key)
unfolding sweeps
row_after w key =
    expired_rows w.hub.registry w.now (expired_keys w) key
    ∙ ap (λ (b : Bool). cond b (option_map expire (row w.hub key)) (row w.hub key)) (has_expired w key)

same_grace : (key : Key) (w a : Grand) → w.now ≡ a.now → Agree key w.hub a.hub → grace_is_over w.hub w.now key ≡ grace_is_over a.hub a.now key
same_grace key w a now agree =
    ap (λ (r : RegistryState). is_over_row r.long_grace r.short_grace (row w.hub key) w.now) agree.times
    ∙ ap (λ (o : Option Row). is_over_row a.hub.registry.long_grace a.hub.registry.short_grace o w.now) agree.row_is
    ∙ ap (λ (t : ℕ). is_over_row a.hub.registry.long_grace a.hub.registry.short_grace (row a.hub key) t) now

agree_swept : (key : Key) (w a : Grand) → w.now ≡ a.now → Agree key w.hub a.hub → Agree key (sweeps whole w).hub (sweeps whole a).hub
unfolding sweeps
agree_swept key w a now agree =
    let over = same_grace key w a now agree in record {
      session =
          ap (λ (b : Bool). option_map (swept b false w.now) (w.hub.session key)) over
          ∙ ap (λ (t : ℕ). option_map (swept (grace_is_over a.hub a.now key) false t) (w.hub.session key)) now
          ∙ ap (λ (o : Option Session). option_map (swept (grace_is_over a.hub a.now key) false a.now) o) agree.session;
      row_is =
          row_after w key
          ∙ ap (λ (b : Bool). cond b (option_map expire (row w.hub key)) (row w.hub key)) over
          ∙ ap (λ (o : Option Row). cond (grace_is_over a.hub a.now key) (option_map expire o) o) agree.row_is
          ∙ sym (row_after a key);
      times = agree.times;
    }

pub alike_swept : (key : Key) (w a : Grand) → Between w (sweeps whole w) → Alike key w a → Alike key (sweeps whole w) (sweeps whole a)
unfolding sweeps
alike_swept key w a between alike =
    others_step key w (sweeps whole w) a (sweeps whole a) between alike (left_itself key w.clients w.clients refl) refl refl alike.now
    (agree_swept key w a alike.now alike.hub) alike.jobs_are
