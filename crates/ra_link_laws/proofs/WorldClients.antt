-- A world in which one client changes, and its hub does not; and one with a client more.
use Rattle.std.proofs.Common.{◌≡◌, ℕ, zero, suc, ◌+◌, Bool, true, false, true≢false, Option, Some, None, option_map, List, [], ◌∷◌, ◌++◌, length, refl, ap, sym, ◌∙◌, subst}
use Rattle.std.specs.Prelude.{if◌then◌else◌, slice_get, slice_set}
use Rattle.ra_base.specs.declared.key.Key.{Key}
use Rattle.ra_model.specs.Links.{at_number}
use Rattle.ra_registry.specs.declared.row.Row.{Row}
use Rattle.ra_registry.specs.Rows.{same_key}
use Rattle.ra_registry.proofs.SameKeys.{same_key_other_way}
use Rattle.ra_session.specs.Sessions.{Session}
use Rattle.ra_hub.specs.Hubs.{row}
use Rattle.ra_grand_runs.specs.GrandClients.{Client, new_client}
use Rattle.ra_grand_runs.specs.GrandRefusals.{token_taken, holder}
use Rattle.ra_grand_runs.specs.GrandRuns.{joins, with_place}
use Rattle.ra_grand_runs.specs.Grands.{Grand, changed, with_client}
use Rattle.ra_run_laws.proofs.KeptRows.{agree_itself}
use Rattle.ra_run_laws.proofs.Lists.{none_there, there_is, get_front}
use Rattle.ra_link_laws.specs.Parts.{PartHolds, WorldKeeps}
use Rattle.ra_link_laws.proofs.WorldSteps.{world_changes}

-- ---- one client changes

pub world_own : (n : ℕ) (c d : Client) (w : Grand) → WorldKeeps w → slice_get w.clients n ≡ Some c → d.key ≡ c.key
    → PartHolds (w.hub.session c.key) (row w.hub c.key) d → WorldKeeps (record w { clients = slice_set w.clients n d })
world_own n c d w keeps there key part = world_changes n c d w (record w { clients = slice_set w.clients n d }) keeps (record {
  there = there;
  clients = refl;
  key = key;
  others = λ k apart. (refl, agree_itself (row w.hub k));
  part = part;
})

-- what a change of a client keeps
pub record KeepsPart (w : Grand) (n : ℕ) (f : Client → Client) : Type 0 where
  pub key : (c : Client) → (f c).key ≡ c.key
  pub part : (s : Option Session) (o : Option Row) (c : Client) → at_number w.clients n ≡ Some c → PartHolds s o c → PartHolds s o (f c)

world_by : (n : ℕ) (f : Client → Client) (w : Grand) (o : Option Client) → at_number w.clients n ≡ o → KeepsPart w n f → WorldKeeps w
    → WorldKeeps (record w { clients = changed n f o w.clients })
world_by n f w None is kept keeps = keeps
world_by zero f w (Some c) is kept keeps = none_there is
world_by (suc n) f w (Some c) is kept keeps =
    world_own n c (f c) w keeps is (kept.key c) (kept.part (w.hub.session c.key) (row w.hub c.key) c is (keeps.parts n c is))

pub world_client : (n : ℕ) (f : Client → Client) (w : Grand) → KeepsPart w n f → WorldKeeps w → WorldKeeps (with_client n f w)
world_client n f w kept keeps = world_by n f w (at_number w.clients n) refl kept keeps

pub world_place : (n : ℕ) (o : Option Client) (w : Grand) → WorldKeeps w → WorldKeeps (with_place n o w)
world_place n None w keeps = keeps
world_place n (Some c) w keeps = record { parts = keeps.parts; keys = keeps.keys; unknown = keeps.unknown }

-- ---- a client more

free_by : (b : Bool) (m : ℕ) (o : Option ℕ) (P : Type 0) → (if b then Some m else o) ≡ None → (o ≡ None → P) → (b ≡ false) × P
free_by true m o P none more = absurd cc
free_by false m o P none more = (refl, more none)

pub free : (m : ℕ) (key : Key) (cs : List Client) → holder m key cs ≡ None → (n : ℕ) (c : Client) → slice_get cs n ≡ Some c → same_key key c.key ≡ false
free m key [] none n c is = none_there is
free m key (x ∷ cs) none zero c is =
    subst (λ (y : Client). same_key key y.key ≡ false) (there_is is) (free_by (same_key key x.key) m (holder (m + 1) key cs) (Unit {0}) none (λ e. tt)).0
free m key (x ∷ cs) none (suc n) c is =
    (free_by (same_key key x.key) m (holder (m + 1) key cs) (same_key key c.key ≡ false) none (λ e. free (m + 1) key cs e n c is)).1

pub untaken : (o : Option ℕ) → option_map (λ n. token_taken n) o ≡ None → o ≡ None
untaken None none = refl
untaken (Some n) none = absurd cc

-- what stands at a place of a list with one more: it was there, or is the new one
pub data More {X : Type 0} (xs : List X) (new : X) (n : ℕ) (x : X) : Type 0 where
  old : slice_get xs n ≡ Some x → More xs new n x
  last : length xs ≡ n → new ≡ x → More xs new n x

pub more_at : {X : Type 0} → (xs : List X) (new : X) (n : ℕ) (x : X) → slice_get (xs ++ new ∷ []) n ≡ Some x → More xs new n x
more_at [] new zero x is = last refl (there_is is)
more_at [] new (suc n) x is = none_there is
more_at (y ∷ ys) new zero x is = old is
more_at (y ∷ ys) new (suc n) x is = again (more_at ys new n x is)
  where
    again : More ys new n x → More (y ∷ ys) new (suc n) x
    again (old there) = old there
    again (last len same) = last (ap (λ (k : ℕ). suc k) len) same

at_last : {X : Type 0} → (xs : List X) (new : X) → slice_get (xs ++ new ∷ []) (length xs) ≡ Some new
at_last [] new = refl
at_last (y ∷ ys) new = at_last ys new

pub world_joins : (key : Key) (w : Grand) → option_map (λ n. token_taken n) (holder 1 key w.clients) ≡ None → PartHolds None None (new_client key w.now)
    → WorldKeeps w → WorldKeeps (joins key w)
world_joins key w none part keeps = record { parts = parts; keys = keys; unknown = unknown }
  where
    new : Client
    new = new_client key w.now

    fresh : (n : ℕ) (c : Client) → slice_get w.clients n ≡ Some c → same_key key c.key ≡ false
    fresh n c is = free 1 key w.clients (untaken (holder 1 key w.clients) none) n c is

    not_known : (w.hub.session key ≡ None) × (row w.hub key ≡ None)
    not_known = keeps.unknown key (λ n c is. same_key_other_way c.key key ∙ fresh n c is)

    part_at : (n : ℕ) (c : Client) → More w.clients new n c → PartHolds (w.hub.session c.key) (row w.hub c.key) c
    part_at n c (old is) = keeps.parts n c is
    part_at n c (last len same) =
        subst (λ (x : Client). PartHolds (w.hub.session x.key) (row w.hub x.key) x) same
        (subst (λ (s : Option Session). PartHolds s (row w.hub key) new) (sym not_known.0)
        (subst (λ (o : Option Row). PartHolds None o new) (sym not_known.1) part))

    parts : (n : ℕ) (c : Client) → slice_get (w.clients ++ new ∷ []) n ≡ Some c → PartHolds (w.hub.session c.key) (row w.hub c.key) c
    parts n c is = part_at n c (more_at w.clients new n c is)

    keys_at : (n m : ℕ) (c d : Client) → More w.clients new n c → More w.clients new m d → same_key c.key d.key ≡ true → n ≡ m
    keys_at n m c d (old one) (old other) same = keeps.keys n m c d one other same
    keys_at n m c d (old one) (last len is) same =
        absurd (true≢false (sym (ap (λ (x : Client). same_key c.key x.key) is ∙ same) ∙ same_key_other_way c.key key ∙ fresh n c one))
    keys_at n m c d (last len is) (old other) same =
        absurd (true≢false (sym (ap (λ (x : Client). same_key x.key d.key) is ∙ same) ∙ fresh m d other))
    keys_at n m c d (last len is) (last also this) same = sym len ∙ also

    keys : (n m : ℕ) (c d : Client) → slice_get (w.clients ++ new ∷ []) n ≡ Some c → slice_get (w.clients ++ new ∷ []) m ≡ Some d → same_key c.key d.key ≡ true → n ≡ m
    keys n m c d one other same = keys_at n m c d (more_at w.clients new n c one) (more_at w.clients new m d other) same

    unknown : (k : Key) → ((n : ℕ) (c : Client) → slice_get (w.clients ++ new ∷ []) n ≡ Some c → same_key c.key k ≡ false) → (w.hub.session k ≡ None) × (row w.hub k ≡ None)
    unknown k differ = keeps.unknown k (λ n c is. differ n c (get_front w.clients (new ∷ []) n c is))
