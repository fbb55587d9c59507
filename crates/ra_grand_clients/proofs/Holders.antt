-- The client with a key, and one client more.
use Rattle.std.proofs.Common.{◌≡◌, ℕ, ◌+◌, ◌<◌, ◌≤◌, Bool, true, false, cond, Option, Some, None, List, [], ◌∷◌, ◌++◌, length, drop, refl, ap, sym, ◌∙◌, subst}
use Rattle.std.proofs.lemmas.List.{drop_more, drop_all}
use Rattle.std.specs.Prelude.{slice_index_or}
use Rattle.ra_base.specs.declared.key.Key.{Key}
use Rattle.ra_registry.specs.Rows.{same_key}
use Rattle.ra_grand_clients.specs.ClientStates.{ClientState, StandsForClient}
use Rattle.ra_grand_clients.specs.Crowds.{ClientsStand}
use Rattle.ra_grand_runs.specs.GrandClients.{Client}
use Rattle.ra_grand_runs.specs.GrandRefusals.{holder}

-- ---- keys

abbrev pub held_by : ℕ → Key → List ClientState → Option ℕ
held_by n key [] = None
held_by n key (h ∷ hs) = cond (same_key key h.key) (Some n) (held_by (n + 1) key hs)

pub held_is : (n : ℕ) (key : Key) (hs : List ClientState) (cs : List Client) → ClientsStand hs cs → held_by n key hs ≡ holder n key cs
held_is n key [] [] all = refl
held_is n key [] (c ∷ cs) all = absurd all
held_is n key (h ∷ hs) [] all = absurd all
held_is n key (h ∷ hs) (c ∷ cs) all =
    ap (λ (k : Key). cond (same_key key k) (Some n) (held_by (n + 1) key hs)) (sym (ap (λ (x : Client). x.key) all.0.2 ∙ all.0.1.key))
    ∙ ap (λ (o : Option ℕ). cond (same_key key c.key) (Some n) o) (held_is (n + 1) key hs cs all.1)

held_step : (n : ℕ) (key : Key) (hs : List ClientState) (d : ClientState) → n < length hs
    → held_by (n + 1) key (drop n hs) ≡ cond (same_key key (slice_index_or hs n d).key) (Some (n + 1)) (held_by (n + 1 + 1) key (drop (n + 1) hs))
held_step n key hs d less = ap (λ (xs : List ClientState). held_by (n + 1) key xs) (drop_more hs n d less)

-- the client at this place has it
pub found_holder : (n : ℕ) (key : Key) (hs : List ClientState) (d : ClientState) → held_by (n + 1) key (drop n hs) ≡ held_by 1 key hs → n < length hs
    → same_key key (slice_index_or hs n d).key ≡ true → (cs : List Client) → ClientsStand hs cs → Some (n + 1) ≡ holder 1 key cs
found_holder n key hs d so less same cs all =
    ap (λ (b : Bool). cond b (Some (n + 1)) (held_by (n + 1 + 1) key (drop (n + 1) hs))) (sym same) ∙ sym (held_step n key hs d less) ∙ so ∙ held_is 1 key hs cs all

pub other_holder : (n : ℕ) (key : Key) (hs : List ClientState) (d : ClientState) → held_by (n + 1) key (drop n hs) ≡ held_by 1 key hs → n < length hs
    → same_key key (slice_index_or hs n d).key ≡ false → held_by (n + 1 + 1) key (drop (n + 1) hs) ≡ held_by 1 key hs
other_holder n key hs d so less other =
    ap (λ (b : Bool). cond b (Some (n + 1)) (held_by (n + 1 + 1) key (drop (n + 1) hs))) (sym other) ∙ sym (held_step n key hs d less) ∙ so

-- the same, of the list in memory
pub key_at : (n : ℕ) (key : Key) (items hs : List ClientState) (e d : ClientState) (answer b : Bool) → items ≡ hs → e ≡ slice_index_or items n d → answer ≡ same_key key e.key → answer ≡ b
    → same_key key (slice_index_or hs n d).key ≡ b
key_at n key items hs e d answer b same is asked so =
    ap (λ (h : ClientState). same_key key h.key) (sym (is ∙ ap (λ (xs : List ClientState). slice_index_or xs n d) same)) ∙ sym asked ∙ so

pub no_holder : (n : ℕ) (key : Key) (hs : List ClientState) → held_by (n + 1) key (drop n hs) ≡ held_by 1 key hs → length hs ≤ n
    → (cs : List Client) → ClientsStand hs cs → ◌≡◌ {A = Option ℕ} None (holder 1 key cs)
no_holder n key hs so past cs all = ap (λ (xs : List ClientState). held_by (n + 1) key xs) (sym (drop_all n hs past)) ∙ so ∙ held_is 1 key hs cs all

-- ---- one more

pub more_stand : (hs : List ClientState) (cs : List Client) (h : ClientState) (c : Client) → ClientsStand hs cs → StandsForClient h c → ClientsStand (hs ++ h ∷ []) (cs ++ c ∷ [])
more_stand [] [] h c all is = (is, tt {0})
more_stand [] (x ∷ cs) h c all is = absurd all
more_stand (g ∷ hs) [] h c all is = absurd all
more_stand (g ∷ hs) (x ∷ cs) h c all is = (all.0, more_stand hs cs h c all.1 is)

pub more_pushed : (old hs pushed : List ClientState) (h : ClientState) (c : Client) → hs ≡ old → pushed ≡ hs ++ h ∷ [] → StandsForClient h c
    → (cs : List Client) → ClientsStand old cs → ClientsStand pushed (cs ++ c ∷ [])
more_pushed old hs pushed h c same is stands cs all =
    subst (λ (xs : List ClientState). ClientsStand xs (cs ++ c ∷ [])) (sym is) (more_stand hs cs h c (subst (λ (xs : List ClientState). ClientsStand xs cs) (sym same) all) stands)
