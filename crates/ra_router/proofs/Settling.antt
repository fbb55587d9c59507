-- A window replies to a hop: the hop is settled, or there is no such call.
use Rattle.std.proofs.Common.{◌≡◌, ℕ, ◌&&◌, Bool, true, false, true≢false, not, cond, zero, suc, List, [], ◌∷◌, ◌++◌, drop, refl, sym, ap, ◌∙◌}
use Rattle.std.specs.Prelude.{ℤ, map, slice_get, Option, Some, None, option_map, ◌==◌, bytes_eq}
use Rattle.std.specs.List.{list_any}
use Rattle.std.specs.Option.{is_some}
use Rattle.std.specs.BTreeMap.{get}
use Rattle.std.specs.Ordering.{nat_cmp}
use Rattle.ra_values.specs.declared.value.Value.{Value}
use Rattle.ra_router.specs.declared.ask.Ask.TheVariants.{Reply}
use Rattle.ra_router.specs.declared.ask.Step.{Step}
use Rattle.ra_router.specs.declared.ask.Said.TheVariants.{Hop, Replied, Done, NoSuchCall}
use Rattle.ra_router.specs.declared.acts.Acts.TheVariants.{One, Two}
use Rattle.ra_router.specs.declared.window.Out.{Out}
use Rattle.ra_router.specs.Hops.{Placed, Delivery, Given, is_for, window_of, give, delivery, delivered_at, replies, open_of, open_hop, settle}
use Rattle.ra_router.specs.Standing.{Windows, Outs, Stands, settled_by, unsettled, unsettled_of, out_of}
use Rattle.ra_router.specs.Stepping.{Did, call}
use Rattle.ra_router.proofs.Bytes.{bytes_same, same_bytes}
use Rattle.ra_router.proofs.Placed.{same_some}
use Rattle.ra_router.proofs.Quiet.{quiet, one_answer, other_answer}
use Rattle.ra_router.proofs.Snoc.{at_end, hops_same}
use Rattle.ra_router.proofs.Unsettled.{IsNoNews, after_step, no_delivery, never_unsettled}

-- a hop that was handed over and has no reply, where it is this window's
abbrev pub of_window : List ℕ → Option Placed → Option Placed
of_window w None = None
of_window w (Some hop) = cond (is_for w hop) (Some hop) None

-- ---- the hop that a reply settles

is_of : (steps : List Step) (w : List ℕ) (n : ℕ) (d : Delivery) (b : Bool) → is_for w d.hop ≡ b
    → cond (b && not (list_any (replies w n) (drop (suc (delivered_at d)) steps))) (Some d.hop) None
    ≡ of_window w (cond (list_any (replies (window_of d.hop.step.ask) n) (drop (suc (delivered_at d)) steps)) None (Some d.hop))
is_of steps w n d false e = sym (other (list_any (replies (window_of d.hop.step.ask) n) (drop (suc (delivered_at d)) steps)))
  where
    other : (r : Bool) → of_window w (cond r None (Some d.hop)) ≡ None
    other true = refl
    other false = ap (λ (k : Bool). cond k (Some d.hop) None) e
is_of steps w n d true e =
    ap (λ (v : List ℕ). cond (not (list_any (replies v n) (drop (suc (delivered_at d)) steps))) (Some d.hop) None) (sym (bytes_same (window_of d.hop.step.ask) w e))
    ∙ own (list_any (replies (window_of d.hop.step.ask) n) (drop (suc (delivered_at d)) steps))
  where
    own : (r : Bool) → cond (not r) (Some d.hop) None ≡ of_window w (cond r None (Some d.hop))
    own true = refl
    own false = sym (ap (λ (k : Bool). cond k (Some d.hop) None) e)

open_is_on : (steps : List Step) (w : List ℕ) (n : ℕ) (o : Option Delivery) → open_of steps w n o ≡ of_window w (unsettled_of steps n o)
open_is_on steps w n None = refl
open_is_on steps w n (Some d) = is_of steps w n d (is_for w d.hop) refl

pub open_is_its : (steps : List Step) (w : List ℕ) (n : ℕ) → open_hop steps w n ≡ of_window w (unsettled steps n)
open_is_its steps w n = open_is_on steps w n (delivery steps n)

-- ---- what is kept of it

settled_out : (w : List ℕ) (o : Option Placed) → settled_by w (option_map out_of o) ≡ option_map out_of (of_window w o)
settled_out w None = refl
settled_out w (Some hop) = on (is_for w hop)
  where
    on : (b : Bool) → cond b (Some (out_of hop)) None ≡ option_map out_of (cond b (Some hop) None)
    on true = refl
    on false = refl

is_some_map : (o : Option Placed) → is_some (option_map out_of o) ≡ is_some o
is_some_map None = refl
is_some_map (Some hop) = refl

out_cond : (b : Bool) (o : Option Placed) → cond b None (option_map out_of o) ≡ option_map out_of (cond b None o)
out_cond true o = refl
out_cond false o = refl

-- ---- what a reply leaves unsettled

eq_swap : (v w : List ℕ) (a b : Bool) → bytes_eq v w ≡ a → bytes_eq w v ≡ b → a ≡ b
eq_swap v w true true e f = refl
eq_swap v w true false e f = absurd (true≢false (sym (same_bytes w v (sym (bytes_same v w e))) ∙ f))
eq_swap v w false true e f = absurd (true≢false (sym (same_bytes v w (sym (bytes_same w v f))) ∙ e))
eq_swap v w false false e f = refl

none_cond : (b : Bool) → ◌≡◌ {A = Option Placed} None (cond b None None)
none_cond true = refl
none_cond false = refl

left_on : (from : List ℕ) (m n : ℕ) (hop : Placed) (any : Bool)
    → cond ((m == n) && bytes_eq from (window_of hop.step.ask)) None (cond any None (Some hop))
    ≡ cond ((m == n) && is_some (of_window from (cond any None (Some hop)))) None (cond any None (Some hop))
left_on from m n hop true = sym (none_cond ((m == n) && bytes_eq from (window_of hop.step.ask))) ∙ none_cond ((m == n) && false)
left_on from m n hop false =
    ap (λ (b : Bool). cond ((m == n) && b) None (Some hop)) (eq_swap from (window_of hop.step.ask) (bytes_eq from (window_of hop.step.ask)) (is_for from hop) refl refl ∙ sym (some_cond (is_for from hop)))
  where
    some_cond : (b : Bool) → is_some (cond b (Some hop) None) ≡ b
    some_cond true = refl
    some_cond false = refl

left : (past : List Step) (from : List ℕ) (id : ℤ) (m n : ℕ) (good : Bool) (value : Value) → IsNoNews past (call from id (Reply m good value)) n
    → (o : Option Delivery) → delivery past n ≡ o
    → unsettled (past ++ call from id (Reply m good value) ∷ []) n ≡ cond ((m == n) && is_some (of_window from (unsettled past n))) None (unsettled past n)
left past from id m n good value news None e =
    let x : Step = call from id (Reply m good value) in
    let gone : unsettled past n ≡ None = never_unsettled past n e in
    never_unsettled (past ++ x ∷ []) n (no_delivery past x n e news (delivery (past ++ x ∷ []) n) refl)
    ∙ none_cond ((m == n) && false) ∙ ap (λ (o : Option Placed). cond ((m == n) && is_some (of_window from o)) None o) (sym gone)
left past from id m n good value news (Some d) e =
    let x : Step = call from id (Reply m good value) in
    let is : unsettled past n ≡ cond (list_any (replies (window_of d.hop.step.ask) n) (drop (suc (delivered_at d)) past)) None (Some d.hop) = ap (unsettled_of past n) e in
    after_step past x n d e
    ∙ ap (cond ((m == n) && bytes_eq from (window_of d.hop.step.ask)) None) is
    ∙ left_on from m n d.hop (list_any (replies (window_of d.hop.step.ask) n) (drop (suc (delivered_at d)) past))
    ∙ ap (λ (o : Option Placed). cond ((m == n) && is_some (of_window from o)) None o) (sym is)

-- ---- what is told

settle_news : (o : Option Placed) (good : Bool) (value : Value) (c : Placed) (n : ℕ) (next : Placed) (arg : Value) (j : ℕ)
    → slice_get (settle o good value c) j ≡ Some (give next (Hop n arg)) → ⊥
settle_news None good value c n next arg j e = one_answer (give c NoSuchCall) (give c NoSuchCall ∷ []) n refl refl next arg j e
settle_news (Some hop) good value c n next arg zero e = other_answer (give hop (Replied good value)) n next arg refl e
settle_news (Some hop) good value c n next arg (suc j) e = one_answer (give c Done) (give c Done ∷ []) n refl refl next arg j e

pub settles : (made : ℕ) (windows : Windows) (out outs : Outs) (past : List Step) (from : List ℕ) (id : ℤ) (number : ℕ) (good : Bool) (value : Value)
    → Stands made windows out past
    → ((n : ℕ) → get nat_cmp outs n ≡ cond ((number == n) && is_some (settled_by from (get nat_cmp out n))) None (get nat_cmp out n))
    → Stands made windows outs (past ++ call from id (Reply number good value) ∷ [])
settles made windows out outs past from id number good value s outs_after =
    quiet made windows out outs past x s (hops_same past x refl) refl (λ n.
    outs_after n
    ∙ ap (λ (o : Option Out). cond ((number == n) && is_some (settled_by from o)) None o) (s.out_are n)
    ∙ ap (λ (b : Bool). cond ((number == n) && b) None (option_map out_of (unsettled past n))) (ap (λ (o : Option Out). is_some o) (settled_out from (unsettled past n)) ∙ is_some_map (of_window from (unsettled past n)))
    ∙ out_cond ((number == n) && is_some (of_window from (unsettled past n))) (unsettled past n)
    ∙ ap (option_map out_of) (sym (left past from id number n good value (λ next arg j e. settle_news (open_hop past from number) good value (at_end past x) n next arg j e) (delivery past n) refl)))
  where
    x : Step
    x = call from id (Reply number good value)

found : (made : ℕ) (windows : Windows) (out : Outs) (past : List Step) (from : List ℕ) (number : ℕ) (kept : Option Out) → Stands made windows out past
    → kept ≡ settled_by from (get nat_cmp out number) → kept ≡ option_map out_of (open_hop past from number)
found made windows out past from number kept s is =
    is ∙ ap (settled_by from) (s.out_are number) ∙ settled_out from (unsettled past number) ∙ ap (option_map out_of) (sym (open_is_its past from number))

told_none : (o : Option Placed) (good : Bool) (value : Value) (c : Placed) → None ≡ option_map out_of o
    → record { key = c.step.from; id = c.step.id; said = NoSuchCall } ∷ [] ≡ map (λ (g : Given). g.told) (settle o good value c)
told_none None good value c is = refl
told_none (Some hop) good value c is = absurd cc

told_some : (o : Option Placed) (good : Bool) (value : Value) (c : Placed) (kept : Out) → Some kept ≡ option_map out_of o
    → record { key = kept.caller; id = kept.id; said = Replied good value } ∷ record { key = c.step.from; id = c.step.id; said = Done } ∷ []
    ≡ map (λ (g : Given). g.told) (settle o good value c)
told_some None good value c kept is = absurd cc
told_some (Some hop) good value c kept is =
    ap (λ (k : Out). record { key = k.caller; id = k.id; said = Replied good value } ∷ record { key = c.step.from; id = c.step.id; said = Done } ∷ []) (some_out kept (out_of hop) is)
  where
    some_out : (a b : Out) → ◌≡◌ {A = Option Out} (Some a) (Some b) → a ≡ b
    some_out a b e = same_some a b e

pub no_such : (made : ℕ) (windows : Windows) (out outs : Outs) (past : List Step) (from : List ℕ) (id : ℤ) (number : ℕ) (good : Bool) (value : Value)
    → Stands made windows out past → None ≡ settled_by from (get nat_cmp out number)
    → ((n : ℕ) → get nat_cmp outs n ≡ cond ((number == n) && is_some (settled_by from (get nat_cmp out n))) None (get nat_cmp out n))
    → Did (One (record { key = from; id = id; said = NoSuchCall })) made windows outs past (call from id (Reply number good value))
no_such made windows out outs past from id number good value s is outs_after = record {
  tells = told_none (open_hop past from number) good value (at_end past (call from id (Reply number good value))) (found made windows out past from number None s is);
  after = settles made windows out outs past from id number good value s outs_after;
}

pub replied : (made : ℕ) (windows : Windows) (out outs : Outs) (past : List Step) (from : List ℕ) (id : ℤ) (number : ℕ) (good : Bool) (value : Value) (kept : Out)
    → Stands made windows out past → Some kept ≡ settled_by from (get nat_cmp out number)
    → ((n : ℕ) → get nat_cmp outs n ≡ cond ((number == n) && is_some (settled_by from (get nat_cmp out n))) None (get nat_cmp out n))
    → Did (Two (record { key = kept.caller; id = kept.id; said = Replied good value }) (record { key = from; id = id; said = Done })) made windows outs past
    (call from id (Reply number good value))
replied made windows out outs past from id number good value kept s is outs_after = record {
  tells = told_some (open_hop past from number) good value (at_end past (call from id (Reply number good value))) kept (found made windows out past from number (Some kept) s is);
  after = settles made windows out outs past from id number good value s outs_after;
}
