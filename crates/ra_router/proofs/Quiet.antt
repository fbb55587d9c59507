-- Steps that change no queue.
use Rattle.std.proofs.Common.{◌≡◌, ℕ, ◌≤◌, Bool, true, false, true≢false, cond, zero, suc, List, [], ◌∷◌, ◌++◌, length, drop, refl, sym, ap, subst, ◌∙◌}
use Rattle.std.specs.Prelude.{ℤ, filter, map, slice_get, Option, Some, None, option_map}
use Rattle.std.proofs.lemmas.Bool.{le-ltb}
use Rattle.std.specs.BTreeMap.{get}
use Rattle.std.specs.Ordering.{nat_cmp}
use Rattle.ra_values.specs.declared.value.Value.{Value}
use Rattle.ra_router.specs.declared.ask.Ask.TheVariants.{BadTo, To, BadReply}
use Rattle.ra_router.specs.declared.ask.Step.{Step}
use Rattle.ra_router.specs.declared.ask.Said.{Said}
use Rattle.ra_router.specs.declared.ask.Said.TheVariants.{BadWindow, Full, Hop, NoSuchCall}
use Rattle.ra_router.specs.declared.acts.Acts.TheVariants.{One}
use Rattle.ra_router.specs.Hops.{Placed, Given, hops, hops_for, nexts_of, hop_limit, is_for, is_next, replies, give, given, hand_over}
use Rattle.ra_router.specs.Queues.{waiting, held}
use Rattle.ra_router.specs.Standing.{Windows, Outs, Stands, AreHeld, hops_at, unsettled, out_of}
use Rattle.ra_router.specs.Stepping.{Did, call}
use Rattle.ra_router.proofs.Kept.{held_stays}
use Rattle.ra_router.proofs.Placed.{same_some}
use Rattle.ra_router.proofs.Snoc.{at_end, hops_same, hops_full, nexts_same}
use Rattle.ra_router.proofs.Unsettled.{same_unsettled}

pub quiet : (made : ℕ) (windows : Windows) (out after : Outs) (past : List Step) (x : Step) → Stands made windows out past
    → hops (past ++ x ∷ []) ≡ hops past → is_next x.ask ≡ false → ((n : ℕ) → get nat_cmp after n ≡ option_map out_of (unsettled (past ++ x ∷ []) n))
    → Stands made windows after (past ++ x ∷ [])
quiet made windows out after past x s same asks outs = record {
  made_is = s.made_is ∙ ap (λ (l : List Placed). length l) (sym same);
  calls_are = λ w. s.calls_are w ∙ ap (map (λ (c : Placed). c.step.id)) (sym (waiting_same w));
  hops_are = λ w. subst (λ (l : List Placed). AreHeld (past ++ x ∷ []) (hops_at windows w) l) (sym (held_same w)) (held_stays past (x ∷ []) (hops_at windows w) (held w past) (s.hops_are w));
  out_are = outs;
}
  where
    for_same : (w : List ℕ) → hops_for w (past ++ x ∷ []) ≡ hops_for w past
    for_same w = ap (filter (is_for w)) same

    waiting_same : (w : List ℕ) → waiting w (past ++ x ∷ []) ≡ waiting w past
    waiting_same w = ap (λ (l : List Placed). drop (length l) (nexts_of w (past ++ x ∷ []))) (for_same w) ∙ ap (drop (length (hops_for w past))) (nexts_same w past x asks)

    held_same : (w : List ℕ) → held w (past ++ x ∷ []) ≡ held w past
    held_same w = ap (λ (l : List Placed). drop (length l) (hops_for w (past ++ x ∷ []))) (nexts_same w past x asks) ∙ ap (drop (length (nexts_of w past))) (for_same w)

-- ---- answers that hand nothing over

abbrev pub is_hop : Said → Bool
is_hop (Hop n arg) = true
is_hop _ = false

pub other_answer : (g : Given) (n : ℕ) (next : Placed) (arg : Value) → is_hop g.told.said ≡ false → ◌≡◌ {A = Option Given} (Some g) (Some (give next (Hop n arg))) → ⊥
other_answer g n next arg is e = true≢false (sym (ap (λ (k : Given). is_hop k.told.said) (same_some g (give next (Hop n arg)) e)) ∙ is)

pub one_answer : (g : Given) (l : List Given) (n : ℕ) → l ≡ g ∷ [] → is_hop g.told.said ≡ false
    → (next : Placed) (arg : Value) (j : ℕ) → slice_get l j ≡ Some (give next (Hop n arg)) → ⊥
one_answer g l n is no_hop next arg zero e = other_answer g n next arg no_hop (ap (λ (k : List Given). slice_get k 0) (sym is) ∙ e)
one_answer g l n is no_hop next arg (suc j) e = gone j (ap (λ (k : List Given). slice_get k (suc j)) (sym is) ∙ e)
  where
    gone : (j : ℕ) → ◌≡◌ {A = Option Given} None (Some (give next (Hop n arg))) → ⊥
    gone j e = cc

-- a step that is answered by one error
refused : (made : ℕ) (windows : Windows) (out : Outs) (past : List Step) (x : Step) (said : Said) → Stands made windows out past
    → given past x ≡ give (at_end past x) said ∷ [] → is_hop said ≡ false
    → hops (past ++ x ∷ []) ≡ hops past → is_next x.ask ≡ false → ((n : ℕ) (w : List ℕ) → replies w n x ≡ false)
    → Did (One (record { key = x.from; id = x.id; said = said })) made windows out past x
refused made windows out past x said s is no_hop same asks other = record {
  tells = ap (map (λ (g : Given). g.told)) (sym is);
  after = quiet made windows out out past x s same asks (λ n. s.out_are n ∙ ap (option_map out_of) (sym (same_unsettled past x n (other n) (one_answer (give (at_end past x) said) (given past x) n is no_hop))));
}

pub bad_to : (made : ℕ) (windows : Windows) (out : Outs) (past : List Step) (from : List ℕ) (id : ℤ) → Stands made windows out past
    → Did (One (record { key = from; id = id; said = BadWindow })) made windows out past (call from id BadTo)
bad_to made windows out past from id s =
    refused made windows out past (call from id BadTo) BadWindow s refl refl (hops_same past (call from id BadTo) refl) refl (λ n w. refl)

pub bad_reply : (made : ℕ) (windows : Windows) (out : Outs) (past : List Step) (from : List ℕ) (id : ℤ) → Stands made windows out past
    → Did (One (record { key = from; id = id; said = NoSuchCall })) made windows out past (call from id BadReply)
bad_reply made windows out past from id s =
    refused made windows out past (call from id BadReply) NoSuchCall s refl refl (hops_same past (call from id BadReply) refl) refl (λ n w. refl)

pub full : (made : ℕ) (windows : Windows) (out : Outs) (past : List Step) (from window : List ℕ) (id : ℤ) (arg : Value) → hop_limit ≤ made → Stands made windows out past
    → Did (One (record { key = from; id = id; said = Full })) made windows out past (call from id (To window arg))
full made windows out past from window id arg limit s =
    let x : Step = call from id (To window arg) in
    let none : hop_limit ≤ length (hops past) = subst (λ (n : ℕ). hop_limit ≤ n) s.made_is limit in
    refused made windows out past x Full s
    (ap (λ (b : Bool). cond b (hand_over (slice_get (nexts_of window past) (length (hops_for window past))) (length (hops past)) arg) (give (at_end past x) Full ∷ [])) (le-ltb (length (hops past)) hop_limit none))
    refl (hops_full past x none) refl (λ n w. refl)
