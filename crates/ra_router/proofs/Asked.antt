-- A window asks for a hop: it takes the first that waits, or waits.
use Rattle.std.proofs.Common.{◌≡◌, ℕ, ◌≤◌, ◌<◌, Bool, true, false, true≢false, cond, zero, suc, List, [], ◌∷◌, ◌++◌, length, take, drop, refl, sym, ap, subst, ◌∙◌}
use Rattle.std.specs.Prelude.{ℤ, filter, map, slice_get, Option, Some, None, option_map, ◌==◌, bytes_eq}
use Rattle.std.proofs.lemmas.Bool.{eqb-true, eq-eqb}
use Rattle.std.specs.BTreeMap.{get}
use Rattle.std.specs.Ordering.{nat_cmp}
use Rattle.ra_values.specs.declared.value.Value.{Value}
use Rattle.ra_router.specs.declared.ask.Ask.TheVariants.{Next}
use Rattle.ra_router.specs.declared.ask.Step.{Step}
use Rattle.ra_router.specs.declared.ask.Said.{Said}
use Rattle.ra_router.specs.declared.ask.Said.TheVariants.{Hop}
use Rattle.ra_router.specs.declared.acts.Acts.TheVariants.{Nothing, One}
use Rattle.ra_router.specs.declared.window.Held.{Held}
use Rattle.ra_router.specs.declared.window.Out.{Out}
use Rattle.ra_router.specs.Hops.{Placed, Given, hops, hops_for, nexts_of, is_for, window_of, arg_of, give, given, hand_on}
use Rattle.ra_router.specs.Queues.{waiting, held}
use Rattle.ra_router.specs.Standing.{Windows, Outs, Stands, AreHeld, calls_at, hops_at, next_out, unsettled, out_of}
use Rattle.ra_router.specs.Stepping.{Did, call}
use Rattle.ra_router.proofs.Bytes.{bytes_same}
use Rattle.ra_router.proofs.Handed.{take_number}
use Rattle.ra_router.proofs.Kept.{held_stays, held_less, held_first, held_none, map_more, First}
use Rattle.ra_router.proofs.Placed.{same_some, get_middle, get_filter, stays, grows_hops}
use Rattle.ra_router.proofs.Snoc.{at_end, hops_same, nexts_more, get_drop, some_first, none_first, pops, pops_none, pushes, pushes_none}
use Rattle.ra_router.proofs.Unsettled.{IsNoNews, same_unsettled, now_unsettled}

-- ---- no hop waits

pub waits : (made : ℕ) (windows after : Windows) (out : Outs) (past : List Step) (from : List ℕ) (id : ℤ) → Stands made windows out past
    → slice_get (hops_at windows from) 0 ≡ None
    → ((w : List ℕ) → calls_at after w ≡ cond (bytes_eq from w) (calls_at windows w ++ id ∷ []) (calls_at windows w))
    → ((w : List ℕ) → hops_at after w ≡ hops_at windows w)
    → Did Nothing made after out past (call from id Next)
waits made windows after out past from id s first calls_after hops_after = record {
  tells = ap (map (λ (g : Given). g.told)) (sym tells);
  after = record {
    made_is = s.made_is ∙ ap (λ (l : List Placed). length l) (sym same);
    calls_are = λ w.
        calls_after w ∙ ap (λ (l : List ℤ). cond (bytes_eq from w) (l ++ id ∷ []) l) (s.calls_are w)
        ∙ sym (map_more (λ (c : Placed). c.step.id) (bytes_eq from w) (waiting w past) here)
        ∙ ap (map (λ (c : Placed). c.step.id)) (sym (waiting_more w));
    hops_are = λ w.
        subst (λ (l : List Held). AreHeld whole l (held w whole)) (sym (hops_after w))
        (subst (λ (l : List Placed). AreHeld whole (hops_at windows w) l) (sym (held_same w)) (held_stays past (x ∷ []) (hops_at windows w) (held w past) (s.hops_are w)));
    out_are = λ n. s.out_are n ∙ ap (option_map out_of) (sym (same_unsettled past x n (λ w. refl) (news n)));
  };
}
  where
    x : Step
    x = call from id Next

    here : Placed
    here = at_end past x

    whole : List Step
    whole = past ++ x ∷ []

    same : hops whole ≡ hops past
    same = hops_same past x refl

    for_same : (w : List ℕ) → hops_for w whole ≡ hops_for w past
    for_same w = ap (filter (is_for w)) same

    none : slice_get (held from past) 0 ≡ None
    none = held_none past (hops_at windows from) (held from past) (s.hops_are from) first

    short : (w : List ℕ) → bytes_eq from w ≡ true → length (hops_for w past) ≤ length (nexts_of w past)
    short w is =
        subst (λ (v : List ℕ). length (hops_for v past) ≤ length (nexts_of v past)) (bytes_same from w is)
        (none_first (length (nexts_of from past)) (hops_for from past) none)

    tells : given past x ≡ []
    tells = ap (λ (o : Option Placed). hand_on o past here) (sym (get_drop (length (nexts_of from past)) (hops_for from past)) ∙ none)

    news : (n : ℕ) → IsNoNews past x n
    news n next value j e = gone j (ap (λ (l : List Given). slice_get l j) (sym tells) ∙ e)
      where
        gone : (j : ℕ) → ◌≡◌ {A = Option Given} (slice_get [] j) (Some (give next (Hop n value))) → ⊥
        gone j e = cc

    waiting_more : (w : List ℕ) → waiting w whole ≡ waiting w past ++ cond (bytes_eq from w) (here ∷ []) []
    waiting_more w =
        ap (λ (l : List Placed). drop (length l) (nexts_of w whole)) (for_same w)
        ∙ ap (drop (length (hops_for w past))) (nexts_more w past x refl)
        ∙ pushes (bytes_eq from w) (hops_for w past) (nexts_of w past) here (short w)

    held_same : (w : List ℕ) → held w whole ≡ held w past
    held_same w =
        ap (λ (l : List Placed). drop (length l) (hops_for w whole)) (nexts_more w past x refl)
        ∙ ap (drop (length (nexts_of w past ++ cond (bytes_eq from w) (here ∷ []) []))) (for_same w)
        ∙ pops_none (bytes_eq from w) (hops_for w past) (nexts_of w past) here (short w)

-- ---- a hop waits

pub takes : (made : ℕ) (windows after : Windows) (out outs : Outs) (past : List Step) (from : List ℕ) (id : ℤ) (first : Held) (kept : Out)
    → Stands made windows out past → slice_get (hops_at windows from) 0 ≡ Some first
    → kept ≡ record { window = from; caller = first.caller; id = first.id }
    → ((w : List ℕ) → hops_at after w ≡ cond (bytes_eq from w) (drop 1 (hops_at windows w)) (hops_at windows w))
    → ((w : List ℕ) → calls_at after w ≡ calls_at windows w)
    → ((n : ℕ) → get nat_cmp outs n ≡ cond (first.number == n) (Some kept) (get nat_cmp out n))
    → Did (One (record { key = from; id = id; said = Hop first.number first.arg })) made after outs past (call from id Next)
takes made windows after out outs past from id first kept s front kept_is hops_after calls_after outs_after = record {
  tells = told_is ∙ ap (map (λ (g : Given). g.told)) (sym tells);
  after = record {
    made_is = s.made_is ∙ ap (λ (l : List Placed). length l) (sym same);
    calls_are = λ w. calls_after w ∙ s.calls_are w ∙ ap (map (λ (c : Placed). c.step.id)) (sym (waiting_same w));
    hops_are = λ w.
        subst (λ (l : List Held). AreHeld whole l (held w whole)) (sym (hops_after w))
        (subst (λ (l : List Placed). AreHeld whole (cond (bytes_eq from w) (drop 1 (hops_at windows w)) (hops_at windows w)) l) (sym (held_fewer w))
        (held_less (bytes_eq from w) whole (hops_at windows w) (held w past) (held_stays past (x ∷ []) (hops_at windows w) (held w past) (s.hops_are w))));
    out_are = λ n. outs_after n ∙ out_on n (first.number == n) refl;
  };
}
  where
    x : Step
    x = call from id Next

    here : Placed
    here = at_end past x

    whole : List Step
    whole = past ++ x ∷ []

    same : hops whole ≡ hops past
    same = hops_same past x refl

    for_same : (w : List ℕ) → hops_for w whole ≡ hops_for w past
    for_same w = ap (filter (is_for w)) same

    hop : First past first (held from past)
    hop = held_first past (hops_at windows from) (held from past) first (s.hops_are from) front

    at : slice_get (hops_for from past) (length (nexts_of from past)) ≡ Some hop.hop
    at = sym (get_drop (length (nexts_of from past)) (hops_for from past)) ∙ hop.there

    long : (w : List ℕ) → bytes_eq from w ≡ true → length (nexts_of w past) < length (hops_for w past)
    long w is =
        subst (λ (v : List ℕ). length (nexts_of v past) < length (hops_for v past)) (bytes_same from w is)
        (some_first (length (nexts_of from past)) (hops_for from past) hop.hop hop.there)

    window : window_of hop.hop.step.ask ≡ from
    window = let f = get_filter (is_for from) (hops past) (length (nexts_of from past)) hop.hop at in bytes_same (window_of hop.hop.step.ask) from f.passes

    number : length (hops (take hop.hop.place past)) ≡ first.number
    number = take_number past first.number hop.hop hop.is.number_is

    tells : given past x ≡ give here (Hop first.number first.arg) ∷ []
    tells =
        ap (λ (o : Option Placed). hand_on o past here) at
        ∙ ap (λ (n : ℕ). give here (Hop n (arg_of hop.hop.step.ask)) ∷ []) number
        ∙ ap (λ (v : Value). give here (Hop first.number v) ∷ []) (sym hop.is.arg_is)

    told_is : (give here (Hop first.number first.arg)).told ∷ [] ≡ (give here (Hop first.number first.arg)).told ∷ []
    told_is = refl

    waiting_same : (w : List ℕ) → waiting w whole ≡ waiting w past
    waiting_same w =
        ap (λ (l : List Placed). drop (length l) (nexts_of w whole)) (for_same w)
        ∙ ap (drop (length (hops_for w past))) (nexts_more w past x refl)
        ∙ pushes_none (bytes_eq from w) (hops_for w past) (nexts_of w past) here (long w)

    held_fewer : (w : List ℕ) → held w whole ≡ cond (bytes_eq from w) (drop 1 (held w past)) (held w past)
    held_fewer w =
        ap (λ (l : List Placed). drop (length l) (hops_for w whole)) (nexts_more w past x refl)
        ∙ ap (drop (length (nexts_of w past ++ cond (bytes_eq from w) (here ∷ []) []))) (for_same w)
        ∙ pops (bytes_eq from w) (hops_for w past) (nexts_of w past) here

    number_of : Said → ℕ
    number_of (Hop n value) = n
    number_of _ = 0

    news : (n : ℕ) → (first.number == n) ≡ false → IsNoNews past x n
    news n apart next value zero e =
        let is : first.number ≡ n = ap (λ (k : Given). number_of k.told.said) (same_some (give here (Hop first.number first.arg)) (give next (Hop n value)) (ap (λ (l : List Given). slice_get l 0) (sym tells) ∙ e)) in
        true≢false (sym (eq-eqb first.number n is) ∙ apart)
    news n apart next value (suc j) e = gone j (ap (λ (l : List Given). slice_get l (suc j)) (sym tells) ∙ e)
      where
        gone : (j : ℕ) → ◌≡◌ {A = Option Given} (slice_get [] j) (Some (give next (Hop n value))) → ⊥
        gone j e = cc

    now_out : unsettled whole first.number ≡ Some hop.hop
    now_out =
        now_unsettled past x first.number hop.hop here first.arg 0 (stays (length past) (hops past) (hops whole) (grows_hops past (x ∷ [])) first.number hop.hop hop.is.number_is)
        (get_middle past [] x) refl (ap (λ (l : List Given). slice_get l 0) tells)

    kept_out : kept ≡ out_of hop.hop
    kept_out =
        kept_is ∙ ap (λ (w : List ℕ). out_with w first.caller first.id) (sym window)
        ∙ ap (λ (c : List ℕ). out_with (window_of hop.hop.step.ask) c first.id) hop.is.caller_is
        ∙ ap (out_with (window_of hop.hop.step.ask) hop.hop.step.from) hop.is.id_is
      where
        out_with : List ℕ → List ℕ → ℤ → Out
        out_with w c i = record { window = w; caller = c; id = i }

    out_on : (n : ℕ) (b : Bool) → (first.number == n) ≡ b → cond (first.number == n) (Some kept) (get nat_cmp out n) ≡ option_map out_of (unsettled whole n)
    out_on n true e =
        ap (λ (b : Bool). cond b (Some kept) (get nat_cmp out n)) e ∙ ap Some kept_out ∙ ap (option_map out_of) (sym now_out)
        ∙ ap (λ (k : ℕ). option_map out_of (unsettled whole k)) (eqb-true first.number n e)
    out_on n false e =
        ap (λ (b : Bool). cond b (Some kept) (get nat_cmp out n)) e ∙ s.out_are n ∙ ap (option_map out_of) (sym (same_unsettled past x n (λ w. refl) (news n e)))

-- what is kept of the hop, and its number, are those that were looked up
pub takes_next : (made : ℕ) (windows after : Windows) (out outs : Outs) (past : List Step) (from : List ℕ) (id : ℤ) (number : ℕ) (kept : Out) (hop : Held)
    → Stands made windows out past → Some (number, kept) ≡ option_map (next_out from) (slice_get (hops_at windows from) 0) → slice_get (hops_at windows from) 0 ≡ Some hop
    → ((w : List ℕ) → hops_at after w ≡ cond (bytes_eq from w) (drop 1 (hops_at windows w)) (hops_at windows w))
    → ((w : List ℕ) → calls_at after w ≡ calls_at windows w)
    → ((n : ℕ) → get nat_cmp outs n ≡ cond (number == n) (Some kept) (get nat_cmp out n))
    → Did (One (record { key = from; id = id; said = Hop number hop.arg })) made after outs past (call from id Next)
takes_next made windows after out outs past from id number kept hop s looked front hops_after calls_after outs_after =
    let pair : (number, kept) ≡ next_out from hop = same_some (number, kept) (next_out from hop) (looked ∙ ap (option_map (next_out from)) front) in
    let number_is : number ≡ hop.number = ap (λ (p : ℕ × Out). p.0) pair in
    let kept_is : kept ≡ (next_out from hop).1 = ap (λ (p : ℕ × Out). p.1) pair in
    subst (λ (k : ℕ). Did (One (record { key = from; id = id; said = Hop k hop.arg })) made after outs past (call from id Next)) (sym number_is)
    (takes made windows after out outs past from id hop kept s front kept_is hops_after calls_after
    (λ n. outs_after n ∙ ap (λ (k : ℕ). cond (k == n) (Some kept) (get nat_cmp out n)) number_is))

pub not_looked : (o : Option Held) (from : List ℕ) → None ≡ option_map (next_out from) o → o ≡ None
not_looked None from e = refl
not_looked (Some hop) from e = absurd cc
