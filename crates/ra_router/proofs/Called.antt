-- A call to a window: its hop is handed over, or waits.
use Rattle.std.proofs.Common.{◌≡◌, ℕ, ◌+◌, ◌≤◌, ◌<◌, ◌&&◌, Bool, true, false, true≢false, cond, zero, suc, List, [], ◌∷◌, ◌++◌, length, drop, refl, sym, ap, subst, ◌∙◌, arith}
use Rattle.std.specs.Prelude.{ℤ, map, slice_get, Option, Some, None, option_map, ◌==◌, bytes_eq}
use Rattle.std.proofs.lemmas.Bool.{lt-ltb, eqb-true, eq-eqb}
use Rattle.std.specs.BTreeMap.{get}
use Rattle.std.specs.Ordering.{nat_cmp}
use Rattle.ra_values.specs.declared.value.Value.{Value}
use Rattle.ra_router.specs.declared.ask.Ask.TheVariants.{To}
use Rattle.ra_router.specs.declared.ask.Step.{Step}
use Rattle.ra_router.specs.declared.ask.Said.{Said}
use Rattle.ra_router.specs.declared.ask.Said.TheVariants.{Full, Hop}
use Rattle.ra_router.specs.declared.ask.Told.{Told}
use Rattle.ra_router.specs.declared.acts.Acts.TheVariants.{Nothing, One}
use Rattle.ra_router.specs.declared.window.Held.{Held}
use Rattle.ra_router.specs.declared.window.Out.{Out}
use Rattle.ra_router.specs.Hops.{Placed, Given, hops, hops_for, nexts_of, hop_limit, is_next, give, given, hand_over}
use Rattle.ra_router.specs.Queues.{waiting, held}
use Rattle.ra_router.specs.Standing.{Windows, Outs, Stands, IsHeld, AreHeld, calls_at, hops_at, unsettled, out_of}
use Rattle.ra_router.specs.Stepping.{Did, call}
use Rattle.ra_router.proofs.Answered.{next_there, and_left, and_right}
use Rattle.ra_router.proofs.Bytes.{bytes_same}
use Rattle.ra_router.proofs.Kept.{held_stays, held_more, map_less, map_first, map_none, FirstCall}
use Rattle.ra_router.proofs.Nexts.{hop_gained}
use Rattle.ra_router.proofs.Placed.{same_some, get_left}
use Rattle.ra_router.proofs.Snoc.{at_end, hops_more, hops_for_more, nexts_same, get_drop, some_first, none_first, pops, pops_none, pushes, pushes_none}
use Rattle.ra_router.proofs.Unsettled.{IsNoNews, same_unsettled, now_unsettled}

over_is : (past : List Step) (caller window : List ℕ) (id : ℤ) (arg : Value) (o : Option Placed) → length (hops past) < hop_limit
    → slice_get (nexts_of window past) (length (hops_for window past)) ≡ o
    → given past (call caller id (To window arg)) ≡ hand_over o (length (hops past)) arg
over_is past caller window id arg o room is =
    ap (λ (b : Bool). cond b (hand_over (slice_get (nexts_of window past) (length (hops_for window past))) (length (hops past)) arg) (give (at_end past (call caller id (To window arg))) Full ∷ []))
    (lt-ltb (length (hops past)) hop_limit room)
    ∙ ap (λ (k : Option Placed). hand_over k (length (hops past)) arg) is

one_more : (made : ℕ) (past : List Step) (x : Step) → hops (past ++ x ∷ []) ≡ hops past ++ at_end past x ∷ [] → made ≡ length (hops past)
    → made + 1 ≡ length (hops (past ++ x ∷ []))
one_more made past x grown is = ap (λ (n : ℕ). n + 1) is ∙ plus (hops past) (at_end past x) ∙ ap (λ (l : List Placed). length l) (sym grown)
  where
    plus : (l : List Placed) (p : Placed) → length l + 1 ≡ length (l ++ p ∷ [])
    plus [] p = refl
    plus (y ∷ ys) p = let e = plus ys p in omega arith

-- ---- no call waits

pub holds : (made : ℕ) (windows after : Windows) (out : Outs) (past : List Step) (caller window : List ℕ) (id : ℤ) (arg : Value) (kept : Held)
    → made < hop_limit → Stands made windows out past → slice_get (calls_at windows window) 0 ≡ None
    → kept ≡ record { number = made; caller = caller; id = id; arg = arg }
    → ((w : List ℕ) → hops_at after w ≡ cond (bytes_eq window w) (hops_at windows w ++ kept ∷ []) (hops_at windows w))
    → ((w : List ℕ) → calls_at after w ≡ calls_at windows w)
    → Did Nothing (made + 1) after out past (call caller id (To window arg))
holds made windows after out past caller window id arg kept low s first is hops_after calls_after = record {
  tells = ap (map (λ (g : Given). g.told)) (sym tells);
  after = record {
    made_is = one_more made past x grown s.made_is;
    calls_are = λ w. calls_after w ∙ s.calls_are w ∙ ap (map (λ (c : Placed). c.step.id)) (sym (waiting_same w));
    hops_are = λ w.
        subst (λ (l : List Held). AreHeld whole l (held w whole)) (sym (hops_after w))
        (subst (λ (l : List Placed). AreHeld whole (cond (bytes_eq window w) (hops_at windows w ++ kept ∷ []) (hops_at windows w)) l) (sym (held_grown w))
        (held_more (bytes_eq window w) whole (hops_at windows w) (held w past) kept here (held_stays past (x ∷ []) (hops_at windows w) (held w past) (s.hops_are w)) now_held));
    out_are = λ n. s.out_are n ∙ ap (option_map out_of) (sym (same_unsettled past x n (λ w. refl) (news n)));
  };
}
  where
    x : Step
    x = call caller id (To window arg)

    here : Placed
    here = at_end past x

    whole : List Step
    whole = past ++ x ∷ []

    room : length (hops past) < hop_limit
    room = subst (λ (n : ℕ). n < hop_limit) s.made_is low

    grown : hops whole ≡ hops past ++ here ∷ []
    grown = hops_more past x room refl

    none : slice_get (waiting window past) 0 ≡ None
    none = map_none (λ (c : Placed). c.step.id) (waiting window past) (ap (λ (l : List ℤ). slice_get l 0) (sym (s.calls_are window)) ∙ first)

    short : (w : List ℕ) → bytes_eq window w ≡ true → length (nexts_of w past) ≤ length (hops_for w past)
    short w same =
        subst (λ (v : List ℕ). length (nexts_of v past) ≤ length (hops_for v past)) (bytes_same window w same)
        (none_first (length (hops_for window past)) (nexts_of window past) none)

    tells : given past x ≡ []
    tells = over_is past caller window id arg None room (sym (get_drop (length (hops_for window past)) (nexts_of window past)) ∙ none)

    news : (n : ℕ) → IsNoNews past x n
    news n next value j e = gone j (ap (λ (l : List Given). slice_get l j) (sym tells) ∙ e)
      where
        gone : (j : ℕ) → ◌≡◌ {A = Option Given} (slice_get [] j) (Some (give next (Hop n value))) → ⊥
        gone j e = cc

    waiting_same : (w : List ℕ) → waiting w whole ≡ waiting w past
    waiting_same w =
        ap (λ (l : List Placed). drop (length l) (nexts_of w whole)) (hops_for_more w past x room refl)
        ∙ ap (drop (length (hops_for w past ++ cond (bytes_eq window w) (here ∷ []) []))) (nexts_same w past x refl)
        ∙ pops_none (bytes_eq window w) (nexts_of w past) (hops_for w past) here (short w)

    held_grown : (w : List ℕ) → held w whole ≡ held w past ++ cond (bytes_eq window w) (here ∷ []) []
    held_grown w =
        ap (λ (l : List Placed). drop (length l) (hops_for w whole)) (nexts_same w past x refl)
        ∙ ap (drop (length (nexts_of w past))) (hops_for_more w past x room refl)
        ∙ pushes (bytes_eq window w) (nexts_of w past) (hops_for w past) here (short w)

    now_held : IsHeld whole kept here
    now_held = subst (λ (k : Held). IsHeld whole k here) (sym is) (record {
      number_is = ap (slice_get (hops whole)) s.made_is ∙ hop_gained past [] x refl room;
      caller_is = refl;
      id_is = refl;
      arg_is = refl;
    })

-- ---- a call waits

pub hands_over : (made : ℕ) (windows after : Windows) (out outs : Outs) (past : List Step) (caller window : List ℕ) (id waits : ℤ) (arg : Value) (kept : Out)
    → made < hop_limit → Stands made windows out past → slice_get (calls_at windows window) 0 ≡ Some waits
    → kept ≡ record { window = window; caller = caller; id = id }
    → ((w : List ℕ) → calls_at after w ≡ cond (bytes_eq window w) (drop 1 (calls_at windows w)) (calls_at windows w))
    → ((w : List ℕ) → hops_at after w ≡ hops_at windows w)
    → ((n : ℕ) → get nat_cmp outs n ≡ cond (made == n) (Some kept) (get nat_cmp out n))
    → Did (One (record { key = window; id = waits; said = Hop made arg })) (made + 1) after outs past (call caller id (To window arg))
hands_over made windows after out outs past caller window id waits arg kept low s first is calls_after hops_after outs_after = record {
  tells = told_is ∙ ap (map (λ (g : Given). g.told)) (sym tells);
  after = record {
    made_is = one_more made past x grown s.made_is;
    calls_are = λ w.
        calls_after w ∙ ap (λ (l : List ℤ). cond (bytes_eq window w) (drop 1 l) l) (s.calls_are w)
        ∙ sym (map_less (λ (c : Placed). c.step.id) (bytes_eq window w) (waiting w past))
        ∙ ap (map (λ (c : Placed). c.step.id)) (sym (waiting_less w));
    hops_are = λ w.
        subst (λ (l : List Held). AreHeld whole l (held w whole)) (sym (hops_after w))
        (subst (λ (l : List Placed). AreHeld whole (hops_at windows w) l) (sym (held_same w)) (held_stays past (x ∷ []) (hops_at windows w) (held w past) (s.hops_are w)));
    out_are = λ n. outs_after n ∙ out_on n (made == n) refl;
  };
}
  where
    x : Step
    x = call caller id (To window arg)

    here : Placed
    here = at_end past x

    whole : List Step
    whole = past ++ x ∷ []

    room : length (hops past) < hop_limit
    room = subst (λ (n : ℕ). n < hop_limit) s.made_is low

    grown : hops whole ≡ hops past ++ here ∷ []
    grown = hops_more past x room refl

    first_call : FirstCall (λ (c : Placed). c.step.id) waits (waiting window past)
    first_call = map_first (λ (c : Placed). c.step.id) (waiting window past) waits (ap (λ (l : List ℤ). slice_get l 0) (sym (s.calls_are window)) ∙ first)

    at : slice_get (nexts_of window past) (length (hops_for window past)) ≡ Some first_call.call
    at = sym (get_drop (length (hops_for window past)) (nexts_of window past)) ∙ first_call.there

    long : (w : List ℕ) → bytes_eq window w ≡ true → length (hops_for w past) < length (nexts_of w past)
    long w same =
        subst (λ (v : List ℕ). length (hops_for v past) < length (nexts_of v past)) (bytes_same window w same)
        (some_first (length (hops_for window past)) (nexts_of window past) first_call.call first_call.there)

    tells : given past x ≡ give first_call.call (Hop (length (hops past)) arg) ∷ []
    tells = over_is past caller window id arg (Some first_call.call) room at

    asked : (slice_get past first_call.call.place ≡ Some first_call.call.step) × ((is_next first_call.call.step.ask && (bytes_eq first_call.call.step.from window)) ≡ true)
    asked = next_there window past (length (hops_for window past)) first_call.call at

    told_one : List ℕ → ℤ → ℕ → List Told
    told_one key k n = record { key = key; id = k; said = Hop n arg } ∷ []

    told_is : record { key = window; id = waits; said = Hop made arg } ∷ [] ≡ (give first_call.call (Hop (length (hops past)) arg)).told ∷ []
    told_is =
        ap (λ (k : List ℕ). told_one k waits made) (sym (bytes_same first_call.call.step.from window (and_right (is_next first_call.call.step.ask) (bytes_eq first_call.call.step.from window) asked.1)))
        ∙ ap (λ (k : ℤ). told_one first_call.call.step.from k made) (sym first_call.is)
        ∙ ap (told_one first_call.call.step.from first_call.call.step.id) s.made_is

    waiting_less : (w : List ℕ) → waiting w whole ≡ cond (bytes_eq window w) (drop 1 (waiting w past)) (waiting w past)
    waiting_less w =
        ap (λ (l : List Placed). drop (length l) (nexts_of w whole)) (hops_for_more w past x room refl)
        ∙ ap (drop (length (hops_for w past ++ cond (bytes_eq window w) (here ∷ []) []))) (nexts_same w past x refl)
        ∙ pops (bytes_eq window w) (nexts_of w past) (hops_for w past) here

    held_same : (w : List ℕ) → held w whole ≡ held w past
    held_same w =
        ap (λ (l : List Placed). drop (length l) (hops_for w whole)) (nexts_same w past x refl)
        ∙ ap (drop (length (nexts_of w past))) (hops_for_more w past x room refl)
        ∙ pushes_none (bytes_eq window w) (nexts_of w past) (hops_for w past) here (long w)

    number_of : Said → ℕ
    number_of (Hop n value) = n
    number_of _ = 0

    news : (n : ℕ) → (made == n) ≡ false → IsNoNews past x n
    news n apart next value zero e =
        let same : length (hops past) ≡ n = ap (λ (k : Given). number_of k.told.said) (same_some (give first_call.call (Hop (length (hops past)) arg)) (give next (Hop n value)) (ap (λ (l : List Given). slice_get l 0) (sym tells) ∙ e)) in
        true≢false (sym (eq-eqb made n (s.made_is ∙ same)) ∙ apart)
    news n apart next value (suc j) e = gone j (ap (λ (l : List Given). slice_get l (suc j)) (sym tells) ∙ e)
      where
        gone : (j : ℕ) → ◌≡◌ {A = Option Given} (slice_get [] j) (Some (give next (Hop n value))) → ⊥
        gone j e = cc

    now_out : unsettled whole made ≡ Some here
    now_out =
        now_unsettled past x made here first_call.call arg 0 (ap (slice_get (hops whole)) s.made_is ∙ hop_gained past [] x refl room)
        (get_left past (x ∷ []) first_call.call.place first_call.call.step asked.0) (and_left (is_next first_call.call.step.ask) (bytes_eq first_call.call.step.from window) asked.1)
        (ap (λ (l : List Given). slice_get l 0) tells ∙ ap (λ (k : ℕ). Some (give first_call.call (Hop k arg))) (sym s.made_is))

    out_on : (n : ℕ) (b : Bool) → (made == n) ≡ b → cond (made == n) (Some kept) (get nat_cmp out n) ≡ option_map out_of (unsettled whole n)
    out_on n true e =
        ap (λ (b : Bool). cond b (Some kept) (get nat_cmp out n)) e ∙ ap Some is ∙ ap (option_map out_of) (sym now_out)
        ∙ ap (λ (k : ℕ). option_map out_of (unsettled whole k)) (eqb-true made n e)
    out_on n false e =
        ap (λ (b : Bool). cond b (Some kept) (get nat_cmp out n)) e ∙ s.out_are n ∙ ap (option_map out_of) (sym (same_unsettled past x n (λ w. refl) (news n e)))
