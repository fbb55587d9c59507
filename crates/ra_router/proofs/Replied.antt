-- What replies are told, that a step answers no call twice, and that calls make hops.
use Rattle.std.proofs.Common.{◌≡◌, ℕ, ◌<◌, ◌≤◌, Bool, true, false, true≢false, cond, zero, suc, List, [], ◌∷◌, ◌++◌, length, take, refl, sym, ap, subst, ◌∙◌, arith}
use Rattle.std.specs.Prelude.{ℤ, slice_get, Option, Some, None, nat_lt}
use Rattle.std.proofs.Math.Seq.{take-append_seam}
use Rattle.ra_values.specs.declared.value.Value.{Value}
use Rattle.ra_router.specs.declared.ask.Ask.{Ask}
use Rattle.ra_router.specs.declared.ask.Ask.TheVariants.{BadTo, To, Next, Reply, BadReply}
use Rattle.ra_router.specs.declared.ask.Step.{Step}
use Rattle.ra_router.specs.declared.ask.Said.TheVariants.{Full, Done, NoSuchCall}
use Rattle.ra_router.specs.Hops.{Placed, Delivery, Given, hops, hops_for, nexts_of, hop_limit, delivery, give, given_by, open_hop, settle, hand_over, hand_on}
use Rattle.ra_router.specs.Routes.{IsFirstReply, AnswersApart, HopsMade, RepliesSettle, RepliesRefused, is_any_reply}
use Rattle.ra_router.proofs.Placed.{get_inside, same_some}
use Rattle.ra_router.proofs.Answered.{hop_there, delivery_is, delivery_stays}
use Rattle.ra_router.proofs.Settled.{mk, open_is, first_of_open, open_at_first, splits}
use Rattle.ra_router.proofs.Nexts.{hop_gained}

-- ---- apart

at_most_one : (l : List Given) (i j : ℕ) (g k : Given) → length l ≤ 1 → slice_get l i ≡ Some g → slice_get l j ≡ Some k → i ≡ j
at_most_one l i j g k few a b = let x = get_inside l i g a in let y = get_inside l j k b in omega arith

alone : (a : Given) (i j : ℕ) (g k : Given) → slice_get (a ∷ []) i ≡ Some g → slice_get (a ∷ []) j ≡ Some k → i ≡ j
alone a i j g k x y = at_most_one (a ∷ []) i j g k (omega arith) x y

over_few : (o : Option Placed) (n : ℕ) (arg : Value) → length (hand_over o n arg) ≤ 1
over_few None n arg = omega arith
over_few (Some next) n arg = omega arith

on_few : (o : Option Placed) (past : List Step) (c : Placed) → length (hand_on o past c) ≤ 1
on_few None past c = omega arith
on_few (Some hop) past c = omega arith

to_few : (b : Bool) (o : Option Placed) (n : ℕ) (arg : Value) (c : Placed) → length (cond b (hand_over o n arg) (give c Full ∷ [])) ≤ 1
to_few true o n arg c = over_few o n arg
to_few false o n arg c = omega arith

settle_apart : (past : List Step) (from : List ℕ) (m : ℕ) (good : Bool) (value : Value) (x : Step) (o : Option Placed) → open_hop past from m ≡ o
    → (i j : ℕ) (g k : Given) → slice_get (settle o good value (record { place = length past; step = x })) i ≡ Some g
    → slice_get (settle o good value (record { place = length past; step = x })) j ≡ Some k → g.call ≡ k.call → i ≡ j
settle_apart past from m good value x None is i j g k a b same = alone _ i j g k a b
settle_apart past from m good value x (Some hop) is zero zero g k a b same = refl
settle_apart past from m good value x (Some hop) is zero (suc zero) g k a b same =
    let o = open_is past from m hop is in
    let there = hop_there past m o.d.hop (delivery_is past m o.d o.delivered).hop in
    let inside = get_inside past o.d.hop.place o.d.hop.step there.0 in
    let place = ap (λ (p : Placed). p.place) o.hop in
    let first = ap (λ (q : Given). q.call) (same_some _ g a) in
    let second = ap (λ (q : Given). q.call) (same_some _ k b) in
    absurd (omega arith)
settle_apart past from m good value x (Some hop) is (suc zero) zero g k a b same =
    let o = open_is past from m hop is in
    let there = hop_there past m o.d.hop (delivery_is past m o.d o.delivered).hop in
    let inside = get_inside past o.d.hop.place o.d.hop.step there.0 in
    let place = ap (λ (p : Placed). p.place) o.hop in
    let first = ap (λ (q : Given). q.call) (same_some _ k b) in
    let second = ap (λ (q : Given). q.call) (same_some _ g a) in
    absurd (omega arith)
settle_apart past from m good value x (Some hop) is (suc zero) (suc zero) g k a b same = refl
settle_apart past from m good value x (Some hop) is (suc (suc i)) j g k a b same = absurd cc
settle_apart past from m good value x (Some hop) is zero (suc (suc j)) g k a b same = absurd cc
settle_apart past from m good value x (Some hop) is (suc zero) (suc (suc j)) g k a b same = absurd cc

apart_case : (ask : Ask) (from : List ℕ) (id : ℤ) (past : List Step) (i j : ℕ) (g k : Given)
    → slice_get (given_by ask past (record { place = length past; step = mk from id ask })) i ≡ Some g
    → slice_get (given_by ask past (record { place = length past; step = mk from id ask })) j ≡ Some k → g.call ≡ k.call → i ≡ j
apart_case BadTo from id past i j g k a b same = alone _ i j g k a b
apart_case (To w arg) from id past i j g k a b same =
    at_most_one _ i j g k (to_few (nat_lt (length (hops past)) hop_limit) (slice_get (nexts_of w past) (length (hops_for w past))) (length (hops past)) arg
    (record { place = length past; step = mk from id (To w arg) })) a b
apart_case Next from id past i j g k a b same =
    at_most_one _ i j g k (on_few (slice_get (hops_for from past) (length (nexts_of from past))) past (record { place = length past; step = mk from id Next })) a b
apart_case (Reply m good value) from id past i j g k a b same =
    settle_apart past from m good value (mk from id (Reply m good value)) (open_hop past from m) refl i j g k a b same
apart_case BadReply from id past i j g k a b same = alone _ i j g k a b

pub answers_apart : (past : List Step) → AnswersApart past
answers_apart past x i j g k a b same = apart_case x.ask x.from x.id past i j g k a b same

-- ---- hops

pub hops_made : (xs : List Step) → HopsMade xs
hops_made xs n s e to room =
    let t = splits xs n s e in
    let front : take n xs ≡ t.past = ap (take n) t.whole ∙ ap (λ k. take k (t.past ++ s ∷ t.rest)) (sym t.at) ∙ take-append_seam t.past (s ∷ t.rest) in
    ap (λ l. slice_get (hops xs) (length (hops l))) front
    ∙ ap (λ l. slice_get (hops l) (length (hops t.past))) t.whole
    ∙ hop_gained t.past t.rest s to (subst (λ l. length (hops l) < hop_limit) front room)
    ∙ ap (λ p. Some (record { place = p; step = s })) t.at

-- ---- replies

pub replies_settle : (xs : List Step) → RepliesSettle xs
replies_settle xs number n d good value s e f is =
    let t = splits xs n f.reply f.there in
    let same = same_some f.reply s (sym f.there ∙ is) in
    record {
      past = t.past;
      step = f.reply;
      rest = t.rest;
      whole = t.whole;
      at = t.at;
      index = 1;
      among = ap (λ a. slice_get (given_by a t.past (record { place = length t.past; step = f.reply })) 1) f.says
          ∙ ap (λ o. slice_get (settle o good value (record { place = length t.past; step = f.reply })) 1) (open_at_first xs number n d good value e f t)
          ∙ ap (λ p. Some (give (record { place = p; step = f.reply }) Done)) t.at
          ∙ ap (λ y. Some (give (record { place = n; step = y }) Done)) same;
    }

no_call : (past rest : List Step) (from : List ℕ) (id : ℤ) (m : ℕ) (good : Bool) (value : Value) (o : Option Placed) → open_hop past from m ≡ o
    → ((number : ℕ) (d : Delivery) (g : Bool) (v : Value) → delivery (past ++ mk from id (Reply m good value) ∷ rest) number ≡ Some d
    → IsFirstReply (past ++ mk from id (Reply m good value) ∷ rest) number d (length past) g v → ⊥)
    → slice_get (settle o good value (record { place = length past; step = mk from id (Reply m good value) })) 0
    ≡ Some (give (record { place = length past; step = mk from id (Reply m good value) }) NoSuchCall)
no_call past rest from id m good value None is never = refl
no_call past rest from id m good value (Some hop) is never =
    let o = open_is past from m hop is in
    absurd (never m o.d good value (delivery_stays past (mk from id (Reply m good value) ∷ rest) m o.d o.delivered)
    (first_of_open past rest from id m good value hop o))

refused_reply : (ask : Ask) (from : List ℕ) (id : ℤ) (past rest : List Step) → is_any_reply ask ≡ true
    → ((number : ℕ) (d : Delivery) (g : Bool) (v : Value) → delivery (past ++ mk from id ask ∷ rest) number ≡ Some d
    → IsFirstReply (past ++ mk from id ask ∷ rest) number d (length past) g v → ⊥)
    → slice_get (given_by ask past (record { place = length past; step = mk from id ask })) 0
    ≡ Some (give (record { place = length past; step = mk from id ask }) NoSuchCall)
refused_reply BadTo from id past rest e never = absurd (true≢false (sym e))
refused_reply (To w arg) from id past rest e never = absurd (true≢false (sym e))
refused_reply Next from id past rest e never = absurd (true≢false (sym e))
refused_reply (Reply m good value) from id past rest e never = no_call past rest from id m good value (open_hop past from m) refl never
refused_reply BadReply from id past rest e never = refl

pub replies_refused : (xs : List Step) → RepliesRefused xs
replies_refused xs n s e any never =
    let t = splits xs n s e in
    record {
      past = t.past;
      step = s;
      rest = t.rest;
      whole = t.whole;
      at = t.at;
      index = 0;
      among = refused_reply s.ask s.from s.id t.past t.rest any
          (λ h d g v is first. never h d g v (ap (λ l. delivery l h) t.whole ∙ is)
          (subst (λ p. IsFirstReply xs h d p g v) t.at (subst (λ l. IsFirstReply l h d (length t.past) g v) (sym t.whole) first)))
          ∙ ap (λ p. Some (give (record { place = p; step = s }) NoSuchCall)) t.at;
    }
