-- The calls that made hops are answered by the first replies.
use Rattle.std.proofs.Common.{◌≡◌, ℕ, ◌<◌, ◌&&◌, Bool, true, false, true≢false, not, cond, zero, suc, List, [], ◌∷◌, ◌++◌, length, take, drop, refl, sym, ap, subst, ◌∙◌, inl, inr, arith}
use Rattle.std.specs.Prelude.{ℤ}
use Rattle.std.specs.Prelude.{bytes_eq}
use Rattle.ra_values.specs.declared.value.Value.{Value}
use Rattle.ra_router.proofs.Bytes.{same_bytes, bytes_same}
use Rattle.std.specs.Prelude.{slice_get, Option, Some, None, nat_lt}
use Rattle.std.specs.List.{list_any}
use Rattle.std.proofs.lemmas.Bool.{eq-eqb, ltb-false}
use Rattle.ra_router.specs.declared.ask.Ask.{Ask}
use Rattle.ra_router.specs.declared.ask.Ask.TheVariants.{BadTo, To, Next, Reply, BadReply}
use Rattle.ra_router.specs.declared.ask.Step.{Step}
use Rattle.ra_router.specs.declared.ask.Said.TheVariants.{Full, Replied}
use Rattle.ra_router.specs.Hops.{Placed, Delivery, Given, hops, hops_for, nexts_of, hop_limit, is_for, is_to, is_next, window_of, delivery, delivered_at, replies, give, given_by, is_reply_to, open_hop, open_of, settle, hand_over, hand_on}
use Rattle.ra_router.specs.Routes.{IsFirstReply, IsSettled, HopsAnswered, HopsAnsweredThere, HopsAnsweredOnce}
use Rattle.ra_router.proofs.Placed.{get_inside, same_some, get_left, get_middle, get_cases, stays}
use Rattle.ra_router.proofs.Answered.{hop_there, next_there, and_left, delivery_is, delivery_stays, delivery_back, later_left, later_right, delivered_inside, none_after, after_none}
use Rattle.ra_router.proofs.Placed.{grows_hops}
use Rattle.ra_router.proofs.Ranks.{rises_hops, rises_same}

abbrev pub mk : List ℕ → ℤ → Ask → Step
mk from id ask = record { from = from; id = id; ask = ask }

pub same_step : (xs : List Step) (m n : ℕ) (s t : Step) → slice_get xs m ≡ Some s → slice_get xs n ≡ Some t → m ≡ n → s ≡ t
same_step xs m n s t e f same = same_some s t (sym e ∙ ap (slice_get xs) same ∙ f)

pub not_both : (a : Ask) → is_to a ≡ true → is_next a ≡ true → ⊥
not_both BadTo t n = true≢false (sym t)
not_both (To w v) t n = true≢false (sym n)
not_both Next t n = true≢false (sym t)
not_both (Reply h g v) t n = true≢false (sym t)
not_both BadReply t n = true≢false (sym t)

-- the step at the end of these is a hop's call only where it is a call to a window
pub is_to_here : (past rest : List Step) (x : Step) (h : ℕ) (c : Placed) → slice_get (hops (past ++ x ∷ rest)) h ≡ Some c → length past ≡ c.place → is_to x.ask ≡ true
is_to_here past rest x h c e here =
    let t = hop_there (past ++ x ∷ rest) h c e in
    let s = same_step (past ++ x ∷ rest) (length past) c.place x c.step (get_middle past rest x) t.0 here in
    ap (λ (y : Step). is_to y.ask) s ∙ t.1

-- ---- the room for hops

get_below : (n : ℕ) (l : List Placed) (h : ℕ) (c : Placed) → slice_get (take n l) h ≡ Some c → h < n
get_below zero l h c e = absurd cc
get_below (suc n) [] h c e = absurd cc
get_below (suc n) (x ∷ xs) zero c e = omega arith
get_below (suc n) (x ∷ xs) (suc h) c e = let b = get_below n xs h c e in omega arith

pub hop_below : (xs : List Step) (h : ℕ) (c : Placed) → slice_get (hops xs) h ≡ Some c → h < hop_limit
hop_below xs h c e = get_below hop_limit _ h c e

-- ---- open hops

pub record IsOpen (xs : List Step) (w : List ℕ) (n : ℕ) (c : Placed) : Type 0 where
  pub d : Delivery
  pub delivered : delivery xs n ≡ Some d
  pub hop : d.hop ≡ c
  pub window : window_of d.hop.step.ask ≡ w
  pub none : list_any (replies w n) (drop (suc (delivered_at d)) xs) ≡ false

open_cond : (a b : Bool) (c hop : Placed) → cond (a && not b) (Some c) None ≡ Some hop → (a ≡ true) × (b ≡ false) × (c ≡ hop)
open_cond true true c hop e = absurd cc
open_cond true false c hop e = (refl, refl, same_some c hop e)
open_cond false b c hop e = absurd cc

open_is_on : (xs : List Step) (w : List ℕ) (n : ℕ) (hop : Placed) (o : Option Delivery) → delivery xs n ≡ o → open_of xs w n o ≡ Some hop → IsOpen xs w n hop
open_is_on xs w n hop None o e = absurd cc
open_is_on xs w n hop (Some d) o e =
    let q = open_cond (is_for w d.hop) (list_any (replies w n) (drop (suc (delivered_at d)) xs)) d.hop hop e in
    record { d = d; delivered = o; hop = q.2; window = bytes_same (window_of d.hop.step.ask) w q.0; none = q.1 }

pub open_is : (xs : List Step) (w : List ℕ) (n : ℕ) (hop : Placed) → open_hop xs w n ≡ Some hop → IsOpen xs w n hop
open_is xs w n hop e = open_is_on xs w n hop (delivery xs n) refl e

open_yes : (a b : Bool) (c : Placed) → a ≡ true → b ≡ false → cond (a && not b) (Some c) None ≡ Some c
open_yes true true c ea eb = absurd (true≢false eb)
open_yes true false c ea eb = refl
open_yes false b c ea eb = absurd (true≢false (sym ea))

pub is_open : (xs : List Step) (w : List ℕ) (n : ℕ) (hop : Placed) → IsOpen xs w n hop → open_hop xs w n ≡ Some hop
is_open xs w n hop i =
    ap (open_of xs w n) i.delivered
    ∙ open_yes (is_for w i.d.hop) (list_any (replies w n) (drop (suc (delivered_at i.d)) xs)) i.d.hop (same_bytes (window_of i.d.hop.step.ask) w i.window) i.none
    ∙ ap Some i.hop

-- ---- a hop's call is answered by a first reply alone

pub early_step : (past rest : List Step) (x : Step) (n : ℕ) (s : Step) → n < length past → slice_get (past ++ x ∷ rest) n ≡ Some s → slice_get past n ≡ Some s
early_step past rest x n s early e = elim (get_cases past (x ∷ rest) n s e) [
  | inl h ↦ h
  | inr r ↦ let q = r.sum in absurd (omega arith)
]

pub first_of_open : (past rest : List Step) (from : List ℕ) (id : ℤ) (n : ℕ) (good : Bool) (value : Value) (hop : Placed) → (i : IsOpen past from n hop)
    → IsFirstReply (past ++ mk from id (Reply n good value) ∷ rest) n i.d (length past) good value
first_of_open past rest from id n good value hop i = record {
  reply = mk from id (Reply n good value);
  there = get_middle past rest (mk from id (Reply n good value));
  says = refl;
  by = sym i.window;
  after = delivered_inside past n i.d i.delivered;
  first = λ k s later early e.
      subst (λ w. replies w n s ≡ false) (sym i.window)
      (none_after (replies from n) (delivered_at i.d) past i.none k s later (early_step past rest (mk from id (Reply n good value)) k s early e));
}

settled_by : (past rest : List Step) (from : List ℕ) (id : ℤ) (n : ℕ) (good : Bool) (value : Value) (h : ℕ) (c : Placed) (g : Given) (o : Option Placed) → open_hop past from n ≡ o
    → slice_get (hops (past ++ mk from id (Reply n good value) ∷ rest)) h ≡ Some c → (j : ℕ)
    → slice_get (settle o good value (record { place = length past; step = mk from id (Reply n good value) })) j ≡ Some g → g.call ≡ c.place
    → IsSettled (past ++ mk from id (Reply n good value) ∷ rest) h c (length past) g
settled_by past rest from id n good value h c g None o e zero is call =
    absurd (true≢false (sym (is_to_here past rest _ h c e (ap (λ (k : Given). k.call) (same_some _ g is) ∙ call))))
settled_by past rest from id n good value h c g None o e (suc j) is call = absurd cc
settled_by past rest from id n good value h c g (Some hop) o e zero is call =
    let x = mk from id (Reply n good value) in
    let xs = past ++ x ∷ rest in
    let i = open_is past from n hop o in
    let d = delivery_is past n i.d i.delivered in
    let there = stays (length past) _ _ (grows_hops past (x ∷ rest)) n i.d.hop d.hop in
    let at = ap (λ (p : Placed). p.place) i.hop ∙ ap (λ (k : Given). k.call) (same_some _ g is) ∙ call in
    let same = rises_same 0 (hops xs) (rises_hops xs) n h i.d.hop c there e at in
    let hop_is = same_some hop c (ap Some (sym i.hop) ∙ sym there ∙ ap (slice_get (hops xs)) same ∙ e) in
    subst (λ m. IsSettled xs m c (length past) g) same (record {
      d = i.d;
      good = good;
      value = value;
      delivered = delivery_stays past (x ∷ rest) n i.d i.delivered;
      first = first_of_open past rest from id n good value hop i;
      is = sym (same_some _ g is) ∙ ap (λ q. give q (Replied good value)) hop_is;
    })
settled_by past rest from id n good value h c g (Some hop) o e (suc zero) is call =
    absurd (true≢false (sym (is_to_here past rest _ h c e (ap (λ (k : Given). k.call) (same_some _ g is) ∙ call))))
settled_by past rest from id n good value h c g (Some hop) o e (suc (suc j)) is call = absurd cc

full_not : (past rest : List Step) (x : Step) (h : ℕ) (c : Placed) → nat_lt (length (hops past)) hop_limit ≡ false
    → slice_get (hops (past ++ x ∷ rest)) h ≡ Some c → length past ≡ c.place → ⊥
full_not past rest x h c full e here =
    let g = grows_hops past (x ∷ rest) in
    let below = hop_below (past ++ x ∷ rest) h c e in
    elim (get_cases (hops past) g.more h c (ap (λ l. slice_get l h) (sym g.is) ∙ e)) [
      | inl old ↦ let i = get_inside past c.place c.step (hop_there past h c old).0 in omega arith
      | inr r ↦ let s = r.sum in let room = ltb-false (length (hops past)) hop_limit full in omega arith
    ]

over_not : (past rest : List Step) (x : Step) (w : List ℕ) (h number : ℕ) (arg : Value) (c : Placed) (g : Given) (j k : ℕ) → slice_get (hops (past ++ x ∷ rest)) h ≡ Some c
    → (o : Option Placed) → slice_get (nexts_of w past) k ≡ o → slice_get (hand_over o number arg) j ≡ Some g → g.call ≡ c.place → ⊥
over_not past rest x w h number arg c g j k e None o is call = absurd cc
over_not past rest x w h number arg c g zero k e (Some next) o is call =
    let t = hop_there (past ++ x ∷ rest) h c e in
    let n = next_there w past k next o in
    let at = ap (λ (k : Given). k.call) (same_some _ g is) ∙ call in
    let s = same_step (past ++ x ∷ rest) next.place c.place next.step c.step (get_left past (x ∷ rest) next.place next.step n.0) t.0 at in
    not_both c.step.ask t.1 (ap (λ (y : Step). is_next y.ask) (sym s) ∙ and_left _ _ n.1)
over_not past rest x w h number arg c g (suc j) k e (Some next) o is call = absurd cc

to_not : (past rest : List Step) (x : Step) (w : List ℕ) (arg : Value) (h : ℕ) (c : Placed) (g : Given) (j : ℕ) → slice_get (hops (past ++ x ∷ rest)) h ≡ Some c → g.call ≡ c.place
    → (b : Bool) → nat_lt (length (hops past)) hop_limit ≡ b
    → slice_get (cond b (hand_over (slice_get (nexts_of w past) (length (hops_for w past))) (length (hops past)) arg)
    (give (record { place = length past; step = x }) Full ∷ [])) j ≡ Some g → ⊥
to_not past rest x w arg h c g j e call true b is = over_not past rest x w h (length (hops past)) arg c g j (length (hops_for w past)) e _ refl is call
to_not past rest x w arg h c g zero e call false b is = full_not past rest x h c b e (ap (λ (k : Given). k.call) (same_some _ g is) ∙ call)
to_not past rest x w arg h c g (suc j) e call false b is = absurd cc

on_not : (past rest : List Step) (x : Step) (h : ℕ) (c : Placed) (g : Given) (j : ℕ) → is_to x.ask ≡ false → slice_get (hops (past ++ x ∷ rest)) h ≡ Some c → g.call ≡ c.place
    → (o : Option Placed) → slice_get (hand_on o past (record { place = length past; step = x })) j ≡ Some g → ⊥
on_not past rest x h c g j not_to e call None is = absurd cc
on_not past rest x h c g zero not_to e call (Some hop) is =
    true≢false (sym (is_to_here past rest x h c e (ap (λ (k : Given). k.call) (same_some _ g is) ∙ call)) ∙ not_to)
on_not past rest x h c g (suc j) not_to e call (Some hop) is = absurd cc

settled_case : (ask : Ask) (from : List ℕ) (id : ℤ) (past rest : List Step) (h : ℕ) (c : Placed) (g : Given) → slice_get (hops (past ++ mk from id ask ∷ rest)) h ≡ Some c → (j : ℕ)
    → slice_get (given_by ask past (record { place = length past; step = mk from id ask })) j ≡ Some g → g.call ≡ c.place
    → IsSettled (past ++ mk from id ask ∷ rest) h c (length past) g
settled_case BadTo from id past rest h c g e zero is call = absurd (true≢false (sym (is_to_here past rest _ h c e (ap (λ (k : Given). k.call) (same_some _ g is) ∙ call))))
settled_case BadTo from id past rest h c g e (suc j) is call = absurd cc
settled_case (To w arg) from id past rest h c g e j is call = absurd (to_not past rest (mk from id (To w arg)) w arg h c g j e call (nat_lt (length (hops past)) hop_limit) refl is)
settled_case Next from id past rest h c g e j is call = absurd (on_not past rest (mk from id Next) h c g j refl e call _ is)
settled_case (Reply n good value) from id past rest h c g e j is call = settled_by past rest from id n good value h c g (open_hop past from n) refl e j is call
settled_case BadReply from id past rest h c g e zero is call = absurd (true≢false (sym (is_to_here past rest _ h c e (ap (λ (k : Given). k.call) (same_some _ g is) ∙ call))))
settled_case BadReply from id past rest h c g e (suc j) is call = absurd cc

pub hops_answered : (xs : List Step) → HopsAnswered xs
hops_answered xs number p hop g e gives call =
    let r = settled_case gives.step.ask gives.step.from gives.step.id gives.past gives.rest number hop g
    (ap (λ l. slice_get (hops l) number) (sym gives.whole) ∙ e) gives.index gives.among call in
    subst (λ q. IsSettled xs number hop q g) gives.at (subst (λ l. IsSettled l number hop (length gives.past) g) (sym gives.whole) r)

-- ---- and at every first reply it is answered

pub record Splits (xs : List Step) (p : ℕ) (s : Step) : Type 0 where
  pub past : List Step
  pub rest : List Step
  pub whole : xs ≡ past ++ s ∷ rest
  pub at : length past ≡ p

pub splits : (xs : List Step) (p : ℕ) (s : Step) → slice_get xs p ≡ Some s → Splits xs p s
splits [] p s e = absurd cc
splits (x ∷ xs) zero s e = record { past = []; rest = xs; whole = ap (λ y. y ∷ xs) (same_some x s e); at = refl }
splits (x ∷ xs) (suc p) s e = let r = splits xs p s e in record { past = x ∷ r.past; rest = r.rest; whole = ap (λ l. x ∷ l) r.whole; at = ap suc r.at }

pub open_at_first : (xs : List Step) (n p : ℕ) (d : Delivery) (good : Bool) (value : Value) → delivery xs n ≡ Some d → (f : IsFirstReply xs n d p good value)
    → (s : Splits xs p f.reply) → open_hop s.past f.reply.from n ≡ Some d.hop
open_at_first xs n p d good value e f s =
    let i = delivery_is xs n d e in
    let a = later_left d.hop.place d.next.place in
    let b = later_right d.hop.place d.next.place in
    let after = f.after in
    let at = s.at in
    is_open s.past f.reply.from n d.hop (record {
      d = d;
      delivered = delivery_back s.past (f.reply ∷ s.rest) n d (ap (λ l. delivery l n) (sym s.whole) ∙ e) (omega arith) (omega arith);
      hop = refl;
      window = sym f.by;
      none = after_none (replies f.reply.from n) (delivered_at d) s.past (λ k t later h.
          let inside = get_inside s.past k t h in
          subst (λ w. replies w n t ≡ false) (sym f.by)
          (f.first k t later (omega arith) (ap (λ l. slice_get l k) s.whole ∙ get_left s.past (f.reply ∷ s.rest) k t h)));
    })

pub hops_answered_there : (xs : List Step) → HopsAnsweredThere xs
hops_answered_there xs n p d good value e f =
    let s = splits xs p f.reply f.there in
    record {
      past = s.past;
      step = f.reply;
      rest = s.rest;
      whole = s.whole;
      at = s.at;
      index = 0;
      among = ap (λ a. slice_get (given_by a s.past (record { place = length s.past; step = f.reply })) 0) f.says
          ∙ ap (λ o. slice_get (settle o good value (record { place = length s.past; step = f.reply })) 0) (open_at_first xs n p d good value e f s);
    }

-- ---- once

is_reply : (window : List ℕ) (n : ℕ) (s : Step) (good : Bool) (value : Value) → s.ask ≡ Reply n good value → s.from ≡ window → replies window n s ≡ true
is_reply window n s good value says by =
    ap (λ a. is_reply_to n a && (bytes_eq s.from window)) says
    ∙ ap (λ b. b && (bytes_eq s.from window)) (eq-eqb n n refl) ∙ same_bytes s.from window by

first_same : (xs : List Step) (n p q : ℕ) (d : Delivery) (good more : Bool) (value other : Value) → IsFirstReply xs n d p good value → IsFirstReply xs n d q more other → p < q → ⊥
first_same xs n p q d good more value other f k lt =
    true≢false (sym (is_reply (window_of d.hop.step.ask) n f.reply good value f.says f.by) ∙ k.first p f.reply f.after lt f.there)

reply_is : (n m : ℕ) (g h : Bool) (v w : Value) → ◌≡◌ {A = Ask} (Reply n g v) (Reply m h w) → (g ≡ h) × (v ≡ w)
reply_is n m g h v w e = (cc, cc)

same_place : (m n : ℕ) → (m < n → ⊥) → (n < m → ⊥) → m ≡ n
same_place zero zero f g = refl
same_place zero (suc n) f g = absurd (f (omega arith))
same_place (suc m) zero f g = absurd (g (omega arith))
same_place (suc m) (suc n) f g = ap suc (same_place m n (λ lt. f (omega arith)) (λ lt. g (omega arith)))

pub hops_answered_once : (xs : List Step) → HopsAnsweredOnce xs
hops_answered_once xs n p q hop g k e gives call gives_too call_too =
    let a = hops_answered xs n p hop g e gives call in
    let b = hops_answered xs n q hop k e gives_too call_too in
    let same = same_some a.d b.d (sym a.delivered ∙ b.delivered) in
    let f = a.first in
    let h = subst (λ d. IsFirstReply xs n d q b.good b.value) (sym same) b.first in
    let at : p ≡ q = same_place p q
    (λ lt. first_same xs n p q a.d a.good b.good a.value b.value f h lt)
    (λ gt. first_same xs n q p a.d b.good a.good b.value a.value h f gt) in
    let reply = same_step xs p q f.reply h.reply f.there h.there at in
    let r = reply_is n n a.good b.good a.value b.value (sym f.says ∙ ap (λ (y : Step). y.ask) reply ∙ h.says) in
    (at, a.is ∙ ap (λ x. give hop (Replied x a.value)) r.0 ∙ ap (λ x. give hop (Replied b.good x)) r.1 ∙ sym b.is)
