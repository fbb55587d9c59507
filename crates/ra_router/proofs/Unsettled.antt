-- How a step changes which hops have no reply.
use Rattle.std.proofs.Common.{◌≡◌, ◌⊎◌, ℕ, ◌<◌, ◌≤◌, ◌||◌, Bool, true, false, cond, zero, suc, List, [], ◌∷◌, ◌++◌, length, take, drop, refl, sym, ap, ◌∙◌, inl, inr, arith}
use Rattle.std.specs.Prelude.{slice_get, Option, Some, None}
use Rattle.std.specs.List.{list_any}
use Rattle.std.proofs.Math.Seq.{take-append_seam}
use Rattle.ra_values.specs.declared.value.Value.{Value}
use Rattle.ra_router.specs.declared.ask.Step.{Step}
use Rattle.ra_router.specs.declared.ask.Said.{Said}
use Rattle.ra_router.specs.declared.ask.Said.TheVariants.{Hop}
use Rattle.ra_router.specs.Hops.{Placed, Delivery, Given, hops, is_next, window_of, arg_of, delivery, delivered_at, replies, give, given}
use Rattle.ra_router.specs.Routes.{Gives, IsHandedOver}
use Rattle.ra_router.specs.Standing.{unsettled, unsettled_of}
use Rattle.ra_router.proofs.Placed.{same_some, get_middle}
use Rattle.ra_router.proofs.Answered.{delivery_is, delivery_stays, delivery_back, later_left, later_right, delivered_inside}
use Rattle.ra_router.proofs.Handed.{hops_delivered}
use Rattle.ra_router.proofs.Nexts.{nexts_answered}

-- ---- a hop that was handed over before

or_none : (a : Bool) → (a || false) ≡ a
or_none true = refl
or_none false = refl

any_cons : (a b c : Bool) → (b ≡ (a || c)) → (d : Bool) → (d || b) ≡ ((d || a) || c)
any_cons a b c e true = refl
any_cons a b c e false = e

any_snoc : (p : Step → Bool) (l : List Step) (x : Step) → list_any p (l ++ x ∷ []) ≡ (list_any p l || p x)
any_snoc p [] x = or_none (p x)
any_snoc p (y ∷ ys) x = any_cons (list_any p ys) (list_any p (ys ++ x ∷ [])) (p x) (any_snoc p ys x) (p y)

drop_snoc : (n : ℕ) (l : List Step) (x : Step) → n ≤ length l → drop n (l ++ x ∷ []) ≡ drop n l ++ x ∷ []
drop_snoc zero l x le = refl
drop_snoc (suc n) [] x le = absurd (omega arith)
drop_snoc (suc n) (y ∷ ys) x le = drop_snoc n ys x (omega arith)

pick : (a b : Bool) (o : Option Placed) → cond (a || b) None o ≡ cond b None (cond a None o)
pick true true o = refl
pick true false o = refl
pick false b o = refl

pub after_step : (past : List Step) (x : Step) (n : ℕ) (d : Delivery) → delivery past n ≡ Some d
    → unsettled (past ++ x ∷ []) n ≡ cond (replies (window_of d.hop.step.ask) n x) None (unsettled past n)
after_step past x n d e =
    let p : Step → Bool = replies (window_of d.hop.step.ask) n in
    let inside : delivered_at d < length past = delivered_inside past n d e in
    ap (unsettled_of (past ++ x ∷ []) n) (delivery_stays past (x ∷ []) n d e)
    ∙ ap (λ (l : List Step). cond (list_any p l) None (Some d.hop)) (drop_snoc (suc (delivered_at d)) past x (omega arith))
    ∙ ap (λ (b : Bool). cond b None (Some d.hop)) (any_snoc p (drop (suc (delivered_at d)) past) x)
    ∙ pick (list_any p (drop (suc (delivered_at d)) past)) (p x) (Some d.hop)
    ∙ ap (λ (o : Option Delivery). cond (p x) None (unsettled_of past n o)) (sym e)

-- ---- a hop that is handed over by the step

-- the step hands over no such hop
abbrev pub IsNoNews : List Step → Step → ℕ → Type 0
IsNoNews past x n = (next : Placed) (arg : Value) (j : ℕ) → slice_get (given past x) j ≡ Some (give next (Hop n arg)) → ⊥

here : (past front : List Step) (x y : Step) (rest : List Step) (g : Given) (j : ℕ) → past ++ x ∷ [] ≡ front ++ y ∷ rest → length front ≡ length past
    → slice_get (given front y) j ≡ Some g → slice_get (given past x) j ≡ Some g
here past front x y rest g j whole at among =
    let same_past : front ≡ past =
    sym (take-append_seam front (y ∷ rest)) ∙ ap (take (length front)) (sym whole) ∙ ap (λ (k : ℕ). take k (past ++ x ∷ [])) at ∙ take-append_seam past (x ∷ []) in
    let same_step : y ≡ x =
    same_some y x (sym (get_middle front rest y) ∙ ap (λ (l : List Step). slice_get l (length front)) (sym whole) ∙ ap (slice_get (past ++ x ∷ [])) at ∙ get_middle past [] x) in
    ap (λ (l : List Step). slice_get (given l x) j) (sym same_past) ∙ ap (λ (s : Step). slice_get (given front s) j) (sym same_step) ∙ among

length_snoc : (l : List Step) (x : Step) → length (l ++ x ∷ []) ≡ suc (length l)
length_snoc [] x = refl
length_snoc (y ∷ ys) x = ap suc (length_snoc ys x)

some_none : (d : Delivery) (o : Option Delivery) → o ≡ None → o ≡ Some d → ⊥
some_none d o n s = cc

cases : (m n : ℕ) → m ≤ n → (m < n) ⊎ (m ≡ n)
cases zero zero le = inr refl
cases zero (suc n) le = inl (omega arith)
cases (suc m) zero le = absurd (omega arith)
cases (suc m) (suc n) le = elim (cases m n (omega arith)) [
  | inl lt ↦ inl (omega arith)
  | inr e ↦ inr (ap suc e)
]

pub no_delivery : (past : List Step) (x : Step) (n : ℕ) → delivery past n ≡ None → IsNoNews past x n → (o : Option Delivery) → delivery (past ++ x ∷ []) n ≡ o → o ≡ None
no_delivery past x n none news None o = refl
no_delivery past x n none news (Some d) o =
    let inside = delivered_inside (past ++ x ∷ []) n d o in
    let size = length_snoc past x in
    absurd (elim (cases (delivered_at d) (length past) (omega arith)) [
      | inl early ↦
          let l = later_left d.hop.place d.next.place in
          let r = later_right d.hop.place d.next.place in
          some_none d (delivery past n) none (delivery_back past (x ∷ []) n d o (omega arith) (omega arith))
      | inr at ↦
          let g = hops_delivered (past ++ x ∷ []) n d o in
          news d.next (arg_of d.hop.step.ask) g.index
          (here past g.past x g.step g.rest (give d.next (Hop n (arg_of d.hop.step.ask))) g.index g.whole (g.at ∙ at) g.among)
    ])

pub never_unsettled : (past : List Step) (n : ℕ) → delivery past n ≡ None → unsettled past n ≡ None
never_unsettled past n e = ap (unsettled_of past n) e

same_on : (past : List Step) (x : Step) (n : ℕ) → ((w : List ℕ) → replies w n x ≡ false) → IsNoNews past x n
    → (o : Option Delivery) → delivery past n ≡ o → unsettled (past ++ x ∷ []) n ≡ unsettled past n
same_on past x n other news None e =
    never_unsettled (past ++ x ∷ []) n (no_delivery past x n e news (delivery (past ++ x ∷ []) n) refl) ∙ sym (never_unsettled past n e)
same_on past x n other news (Some d) e =
    after_step past x n d e ∙ ap (λ (b : Bool). cond b None (unsettled past n)) (other (window_of d.hop.step.ask))

-- a step that is no reply to the hop, and does not hand it over
pub same_unsettled : (past : List Step) (x : Step) (n : ℕ) → ((w : List ℕ) → replies w n x ≡ false) → IsNoNews past x n
    → unsettled (past ++ x ∷ []) n ≡ unsettled past n
same_unsettled past x n other news = same_on past x n other news (delivery past n) refl

-- a step that hands it over
drop_all : (l : List Step) (x : Step) → drop (suc (length l)) (l ++ x ∷ []) ≡ []
drop_all [] x = refl
drop_all (y ∷ ys) x = drop_all ys x

number_of : Said → ℕ
number_of (Hop n arg) = n
number_of _ = 0

pub now_unsettled : (past : List Step) (x : Step) (n : ℕ) (hop next : Placed) (arg : Value) (j : ℕ) → slice_get (hops (past ++ x ∷ [])) n ≡ Some hop
    → slice_get (past ++ x ∷ []) next.place ≡ Some next.step → is_next next.step.ask ≡ true → slice_get (given past x) j ≡ Some (give next (Hop n arg))
    → unsettled (past ++ x ∷ []) n ≡ Some hop
unfolding number_of
now_unsettled past x n hop next arg j is there asks among =
    let g : Gives (past ++ x ∷ []) (length past) (give next (Hop n arg)) =
    record { past = past; step = x; rest = []; whole = refl; at = refl; index = j; among = among } in
    let h : IsHandedOver (past ++ x ∷ []) (length past) (give next (Hop n arg)) =
    nexts_answered (past ++ x ∷ []) (length past) next.place next.step (give next (Hop n arg)) there asks g refl in
    let same : n ≡ h.number = ap (λ (k : Given). number_of k.told.said) h.is in
    let delivered : delivery (past ++ x ∷ []) n ≡ Some h.d = ap (delivery (past ++ x ∷ [])) same ∙ h.delivered in
    let d = delivery_is (past ++ x ∷ []) n h.d delivered in
    let hop_is : h.d.hop ≡ hop = same_some h.d.hop hop (sym d.hop ∙ is) in
    ap (unsettled_of (past ++ x ∷ []) n) delivered
    ∙ ap (λ (k : ℕ). cond (list_any (replies (window_of h.d.hop.step.ask) n) (drop (suc k) (past ++ x ∷ []))) None (Some h.d.hop)) (sym h.at)
    ∙ ap (λ (l : List Step). cond (list_any (replies (window_of h.d.hop.step.ask) n) l) None (Some h.d.hop)) (drop_all past x)
    ∙ ap Some hop_is
