-- How often an id stands in lists.
use Rattle.std.proofs.Common.{◌≡◌, ℕ, ◌+◌, ◌≤◌, List, [], ◌∷◌, ◌++◌, map, Bool, true, false, not, cond, ltb, refl, sym, ap, subst, ◌∙◌, arith, inl, inr}
use Rattle.std.proofs.lemmas.Bool.{eqb-true, eq-eqb, ne_eqb, lt-ltb, le-ltb, cases_order, cases_Bool}
use Rattle.std.specs.Prelude.{◌&&◌, ◌==◌, nat_le}
use Rattle.std.specs.List.{filter, filter_map, list_any}
use Rattle.std.specs.Str.{bytes_eq}
use Rattle.ra_values.specs.Tree.{Tree}
use Rattle.ra_ipc.specs.Messages.{is_response, number_of}
use Rattle.ra_ipc.specs.ChannelServers.{Active, waiting_call, handed_call, waiting_listen, listener, holds, is_handed, is_timed_out, cancel_one, open_one, fire_one, timeout_one}

-- one for yes
abbrev pub one : Bool → ℕ
one b = cond b 1 0

pub one_most : (b : Bool) → one b ≤ 1
one_most true = omega arith
one_most false = omega arith

pub number-append : {X : Type 0} (p : X → Bool) (xs ys : List X) → number_of p (xs ++ ys) ≡ number_of p xs + number_of p ys
number-append p [] ys = omega arith
number-append p (x ∷ xs) ys = omega (arith, number-append p xs ys)

pub number-push : {X : Type 0} (p : X → Bool) (xs : List X) (x : X) → number_of p (xs ++ x ∷ []) ≡ number_of p xs + one (p x)
number-push p [] x = omega arith
number-push p (y ∷ xs) x = omega (arith, number-push p xs x)

pub number-map : {X : Type 0} (p : X → Bool) (f : X → X) → ((x : X) → p (f x) ≡ p x) → (xs : List X) → number_of p (map f xs) ≡ number_of p xs
number-map p f h [] = refl
number-map p f h (x ∷ xs) = omega (arith, number-map p f h xs, ap one (h x))

pub number-filter : {X : Type 0} (p q : X → Bool) (xs : List X) → number_of p (filter q xs) ≤ number_of p xs
number-filter p q [] = omega arith
number-filter p q (x ∷ xs) = elim (q x) as (λ b. number_of p (cond b (x ∷ filter q xs) (filter q xs)) ≤ one (p x) + number_of p xs) [
  | true ↦ omega (arith, number-filter p q xs)
  | false ↦ omega (arith, number-filter p q xs)
]

-- what is found is counted, and is left out by a filter
found_goes : {X : Type 0} (p q : X → Bool) (xs : List X) → ((x : X) → q x ≡ true → p x ≡ true) → list_any q xs ≡ true → number_of p (filter (λ x. not (q x)) xs) + 1 ≤ number_of p xs
found_goes p q [] h e = absurd cc
found_goes p q (x ∷ xs) h e = elim (cases_Bool (q x)) [
  | inl t ↦ let yes = h x t in rw (t, yes) (omega (arith, number-filter p (λ y. not (q y)) xs))
  | inr f ↦ let rest : list_any q xs ≡ true = rw f at e in rw f (omega (arith, found_goes p q xs h rest))
]

pub none_found : {X : Type 0} (p : X → Bool) (xs : List X) → list_any p xs ≡ true → 1 ≤ number_of p xs
none_found p xs e = omega (arith, found_goes p p xs (λ x t. t) e)

-- ids among ids
pub id_goes : (i j : ℕ) (ids : List ℕ) → list_any (λ id. id == j) ids ≡ true → number_of (λ id. id == i) (filter (λ id. not (id == j)) ids) + one (j == i) ≤ number_of (λ id. id == i) ids
id_goes i j ids e = elim (cases_Bool (j == i)) [
  | inl t ↦ rw t (found_goes (λ id. id == i) (λ id. id == j) ids (λ id u. eq-eqb id i (eqb-true id j u ∙ eqb-true j i t)) e)
  | inr f ↦ rw f (omega (arith, number-filter (λ id. id == i) (λ id. not (id == j)) ids))
]

-- one more below n + 1
pub below_more_one : (i n : ℕ) → one (ltb i (n + 1)) ≡ one (ltb i n) + one (n == i)
below_more_one i n = elim (cases_order i n) [
  | inl e ↦ rw (lt-ltb i (n + 1) (omega arith), le-ltb i n (omega arith), eq-eqb n i (sym e)) refl
  | inr ne ↦ elim ne [
    | inl lt ↦ rw (lt-ltb i (n + 1) (omega arith), lt-ltb i n lt, ne_eqb n i (omega arith)) refl
    | inr gt ↦ rw (le-ltb i (n + 1) (omega arith), le-ltb i n (omega arith), ne_eqb n i (omega arith)) refl
  ]
]

-- ---- the server's lists

abbrev pub holds_call : ℕ → Active → Bool
holds_call i (waiting_call id channel name arg c until) = id == i
holds_call i (handed_call id) = id == i
holds_call i (waiting_listen id channel event until) = false
holds_call i (listener id channel event) = false

pub cancel_holds : (i j : ℕ) (a : Active) → holds i (cancel_one j a) ≡ holds i a
cancel_holds i j (waiting_call id channel name arg c until) = refl
cancel_holds i j (handed_call id) = refl
cancel_holds i j (waiting_listen id channel event until) = refl
cancel_holds i j (listener id channel event) = refl

pub cancel_holds_call : (i j : ℕ) (a : Active) → holds_call i (cancel_one j a) ≡ holds_call i a
cancel_holds_call i j (waiting_call id channel name arg c until) = refl
cancel_holds_call i j (handed_call id) = refl
cancel_holds_call i j (waiting_listen id channel event until) = refl
cancel_holds_call i j (listener id channel event) = refl

either : {A : Type 0} (f : A → Bool) (b : Bool) (x y : A) (r : Bool) → f x ≡ r → f y ≡ r → f (cond b x y) ≡ r
either f true x y r p q = p
either f false x y r p q = q

pub open_holds : (i : ℕ) (ch : List ℕ) (a : Active) → holds i (open_one ch a) ≡ holds i a
open_holds i ch (waiting_call id channel name arg c until) = either (holds i) (bytes_eq ch channel) (handed_call id) (waiting_call id channel name arg c until) (id == i) refl refl
open_holds i ch (handed_call id) = refl
open_holds i ch (waiting_listen id channel event until) = either (holds i) (bytes_eq ch channel) (listener id channel event) (waiting_listen id channel event until) (id == i) refl refl
open_holds i ch (listener id channel event) = refl

pub open_holds_call : (i : ℕ) (ch : List ℕ) (a : Active) → holds_call i (open_one ch a) ≡ holds_call i a
open_holds_call i ch (waiting_call id channel name arg c until) = either (holds_call i) (bytes_eq ch channel) (handed_call id) (waiting_call id channel name arg c until) (id == i) refl refl
open_holds_call i ch (handed_call id) = refl
open_holds_call i ch (waiting_listen id channel event until) = either (holds_call i) (bytes_eq ch channel) (listener id channel event) (waiting_listen id channel event until) false refl refl
open_holds_call i ch (listener id channel event) = refl

handed_holds : (i j : ℕ) (a : Active) → j ≡ i → is_handed j a ≡ true → holds_call i a ≡ true
handed_holds i j (waiting_call id channel name arg c until) e t = absurd cc
handed_holds i j (handed_call id) e t = subst (λ (k : ℕ). (id == k) ≡ true) e t
handed_holds i j (waiting_listen id channel event until) e t = absurd cc
handed_holds i j (listener id channel event) e t = absurd cc

pub call_goes : (i j : ℕ) (held : List Active) → list_any (is_handed j) held ≡ true → number_of (holds_call i) (filter (λ a. not (is_handed j a)) held) + one (j == i) ≤ number_of (holds_call i) held
call_goes i j held e = elim (cases_Bool (j == i)) [
  | inl t ↦ rw t (found_goes (holds_call i) (is_handed j) held (λ a u. handed_holds i j a (eqb-true j i t) u) e)
  | inr f ↦ rw f (omega (arith, number-filter (holds_call i) (λ a. not (is_handed j a)) held))
]

-- fires are no responses
pub fires_answer_none : (i : ℕ) (ch ev : List ℕ) (body : Tree) (held : List Active) → number_of (is_response i) (filter_map (fire_one ch ev body) held) ≡ 0
fires_answer_none i ch ev body [] = refl
fires_answer_none i ch ev body (waiting_call id channel name arg c until ∷ held) = fires_answer_none i ch ev body held
fires_answer_none i ch ev body (handed_call id ∷ held) = fires_answer_none i ch ev body held
fires_answer_none i ch ev body (waiting_listen id channel event until ∷ held) = fires_answer_none i ch ev body held
fires_answer_none i ch ev body (listener id channel event ∷ held) =
    elim (cases_Bool (bytes_eq ch channel && bytes_eq ev event)) [
      | inl t ↦ rw t (omega (arith, fires_answer_none i ch ev body held))
      | inr f ↦ rw f (fires_answer_none i ch ev body held)
    ]

-- a call that is late answers leaves and is answered
pub late_goes : (i now : ℕ) (held : List Active) → number_of (holds_call i) (filter (λ a. not (is_timed_out now a)) held) + number_of (is_response i) (filter_map (timeout_one now) held) ≡ number_of (holds_call i) held
late_goes i now [] = refl
late_goes i now (waiting_call id channel name arg c until ∷ held) =
    elim (cases_Bool (nat_le until now)) [
      | inl t ↦ rw t (omega (arith, late_goes i now held))
      | inr f ↦ rw f (omega (arith, late_goes i now held))
    ]
late_goes i now (handed_call id ∷ held) = omega (arith, late_goes i now held)
late_goes i now (waiting_listen id channel event until ∷ held) =
    elim (cases_Bool (nat_le until now)) [
      | inl t ↦ rw t (omega (arith, late_goes i now held))
      | inr f ↦ rw f (omega (arith, late_goes i now held))
    ]
late_goes i now (listener id channel event ∷ held) = omega (arith, late_goes i now held)
