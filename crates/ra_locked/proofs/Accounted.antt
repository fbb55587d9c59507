-- Marks that went through bear the receipts out.
use Rattle.std.proofs.Common.{◌≡◌, ◌≢◌, ◌⊎◌, ℕ, ◌+◌, ◌<◌, ◌≤◌, Bool, true, false, true≢false, cond, zero, suc, List, [], ◌∷◌, length, replicate, refl, sym, ap, subst, ◌∙◌, inl, inr, arith}
use Rattle.std.specs.Prelude.{slice_get, slice_index, slice_set, Option, Some}
use Rattle.std.proofs.Math.ListN.{length-set}
use Rattle.std.proofs.lemmas.List.Recursion.{is_count_by}
use Rattle.ra_registry.specs.declared.past.Past.{Past}
use Rattle.ra_locked.specs.declared.receipt.Receipt.{Receipt}
use Rattle.ra_locked.specs.Receipts.{is_call, calls, is_of_call}
use Rattle.ra_locked.specs.Accounts.{Stand, Rise, Apart, IsReceipted, AreReceiptsOf, OfCalls}
use Rattle.std.specs.List.{list_all}
use Rattle.std.proofs.Common.{◌&&◌}
use Rattle.std.proofs.Common.{◌++◌}
use Rattle.ra_locked.specs.PlaceMarks.{Marks, MarksAll, marked, receipts_in}

-- ---- one mark

set_nonzero : (m : List ℕ) (p v q : ℕ) → 0 < v → slice_index m q ≢ 0 → slice_index (slice_set m p v) q ≢ 0
set_nonzero [] p v q pos some = absurd (some refl)
set_nonzero (x ∷ xs) zero v zero pos some = λ e. absurd (omega arith)
set_nonzero (x ∷ xs) zero v (suc q) pos some = some
set_nonzero (x ∷ xs) (suc p) v zero pos some = some
set_nonzero (x ∷ xs) (suc p) v (suc q) pos some = set_nonzero xs p v q pos some

set_here : (m : List ℕ) (p v : ℕ) → 0 < v → p < length m → slice_index (slice_set m p v) p ≢ 0
set_here [] p v pos within = absurd (omega arith)
set_here (x ∷ xs) zero v pos within = λ e. absurd (omega arith)
set_here (x ∷ xs) (suc p) v pos within = set_here xs p v pos (omega arith)

set_zero : (m : List ℕ) (p v q : ℕ) → 0 < v → slice_index (slice_set m p v) q ≡ 0 → slice_index m q ≡ 0
set_zero [] p v q pos e = refl
set_zero (x ∷ xs) zero v zero pos e = absurd (omega arith)
set_zero (x ∷ xs) zero v (suc q) pos e = e
set_zero (x ∷ xs) (suc p) v zero pos e = e
set_zero (x ∷ xs) (suc p) v (suc q) pos e = set_zero xs p v q pos e

set_cases : (m : List ℕ) (p v q : ℕ) → slice_index (slice_set m p v) q ≢ 0 → (p ≡ q) ⊎ (slice_index m q ≢ 0)
set_cases [] p v q some = inr some
set_cases (x ∷ xs) zero v zero some = inl refl
set_cases (x ∷ xs) zero v (suc q) some = inr some
set_cases (x ∷ xs) (suc p) v zero some = inr some
set_cases (x ∷ xs) (suc p) v (suc q) some = elim (set_cases xs p v q some) [ inl e ↦ inl (ap suc e) | inr n ↦ inr n ]

filled : List ℕ → ℕ
filled [] = 0
filled (zero ∷ xs) = filled xs
filled (suc x ∷ xs) = filled xs + 1

set_fills : (m : List ℕ) (p v : ℕ) → 0 < v → p < length m → slice_index m p ≡ 0 → filled (slice_set m p v) ≡ filled m + 1
unfolding filled
set_fills [] p v pos within e = absurd (omega arith)
set_fills (zero ∷ xs) zero zero pos within e = absurd (omega arith)
set_fills (zero ∷ xs) zero (suc v) pos within e = refl
set_fills (suc x ∷ xs) zero v pos within e = absurd (omega arith)
set_fills (zero ∷ xs) (suc p) v pos within e = set_fills xs p v pos (omega arith) e
set_fills (suc x ∷ xs) (suc p) v pos within e = let r = set_fills xs p v pos (omega arith) e in omega arith

-- ---- one book

length-marked : (n : ℕ) (m : List ℕ) (b : List Receipt) → length (marked n m b) ≡ length m
length-marked n m [] = refl
length-marked n m (r ∷ rs) = length-marked n (slice_set m r.place (n + 1)) rs ∙ length-set m r.place (n + 1)

stays : (n : ℕ) (m : List ℕ) (b : List Receipt) (q : ℕ) → slice_index m q ≢ 0 → slice_index (marked n m b) q ≢ 0
stays n m [] q some = some
stays n m (r ∷ rs) q some = stays n (slice_set m r.place (n + 1)) rs q (set_nonzero m r.place (n + 1) q (omega arith) some)

zero_back : (n : ℕ) (m : List ℕ) (b : List Receipt) (q : ℕ) → slice_index (marked n m b) q ≡ 0 → slice_index m q ≡ 0
zero_back n m [] q e = e
zero_back n m (r ∷ rs) q e = set_zero m r.place (n + 1) q (omega arith) (zero_back n (slice_set m r.place (n + 1)) rs q e)

get_inside : {A : Type 0} (xs : List A) (n : ℕ) (x : A) → slice_get xs n ≡ Some x → n < length xs
get_inside [] n x e = absurd cc
get_inside (y ∷ ys) zero x e = omega arith
get_inside (y ∷ ys) (suc n) x e = let h = get_inside ys n x e in omega arith

same_some : {A : Type 0} (x y : A) → ◌≡◌ {A = Option A} (Some x) (Some y) → x ≡ y
same_some x y e = cc

fresh : (h : List Past) (n : ℕ) (m : List ℕ) (next : ℕ) (b : List Receipt) → Marks h n m next b → (k : ℕ) (r : Receipt) → slice_get b k ≡ Some r → slice_index m r.place ≡ 0
fresh h n m next [] all k r e = absurd cc
fresh h n m next (x ∷ xs) all zero r e = subst (λ (y : Receipt). slice_index m y.place ≡ 0) (same_some x r e) all.1
fresh h n m next (x ∷ xs) all (suc k) r e = set_zero m x.place (n + 1) r.place (omega arith) (fresh h n (slice_set m x.place (n + 1)) (x.place + 1) xs all.3 k r e)

has_mark : (h : List Past) (n : ℕ) (m : List ℕ) (next : ℕ) (b : List Receipt) → length m ≡ length h → Marks h n m next b → (k : ℕ) (r : Receipt) → slice_get b k ≡ Some r → slice_index (marked n m b) r.place ≢ 0
has_mark h n m next [] len all k r e = absurd cc
has_mark h n m next (x ∷ xs) len all zero r e =
    let within = get_inside h x.place x.past all.0 in
    let here = stays n (slice_set m x.place (n + 1)) xs x.place (set_here m x.place (n + 1) (omega arith) (omega arith)) in
    subst (λ (y : Receipt). slice_index (marked n m (x ∷ xs)) y.place ≢ 0) (same_some x r e) here
has_mark h n m next (x ∷ xs) len all (suc k) r e = has_mark h n (slice_set m x.place (n + 1)) (x.place + 1) xs (length-set m x.place (n + 1) ∙ len) all.3 k r e

stand : (h : List Past) (n : ℕ) (m : List ℕ) (next : ℕ) (b : List Receipt) → Marks h n m next b → Stand h b
stand h n m next [] all k r e = absurd cc
stand h n m next (x ∷ xs) all zero r e = subst (λ (y : Receipt). slice_get h y.place ≡ Some y.past) (same_some x r e) all.0
stand h n m next (x ∷ xs) all (suc k) r e = stand h n (slice_set m x.place (n + 1)) (x.place + 1) xs all.3 k r e

above : (h : List Past) (n : ℕ) (m : List ℕ) (next : ℕ) (b : List Receipt) → Marks h n m next b → (k : ℕ) (r : Receipt) → slice_get b k ≡ Some r → next ≤ r.place
above h n m next [] all k r e = absurd cc
above h n m next (x ∷ xs) all zero r e = subst (λ (y : Receipt). next ≤ y.place) (same_some x r e) all.2
above h n m next (x ∷ xs) all (suc k) r e =
    let a = above h n (slice_set m x.place (n + 1)) (x.place + 1) xs all.3 k r e in let b = all.2 in omega arith

rise : (h : List Past) (n : ℕ) (m : List ℕ) (next : ℕ) (b : List Receipt) → Marks h n m next b → Rise b
rise h n m next [] all j k r s before er es = absurd cc
rise h n m next (x ∷ xs) all zero zero r s before er es = absurd (omega arith)
rise h n m next (x ∷ xs) all zero (suc k) r s before er es =
    let a = above h n (slice_set m x.place (n + 1)) (x.place + 1) xs all.3 k s es in
    subst (λ (y : Receipt). y.place < s.place) (same_some x r er) (omega arith)
rise h n m next (x ∷ xs) all (suc j) zero r s before er es = absurd (omega arith)
rise h n m next (x ∷ xs) all (suc j) (suc k) r s before er es = rise h n (slice_set m x.place (n + 1)) (x.place + 1) xs all.3 j k r s (omega arith) er es

abbrev IsIn : List Receipt → ℕ → Type 0
IsIn b p = (k : ℕ) × (r : Receipt) × (slice_get b k ≡ Some r) × (r.place ≡ p)

came_from : (n : ℕ) (m : List ℕ) (b : List Receipt) (p : ℕ) → slice_index (marked n m b) p ≢ 0 → (slice_index m p ≢ 0) ⊎ IsIn b p
came_from n m [] p some = inl some
came_from n m (x ∷ xs) p some = elim (came_from n (slice_set m x.place (n + 1)) xs p some) [
  | inl was ↦ elim (set_cases m x.place (n + 1) p was) [
    | inl here ↦ inr (0, x, refl, here)
    | inr before ↦ inl before
  ]
  | inr later ↦ inr (suc later.0, later.1, later.2, later.3)
]

count_book : (h : List Past) (n : ℕ) (m : List ℕ) (next : ℕ) (b : List Receipt) → length m ≡ length h → Marks h n m next b → filled (marked n m b) ≡ filled m + length b
count_book h n m next [] len all = omega arith
count_book h n m next (x ∷ xs) len all =
    let within = get_inside h x.place x.past all.0 in
    let one = set_fills m x.place (n + 1) (omega arith) (omega arith) all.1 in
    let more = count_book h n (slice_set m x.place (n + 1)) (x.place + 1) xs (length-set m x.place (n + 1) ∙ len) all.3 in omega arith

-- ---- all books

marked_all : ℕ → List ℕ → List (List Receipt) → List ℕ
marked_all n m [] = m
marked_all n m (b ∷ bs) = marked_all (n + 1) (marked n m b) bs

fresh_all : (h : List Past) (n : ℕ) (m : List ℕ) (bs : List (List Receipt)) → MarksAll h n m bs → (j : ℕ) (c : List Receipt) (k : ℕ) (r : Receipt) → slice_get bs j ≡ Some c → slice_get c k ≡ Some r → slice_index m r.place ≡ 0
fresh_all h n m [] all j c k r ec er = absurd cc
fresh_all h n m (b ∷ bs) all zero c k r ec er = fresh h n m 0 b all.0 k r (ap (λ l. slice_get l k) (same_some b c ec) ∙ er)
fresh_all h n m (b ∷ bs) all (suc j) c k r ec er = zero_back n m b r.place (fresh_all h (n + 1) (marked n m b) bs all.1 j c k r ec er)

stand_all : (h : List Past) (n : ℕ) (m : List ℕ) (bs : List (List Receipt)) → MarksAll h n m bs → (i : ℕ) (b : List Receipt) → slice_get bs i ≡ Some b → Stand h b × Rise b
stand_all h n m [] all i b e = absurd cc
stand_all h n m (x ∷ xs) all zero b e = subst (λ c. Stand h c × Rise c) (same_some x b e) (stand h n m 0 x all.0, rise h n m 0 x all.0)
stand_all h n m (x ∷ xs) all (suc i) b e = stand_all h (n + 1) (marked n m x) xs all.1 i b e

apart_all : (h : List Past) (n : ℕ) (m : List ℕ) (bs : List (List Receipt)) → length m ≡ length h → MarksAll h n m bs → Apart bs
apart_all h n m [] len all i j b c before eb ec k l r s er es same = absurd cc
apart_all h n m (x ∷ xs) len all zero zero b c before eb ec k l r s er es same = absurd (omega arith)
apart_all h n m (x ∷ xs) len all zero (suc j) b c before eb ec k l r s er es same =
    let has = has_mark h n m 0 x len all.0 k r (ap (λ y. slice_get y k) (same_some x b eb) ∙ er) in
    let none = fresh_all h (n + 1) (marked n m x) xs all.1 j c l s ec es in
    has (ap (λ p. slice_index (marked n m x) p) same ∙ none)
apart_all h n m (x ∷ xs) len all (suc i) zero b c before eb ec k l r s er es same = absurd (omega arith)
apart_all h n m (x ∷ xs) len all (suc i) (suc j) b c before eb ec k l r s er es same = apart_all h (n + 1) (marked n m x) xs (length-marked n m x ∙ len) all.1 i j b c (omega arith) eb ec k l r s er es same

length_all : (n : ℕ) (m : List ℕ) (bs : List (List Receipt)) → length (marked_all n m bs) ≡ length m
unfolding marked_all
length_all n m [] = refl
length_all n m (b ∷ bs) = length_all (n + 1) (marked n m b) bs ∙ length-marked n m b

came_from_all : (n : ℕ) (m : List ℕ) (bs : List (List Receipt)) (p : ℕ) → slice_index (marked_all n m bs) p ≢ 0 → (slice_index m p ≢ 0) ⊎ IsReceipted bs p
unfolding marked_all
came_from_all n m [] p some = inl some
came_from_all n m (b ∷ bs) p some = elim (came_from_all (n + 1) (marked n m b) bs p some) [
  | inl was ↦ elim (came_from n m b p was) [
    | inl before ↦ inl before
    | inr here ↦ inr (0, b, here.0, here.1, refl, here.2, here.3)
  ]
  | inr later ↦ inr (suc later.0, later.1, later.2, later.3, later.4, later.5, later.6)
]

count_all : (h : List Past) (n : ℕ) (m : List ℕ) (bs : List (List Receipt)) → length m ≡ length h → MarksAll h n m bs → filled (marked_all n m bs) ≡ filled m + receipts_in bs
unfolding marked_all
count_all h n m [] len all = omega arith
count_all h n m (b ∷ bs) len all =
    let one = count_book h n m 0 b len all.0 in
    let more = count_all h (n + 1) (marked n m b) bs (length-marked n m b ∙ len) all.1 in omega arith

-- ---- every call has a mark

calls_of : List Past → ℕ
calls_of [] = 0
calls_of (e ∷ es) = cond (is_call e.did) (1 + calls_of es) (calls_of es)

calls_same : (h : List Past) → calls_of h ≡ calls h
unfolding calls_of
calls_same h = is_count_by calls_of (λ (e : Past). is_call e.did) refl (λ e es. refl) h

abbrev OnlyCalls : List Past → List ℕ → Type 0
OnlyCalls h m = (p : ℕ) (e : Past) → slice_index m p ≢ 0 → slice_get h p ≡ Some e → is_call e.did ≡ true

at_most : (h : List Past) (m : List ℕ) → length m ≡ length h → OnlyCalls h m → filled m ≤ calls_of h
unfolding filled calls_of
at_most [] [] len only = omega arith
at_most [] (x ∷ xs) len only = absurd (omega arith)
at_most (e ∷ es) [] len only = absurd (omega arith)
at_most (e ∷ es) (zero ∷ xs) len only = let r = at_most es xs (omega arith) (λ p f some at. only (suc p) f some at) in grind arith
at_most (e ∷ es) (suc x ∷ xs) len only =
    let call = only 0 e (λ z. absurd (omega arith)) refl in
    let r = at_most es xs (omega arith) (λ p f some at. only (suc p) f some at) in rw call (omega arith)

all_called : (h : List Past) (m : List ℕ) → length m ≡ length h → OnlyCalls h m → calls_of h ≡ filled m → (p : ℕ) (e : Past) → slice_get h p ≡ Some e → is_call e.did ≡ true → slice_index m p ≢ 0
unfolding filled calls_of
all_called [] m len only count p e at call = absurd cc
all_called (f ∷ fs) [] len only count p e at call = absurd (omega arith)
all_called (f ∷ fs) (suc x ∷ xs) len only count zero e at call = λ z. absurd (omega arith)
all_called (f ∷ fs) (suc x ∷ xs) len only count (suc p) e at call =
    let is = only 0 f (λ z. absurd (omega arith)) refl in
    let n = rw is at count in
    all_called fs xs (omega arith) (λ q g some h. only (suc q) g some h) (omega arith) p e at call
all_called (f ∷ fs) (zero ∷ xs) len only count p e at call = by (is_call f.did) refl p at (λ q same there. all_called fs xs (omega arith) (λ q g some h. only (suc q) g some h) same q e there call)
  where
    by : (b : Bool) → is_call f.did ≡ b → (p : ℕ) → slice_get (f ∷ fs) p ≡ Some e → ((q : ℕ) → calls_of fs ≡ filled xs → slice_get fs q ≡ Some e → slice_index xs q ≢ 0) → slice_index (zero ∷ xs) p ≢ 0
    by true is p at later =
        let most = at_most fs xs (omega arith) (λ q g some h. only (suc q) g some h) in
        let n = rw is at count in absurd (omega arith)
    by false is zero at later = let same : f ≡ e = same_some f e at in absurd (true≢false (sym call ∙ (ap (λ (y : Past). is_call y.did) (sym same) ∙ is)))
    by false is (suc p) at later = let n = rw is at count in later p n at

filled_zeros : (n : ℕ) → filled (replicate n 0) ≡ 0
unfolding filled
filled_zeros zero = refl
filled_zeros (suc n) = filled_zeros n

zeros_zero : (n p : ℕ) → slice_index (replicate n 0) p ≡ 0
zeros_zero zero p = refl
zeros_zero (suc n) zero = refl
zeros_zero (suc n) (suc p) = zeros_zero n p

length_zeros : (n : ℕ) → length {A = ℕ} (replicate n 0) ≡ n
length_zeros zero = refl
length_zeros (suc n) = let r = length_zeros n in omega arith

-- the receipts of the books are of calls
abbrev pub AreOfCalls : List (List Receipt) → Type 0
AreOfCalls bs = (i : ℕ) (b : List Receipt) (k : ℕ) (r : Receipt) → slice_get bs i ≡ Some b → slice_get b k ≡ Some r → is_call r.past.did ≡ true

pub are_receipts_of : (h : List Past) (bs : List (List Receipt)) → MarksAll h 0 (replicate (length h) 0) bs → calls h ≤ receipts_in bs → AreOfCalls bs → AreReceiptsOf h bs
are_receipts_of h bs all count of_calls =
    let m : List ℕ = replicate (length h) 0 in
    let len : length m ≡ length h = length_zeros (length h) in
    let end : List ℕ = marked_all 0 m bs in
    let from : (p : ℕ) → slice_index end p ≢ 0 → IsReceipted bs p = λ p some. elim (came_from_all 0 m bs p some) [
      | inl was ↦ absurd (was (zeros_zero (length h) p))
      | inr it ↦ it
    ] in
    let only : OnlyCalls h end = λ p e some at.
    let it = from p some in
    let there = (stand_all h 0 m bs all it.0 it.1 it.4).0 it.2 it.3 it.5 in
    let same : it.3.past ≡ e = same_some it.3.past e (sym there ∙ (ap (λ q. slice_get h q) it.6 ∙ at)) in
    ap (λ (y : Past). is_call y.did) (sym same) ∙ of_calls it.0 it.1 it.2 it.3 it.4 it.5 in
    let filled_is = count_all h 0 m bs len all in
    let none = filled_zeros (length h) in
    let calls_is = calls_same h in
    let most = at_most h end (length_all 0 m bs ∙ len) only in
    record {
      stand = stand_all h 0 m bs all;
      apart = apart_all h 0 m bs len all;
      whole = λ p e at call. from p (all_called h end (length_all 0 m bs ∙ len) only (omega arith) p e at call);
    }

both_true : (a b : Bool) → (a && b) ≡ true → (a ≡ true) × (b ≡ true)
both_true true b h = (refl, h)
both_true false b h = absurd (true≢false (sym h))

list_all_get : (b : List Receipt) → list_all is_of_call b ≡ true → (k : ℕ) (r : Receipt) → slice_get b k ≡ Some r → is_call r.past.did ≡ true
list_all_get [] all k r e = absurd cc
list_all_get (x ∷ xs) all zero r e = ap (λ (y : Receipt). is_call y.past.did) (sym (same_some x r e)) ∙ (both_true (is_of_call x) (list_all is_of_call xs) all).0
list_all_get (x ∷ xs) all (suc k) r e = list_all_get xs (both_true (is_of_call x) (list_all is_of_call xs) all).1 k r e

pub of_calls : (bs : List (List Receipt)) → OfCalls bs → AreOfCalls bs
of_calls [] all i b k r eb er = absurd cc
of_calls (x ∷ xs) all zero b k r eb er = list_all_get x all.0 k r (ap (λ y. slice_get y k) (same_some x b eb) ∙ er)
of_calls (x ∷ xs) all (suc i) b k r eb er = of_calls xs all.1 i b k r eb er

pub of_calls_snoc : (bs : List (List Receipt)) (b : List Receipt) → OfCalls bs → list_all is_of_call b ≡ true → OfCalls (bs ++ b ∷ [])
of_calls_snoc [] b all h = (h, tt)
of_calls_snoc (x ∷ xs) b all h = (all.0, of_calls_snoc xs b all.1 h)

pub receipts_snoc : (bs : List (List Receipt)) (b : List Receipt) → receipts_in (bs ++ b ∷ []) ≡ receipts_in bs + length b
receipts_snoc [] b = omega arith
receipts_snoc (x ∷ xs) b = let r = receipts_snoc xs b in omega arith
