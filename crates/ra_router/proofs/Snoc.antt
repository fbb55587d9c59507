-- How the plain lists, and the queues that stand for them, change at one step.
use Rattle.std.proofs.Common.{◌≡◌, ℕ, ◌+◌, ◌<◌, ◌≤◌, ◌&&◌, Bool, true, false, cond, zero, suc, List, [], ◌∷◌, ◌++◌, length, take, drop, refl, sym, ap, subst, ◌∙◌, arith}
use Rattle.std.specs.Prelude.{filter, slice_get, Some, None, bytes_eq}
use Rattle.std.proofs.lemmas.List.{append-nil, length-append, take_all}
use Rattle.std.proofs.lemmas.List.Elements.{filter-append}
use Rattle.ra_router.specs.declared.ask.Step.{Step}
use Rattle.ra_router.specs.Hops.{Placed, placed, hops, hops_for, nexts_of, hop_limit, is_for, is_to, is_next}
use Rattle.ra_router.proofs.Placed.{placed_append}
use Rattle.ra_router.proofs.Nexts.{short_take}

abbrev pub at_end : List Step → Step → Placed
at_end past x = record { place = length past; step = x }

pub placed_snoc : (past : List Step) (x : Step) → placed (past ++ x ∷ []) ≡ placed past ++ at_end past x ∷ []
placed_snoc past x =
    let zero_is : 0 + length past ≡ length past = omega arith in
    placed_append 0 past (x ∷ []) ∙ ap (λ (n : ℕ). placed past ++ record { place = n; step = x } ∷ []) zero_is

pub filter_snoc : (p : Placed → Bool) (past : List Step) (x : Step) → filter p (placed (past ++ x ∷ [])) ≡ filter p (placed past) ++ cond (p (at_end past x)) (at_end past x ∷ []) []
filter_snoc p past x = ap (filter p) (placed_snoc past x) ∙ filter-append p (placed past) (at_end past x ∷ [])

pub nexts_snoc : (w : List ℕ) (past : List Step) (x : Step) → nexts_of w (past ++ x ∷ []) ≡ nexts_of w past ++ cond (is_next x.ask && bytes_eq x.from w) (at_end past x ∷ []) []
nexts_snoc w past x = filter_snoc (λ (s : Placed). is_next s.step.ask && (bytes_eq s.step.from w)) past x

-- a step that is no call for a hop
pub nexts_same : (w : List ℕ) (past : List Step) (x : Step) → is_next x.ask ≡ false → nexts_of w (past ++ x ∷ []) ≡ nexts_of w past
nexts_same w past x is =
    nexts_snoc w past x ∙ ap (λ (b : Bool). nexts_of w past ++ cond (b && bytes_eq x.from w) (at_end past x ∷ []) []) is ∙ append-nil (nexts_of w past)

pub nexts_more : (w : List ℕ) (past : List Step) (x : Step) → is_next x.ask ≡ true → nexts_of w (past ++ x ∷ []) ≡ nexts_of w past ++ cond (bytes_eq x.from w) (at_end past x ∷ []) []
nexts_more w past x is = nexts_snoc w past x ∙ ap (λ (b : Bool). nexts_of w past ++ cond (b && bytes_eq x.from w) (at_end past x ∷ []) []) is

-- a step that is no call to a window
pub hops_same : (past : List Step) (x : Step) → is_to x.ask ≡ false → hops (past ++ x ∷ []) ≡ hops past
hops_same past x is =
    ap (take hop_limit) (filter_snoc (λ (s : Placed). is_to s.step.ask) past x
    ∙ ap (λ (b : Bool). filter (λ (s : Placed). is_to s.step.ask) (placed past) ++ cond b (at_end past x ∷ []) []) is
    ∙ append-nil (filter (λ (s : Placed). is_to s.step.ask) (placed past)))

-- with no room for one hop more
take_full : (n : ℕ) (l m : List Placed) → n ≤ length (take n l) → take n (l ++ m) ≡ take n l
take_full zero l m le = refl
take_full (suc n) [] m le = absurd (omega arith)
take_full (suc n) (x ∷ xs) m le = ap (λ l. x ∷ l) (take_full n xs m (omega arith))

pub hops_full : (past : List Step) (x : Step) → hop_limit ≤ length (hops past) → hops (past ++ x ∷ []) ≡ hops past
hops_full past x full =
    ap (take hop_limit) (filter_snoc (λ (s : Placed). is_to s.step.ask) past x)
    ∙ take_full hop_limit (filter (λ (s : Placed). is_to s.step.ask) (placed past)) (cond (is_to x.ask) (at_end past x ∷ []) []) full

-- with room for it
pub hops_more : (past : List Step) (x : Step) → length (hops past) < hop_limit → is_to x.ask ≡ true → hops (past ++ x ∷ []) ≡ hops past ++ at_end past x ∷ []
hops_more past x room is =
    let all : List Placed = filter (λ (s : Placed). is_to s.step.ask) (placed past) in
    let whole : take hop_limit all ≡ all = short_take hop_limit all room in
    let short : length all < hop_limit = subst (λ (l : List Placed). length l < hop_limit) whole room in
    ap (take hop_limit) (filter_snoc (λ (s : Placed). is_to s.step.ask) past x ∙ ap (λ (b : Bool). all ++ cond b (at_end past x ∷ []) []) is)
    ∙ take_all hop_limit (all ++ at_end past x ∷ []) (let e = length-append all (at_end past x ∷ []) in omega arith)
    ∙ ap (λ (l : List Placed). l ++ at_end past x ∷ []) (sym whole)

pub hops_for_more : (w : List ℕ) (past : List Step) (x : Step) → length (hops past) < hop_limit → is_to x.ask ≡ true
    → hops_for w (past ++ x ∷ []) ≡ hops_for w past ++ cond (is_for w (at_end past x)) (at_end past x ∷ []) []
hops_for_more w past x room is = ap (filter (is_for w)) (hops_more past x room is) ∙ filter-append (is_for w) (hops past) (at_end past x ∷ [])

-- ---- queues

pub get_drop : (n : ℕ) (l : List Placed) → slice_get (drop n l) 0 ≡ slice_get l n
get_drop zero l = refl
get_drop (suc n) [] = refl
get_drop (suc n) (x ∷ xs) = get_drop n xs

pub some_first : (n : ℕ) (l : List Placed) (c : Placed) → slice_get (drop n l) 0 ≡ Some c → n < length l
some_first n [] c e = absurd (none_of n e)
  where
    none_of : (n : ℕ) → slice_get (drop n []) 0 ≡ Some c → ⊥
    none_of zero e = cc
    none_of (suc n) e = cc
some_first zero (x ∷ xs) c e = omega arith
some_first (suc n) (x ∷ xs) c e = let h = some_first n xs c e in omega arith

pub none_first : (n : ℕ) (l : List Placed) → slice_get (drop n l) 0 ≡ None → length l ≤ n
none_first n [] e = omega arith
none_first zero (x ∷ xs) e = absurd cc
none_first (suc n) (x ∷ xs) e = let h = none_first n xs e in omega arith

pub drop_past : (n : ℕ) (l : List Placed) → length l ≤ n → drop n l ≡ []
drop_past zero [] le = refl
drop_past (suc n) [] le = refl
drop_past zero (x ∷ xs) le = absurd (omega arith)
drop_past (suc n) (x ∷ xs) le = drop_past n xs (omega arith)

one_more : (l : List Placed) (x : Placed) → length (l ++ x ∷ []) ≡ suc (length l)
one_more [] x = refl
one_more (y ∷ ys) x = ap suc (one_more ys x)

drop_one : (n : ℕ) (l : List Placed) → drop (suc n) l ≡ drop 1 (drop n l)
drop_one zero l = refl
drop_one (suc n) [] = refl
drop_one (suc n) (x ∷ xs) = drop_one n xs

drop_grown : (n : ℕ) (l : List Placed) (x : Placed) → n ≤ length l → drop n (l ++ x ∷ []) ≡ drop n l ++ x ∷ []
drop_grown zero l x le = refl
drop_grown (suc n) [] x le = absurd (omega arith)
drop_grown (suc n) (y ∷ ys) x le = drop_grown n ys x (omega arith)

-- of two lists, where one grows by this element or not: what the other has beyond its length, and what it has beyond the other's
pub pops : (b : Bool) (n h : List Placed) (x : Placed) → drop (length (h ++ cond b (x ∷ []) [])) n ≡ cond b (drop 1 (drop (length h) n)) (drop (length h) n)
pops true n h x = ap (λ (k : ℕ). drop k n) (one_more h x) ∙ drop_one (length h) n
pops false n h x = ap (λ (l : List Placed). drop (length l) n) (append-nil h)

pub pops_none : (b : Bool) (n h : List Placed) (x : Placed) → (b ≡ true → length n ≤ length h) → drop (length (h ++ cond b (x ∷ []) [])) n ≡ drop (length h) n
pops_none true n h x le =
    let short : length n ≤ length h = le refl in
    drop_past (length (h ++ x ∷ [])) n (let e = one_more h x in omega arith) ∙ sym (drop_past (length h) n short)
pops_none false n h x le = ap (λ (l : List Placed). drop (length l) n) (append-nil h)

pub pushes : (b : Bool) (n h : List Placed) (x : Placed) → (b ≡ true → length n ≤ length h) → drop (length n) (h ++ cond b (x ∷ []) []) ≡ drop (length n) h ++ cond b (x ∷ []) []
pushes true n h x le = drop_grown (length n) h x (le refl)
pushes false n h x le = ap (drop (length n)) (append-nil h) ∙ sym (append-nil (drop (length n) h))

pub pushes_none : (b : Bool) (n h : List Placed) (x : Placed) → (b ≡ true → length h < length n) → drop (length n) (h ++ cond b (x ∷ []) []) ≡ drop (length n) h
pushes_none true n h x lt =
    let long : length h < length n = lt refl in
    drop_past (length n) (h ++ x ∷ []) (let e = one_more h x in omega arith) ∙ sym (drop_past (length n) h (omega arith))
pushes_none false n h x lt = ap (drop (length n)) (append-nil h)
