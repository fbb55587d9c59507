-- Drawing byte by byte, and step by step.
use Rattle.std.proofs.Common.{◌≡◌, ℕ, zero, suc, ◌+◌, ◌-◌, ◌*◌, ◌%◌, ◌<◌, ◌≤◌, Bool, true, false, cond, ltb, List, [], ◌∷◌, ◌++◌, length, sym, ap, ◌∙◌, append_assoc, arith, length-append, lit≤}
use Rattle.std.proofs.lemmas.List.{append-nil}
use Rattle.ra_base.specs.declared.event.Side.TheVariants.{A, B}
use Rattle.ra_base.specs.declared.event.Count.TheVariants.{All}
use Rattle.ra_script.specs.declared.line.Line.{Line}
use Rattle.ra_script.specs.declared.generating.Generator.{Generator}
use Rattle.ra_script.specs.Generated.{next_state, drawn, bytes_drawn, state_after, step_lines, generator_after, steps_lines, kind_drawn, after_kind, last_lines, transfer_lines, generator_from, generated}

left : (n i : ℕ) → i < n → n - i ≡ suc (n - (i + 1))
left n i lt = omega arith

-- one byte more
pub one_byte : (front all : List ℕ) (n i x : ℕ) → i < n → front ++ bytes_drawn (n - i) x ≡ all → (front ++ drawn x % 256 ∷ []) ++ bytes_drawn (n - (i + 1)) (next_state x) ≡ all
unfolding bytes_drawn
one_byte front all n i x lt e =
    append_assoc front (drawn x % 256 ∷ []) (bytes_drawn (n - (i + 1)) (next_state x))
    ∙ sym (ap (λ (k : ℕ). front ++ bytes_drawn k x) (left n i lt)) ∙ e

pub one_state : (n i x all : ℕ) → i < n → state_after (n - i) x ≡ all → state_after (n - (i + 1)) (next_state x) ≡ all
unfolding state_after
one_state n i x all lt e = sym (ap (λ (k : ℕ). state_after k x) (left n i lt)) ∙ e

pub no_byte : (front all : List ℕ) (n i x : ℕ) → n ≤ i → front ++ bytes_drawn (n - i) x ≡ all → front ≡ all
unfolding bytes_drawn
no_byte front all n i x le e =
    let none : n - i ≡ 0 = omega arith in
    sym (ap (λ (k : ℕ). front ++ bytes_drawn k x) none ∙ append-nil front) ∙ e

pub no_state : (n i x all : ℕ) → n ≤ i → state_after (n - i) x ≡ all → x ≡ all
unfolding state_after
no_state n i x all le e =
    let none : n - i ≡ 0 = omega arith in
    sym (ap (λ (k : ℕ). state_after k x) none) ∙ e

-- ---- steps

-- one step more
pub one_step : (front all : List Line) (n i : ℕ) (s : Generator) → i < n → front ++ steps_lines (n - i) s ≡ all
    → (front ++ step_lines (kind_drawn s) (after_kind s)) ++ steps_lines (n - (i + 1)) (generator_after (kind_drawn s) (after_kind s)) ≡ all
unfolding steps_lines
one_step front all n i s lt e =
    append_assoc front (step_lines (kind_drawn s) (after_kind s)) (steps_lines (n - (i + 1)) (generator_after (kind_drawn s) (after_kind s)))
    ∙ sym (ap (λ (k : ℕ). front ++ steps_lines k s) (left n i lt)) ∙ e

pub no_step : (front all : List Line) (n i : ℕ) (s : Generator) → n ≤ i → front ++ steps_lines (n - i) s ≡ all → front ++ last_lines s.link ≡ all
unfolding steps_lines
no_step front all n i s le e =
    let none : n - i ≡ 0 = omega arith in
    sym (ap (λ (k : ℕ). front ++ steps_lines k s) none) ∙ e

bounded : {A : Type 0} (f : A → ℕ) (most : ℕ) (b : Bool) (x y : A) → f x ≤ most → f y ≤ most → f (cond b x y) ≤ most
bounded f most true x y h k = h
bounded f most false x y h k = k

-- a step raises the link by one at most, and the moment by 4000
pub link_after : (v : ℕ) (s : Generator) → (generator_after v s).link ≤ s.link + 1
unfolding generator_after
link_after v s =
    let link : Generator → ℕ = λ t. t.link in
    bounded link (s.link + 1) (ltb v 5) _ _ (omega arith) (bounded link (s.link + 1) (ltb v 9) _ _ (omega arith)
    (bounded link (s.link + 1) (ltb v 10) _ _ (omega arith) (bounded link (s.link + 1) (ltb v 11) _ _ (omega arith) (omega arith))))

pub moment_after : (v : ℕ) (s : Generator) → (generator_after v s).moment ≤ s.moment + 4000
unfolding generator_after
moment_after v s =
    let moment : Generator → ℕ = λ t. t.moment in
    bounded moment (s.moment + 4000) (ltb v 5) _ _ (omega arith) (bounded moment (s.moment + 4000) (ltb v 9) _ _ (omega arith)
    (bounded moment (s.moment + 4000) (ltb v 10) _ _ (omega arith) (bounded moment (s.moment + 4000) (ltb v 11) _ _ (omega arith) (omega arith))))

pub length-step_lines : (v : ℕ) (s : Generator) → length (step_lines v s) ≤ 11
unfolding step_lines
length-step_lines v s =
    let len : List Line → ℕ = λ lines. length lines in
    bounded len 11 (ltb v 3) _ _ (lit≤ tt) (bounded len 11 (ltb v 5) _ _ (lit≤ tt) (bounded len 11 (ltb v 7) _ _ (lit≤ tt)
    (bounded len 11 (ltb v 9) _ _ (lit≤ tt) (bounded len 11 (ltb v 10) _ _ (lit≤ tt) (bounded len 11 (ltb v 11) _ _ (lit≤ tt) (lit≤ tt))))))

pub length-steps_lines : (n : ℕ) (s : Generator) → length (steps_lines n s) ≤ 11 * n + 6
unfolding steps_lines
length-steps_lines zero s = omega arith
length-steps_lines (suc n) s =
    let first = length-step_lines (kind_drawn s) (after_kind s) in
    let others = length-steps_lines n (generator_after (kind_drawn s) (after_kind s)) in
    rw (length-append (step_lines (kind_drawn s) (after_kind s)) (steps_lines n (generator_after (kind_drawn s) (after_kind s)))) (omega arith)

pub length-generated : (start steps : ℕ) → length (generated start steps) ≤ 11 * steps + 9
length-generated start steps = let rest = length-steps_lines steps (generator_from start) in omega arith

-- one step more, as the code makes it
pub stepped : (front new all : List Line) (n i : ℕ) (s t : Generator) (r state : ℕ) → i < n → r ≡ drawn s.state → state ≡ next_state s.state
    → new ≡ front ++ step_lines (r % 12) (record s { state = state }) → t ≡ generator_after (r % 12) (record s { state = state })
    → front ++ steps_lines (n - i) s ≡ all → new ++ steps_lines (n - (i + 1)) t ≡ all
stepped front new all n i s t r state lt r-is state-is new-is t-is e = rw (new-is, t-is, r-is, state-is) (one_step front all n i s lt e)

pub stepped_link : (s t : Generator) (v state n : ℕ) → t ≡ generator_after v (record s { state = state }) → s.link ≤ n → t.link ≤ n + 1
stepped_link s t v state n t-is le = let most = link_after v (record s { state = state }) in rw t-is (omega arith)

pub stepped_moment : (s t : Generator) (v state n : ℕ) → t ≡ generator_after v (record s { state = state }) → s.moment ≤ 4000 * n → t.moment ≤ 4000 * (n + 1)
stepped_moment s t v state n t-is le = let most = moment_after v (record s { state = state }) in rw t-is (omega arith)

-- the last lines
pub closed : (front one two all : List Line) (n i : ℕ) (s : Generator) → n ≤ i → one ≡ front ++ transfer_lines A B s.link All → two ≡ one ++ transfer_lines B A s.link All
    → front ++ steps_lines (n - i) s ≡ all → two ≡ all
closed front one two all n i s le one-is two-is e =
    two-is ∙ ap (λ (ls : List Line). ls ++ transfer_lines B A s.link All) one-is ∙ append_assoc front (transfer_lines A B s.link All) (transfer_lines B A s.link All)
    ∙ no_step front all n i s le e
