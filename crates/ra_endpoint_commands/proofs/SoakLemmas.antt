-- The lines that are drawn from a number, and the sums of their run.
use Rattle.std.proofs.Common.{◌≡◌, ℕ, zero, suc, ◌+◌, ◌*◌, ◌^◌, ◌<◌, ◌≤◌, Bool, true, false, cond, List, [], ◌∷◌, ◌++◌, length, append_assoc, sym, ap, subst, ◌∙◌, arith}
use Rattle.std.specs.Prelude.{nat_lt, codes}
use Rattle.std.specs.Fmt.{decimal}
use Rattle.std.specs.List.{AllByRecursion}
use Rattle.ra_base.specs.declared.event.Side.TheVariants.{A, B}
use Rattle.ra_model.specs.Worlds.{World}
use Rattle.ra_world.specs.WorldStates.{WorldState, StandsForWorld}
use Rattle.ra_script.specs.declared.line.Line.{Line}
use Rattle.ra_script.specs.declared.generating.Generator.{Generator}
use Rattle.ra_script.specs.Generated.{generated, steps_lines, step_lines, generator_after, kind_drawn, after_kind, generator_from, later}
use Rattle.ra_script.proofs.Draws.{moment_after}
use Rattle.ra_endpoint_commands.specs.declared.soak.Summary.{Summary}
use Rattle.ra_endpoint_commands.specs.Soak.{summary_of, summary_line, soak_text, world_behind}
use Rattle.ra_endpoint_commands.specs.ReplayLines.{side_sums}
use Rattle.ra_model.specs.Worlds.{new_world}
use Rattle.ra_endpoint_commands.specs.Stepping.{IsLine}
use Rattle.ra_endpoint_commands.proofs.ScriptLemmas.{HasCounts, counts_of}

all_both : (xs ys : List Line) → AllByRecursion IsLine xs → AllByRecursion IsLine ys → AllByRecursion IsLine (xs ++ ys)
all_both [] ys h k = k
all_both (x ∷ xs) ys h k = (h.0, all_both xs ys h.1 k)

one_of : (b : Bool) (xs ys : List Line) → AllByRecursion IsLine xs → AllByRecursion IsLine ys → AllByRecursion IsLine (cond b xs ys)
one_of true xs ys h k = h
one_of false xs ys h k = k

-- a moment that is drawn is below 2^53
later_small : (s : Generator) → s.moment ≤ 400000000 → later s < 2 ^ 53
later_small s small = omega (arith, small)

step_all : (v : ℕ) (s : Generator) → s.moment ≤ 400000000 → AllByRecursion IsLine (step_lines v s)
unfolding step_lines
step_all v s small =
    one_of (nat_lt v 3) _ _ (tt, tt)
    (one_of (nat_lt v 5) _ _ (tt, tt)
    (one_of (nat_lt v 7) _ _ (tt, (tt, (tt, tt)))
    (one_of (nat_lt v 9) _ _ (tt, (tt, (tt, tt)))
    (one_of (nat_lt v 10) _ _ (later_small s small, (tt, (tt, tt)))
    (one_of (nat_lt v 11) _ _ (tt, (tt, (tt, tt)))
    (tt, (tt, (tt, (tt, (tt, (tt, (tt, (tt, (tt, (tt, (tt, tt))))))))))))))))

steps_all : (n k : ℕ) (s : Generator) → n + k ≤ 100000 → s.moment ≤ 4000 * k → AllByRecursion IsLine (steps_lines n s)
unfolding steps_lines
steps_all zero k s few small = (tt, (tt, (tt, (tt, (tt, (tt, tt))))))
steps_all (suc n) k s few small =
    let next : Generator = after_kind s in
    let step : (generator_after (kind_drawn s) next).moment ≤ next.moment + 4000 = moment_after (kind_drawn s) next in
    all_both (step_lines (kind_drawn s) next) (steps_lines n (generator_after (kind_drawn s) next))
    (step_all (kind_drawn s) next (omega (arith, few, small)))
    (steps_all n (k + 1) (generator_after (kind_drawn s) next) (omega (arith, few)) (omega (arith, small, step)))

pub generated_lines : (start steps : ℕ) → steps ≤ 100000 → AllByRecursion IsLine (generated start steps)
generated_lines start steps few = (tt, (tt, (tt, steps_all steps 0 (generator_from start) (omega (arith, few)) (omega arith))))

pub summed : (start steps lines : ℕ) (s : WorldState) (w : World) (links : ℕ) (a_said a_heard b_said b_heard : List (List ℕ)) → StandsForWorld s w → links ≡ length s.links → a_said ≡ s.a.said → a_heard ≡ s.a.heard → b_said ≡ s.b.said → b_heard ≡ s.b.heard
    → (let x : Summary = record { start = start; steps = steps; lines = lines; links = links; a_said = length a_said; a_heard = length a_heard; b_said = length b_said; b_heard = length b_heard } in x) ≡ summary_of start steps lines w
unfolding summary_of
summed start steps lines s w links a_said a_heard b_said b_heard stands is_links is_as is_ah is_bs is_bh =
    let a : HasCounts s.a w.a = counts_of s.a w.a stands.a in
    let b : HasCounts s.b w.b = counts_of s.b w.b stands.b in
    let e0 = is_links ∙ ap length stands.links in
    let e1 = ap length is_as ∙ a.said in
    let e2 = ap length is_ah ∙ a.heard in
    let e3 = ap length is_bs ∙ b.said in
    let e4 = ap length is_bh ∙ b.heard in
    λ i. record { start = start; steps = steps; lines = lines; links = e0 i; a_said = e1 i; a_heard = e2 i; b_said = e3 i; b_heard = e4 i }

-- ---- the line of the sums

regrouped : (t x1 n1 y1 n2 x3 n3 y3 n4 s5 s6 s7 s8 l : List ℕ)
    → ((((((((t ++ ((x1 ++ n1) ++ y1)) ++ n2) ++ ((x3 ++ n3) ++ y3)) ++ n4) ++ s5) ++ s6) ++ s7) ++ s8) ++ l
    ≡ t ++ ((((((((((((x1 ++ n1) ++ y1) ++ n2) ++ x3) ++ n3) ++ y3) ++ n4) ++ s5) ++ s6) ++ s7) ++ s8) ++ l)
regrouped t x1 n1 y1 n2 x3 n3 y3 n4 s5 s6 s7 s8 l = simp append_assoc

pub sums_printed : (s : Summary) (t t1 t2 t3 t4 t5 t6 t7 t8 t9 : List ℕ) → t1 ≡ t ++ (codes "soak start=" ++ decimal s.start ++ codes " steps=") → t2 ≡ t1 ++ decimal s.steps
    → t3 ≡ t2 ++ (codes " lines=" ++ decimal s.lines ++ codes " links=") → t4 ≡ t3 ++ decimal s.links → t5 ≡ t4 ++ codes " " → t6 ≡ t5 ++ side_sums A s.a_said s.a_heard → t7 ≡ t6 ++ codes " "
    → t8 ≡ t7 ++ side_sums B s.b_said s.b_heard → t9 ≡ t8 ++ codes "\n" → t9 ≡ t ++ summary_line s
sums_printed s t t1 t2 t3 t4 t5 t6 t7 t8 t9 e1 e2 e3 e4 e5 e6 e7 e8 e9 =
    let f2 = e2 ∙ ap (λ (x : List ℕ). x ++ decimal s.steps) e1 in
    let f3 = e3 ∙ ap (λ (x : List ℕ). x ++ (codes " lines=" ++ decimal s.lines ++ codes " links=")) f2 in
    let f4 = e4 ∙ ap (λ (x : List ℕ). x ++ decimal s.links) f3 in
    let f5 = e5 ∙ ap (λ (x : List ℕ). x ++ codes " ") f4 in
    let f6 = e6 ∙ ap (λ (x : List ℕ). x ++ side_sums A s.a_said s.a_heard) f5 in
    let f7 = e7 ∙ ap (λ (x : List ℕ). x ++ codes " ") f6 in
    let f8 = e8 ∙ ap (λ (x : List ℕ). x ++ side_sums B s.b_said s.b_heard) f7 in
    e9 ∙ ap (λ (x : List ℕ). x ++ codes "\n") f8
    ∙ regrouped t (codes "soak start=") (decimal s.start) (codes " steps=") (decimal s.steps) (codes " lines=") (decimal s.lines) (codes " links=") (decimal s.links) (codes " ") (side_sums A s.a_said s.a_heard) (codes " ")
    (side_sums B s.b_said s.b_heard) (codes "\n")

-- ---- the whole text

pub soaked : (start steps : ℕ) (lines : List Line) (s : WorldState) (sums : Summary) (start_text text : List ℕ) → lines ≡ generated start steps → StandsForWorld s (world_behind lines (new_world 0))
    → ((w : World) → StandsForWorld s w → sums ≡ summary_of start steps (length lines) w) → start_text ≡ [] → text ≡ start_text ++ summary_line sums → text ≡ soak_text start steps
unfolding soak_text
soaked start steps lines s sums start_text text are stands is none printed =
    printed ∙ ap (λ (t : List ℕ). t ++ summary_line sums) none ∙ ap summary_line (is (world_behind lines (new_world 0)) stands)
    ∙ ap (λ (x : List Line). summary_line (summary_of start steps (length x) (world_behind x (new_world 0)))) are

pub drawn_lines : (start steps : ℕ) (lines : List Line) → steps ≤ 100000 → lines ≡ generated start steps → AllByRecursion IsLine lines
drawn_lines start steps lines few are = subst (λ (x : List Line). AllByRecursion IsLine x) (sym are) (generated_lines start steps few)
