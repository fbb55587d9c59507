use Rattle.std.proofs.Common.{rules, ◌≡◌, w32, to_z, of_z, ap, ◌∙◌, Result, Ok, Err, IfOk}
use Rattle.std.specs.Prelude.{ℤ}
use Rattle.std.proofs.lemmas.Int.{to_z-of_z}
use Rattle.ra_router.specs.declared.acts.Acts.{Acts}
use Rattle.ra_router.specs.Hops.{told}
use Rattle.ra_router.specs.Stepping.{Did, told_by, call}
use Rattle.ra_router.proofs.router.Router.step.Goals as goal

in_ok : {A E : Type 0} (P Q : A → Type 0) (r : Result A E) → ((x : A) → P x → Q x) → IfOk r P → IfOk r Q
in_ok P Q (Ok x) f p = f x p
in_ok P Q (Err e) f p = tt

pub returns-clause-told : goal.returns-clause-told
returns-clause-told c = λ past s.
    in_ok (λ (acts : Acts). Did acts c.act.new.made c.act.new.windows c.act.new.out past (call c.args.step.from (to_z w32 (of_z w32 c.args.step.id)) c.args.step.ask))
    (λ (acts : Acts). told_by acts ≡ told past c.args.step) c.act.result
    (λ acts d. d.tells ∙ ap (λ (z : ℤ). told past (call c.args.step.from z c.args.step.ask)) (to_z-of_z w32 c.args.step.id (search rules)))
    (c.act.ensures.ok past s)
