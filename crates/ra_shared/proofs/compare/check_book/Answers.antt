use Rattle.std.proofs.Common.{◌+◌, ◌∷◌, List, drop, sym, ap, subst, ◌∙◌}
use Rattle.std.proofs.lemmas.List.{drop_more}
use Rattle.ra_shared.specs.Answers.{Bears}
use Rattle.ra_shared.specs.LastStates.{IsBorneOut}
use Rattle.ra_shared.specs.declared.answers.KeptAnswer.{KeptAnswer}
use Rattle.ra_shared.proofs.compare.check_book.Goals as goal

pub loop-answer-preserved : goal.loop-answer-preserved
loop-answer-preserved c =
    let a = c.answer-item.result in
    let rest : List KeptAnswer = drop (c.loop-answer.answer-index + 1) c.args.book.now in
    let e = drop_more c.args.book.now c.loop-answer.answer-index a c.loop-answer-test.true ∙ ap (λ b. b ∷ rest) (sym c.answer-item.is) in
    let borne = subst (λ last. Bears last a.told) c.last_of-last.ensures (c.is_borne_out.ensures.0 c.if-not-is_borne_out.false) in
    record { back = λ more. c.loop-answer.invariant.back (subst (IsBorneOut c.args.lasts.now) (sym e) (borne, more)) }
