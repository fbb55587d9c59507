use Rattle.std.proofs.Common.{rules}
use Rattle.std.proofs.lemmas.Int.{to_z-of_z, ints}
use Rattle.std.proofs.lemmas.Result.{on_ok_weaker, IfErr-weaker}
use Rattle.ra_session.proofs.session.Session.tell.Goals as goal

pub returns-in-Answer-clause-stands : goal.returns-in-Answer-clause-stands
returns-in-Answer-clause-stands c = rw c.in-Answer.is (on_ok_weaker c.answer.result (λ b. search (rules, ints, to_z-of_z, b)) c.answer.ensures.stands)

pub returns-in-Answer-clause-carries : goal.returns-in-Answer-clause-carries
returns-in-Answer-clause-carries c = rw c.in-Answer.is (IfErr-weaker c.answer.result _ _ (λ e h. search (rules, ints, to_z-of_z, h)) c.answer.ensures.carries)
