use Rattle.ra_upgrade.proofs.HeadLemmas.{one_response}
use Rattle.ra_upgrade.proofs.ReadingLemmas.{one_reading}
use Rattle.ra_upgrade.specs.declared.answer_head.AnswerFault.TheVariants as answer_faults
use Rattle.ra_upgrade.specs.AnswerHeads.{IsAnswer, accepted, says}
use Rattle.ra_dial.proofs.Alike.{step_alike}
use Rattle.ra_dial.proofs.laws.one_step.Goals as goal

pub returns : goal.returns
returns c = step_alike (λ key. one_reading IsAnswer (λ n head. accepted n (says key head)) answer_faults.TooLong answer_faults.BadHead one_response)
