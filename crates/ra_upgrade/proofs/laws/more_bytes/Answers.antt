use Rattle.ra_upgrade.specs.declared.answer_head.AnswerFault.TheVariants as answer_faults
use Rattle.ra_upgrade.specs.declared.request_head.HeadFault.TheVariants as head_faults
use Rattle.ra_upgrade.specs.AnswerHeads.{IsAnswer, accepted, says}
use Rattle.ra_upgrade.specs.RequestHeads.{IsHead, located, asks}
use Rattle.ra_upgrade.proofs.ReadingLemmas.{reading_more}
use Rattle.ra_upgrade.proofs.laws.more_bytes.Goals as goal

pub returns : goal.returns
returns c = record {
  head = reading_more IsHead (λ n head. located n (asks head)) head_faults.TooLong head_faults.BadHead;
  answer = λ key. reading_more IsAnswer (λ n head. accepted n (says key head)) answer_faults.TooLong answer_faults.BadHead;
}
