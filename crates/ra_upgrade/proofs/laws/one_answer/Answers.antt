use Rattle.ra_upgrade.specs.declared.answer_head.AnswerFault.TheVariants as answer_faults
use Rattle.ra_upgrade.specs.declared.request_head.HeadFault.TheVariants as head_faults
use Rattle.ra_upgrade.specs.AnswerHeads.{IsAnswer, accepted, says}
use Rattle.ra_upgrade.specs.RequestHeads.{IsHead, located, asks}
use Rattle.ra_upgrade.proofs.HeadLemmas.{one_request, one_response}
use Rattle.ra_upgrade.proofs.ReadingLemmas.{one_reading}
use Rattle.ra_upgrade.proofs.laws.one_answer.Goals as goal

pub returns : goal.returns
returns c = record {
  head = one_reading IsHead (λ n head. located n (asks head)) head_faults.TooLong head_faults.BadHead one_request;
  answer = λ key. one_reading IsAnswer (λ n head. accepted n (says key head)) answer_faults.TooLong answer_faults.BadHead one_response;
}
