use Rattle.ra_upgrade.proofs.AnswerTextLemmas.{answer_read, answer_open}
use Rattle.ra_upgrade.proofs.laws.answer_is_read.Goals as goal

pub returns : goal.returns
returns c = record { whole = answer_read; front = answer_open }
