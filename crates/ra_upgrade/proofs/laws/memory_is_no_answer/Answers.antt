use Rattle.ra_upgrade.proofs.JudgedLemmas.{head_no_memory, token_no_memory, answer_no_memory}
use Rattle.ra_upgrade.proofs.laws.memory_is_no_answer.Goals as goal

pub returns : goal.returns
returns c = record { head = head_no_memory; token = token_no_memory; answer = answer_no_memory }
