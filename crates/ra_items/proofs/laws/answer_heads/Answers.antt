use Rattle.ra_upgrade.specs.AnswerHeads.{AnswerIs}
use Rattle.ra_items.specs.Heads.{length_alone}
use Rattle.ra_items.proofs.HeadLemmas.{answer_found, answer_stays_for, one_answer_items, fronts_of}
use Rattle.ra_items.proofs.laws.answer_heads.Goals as goal

pub returns : goal.returns
returns c = record { found = answer_found; front = λ key. fronts_of (λ bytes result. AnswerIs key bytes (length_alone result)); stays = answer_stays_for; one = one_answer_items }
