use Rattle.ra_shake.proofs.MadeLemmas.{made_token, made_utf8, made_len}
use Rattle.ra_shake.proofs.laws.made_texts.Goals as goal

pub returns : goal.returns
returns c = record { token = made_token; utf8 = made_utf8; len = made_len }
