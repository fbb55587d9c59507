use Rattle.ra_shake.proofs.WholeLemmas.{server_first, server_second}
use Rattle.ra_shake.proofs.laws.server_on_client_texts.Goals as goal

pub returns : goal.returns
returns c = record { first = server_first; second = server_second }
