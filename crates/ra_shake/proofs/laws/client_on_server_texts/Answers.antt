use Rattle.ra_shake.proofs.WholeLemmas.{client_first, client_last, client_refused}
use Rattle.ra_shake.proofs.laws.client_on_server_texts.Goals as goal

pub returns : goal.returns
returns c = record { sign = client_first; accept = client_last; refuse = client_refused }
