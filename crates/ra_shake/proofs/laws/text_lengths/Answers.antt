use Rattle.ra_shake.proofs.LengthLemmas.{auth_short, sign_short, connection_short, accept_short, refuse_short}
use Rattle.ra_shake.proofs.laws.text_lengths.Goals as goal

pub returns : goal.returns
returns c = record { auth = auth_short; sign = sign_short; connection = connection_short; accept = accept_short; refuse = refuse_short }
