use Rattle.ra_dial.proofs.RequestLemmas.{call_within, listen_within}
use Rattle.ra_dial.proofs.laws.requests.Goals as goal

pub returns : goal.returns
returns c = record { call = call_within; listen = listen_within }
