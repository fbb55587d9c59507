use Rattle.ra_upgrade.proofs.RequestReadLemmas.{request_read, request_open}
use Rattle.ra_upgrade.proofs.laws.request_is_read.Goals as goal

pub returns : goal.returns
returns c = record { whole = request_read; front = request_open }
