use Rattle.ra_ipc.proofs.ServerOnce.{answered_once_per_promise}
use Rattle.ra_ipc.proofs.laws.server_alone.Goals as goal

pub returns : goal.returns
returns c = answered_once_per_promise
