use Rattle.ra_ipc.proofs.Heard.{server_hears, client_hears}
use Rattle.ra_ipc.proofs.laws.deliveries.Goals as goal

pub returns-clause-server : goal.returns-clause-server
returns-clause-server c = server_hears

pub returns-clause-client : goal.returns-clause-client
returns-clause-client c = client_hears
