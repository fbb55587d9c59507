-- Two worlds in which the part of one key is the same.
use Rattle.std.specs.Prelude.{◌≡◌, List, filter}
use Rattle.ra_base.specs.declared.key.Key.{Key}
use Rattle.ra_registry.specs.Rows.{same_key}
use Rattle.ra_hub.specs.Hubs.{row}
use Rattle.ra_grand_runs.specs.GrandClients.{Client}
use Rattle.ra_grand_runs.specs.Grands.{Grand}
use Rattle.ra_isolation_laws.specs.Isolation.{jobs_for}

abbrev pub clients_for : Key → List Client → List Client
clients_for key clients = filter (λ c. same_key key c.key) clients

-- the moment, the client with its dialer, its links and the server's ends of them, the session, the row, and the jobs that wait
pub record SamePart (key : Key) (w v : Grand) : Type 0 where
  pub now : w.now ≡ v.now
  pub client : clients_for key w.clients ≡ clients_for key v.clients
  pub session : w.hub.session key ≡ v.hub.session key
  pub row_is : row w.hub key ≡ row v.hub key
  pub jobs : jobs_for key w.jobs ≡ jobs_for key v.jobs
