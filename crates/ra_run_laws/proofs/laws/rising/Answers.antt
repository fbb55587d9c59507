use Rattle.ra_run_laws.proofs.Rising.{rises_later}
use Rattle.ra_run_laws.proofs.laws.rising.Goals as goal

pub returns : goal.returns
returns c = record {
  clients = λ entries later. (rises_later entries later).clients;
  sessions = λ entries later. (rises_later entries later).hub.0;
}
