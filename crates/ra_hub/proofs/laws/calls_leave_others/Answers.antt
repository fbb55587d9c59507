use Rattle.ra_hub.proofs.OthersLemmas.{others_admitted, others_refused, others_called, others_lost, others_closed, others_missed}
use Rattle.ra_hub.proofs.laws.calls_leave_others.Goals as goal

pub returns : goal.returns
returns c = record {
  admitted = others_admitted;
  refused = others_refused;
  called = others_called;
  lost = others_lost;
  closed = others_closed;
  missed = others_missed;
}
