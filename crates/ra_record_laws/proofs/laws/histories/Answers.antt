use Rattle.ra_record_laws.proofs.DueHistories.{history_due, next_record_due}
use Rattle.ra_record_laws.proofs.laws.histories.Goals as goal

pub returns : goal.returns
returns c = record { due = history_due; next = next_record_due }
