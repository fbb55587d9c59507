use Rattle.ra_registry.proofs.Epochs.{stays_closed}
use Rattle.ra_registry.proofs.LawLemmas.{refused_at_start}
use Rattle.ra_registry.proofs.StartRows.{each_record}
use Rattle.ra_registry.proofs.laws.started.Goals as goal

pub returns : goal.returns
returns c = record { row = each_record; closed = stays_closed; refused = refused_at_start }
