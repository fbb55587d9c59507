use Rattle.ra_model.proofs.Within as within
use Rattle.ra_model.proofs.Acking as acking
use Rattle.ra_model.proofs.Conversing as conversing
use Rattle.ra_model.proofs.EveryRun as every
use Rattle.ra_model.proofs.Later as later
use Rattle.ra_model.proofs.laws.pair.Goals as goal

pub returns : goal.returns
returns c = record { heard = every.heard; kept = every.kept; written = every.written; read = every.read; never_too_long = within.never_refused; acknowledged = acking.greatest_ack; conversation = conversing.conversation; rising = later.later }
