use Rattle.ra_link_core.proofs.NeverUnlinked.{run_never}
use Rattle.ra_link_core.proofs.laws.never_unlinked.Goals as goal

pub returns : goal.returns
returns c = run_never
