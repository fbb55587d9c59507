use Rattle.ra_link_laws.proofs.Folding.{keeps_new, keeps_after}
use Rattle.ra_isolation_laws.proofs.IsolatedRuns.{isolated}
use Rattle.ra_isolation_laws.proofs.laws.isolation.Goals as goal

pub returns : goal.returns
returns c = isolated keeps_after keeps_new
