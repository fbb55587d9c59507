use Rattle.ra_session.proofs.Packing.{all_fit}
use Rattle.ra_session.proofs.opening.released.Goals as goal

pub returns-in-Ready-clause-fits : goal.returns-in-Ready-clause-fits
returns-in-Ready-clause-fits c = λ f. all_fit c.in-Ready.packets.items (rw c.in-Ready.is at f)
