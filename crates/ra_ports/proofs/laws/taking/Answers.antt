use Rattle.ra_ports.proofs.Taking.{takes_nothing, takes_both}
use Rattle.ra_ports.proofs.laws.taking.Goals as goal

pub returns : goal.returns
returns c = record { nothing = takes_nothing; both = takes_both }
