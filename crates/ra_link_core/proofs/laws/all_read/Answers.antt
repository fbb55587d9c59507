use Rattle.ra_link_core.proofs.AllRead.{all_read}
use Rattle.ra_link_core.proofs.laws.all_read.Goals as goal

pub returns : goal.returns
returns c = all_read
