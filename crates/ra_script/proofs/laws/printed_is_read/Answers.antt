use Rattle.ra_script.proofs.Again.{ended_again, parted_again}
use Rattle.ra_script.proofs.laws.printed_is_read.Goals as goal

pub returns-clause-ended : goal.returns-clause-ended
returns-clause-ended c = ended_again

pub returns-clause-parted : goal.returns-clause-parted
returns-clause-parted c = parted_again
