use Rattle.ra_ipc.proofs.Spelled.{not_refused, all_fit}
use Rattle.ra_ipc.proofs.decoding.decode.Goals as goal

pub returns-clause-fits : goal.returns-clause-fits
returns-clause-fits c = all_fit c.decoded.result c.args.bytes.now c.decoded.ensures.found

pub returns-clause-only : goal.returns-clause-only
returns-clause-only c = λ m s. not_refused m c.args.bytes.now c.decoded.result s c.decoded.ensures.reads
