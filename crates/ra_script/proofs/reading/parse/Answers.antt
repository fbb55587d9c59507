use Rattle.ra_script.proofs.Complete.{found_from, only_from}
use Rattle.ra_script.proofs.reading.parse.Goals as goal

pub returns-clause-found : goal.returns-clause-found
returns-clause-found c = found_from c.read_lines.result (λ v. v.items) c.args.bytes.now c.read_lines.ensures

pub returns-clause-only : goal.returns-clause-only
returns-clause-only c = only_from c.read_lines.result (λ v. v.items) c.args.bytes.now c.read_lines.ensures
