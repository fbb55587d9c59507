use Rattle.ra_script.proofs.GrandComplete.{grand_found_from, grand_only_from}
use Rattle.ra_script.proofs.GrandFits.{kinds_from, moments_from, fit_from}
use Rattle.ra_script.proofs.grand_reading.parse_grand.Goals as goal

pub returns-clause-found : goal.returns-clause-found
returns-clause-found c = grand_found_from c.read_lines.result (λ v. v.items) c.args.bytes.now c.read_lines.ensures

pub returns-clause-only : goal.returns-clause-only
returns-clause-only c = grand_only_from c.read_lines.result (λ v. v.items) c.args.bytes.now c.read_lines.ensures

pub returns-clause-kinds : goal.returns-clause-kinds
returns-clause-kinds c = kinds_from c.read_lines.result (λ v. v.items) c.args.bytes.now c.read_lines.ensures

pub returns-clause-moments : goal.returns-clause-moments
returns-clause-moments c = moments_from c.read_lines.result (λ v. v.items) c.args.bytes.now c.read_lines.ensures

pub returns-clause-fit : goal.returns-clause-fit
returns-clause-fit c = fit_from c.read_lines.result (λ v. v.items) c.args.bytes.now c.requires c.read_lines.ensures
