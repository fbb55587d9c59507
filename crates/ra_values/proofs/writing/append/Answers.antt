use Rattle.ra_values.proofs.Spelled.{appends_bytes}
use Rattle.ra_values.specs.View.{tree}
use Rattle.ra_values.proofs.writing.append.Goals as goal

pub returns-in-Ok-clause-ok : goal.returns-in-Ok-clause-ok
returns-in-Ok-clause-ok c = appends_bytes (tree c.args.value.now) c.args.to.now.items c.put_value.new.out.items c.in-Ok.ensures.ok
