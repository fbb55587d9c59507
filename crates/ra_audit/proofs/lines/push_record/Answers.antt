use Rattle.std.proofs.Common.{rules, append_assoc}
use Rattle.ra_audit.proofs.lines.push_record.Goals as goal

pub returns : goal.returns
returns c = search (rules, append_assoc)
