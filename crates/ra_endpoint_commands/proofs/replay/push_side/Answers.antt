use Rattle.ra_endpoint_commands.proofs.ScriptLemmas.{side_printed}
use Rattle.ra_endpoint_commands.proofs.replay.push_side.Goals as goal

pub returns : goal.returns
returns c = λ w stands.
    side_printed c.args.side _ w _ _ c.owed.result.now.entries c.end.result.now c.len-owed.result _ _ stands c.said.ensures c.heard.ensures c.end.ensures c.owed.ensures.entries c.len-owed.ensures c.in_ok-push_counts.ensures
