use Rattle.std.proofs.Common.{◌∙◌}
use Rattle.ra_chan_client.proofs.Ascents.{ids_push, key_push}
use Rattle.ra_chan_client.proofs.ids.add.Goals as goal

pub returns-clause-ok : goal.returns-clause-ok
returns-clause-ok c = c.in_ok-insert.ensures.keys ∙ key_push c.args.ids.now.keys c.args.id c.requires.below

pub returns-clause-ids : goal.returns-clause-ids
returns-clause-ids c = rw (c.in_ok-insert.ensures.keys ∙ key_push c.args.ids.now.keys c.args.id c.requires.below) (ids_push c.args.id c.args.ids.now.keys c.requires)
