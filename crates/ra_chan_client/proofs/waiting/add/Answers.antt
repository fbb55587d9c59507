use Rattle.std.proofs.Common.{◌∙◌}
use Rattle.std.specs.Map.{keys_of}
use Rattle.ra_chan_client.proofs.Ascents.{ids_push, entry_push, keys_push}
use Rattle.ra_chan_client.proofs.waiting.add.Goals as goal

pub returns-clause-ok : goal.returns-clause-ok
returns-clause-ok c = c.in_ok-insert.ensures.entries ∙ entry_push c.args.waiting.now.entries c.args.id c.args.packet c.requires.below

pub returns-clause-ids : goal.returns-clause-ids
returns-clause-ids c =
    rw (c.in_ok-insert.ensures.entries ∙ entry_push c.args.waiting.now.entries c.args.id c.args.packet c.requires.below, keys_push c.args.waiting.now.entries c.args.id c.args.packet)
    (ids_push c.args.id (keys_of c.args.waiting.now.entries) c.requires)
