use Rattle.std.proofs.Common.{◌+◌, ap, ◌∙◌}
use Rattle.ra_ipc.specs.ChannelClients.{without}
use Rattle.ra_chan_client.proofs.Ascents.{last_goes}
use Rattle.ra_chan_client.proofs.requests.begin.Goals as goal

pub returns-in-Err-clause-same : goal.returns-in-Err-clause-same
returns-in-Err-clause-same c =
    (c.take.ensures.left (c.args.id + 1) c.in_ok-add.ensures.ids).0 ∙ ap (without c.args.id) c.in_ok-add.ensures.ok ∙ last_goes c.args.id c.args.ids.now.keys c.requires.ids.below
