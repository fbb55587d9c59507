use Rattle.std.proofs.Common.{◌≡◌, map, refl, ap, ◌∙◌}
use Rattle.ra_ipc.specs.View.{message}
use Rattle.ra_chan_client.specs.Held.{messages}
use Rattle.ra_chan_client.proofs.Kept.{messages_are, all_fit}
use Rattle.ra_chan_client.proofs.client.ChannelClient.initialize.Goals as goal

pub returns-clause-notice : goal.returns-clause-notice
returns-clause-notice c =
    let same : map message c.in_ok-packets.packets.items ≡ messages c.self.inside.waiting.entries = ap (map message) c.in_ok-packets.ensures.items ∙ messages_are c.self.inside.waiting.entries in
    rw (← c.self.view_is, c.if-self.false, same) refl

pub returns-clause-fits : goal.returns-clause-fits
returns-clause-fits c = rw c.in_ok-packets.ensures.items (all_fit c.self.inside.waiting.entries c.self.invariant.requests)
