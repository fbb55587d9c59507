use Rattle.std.proofs.Common.{◌≡◌, w32, of_z, ap, ◌∙◌, arith}
use Rattle.std.proofs.lemmas.Int.{to_z-of_z}
use Rattle.ra_ipc.specs.View.{id_of}
use Rattle.ra_chan_client.proofs.client.ChannelClient.has_listener.Goals as goal

pub returns-clause-small : goal.returns-clause-small
returns-clause-small c = λ is.
    let same : c.cast_unsigned.result ≡ id_of c.args.id = c.cast_unsigned.ensures ∙ ap (of_z w32) (to_z-of_z w32 c.args.id c.ranges.id) in
    omega (arith, same, c.has.ensures.below c.self.inside.next c.self.invariant.listener_ids is, c.self.invariant.most)
