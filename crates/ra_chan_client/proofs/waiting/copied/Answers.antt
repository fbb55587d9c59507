use Rattle.std.proofs.Common.{◌++◌, sym, ap, ◌∙◌}
use Rattle.ra_chan_client.proofs.Ascents.{ids_before}
use Rattle.ra_chan_client.proofs.waiting.copied.Goals as goal

pub add-requires : goal.add-requires
add-requires c =
    ids_before c.loop-id.copy.entries (c.in-Some.id.now, c.in-Some.packet.now) c.next.new.self c.args.waiting.now.entries
    (ap (λ w. c.loop-id.copy.entries ++ w) (sym c.in-Some.ensures.steps) ∙ c.loop-id.invariant) c.requires
