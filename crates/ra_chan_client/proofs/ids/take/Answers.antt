use Rattle.std.proofs.Common.{◌∙◌, not}
use Rattle.std.specs.Prelude.{◌==◌}
use Rattle.ra_chan_client.proofs.Ascents.{ids_filter, key_goes}
use Rattle.ra_chan_client.proofs.ids.take.Goals as goal

pub returns-clause-left : goal.returns-clause-left
returns-clause-left c = λ n h.
    let gone = c.remove.ensures.keys ∙ key_goes c.args.id c.args.ids.now.keys h.ascending in
    (gone, rw gone (ids_filter n (λ k. not (k == c.args.id)) c.args.ids.now.keys h))
