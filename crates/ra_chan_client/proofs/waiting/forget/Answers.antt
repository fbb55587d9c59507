use Rattle.std.proofs.Common.{◌∙◌, not}
use Rattle.std.specs.Prelude.{◌==◌}
use Rattle.std.specs.Map.{keys_of}
use Rattle.ra_chan_client.proofs.Ascents.{ids_filter, entry_goes, keys_without}
use Rattle.ra_chan_client.proofs.waiting.forget.Goals as goal

pub returns : goal.returns
returns c = λ n h.
    let gone = c.remove.ensures.entries ∙ entry_goes c.args.id c.args.waiting.now.entries h.ascending in
    (gone, rw (gone, keys_without c.args.id c.args.waiting.now.entries) (ids_filter n (λ k. not (k == c.args.id)) (keys_of c.args.waiting.now.entries) h))
