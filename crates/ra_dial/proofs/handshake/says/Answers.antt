use Rattle.ra_dial.proofs.handshake.says.Goals as goal
use Rattle.std.proofs.Common.{ap, ◌∙◌, ◌++◌}
use Rattle.ra_dial.specs.Handshakes.{goes_on}
use Rattle.ra_dial.proofs.ShortLemmas.{header_joined}

pub returns : goal.returns
returns c =
    let items = rw c.requires.empty at c.in-Ok.ensures.items in
    ap (λ x. goes_on x) (ap (λ x. x ++ c.args.text) (c.from_vec.ensures ∙ items) ∙ header_joined c.args.text _ c.header.ensures)
