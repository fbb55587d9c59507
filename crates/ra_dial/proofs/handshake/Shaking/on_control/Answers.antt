use Rattle.std.proofs.Common.{sym, ◌∙◌}
use Rattle.ra_dial.proofs.ShortLemmas.{said_short}
use Rattle.ra_dial.proofs.handshake.Shaking.on_control.Goals as goal

pub says-requires-clause-short : goal.says-requires-clause-short
says-requires-clause-short c =
    said_short c.args.signer.now c.self.inside.shake c.args.body.now c.in-Say.text c.self.invariant (sym c.in-Say.is ∙ c.in_ok-text.ensures.step)
