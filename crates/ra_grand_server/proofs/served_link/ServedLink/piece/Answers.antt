use Rattle.std.proofs.Common.{ap}
use Rattle.ra_link_core.specs.Makes.{outcome_of}
use Rattle.ra_grand_server.proofs.PieceSteps.{takes_so}
use Rattle.ra_grand_server.proofs.served_link.ServedLink.piece.Goals as goal

pub returns-clause-takes : goal.returns-clause-takes
returns-clause-takes c =
    rw (← c.self.view_is)
    (takes_so (outcome_of c.piece.result) (record { client = c.self.inside.client; link = c.self.inside.link; core = c.self.inside.core; is_over = c.self.inside.is_over })
    c.piece.new.self c.args.hub.now c.piece.new.hub c.args.entropy.now c.piece.new.entropy c.args.jobs.now c.piece.new.jobs c.args.piece.now c.piece.new.out.items c.args.now
    c.args.settings.now.link.shake c.args.settings.now.signer c.args.out.now.items
    (ap (λ x. x.link.shake) c.requires.settings) (ap (λ x. x.signer) c.requires.settings) c.requires.empty c.piece.ensures.made)
