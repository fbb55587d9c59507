use Rattle.std.proofs.Common.{refl, ap, ◌∙◌}
use Rattle.ra_model.specs.Calls.{feed}
use Rattle.ra_model.specs.Endpoints.{Endpoint}
use Rattle.ra_model.specs.Refusals.{at_end, feed_refusal}
use Rattle.ra_model.proofs.LinkMoves.{messages_fed}
use Rattle.ra_world.proofs.PeerCalls.{called_stands}
use Rattle.ra_world.proofs.peer.Peer.feed.Goals as goal

pub returns-clause-does : goal.returns-clause-does
returns-clause-does c =
    rw (← c.self.view_is)
    (λ p h. (
      ap (λ (x : Endpoint). at_end (feed_refusal c.args.link x)) h.endpoint.same ∙ ap at_end c.in_default.ensures.refused,
      refl,
      called_stands _ _ (feed c.args.link c.args.piece.now c.args.now) p p.applied (messages_fed c.args.link c.args.piece.now c.args.now p.endpoint) c.in_default.ensures.stands h,
    ))
