use Rattle.std.proofs.Common.{[], refl}
use Rattle.ra_model.specs.Calls.{begin}
use Rattle.ra_model.specs.Refusals.{begin_refusal}
use Rattle.ra_model.proofs.LinkMoves.{messages_begun}
use Rattle.ra_world.proofs.PeerCalls.{call_answers}
use Rattle.ra_world.proofs.peer.Peer.begin.Goals as goal

pub returns-clause-does : goal.returns-clause-does
returns-clause-does c =
    rw (c.done.ensures, ← c.self.view_is)
    (λ p h. call_answers _ _ (begin c.args.link c.args.chunk.now c.args.now) (begin_refusal c.args.link) _ c.begin_link.result (messages_begun c.args.link c.args.chunk.now c.args.now) (λ base said. refl) c.begin_link.ensures.refused c.begin_link.ensures.stands p [] h)
