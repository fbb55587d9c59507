use Rattle.std.proofs.Common.{◌≡◌, ◌++◌, ◌∷◌, [], List, ℕ, ◌∙◌, ap}
use Rattle.ra_world.proofs.PeerCalls.{say_answers}
use Rattle.ra_world.proofs.peer.Peer.say.Goals as goal

pub returns-in-Ok-clause-does : goal.returns-in-Ok-clause-does
returns-in-Ok-clause-does c =
    let said : c.push.new.self.items ≡ c.self.inside.said.items ++ c.in_ok-kept.kept ∷ [] =
    (rw c.unwrap.ensures at c.push.ensures.items) ∙ ap (λ (xs : List (List ℕ)). xs ++ c.in_ok-kept.kept ∷ []) c.reserve.ensures.items in
    rw (← c.self.view_is)
    (say_answers _ _ c.in_ok-said.said c.in_ok-kept.kept c.args.body.now _ c.args.now c.in-Ok.id (c.in_ok-said.ensures ∙ c.as_slice-2.ensures) (c.in_ok-kept.ensures ∙ c.as_slice.ensures) said c.in-Ok.ensures.refused c.in-Ok.ensures.id c.in-Ok.ensures.stands)
