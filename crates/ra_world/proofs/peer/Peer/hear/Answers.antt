use Rattle.std.proofs.Common.{◌≡◌, ◌++◌, ◌∷◌, [], List, ℕ, Some, refl, sym, ap, ◌∙◌}
use Rattle.ra_model.specs.declared.session.Up.TheVariants.{Message}
use Rattle.ra_world.proofs.PeerCalls.{take_answers}
use Rattle.ra_world.proofs.peer.Peer.hear.Goals as goal

pub returns-clause-does : goal.returns-clause-does
returns-clause-does c =
    let more : c.push.new.self.items ≡ c.self.inside.heard.items ++ c.args.next.body ∷ [] =
    (rw c.unwrap.ensures at c.push.ensures.items) ∙ ap (λ (xs : List (List ℕ)). xs ++ c.in_ok-kept.kept ∷ []) c.reserve.ensures.items
    ∙ ap (λ (body : List ℕ). c.self.inside.heard.items ++ body ∷ []) (c.in_ok-kept.ensures ∙ c.as_slice.ensures) in
    let free = rw (← c.self.view_is) at c.requires.free in
    let handed = rw (← c.self.view_is) at c.requires.handed in
    rw (← c.self.view_is)
    (take_answers _ c.self.inside.endpoint _ (Some (Message c.args.next.id c.args.next.body)) _ c.args.now refl more free c.take_message.ensures.stands (λ e stands. sym (handed e stands)))
