use Rattle.std.proofs.Common.{◌≡◌, ◌++◌, ◌∷◌, [], List, ◌∙◌, ap}
use Rattle.ra_model.specs.Links.{Link, new_link}
use Rattle.ra_world.proofs.WorldEvents.{link_answers}
use Rattle.ra_world.proofs.world.World.link.Goals as goal

pub returns-clause-does : goal.returns-clause-does
returns-clause-does c =
    let more : c.push.new.self.items ≡ c.self.inside.links.items ++ new_link ∷ [] =
    (rw c.unwrap.ensures at c.push.ensures.items) ∙ ap (λ (ls : List Link). ls ++ c.new.result ∷ []) c.reserve.ensures.items
    ∙ ap (λ (l : Link). c.self.inside.links.items ++ l ∷ []) c.new.ensures in
    rw (← c.self.view_is) (link_answers _ c.push.new.self.items more c.len.result (c.len.ensures ∙ c.push.new.self.ok.0))
