use Rattle.std.proofs.Common.{◌∙◌}
use Rattle.ra_grand.proofs.LinkingSteps.{link_done}
use Rattle.ra_grand.proofs.world.GrandWorld.link_at.Goals as goal

pub returns-in-Ok-clause-linked : goal.returns-in-Ok-clause-linked
returns-in-Ok-clause-linked c =
    λ w stands calls.
    let made = link_done c.answer_is_read.ensures.whole c.answer_is_read.ensures.front c.args.self.now c.add_link.new.self c.link.new.self c.args.client c.args.n c.in-Some.link c.link_count.result
    c.requires.0 c.requires.1 c.link_count.ensures c.in-Some.ensures.1 c.in_ok-add_link.ensures.ok c.in-Ok.ensures.linked w stands calls in
    (c.link_count-in-Ok.ensures ∙ made.0, made.1)
