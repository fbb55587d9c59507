use Rattle.std.proofs.Common.{◌∙◌}
use Rattle.ra_values.specs.View.{tree}
use Rattle.ra_grand.specs.GrandStates.{StandsForGrand}
use Rattle.ra_grand.proofs.ApplySteps.{applies_listen}
use Rattle.ra_grand.proofs.world.GrandWorld.listen_to.Goals as goal

pub returns : goal.returns
returns c =
    rw (← (c.in-Ok.ensures ∙ c.as_str.ensures), ← (c.in-Ok-of.ensures ∙ c.as_str-2.ensures))
    (λ w stands. applies_listen c.listen.result c.args.client c.in-Ok.channel c.in-Ok-of.name (tree c.nothing.result) c.nothing.ensures w (StandsForGrand c.listen.new.self) (c.listen.ensures w stands))
