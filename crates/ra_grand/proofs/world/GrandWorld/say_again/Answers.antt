use Rattle.std.proofs.Common.{◌∙◌}
use Rattle.ra_grand.specs.GrandStates.{StandsForGrand}
use Rattle.ra_grand.proofs.ApplySteps.{applies_say}
use Rattle.ra_grand.proofs.world.GrandWorld.say_again.Goals as goal

pub returns : goal.returns
returns c = rw (← (c.in-Ok.ensures ∙ c.as_slice.ensures)) (λ w stands. applies_say c.say.result c.args.client c.in-Ok.body w (StandsForGrand c.say.new.self) (c.say.ensures w stands))
