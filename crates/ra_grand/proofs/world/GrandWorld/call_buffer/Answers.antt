use Rattle.std.proofs.Common.{◌∙◌}
use Rattle.ra_values.specs.View.{tree}
use Rattle.ra_grand.specs.GrandStates.{StandsForGrand}
use Rattle.ra_grand.proofs.ApplySteps.{applies_call}
use Rattle.ra_grand.proofs.world.GrandWorld.call_buffer.Goals as goal

pub returns : goal.returns
returns c =
    rw (← (c.in-Ok.ensures ∙ c.as_str.ensures), ← (c.in-Ok-of.ensures ∙ c.as_str-2.ensures))
    (λ w stands. applies_call c.call.result c.args.client c.in-Ok.channel c.in-Ok-of.name c.args.arg.now (tree c.in-Ok-buffer_of.arg) c.in-Ok-buffer_of.ensures w (StandsForGrand c.call.new.self) (c.call.ensures w stands))
