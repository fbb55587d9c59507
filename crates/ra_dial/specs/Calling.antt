-- Whether a dialer waits for a link that it asked for.
use Rattle.std.specs.Prelude.{Bool, true, false}
use Rattle.ra_dial.specs.declared.stage.Stage.{Stage}
use Rattle.ra_dial.specs.declared.stage.Stage.TheVariants as stages

abbrev pub is_calling : Stage → Bool
is_calling (stages.Resting until) = false
is_calling (stages.Calling since) = true
is_calling (stages.Shaking since s) = false
is_calling stages.Attached = false
is_calling (stages.Over end) = false
