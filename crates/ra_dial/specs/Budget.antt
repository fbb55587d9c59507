-- How many bytes a server may make a dialer keep before it has accepted it.
use Rattle.std.specs.Prelude.{Bool, true, false, not, ◌&&◌}
use Rattle.std.specs.Option.{is_some}
use Rattle.ra_frame.specs.Fronts.{states_above}
use Rattle.ra_shake.specs.Limits.{text_limit}
use Rattle.ra_dial.specs.declared.values.DialEvent.{DialEvent}
use Rattle.ra_dial.specs.declared.values.DialEvent.TheVariants as events
use Rattle.ra_dial.specs.declared.stage.Stage.{Stage}
use Rattle.ra_dial.specs.declared.stage.Stage.TheVariants as stages
use Rattle.ra_dial.specs.ShakingStates.{ShakingState}

-- behind the answer a header states more than a text of a handshake has
abbrev pub is_over_budget : ShakingState → Bool
is_over_budget s = not (is_some s.key) && (not (is_some s.rest) && states_above text_limit s.unread)

abbrev pub is_spent : Stage → Bool
is_spent (stages.Resting until) = false
is_spent (stages.Calling since) = false
is_spent (stages.Shaking since s) = is_over_budget s
is_spent stages.Attached = false
is_spent (stages.Over end) = false

-- the event brings bytes, or has them looked at
abbrev pub takes_bytes : DialEvent → Bool
takes_bytes events.Tick = false
takes_bytes events.Linked = false
takes_bytes events.NoLink = false
takes_bytes (events.Piece piece) = true
takes_bytes events.Frame = true
takes_bytes events.LinkLost = false
takes_bytes events.Stop = false
