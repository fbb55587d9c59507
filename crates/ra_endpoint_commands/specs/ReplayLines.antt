-- The lines that `replay` and `soak` print.
use Rattle.std.specs.Prelude.{ℕ, Bool, true, false, List, [], ◌++◌, length, codes}
use Rattle.std.specs.Fmt.{decimal}
use Rattle.ra_base.specs.declared.event.Side.{Side}
use Rattle.ra_base.specs.declared.event.Side.TheVariants.{A, B}
use Rattle.ra_base.specs.declared.event.Event.{Event}
use Rattle.ra_base.specs.declared.event.Event.TheVariants as events
use Rattle.ra_model.specs.declared.session.Up.{Up as Delivery}
use Rattle.ra_model.specs.declared.session.Up.TheVariants as deliveries
use Rattle.ra_model.specs.declared.effect.Effect.{Effect}
use Rattle.ra_model.specs.declared.effect.Effect.TheVariants as effects
use Rattle.ra_model.specs.declared.fault.EndFault.{EndFault}
use Rattle.ra_model.specs.declared.fault.EndFault.TheVariants as ends
use Rattle.ra_model.specs.declared.fault.EventFault.{EventFault}
use Rattle.ra_model.specs.declared.fault.EventFault.TheVariants as faults
use Rattle.ra_endpoint_commands.specs.Lines.{hex_of, line}

abbrev pub side_text : Side → List ℕ
side_text A = codes "A"
side_text B = codes "B"

-- the side that an event names; of the others no line names one
abbrev pub side_of : Event → Side
side_of (events.Begin side link count) = side
side_of (events.Finish side) = side
side_of (events.Say side body) = side
side_of (events.Control side body) = side
side_of (events.Pause side) = side
side_of (events.Resume side) = side
side_of (events.Leave side) = side
side_of (events.Write side count) = side
side_of (events.Read side link count) = side
side_of (events.Take side) = side
side_of (events.Tick side) = side
side_of (events.Lose side) = side
side_of events.Link = A
side_of (events.At now) = A
side_of (events.Cut link) = A

-- what a frame handed up
abbrev pub handed_line : Side → Delivery → List ℕ
handed_line side (deliveries.Message id body) = line (codes "up " ++ side_text side ++ codes " " ++ decimal id ++ codes " " ++ hex_of body)
handed_line side (deliveries.Control body) = line (codes "control " ++ side_text side ++ codes " " ++ hex_of body)
handed_line side deliveries.Quiet = line (codes "quiet " ++ side_text side)
handed_line side deliveries.Ended = line (codes "ended " ++ side_text side)

-- a tick, and whether it was a timeout
abbrev pub ticked_line : Side → Bool → List ℕ
ticked_line side true = line (codes "timeout " ++ side_text side)
ticked_line side false = line (codes "tick " ++ side_text side)

-- the line of an event that was applied
abbrev pub effect_line : Side → Effect → List ℕ
effect_line side (effects.Link link) = line (codes "link " ++ decimal link)
effect_line side effects.Done = line (codes "ok")
effect_line side (effects.Said id) = line (codes "said " ++ side_text side ++ codes " " ++ decimal id)
effect_line side (effects.Wrote bytes) = line (codes "wrote " ++ side_text side ++ codes " " ++ decimal (length bytes) ++ codes " " ++ hex_of bytes)
effect_line side (effects.Read n) = line (codes "read " ++ side_text side ++ codes " " ++ decimal n)
effect_line side (effects.Up up) = handed_line side up
effect_line side effects.Nothing = line (codes "none " ++ side_text side)
effect_line side (effects.Ticked timed_out) = ticked_line side timed_out

-- the first line of a script that names its base
abbrev pub base_line : ℕ → List ℕ
base_line base = line (codes "base " ++ decimal base)

-- why an end refused an event. Want of memory is no such line
abbrev pub end_fault_text : EndFault → List ℕ
end_fault_text ends.Ended = codes "ended"
end_fault_text (ends.Stale current) = codes "stale, current " ++ decimal current
end_fault_text ends.NoLink = codes "no link up"
end_fault_text ends.NotJoining = codes "not joining"
end_fault_text (ends.TooLarge len) = codes "message of " ++ decimal len ++ codes " bytes"
end_fault_text ends.IdsSpent = codes "ids spent"
end_fault_text (ends.TooLong stated) = codes "body of " ++ decimal stated ++ codes " bytes"
end_fault_text ends.NoMemory = []

abbrev pub fault_text : EventFault → List ℕ
fault_text (faults.NoSuchLink link) = codes "no link " ++ decimal link
fault_text (faults.TooMany asked there) = codes "asked " ++ decimal asked ++ codes " of " ++ decimal there ++ codes " bytes"
fault_text (faults.End fault) = end_fault_text fault
fault_text faults.NoMemory = []

-- the line of an event that was refused, by the number of its line in the script, from 1
abbrev pub fault_line : ℕ → EventFault → List ℕ
fault_line n fault = line (codes "event " ++ decimal n ++ codes ": " ++ fault_text fault)

-- a script without a reading: its first line that has none, from 1, and the cause by its name
abbrev pub unread_line : ℕ → List ℕ → List ℕ
unread_line n cause = line (codes "script: line " ++ decimal n ++ codes ": " ++ cause)

-- a script above the limit
abbrev pub script_over_line : List ℕ
script_over_line = line (codes "refused: input over 67108864 bytes")

-- what a side said, heard, and has still to be acknowledged
abbrev pub side_counts : Side → ℕ → ℕ → ℕ → List ℕ
side_counts side said heard owed =
    side_text side ++ codes " said=" ++ decimal said ++ codes " heard=" ++ decimal heard ++ codes " owed=" ++ decimal owed

-- what a side said and heard
abbrev pub side_sums : Side → ℕ → ℕ → List ℕ
side_sums side said heard = side_text side ++ codes " said=" ++ decimal said ++ codes " heard=" ++ decimal heard
