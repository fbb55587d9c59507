-- How many bytes a link may make a server keep before its client has asked for a session.
use Rattle.std.specs.Prelude.{ℕ, ◌+◌, ◌<◌, ◌≤◌, length, ⊤}
use Rattle.ra_items.specs.Readers.{Reader}
use Rattle.ra_shake.specs.Limits.{text_limit}
use Rattle.ra_upgrade.specs.Ends.{max_head}
use Rattle.ra_model.specs.Frames.{body_limit}
use Rattle.ra_opening.specs.declared.ends.OpeningEnd.{OpeningEnd}
use Rattle.ra_opening.specs.declared.ends.OpeningEnd.TheVariants as ends
use Rattle.ra_opening.specs.declared.heading.Headed.{Headed}
use Rattle.ra_opening.specs.declared.heading.Headed.TheVariants as headed
use Rattle.ra_opening.specs.declared.ends.OpeningStep.{OpeningStep}
use Rattle.ra_opening.specs.declared.ends.OpeningStep.TheVariants as steps
use Rattle.ra_opening.specs.declared.phase.Phase.{Phase}
use Rattle.ra_opening.specs.declared.phase.Phase.TheVariants as phases
use Rattle.ra_opening.specs.declared.shaking.Found.{Found}
use Rattle.ra_opening.specs.declared.shaking.Found.TheVariants as found

-- the most bytes that wait for the rest of their frame: a wide header and the body of a text, but for one byte
abbrev pub most_waiting : ℕ
most_waiting = 20 + text_limit

-- a length that is too long is above the limit of a frame
abbrev pub IsLong : OpeningEnd → Type 0
IsLong (ends.TooLong n) = body_limit < n
IsLong (ends.BadHead fault) = ⊤
IsLong (ends.Refused reason) = ⊤
IsLong ends.Left = ⊤
IsLong ends.NoMemory = ⊤

abbrev pub EndsLong : OpeningStep → Type 0
EndsLong steps.Waits = ⊤
EndsLong (steps.Ask request) = ⊤
EndsLong (steps.End end) = IsLong end

abbrev pub FoundLong : Found → Type 0
FoundLong found.Waits = ⊤
FoundLong (found.Control body) = ⊤
FoundLong found.Left = ⊤
FoundLong (found.TooLong n) = body_limit < n
FoundLong found.NoMemory = ⊤

abbrev pub HeadedLong : Headed → Type 0
HeadedLong headed.Waits = ⊤
HeadedLong (headed.Begun shake skip_frames) = ⊤
HeadedLong (headed.End end) = IsLong end

abbrev pub FoundWithin : Found → Reader → Type 0
FoundWithin found.Waits reader = length reader.unread ≤ most_waiting
FoundWithin (found.Control body) reader = ⊤
FoundWithin found.Left reader = ⊤
FoundWithin (found.TooLong n) reader = ⊤
FoundWithin found.NoMemory reader = ⊤

-- at most a head, or the header and the body of a text, wait for what is missing of them. What stands behind a head until the link is
-- framed is what came in the piece with its end
abbrev pub WaitsBounded : Phase → Reader → Type 0
WaitsBounded phases.Heading reader = length reader.unread < max_head
WaitsBounded (phases.Held shake) reader = ⊤
WaitsBounded (phases.Shaking shake) reader = length reader.unread ≤ most_waiting
WaitsBounded phases.Over reader = ⊤

-- no more than that is kept where the handshake waits
abbrev pub WaitsWithin : OpeningStep → Reader → Type 0
WaitsWithin steps.Waits reader = length reader.unread ≤ most_waiting
WaitsWithin (steps.Ask request) reader = ⊤
WaitsWithin (steps.End end) reader = ⊤
