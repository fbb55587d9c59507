-- The one text of a line as it is printed.
use Rattle.std.specs.Prelude.{ℕ, List, [], ◌∷◌, codes}
use Rattle.std.specs.List.{join_with_byte}
use Rattle.std.specs.Fmt.{decimal}
use Rattle.ra_base.specs.declared.event.Event.{Event}
use Rattle.ra_base.specs.declared.event.Event.TheVariants as events
use Rattle.ra_script.specs.declared.line.Line.{Line}
use Rattle.ra_script.specs.declared.line.Line.TheVariants.{Base, Do, Drain}
use Rattle.ra_script.specs.Words.{side_text, count_text, bytes_text}

abbrev pub event_words : Event → List (List ℕ)
event_words events.Link = codes "link" ∷ []
event_words (events.At now) = codes "at" ∷ decimal now ∷ []
event_words (events.Begin side link count) = codes "begin" ∷ side_text side ∷ decimal link ∷ count_text count ∷ []
event_words (events.Finish side) = codes "finish" ∷ side_text side ∷ []
event_words (events.Say side body) = codes "say" ∷ side_text side ∷ bytes_text body ∷ []
event_words (events.Control side body) = codes "control" ∷ side_text side ∷ bytes_text body ∷ []
event_words (events.Pause side) = codes "pause" ∷ side_text side ∷ []
event_words (events.Resume side) = codes "resume" ∷ side_text side ∷ []
event_words (events.Leave side) = codes "leave" ∷ side_text side ∷ []
event_words (events.Write side count) = codes "write" ∷ side_text side ∷ count_text count ∷ []
event_words (events.Read side link count) = codes "read" ∷ side_text side ∷ decimal link ∷ count_text count ∷ []
event_words (events.Take side) = codes "take" ∷ side_text side ∷ []
event_words (events.Tick side) = codes "tick" ∷ side_text side ∷ []
event_words (events.Lose side) = codes "lose" ∷ side_text side ∷ []
event_words (events.Cut link) = codes "cut" ∷ decimal link ∷ []

abbrev pub line_words : Line → List (List ℕ)
line_words (Base base) = codes "base" ∷ decimal base ∷ []
line_words (Do event) = event_words event
line_words (Drain side) = codes "drain" ∷ side_text side ∷ []

-- words with one space between
unfoldable pub line_text : Line → List ℕ
line_text line = join_with_byte 32 (line_words line)
