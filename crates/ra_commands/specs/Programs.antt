-- What the program prints for its words and its input, and its status.
use Rattle.std.specs.Prelude.{◌≡◌, ◌≢◌, ℕ, ◌≤◌, nat_lt, nat_eq, if◌then◌else◌, List, [], ◌∷◌, codes, ◌⊎◌, Option, Some, None, Result, Ok, Err}
use Rattle.std.specs.Cmp.Lexicographic.{pointwise}
use Rattle.ra_script.specs.declared.line.What.{What}
use Rattle.ra_script.specs.Words.{number_at, number_limit}
use Rattle.ra_ports.specs.Texts.{WroteAll}
use Rattle.ra_endpoint_commands.specs.declared.report.Ending.{Ending}
use Rattle.ra_endpoint_commands.specs.declared.report.Ending.TheVariants.{Done, Refused}
use Rattle.ra_commands.specs.declared.command.Command.{Command}
use Rattle.ra_commands.specs.declared.command.Command.TheVariants.{Receive, Replay, Grand, Soak}
use Rattle.ra_endpoint_commands.specs.Lines.{usage_line}
use Rattle.ra_endpoint_commands.specs.Receive.{Report, receive_report}
use Rattle.ra_endpoint_commands.specs.Progress.{WroteLines}
use Rattle.ra_commands.specs.Grand.{grand_report}
use Rattle.ra_endpoint_commands.specs.Replay.{replay_report}
use Rattle.ra_endpoint_commands.specs.Soak.{soak_text}

-- ---- words

abbrev pub one_word : List ℕ → Option Command
one_word word =
    if pointwise nat_eq word (codes "receive") then Some Receive
    else if pointwise nat_eq word (codes "replay") then Some Replay
    else if pointwise nat_eq word (codes "grand") then Some Grand
    else None

-- two decimals, of which the second is at most 100,000
abbrev pub soak_of : Result ℕ What → Result ℕ What → Option Command
soak_of (Ok start) (Ok steps) = if nat_lt 100000 steps then None else Some (Soak start steps)
soak_of (Ok start) (Err what) = None
soak_of (Err what) steps = None

abbrev pub three_words : List ℕ → List ℕ → List ℕ → Option Command
three_words word start steps =
    if pointwise nat_eq word (codes "soak") then soak_of (number_at number_limit start) (number_at number_limit steps) else None

-- the command that the words name
abbrev pub command_of : List (List ℕ) → Option Command
command_of (word ∷ []) = one_word word
command_of (word ∷ start ∷ steps ∷ []) = three_words word start steps
command_of _ = None

-- the steps of `soak` are within their limit
abbrev pub IsCommand : Command → Type 0
IsCommand (Soak start steps) = steps ≤ 100000
IsCommand _ = Unit {0}

-- ---- what is printed

abbrev pub report_of : Command → List ℕ → Report
report_of Receive input = receive_report input
report_of Replay input = replay_report input
report_of Grand input = grand_report input
report_of (Soak start steps) input = record { text = soak_text start steps; ending = Done }

-- the status of a run
abbrev pub status_of : Ending → ℕ
status_of Done = 0
status_of Refused = 5

abbrev pub output_for : Option Command → List ℕ → List ℕ
output_for None input = usage_line
output_for (Some command) input = (report_of command input).text

abbrev pub status_for : Option Command → List ℕ → ℕ
status_for None input = 2
status_for (Some command) input = status_of (report_of command input).ending

-- all that is printed
abbrev pub output : List (List ℕ) → List ℕ → List ℕ
output words input = output_for (command_of words) input

abbrev pub status : List (List ℕ) → List ℕ → ℕ
status words input = status_for (command_of words) input

-- ---- the input

-- the input was read to its end, or not at all by a command that has none
abbrev pub IsRead : Option Command → List ℕ → Option (List ℕ) → Type 0
IsRead (Some Receive) input left = left ≡ Some []
IsRead (Some Replay) input left = left ≡ Some []
IsRead (Some Grand) input left = left ≡ Some []
IsRead (Some (Soak start steps)) input left = left ≡ Some input
IsRead None input left = left ≡ Some input

-- where a read failed, `receive` has written what it prints for the bytes that were read, but for the last line, and `replay` and `grand` nothing
abbrev pub WroteBefore : Option Command → List ℕ → List ℕ → Option (List ℕ) → Option (List ℕ) → Type 0
WroteBefore (Some Receive) input before left taken = WroteLines receive_report input before left taken
WroteBefore _ input before left taken = taken ≡ Some before

-- a command has written all that it prints, with this ending
pub record IsPrinted (command : Command) (input before : List ℕ) (end : Ending) (left taken : Option (List ℕ)) : Type 0 where
  pub text : WroteAll before (report_of command input).text taken
  pub ending : end ≡ (report_of command input).ending
  pub read : end ≡ Done → IsRead (Some command) input left

-- ---- statuses

-- the run was broken off: a read failed, a write failed, or memory was wanting
abbrev pub IsBrokenOff : ℕ → Type 0
IsBrokenOff status = (status ≡ 3) ⊎ (status ≡ 4) ⊎ (status ≡ 6)

-- its output was written
abbrev pub IsWritten : ℕ → Type 0
IsWritten status = (status ≢ 3) × (status ≢ 4) × (status ≢ 6)

-- a status that the program answers
abbrev pub IsStatus : ℕ → Type 0
IsStatus status = (status ≡ 0) ⊎ (status ≡ 2) ⊎ (status ≡ 3) ⊎ (status ≡ 4) ⊎ (status ≡ 5) ⊎ (status ≡ 6)
