-- The lines that `grand` prints.
use Rattle.std.specs.Prelude.{◌≡◌, ℕ, Option, Some, None, List, [], ◌++◌, length, codes, ⊤}
use Rattle.std.specs.Fmt.{decimal}
use Rattle.ra_values.specs.ValueBytes.{value_bytes}
use Rattle.ra_ipc.specs.ChannelPairs.{Outcome as CallOutcome, cancelled, answered}
use Rattle.ra_ipc.specs.Messages.{Reply, success, error, error_obj}
use Rattle.ra_session.specs.Hearing.{Happening, work, host, call_settled, event_fired}
use Rattle.ra_session.specs.SessionRefusals as refusals
use Rattle.ra_link_core.specs.LinkRuns.{End, head_refused, request_refused, refused_by}
use Rattle.ra_link_core.specs.Makes.{Outcome, goes, over, unkept, short}
use Rattle.ra_dial.specs.Acts.{Act, nothing, quiet, rest_until, connect, drop_link, happened, ends}
use Rattle.ra_dial.specs.declared.values.DialEnd.{DialEnd}
use Rattle.ra_dial.specs.declared.values.DialEnd.TheVariants as dial_ends
use Rattle.ra_script.specs.declared.grand_line.GrandEvent.{GrandEvent}
use Rattle.ra_script.specs.declared.grand_line.GrandEvent.TheVariants as events
use Rattle.ra_grand_runs.specs.GrandEffects.{Effect, done, made, acts, moved, broke, swept, issued, outcome}
use Rattle.ra_grand_runs.specs.GrandRefusals.{Refusal, no_such_link, no_such_client, no_such_job, token_taken, not_dialling, link_over, too_many, of_session}
use Rattle.ra_endpoint_commands.specs.Lines.{hex_of, line}

-- how a call ended, with the spelling of its value
abbrev pub outcome_text : CallOutcome → List ℕ
outcome_text cancelled = codes "cancelled"
outcome_text (answered (success body)) = codes "ok " ++ hex_of (value_bytes body)
outcome_text (answered (error body)) = codes "error " ++ hex_of (value_bytes body)
outcome_text (answered (error_obj body)) = codes "errorobj " ++ hex_of (value_bytes body)

-- why a dialer is over
abbrev pub dial_end_name : DialEnd → List ℕ
dial_end_name (dial_ends.Permanent reason) = codes "Permanent"
dial_end_name (dial_ends.GraceOver lost now) = codes "GraceOver"
dial_end_name (dial_ends.Ended cause) = codes "Ended"
dial_end_name dial_ends.IdsSpent = codes "IdsSpent"
dial_end_name dial_ends.Stopped = codes "Stopped"

-- what a client's session heard. It is asked for no work
abbrev pub happening_text : Happening → List ℕ
happening_text (work call) = []
happening_text (host body) = codes "host " ++ hex_of body
happening_text (call_settled id result) = codes "settled " ++ decimal id ++ codes " " ++ outcome_text result
happening_text (event_fired id body) = codes "fired " ++ decimal id ++ codes " " ++ hex_of (value_bytes body)

-- what a dialer does
abbrev pub act_text : Act → List ℕ
act_text nothing = codes "nothing"
act_text quiet = codes "quiet"
act_text (rest_until until) = codes "rest " ++ decimal until
act_text connect = codes "connect"
act_text drop_link = codes "drop"
act_text (happened happening) = happening_text happening
act_text (ends cause) = codes "end " ++ dial_end_name cause

-- why a session ends a link; of the others no link has an end
abbrev pub refusal_name : refusals.Refusal → List ℕ
refusal_name (refusals.ended cause) = codes "Ended"
refusal_name (refusals.stale current) = codes "Stale"
refusal_name refusals.no_link = codes "NoLink"
refusal_name (refusals.too_long stated) = codes "TooLong"
refusal_name (refusals.bad_ipc bad message) = codes "BadIpc"
refusal_name refusals.ids_spent = codes "IdsSpent"
refusal_name (refusals.too_large len) = []
refusal_name (refusals.no_such_call id) = []
refusal_name refusals.wrong_kind = []

-- why the server's end of a link ended
abbrev pub end_name : End → List ℕ
end_name (head_refused fault) = codes "BadHead"
end_name (request_refused reason) = codes "Refused"
end_name (refused_by refusal) = refusal_name refusal

abbrev pub end_text : Option End → List ℕ
end_text None = []
end_text (Some end) = codes " end " ++ end_name end

-- what an event makes: a client, or a link
abbrev pub made_word : GrandEvent → List ℕ
made_word (events.Client key) = codes "client "
made_word (events.At now) = codes "link "
made_word (events.Step client) = codes "link "
made_word (events.Linked client) = codes "link "
made_word (events.NoLink client) = codes "link "
made_word (events.Up link count) = codes "link "
made_word (events.Idle link) = codes "link "
made_word (events.Down link count) = codes "link "
made_word (events.Frame client) = codes "link "
made_word (events.Cut link) = codes "link "
made_word (events.Gone link) = codes "link "
made_word (events.Lost client) = codes "link "
made_word events.Sweep = codes "link "
made_word (events.Work job) = codes "link "
made_word (events.Call client channel name arg) = codes "link "
made_word (events.CallText client channel name arg) = codes "link "
made_word (events.Listen client channel name) = codes "link "
made_word (events.Cancel client id) = codes "link "
made_word (events.Dispose client id) = codes "link "
made_word (events.Say client body) = codes "link "
made_word (events.Stop client) = codes "link "

-- the line of an event that was applied. Want of memory is no such line
abbrev pub effect_text : (word : List ℕ) → Effect → List ℕ
effect_text word done = codes "ok"
effect_text word (made number) = word ++ decimal number
effect_text word (acts act) = act_text act
effect_text word (moved bytes end) = codes "moved " ++ decimal (length bytes) ++ codes " " ++ hex_of bytes ++ end_text end
effect_text word (broke bytes) = []
effect_text word (swept expired unticked) = codes "swept " ++ decimal expired
effect_text word (issued id) = codes "id " ++ decimal id
effect_text word (outcome result) = outcome_text result

-- why an event was refused
abbrev pub fault_name : Refusal → List ℕ
fault_name (no_such_link link) = codes "NoSuchLink"
fault_name (no_such_client client) = codes "NoSuchClient"
fault_name (no_such_job job there) = codes "NoSuchJob"
fault_name (token_taken client) = codes "TokenTaken"
fault_name (not_dialling client) = codes "NotDialling"
fault_name (link_over link) = codes "Over"
fault_name (too_many asked there) = codes "TooMany"
fault_name (of_session refusal) = codes "Session"

-- the line of an event that was refused, by the number of its line in the script, from 1
abbrev pub grand_fault_line : ℕ → Refusal → List ℕ
grand_fault_line n fault = line (codes "event " ++ decimal n ++ codes ": " ++ fault_name fault)

-- the last line
abbrev pub grand_end_line : (clients links jobs : ℕ) → List ℕ
grand_end_line clients links jobs =
    line (codes "end clients=" ++ decimal clients ++ codes " links=" ++ decimal links ++ codes " jobs=" ++ decimal jobs)

-- ---- what is printed

-- no memory ran out in the event
abbrev pub IsWhole : Effect → Type 0
IsWhole done = ⊤
IsWhole (made number) = ⊤
IsWhole (acts act) = ⊤
IsWhole (moved bytes end) = ⊤
IsWhole (broke bytes) = ⊥
IsWhole (swept expired unticked) = unticked ≡ 0
IsWhole (issued id) = ⊤
IsWhole (outcome result) = ⊤

-- the text of an event that was applied whole was added
pub record Adds (word : List ℕ) (effect : Effect) (old new : List ℕ) : Type 0 where
  pub whole : IsWhole effect
  pub text : new ≡ old ++ effect_text word effect

-- the name of the end of a link, where no memory ran out
abbrev pub Names : Outcome → Option (List ℕ) → Type 0
Names goes name = name ≡ None
Names (over end) name = name ≡ Some (end_name end)
Names unkept name = name ≡ None
Names short name = name ≡ None

-- its name was added, unless memory ran out
abbrev pub Ends : Outcome → (old new : List ℕ) → Type 0
Ends goes old new = new ≡ old
Ends (over end) old new = new ≡ old ++ end_text (Some end)
Ends unkept old new = ⊥
Ends short old new = ⊥

-- and its line
pub record AddsLine (word : List ℕ) (effect : Effect) (old new : List ℕ) : Type 0 where
  pub whole : IsWhole effect
  pub text : new ≡ old ++ line (effect_text word effect)

-- the name of a cause, where there is one
abbrev pub NamesCause : Option (List ℕ) → Option Refusal → Type 0
NamesCause None cause = ⊤
NamesCause (Some name) cause = (refusal : Refusal) × (cause ≡ Some refusal) × (name ≡ fault_name refusal)

-- the line of a cause was added
abbrev pub AddsFault : (n : ℕ) → Option Refusal → (old new : List ℕ) → Type 0
AddsFault n cause old new = (refusal : Refusal) × (cause ≡ Some refusal) × (new ≡ old ++ grand_fault_line n refusal)
