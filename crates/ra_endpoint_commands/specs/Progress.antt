-- What a run of `receive` has still to print.
use Rattle.std.specs.Prelude.{◌≡◌, ℕ, ◌+◌, ◌-◌, ◌<◌, ◌≤◌, Bool, true, false, nat_lt, List, [], ◌++◌, length, take, Option, Some, None}
use Rattle.ra_model.specs.FirstFrame.{first_frame, is_too_long}
use Rattle.ra_model.specs.Cutting.{frames_of, rest_of}
use Rattle.ra_model.specs.Endpoints.{Endpoint, is_linked}
use Rattle.ra_model.specs.EndpointStates.{EndpointState, with_said}
use Rattle.ra_ports.specs.Texts.{WroteAll}
use Rattle.ra_endpoint_commands.specs.declared.receiver.Taken.{Taken}
use Rattle.ra_endpoint_commands.specs.declared.receiver.Taken.TheVariants.{Nothing, Frame, Refused as RefusedNow, Ended as EndedNow}
use Rattle.ra_endpoint_commands.specs.declared.receiver.Turned.{Turned}
use Rattle.ra_endpoint_commands.specs.declared.receiver.Turned.TheVariants.{Waiting, Refused as RefusedThere, Ended as EndedThere}
use Rattle.ra_endpoint_commands.specs.declared.report.Ending.{Ending}
use Rattle.ra_endpoint_commands.specs.declared.report.Ending.TheVariants.{Done, Refused}
use Rattle.ra_endpoint_commands.specs.Lines.{end_line}
use Rattle.ra_endpoint_commands.specs.Receive.{Report, prefixed, report, after_end, input_limit}

-- the endpoint in this state that has base 0 and said nothing
abbrev pub endpoint_of : EndpointState → Endpoint
endpoint_of s = with_said 0 [] s

-- an endpoint on a link that has said nothing
pub record IsListening (s : EndpointState) : Type 0 where
  pub linked : is_linked s.phase ≡ true
  pub sent : s.sent ≡ 0
  pub queue : s.queue ≡ []

-- where a run stands: its endpoint, the unread bytes, and how many bytes came
pub record Progress : Type 0 where
  pub end : EndpointState
  pub unread : List ℕ
  pub fed : ℕ

-- bytes came
abbrev pub fed_with : List ℕ → Progress → Progress
fed_with piece p = record { end = p.end; unread = p.unread ++ piece; fed = p.fed + length piece }

-- no more is unread than came, and no more came than the limit
pub record IsWithin (p : Progress) : Type 0 where
  pub unread : length p.unread ≤ p.fed
  pub fed : p.fed ≤ input_limit

pub record IsReady (p : Progress) : Type 0 where
  pub listening : IsListening p.end
  pub within : IsWithin p

-- neither a whole frame nor a header that states too long a body is unread
pub record IsWaiting (unread : List ℕ) : Type 0 where
  pub none : first_frame unread ≡ None
  pub small : is_too_long unread ≡ false

-- what is still printed, where these bytes follow
unfoldable pub due : Progress → List ℕ → Bool → Report
due p more over =
    report (endpoint_of p.end) (p.fed - length p.unread) (frames_of (p.unread ++ more)) (rest_of (p.unread ++ more)) over

-- the same, where this is left of the input
unfoldable pub due_input : Progress → List ℕ → Report
due_input p left = due p (take (input_limit - p.fed) left) (nat_lt (input_limit - p.fed) (length left))

-- the same once the peer has left: so many messages were heard, so many bytes stand behind its last frame, so many came in all
unfoldable pub due_after_end : ℕ → ℕ → ℕ → List ℕ → Report
due_after_end heard rest fed left = after_end heard (rest + length left) (nat_lt (input_limit - fed) (length left))

-- from one place and from the other the same is printed, whatever follows
abbrev pub SameOutlook : Progress → List ℕ → Progress → List ℕ → Type 0
SameOutlook p before q after = (more : List ℕ) (over : Bool) → prefixed before (due p more over) ≡ prefixed after (due q more over)

-- the input is refused, and nothing more is printed, whatever follows
abbrev pub IsRefused : Progress → List ℕ → List ℕ → Type 0
IsRefused p before after = (more : List ℕ) (over : Bool) → prefixed before (due p more over) ≡ record { text = after; ending = Refused }

-- the peer has left, and what follows is only counted
abbrev pub IsOver : Progress → List ℕ → Progress → List ℕ → Type 0
IsOver p before q after =
    (more : List ℕ) (over : Bool) → prefixed before (due p more over) ≡ prefixed after (after_end q.end.received (length q.unread + length more) over)

-- one look at the unread bytes
abbrev pub Looks : Taken → Progress → List ℕ → Progress → List ℕ → Type 0
Looks Nothing p before q after = IsWaiting p.unread × (q ≡ p) × (after ≡ before)
Looks Frame p before q after = IsReady q × (length q.unread < length p.unread) × (q.fed ≡ p.fed) × SameOutlook p before q after
Looks RefusedNow p before q after = IsRefused p before after
Looks EndedNow p before q after = IsWithin q × (q.fed ≡ p.fed) × IsOver p before q after

-- all whole frames are taken, or the last line is given, or the peer has left
abbrev pub Drains : Turned → Progress → List ℕ → Progress → List ℕ → Type 0
Drains Waiting p before q after = IsReady q × IsWaiting q.unread × (q.fed ≡ p.fed) × SameOutlook p before q after
Drains RefusedThere p before q after = IsRefused p before after
Drains EndedThere p before q after = IsWithin q × (q.fed ≡ p.fed) × IsOver p before q after

-- a piece of the input is taken
abbrev pub Turns : Turned → Progress → List ℕ → List ℕ → Progress → List ℕ → Type 0
Turns Waiting p before piece q after = IsReady q × IsWaiting q.unread × (p.fed < q.fed)
    × ((left : List ℕ) → prefixed before (due_input p (piece ++ left)) ≡ prefixed after (due_input q left))
Turns RefusedThere p before piece q after =
    (left : List ℕ) → prefixed before (due_input p (piece ++ left)) ≡ record { text = after; ending = Refused }
Turns EndedThere p before piece q after = IsWithin q
    × ((left : List ℕ) → prefixed before (due_input p (piece ++ left)) ≡ prefixed after (due_after_end q.end.received (length q.unread) q.fed left))

-- The sink has taken what is printed for the bytes that were read, but for the last line.
pub record WroteLines (printed : List ℕ → Report) (input before : List ℕ) (left taken : Option (List ℕ)) : Type 0 where
  pub read : List ℕ
  pub rest : List ℕ
  pub written : List ℕ
  pub heard : ℕ
  pub waiting : ℕ
  pub parts : input ≡ read ++ rest
  pub source : left ≡ Some rest
  pub lines : printed read ≡ record { text = written ++ end_line heard waiting; ending = Done }
  pub sink : taken ≡ Some (before ++ written)

-- A run has written all that is printed for the input, with this ending, and where it is done it has read the input to its end.
pub record IsReported (printed : List ℕ → Report) (input before : List ℕ) (end : Ending) (left taken : Option (List ℕ)) : Type 0 where
  pub text : WroteAll before (printed input).text taken
  pub ending : end ≡ (printed input).ending
  pub read : end ≡ Done → left ≡ Some []
