-- What a dialer goes through: its events and its calls, one after the other.
use Rattle.std.specs.Prelude.{◌≡◌, ℕ, Bool, true, false, List, [], ◌∷◌, ◌++◌, None, Some}
use Rattle.ra_values.specs.Tree.{Tree}
use Rattle.ra_session.specs.SessionCalls as calls
use Rattle.ra_dial.specs.declared.values.DialEvent.{DialEvent}
use Rattle.ra_dial.specs.declared.stage.Stage.{Stage}
use Rattle.ra_dial.specs.declared.stage.Stage.TheVariants as stages
use Rattle.ra_dial.specs.Handshakes.{Head}
use Rattle.ra_dial.specs.Dialers.{Dialer}
use Rattle.std.specs.List.{flat_map}
use Rattle.ra_ipc.specs.ChannelPairs.{Outcome}
use Rattle.ra_session.specs.Hearing.{Happening, work, host, call_settled, event_fired}
use Rattle.ra_dial.specs.Acts.{Act, nothing, quiet, rest_until, connect, drop_link, happened, ends}
use Rattle.ra_dial.specs.Table.{step, handed_out, framed}
use Rattle.ra_dial.specs.View.{on_session}

-- an event, with what the answer head says and the draws to come, or a call beside the events
pub data Move : Type 0 where
  event : Head → (draw : ℕ → List ℕ) → DialEvent → (now : ℕ) → Move
  take_out : (n : ℕ) → Move
  take_rest : Move
  call : (channel name : List ℕ) → Tree → (now : ℕ) → Move
  listen : (channel event : List ℕ) → Tree → (now : ℕ) → Move
  cancel : (id now : ℕ) → Move
  dispose : (id now : ℕ) → Move
  say : (body : List ℕ) → (now : ℕ) → Move

abbrev pub moved : Move → Dialer → Dialer
moved (event head draw e now) d = (step head draw e now d).1
moved (take_out n) d = handed_out n d
moved take_rest d = framed d
moved (call channel name arg now) d = on_session (calls.call channel name arg now) d
moved (listen channel name arg now) d = on_session (calls.listen channel name arg now) d
moved (cancel id now) d = on_session (calls.cancel id now) d
moved (dispose id now) d = on_session (calls.dispose id now) d
moved (say body now) d = on_session (calls.say_body body now) d

-- the dialer after all of them
abbrev pub after : List Move → Dialer → Dialer
after [] d = d
after (m ∷ ms) d = after ms (moved m d)

abbrev pub is_over : Stage → Bool
is_over (stages.Resting until) = false
is_over (stages.Calling since) = false
is_over (stages.Shaking since s) = false
is_over stages.Attached = false
is_over (stages.Over end) = true

-- what is told of a move: the act of an event
abbrev pub acts_by : Move → Dialer → List Act
acts_by (event head draw e now) d = (step head draw e now d).0 ∷ []
acts_by (take_out n) d = []
acts_by take_rest d = []
acts_by (call channel name arg now) d = []
acts_by (listen channel name arg now) d = []
acts_by (cancel id now) d = []
acts_by (dispose id now) d = []
acts_by (say body now) d = []

-- the acts of all of them, in order
abbrev pub acts_of : List Move → Dialer → List Act
acts_of [] d = []
acts_of (m ∷ ms) d = acts_by m d ++ acts_of ms (moved m d)

-- the id of a call that ended, and how
abbrev pub outcome_in : Happening → List (ℕ × Outcome)
outcome_in (work asked) = []
outcome_in (host body) = []
outcome_in (call_settled id outcome) = (id, outcome) ∷ []
outcome_in (event_fired id body) = []

abbrev pub outcome_by : Act → List (ℕ × Outcome)
outcome_by nothing = []
outcome_by quiet = []
outcome_by (rest_until until) = []
outcome_by connect = []
outcome_by drop_link = []
outcome_by (happened h) = outcome_in h
outcome_by (ends end) = []

-- how calls ended by what was heard, in order; a cancel tells of its own
abbrev pub outcomes_of : List Move → Dialer → List (ℕ × Outcome)
outcomes_of moves d = flat_map outcome_by (acts_of moves d)

-- the session of a dialer that is not over has not ended
abbrev pub HasSession : Dialer → Type 0
HasSession d = is_over d.stage ≡ false → d.session.cause ≡ None
