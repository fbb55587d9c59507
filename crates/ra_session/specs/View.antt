-- How a contract sees what the calls of a session take and give.
use Rattle.std.specs.Prelude.{◌≤◌, ℕ, List, [], ◌∷◌, map, Bool, not, Option, Some, None, IfSome, option_map, length}
use Rattle.ra_base.specs.declared.kind.Kind.{Kind}
use Rattle.ra_model.specs.Frames.{body_limit}
use Rattle.ra_values.specs.Spelling.{Fits, levels}
use Rattle.ra_values.specs.ValueBytes.{value_bytes}
use Rattle.ra_values.specs.View.{tree}
use Rattle.ra_ipc.specs.ChannelPairs as pairs
use Rattle.ra_ipc.specs.View.{id_of, reply}
use Rattle.ra_ipc.specs.ChannelServers.{Server}
use Rattle.ra_session.specs.Sessions.{Session, is_management}
use Rattle.ra_session.specs.Saying.{serving, dialling}
use Rattle.ra_values.specs.declared.value.Value.{Value}
use Rattle.ra_ipc.specs.Packets.{reply_body, message_bytes}
use Rattle.ra_ipc.specs.declared.packet.Packet.{Packet}
use Rattle.ra_ipc.specs.declared.packet.Packet.TheVariants as packets
use Rattle.ra_chan_server.specs.declared.call.Fire.{Fire}
use Rattle.ra_session.specs.declared.values.Tell.{Tell}
use Rattle.ra_session.specs.declared.values.Tell.TheVariants as tells
use Rattle.ra_session.specs.SessionCalls.{Firing, answer, answer_packets, say_body}
use Rattle.ra_session.specs.SessionRefusals.{Refusal, answer_refusal, say_refusal}
use Rattle.ra_session.specs.Hearing as hearing
use Rattle.ra_session.specs.Turns.{TurnAnswer}
use Rattle.ra_session.specs.declared.values.Role.{Role}
use Rattle.ra_session.specs.declared.values.Role.TheVariants as roles
use Rattle.ra_session.specs.declared.values.Outcome.{Outcome}
use Rattle.ra_session.specs.declared.values.Outcome.TheVariants as outcomes
use Rattle.ra_session.specs.declared.values.Work.{Work}
use Rattle.ra_session.specs.declared.values.Work.TheVariants as works
use Rattle.ra_session.specs.declared.values.Happened.{Happened}
use Rattle.ra_session.specs.declared.values.Happened.TheVariants as happened
use Rattle.ra_session.specs.declared.values.Turn.{Turn}

-- the session that begins in this role
abbrev pub new_as : Kind → Role → ℕ → Session
new_as kind roles.Serving now = serving kind now
new_as kind (roles.Dialling context) now = dialling kind (tree context) now

-- its context can be said
abbrev pub RoleFits : Role → Type 0
RoleFits roles.Serving = Unit {0}
RoleFits (roles.Dialling context) = Fits levels (tree context) × (length (value_bytes (tree context)) ≤ body_limit)

abbrev pub outcome_of : Outcome → pairs.Outcome
outcome_of outcomes.Cancelled = pairs.cancelled
outcome_of (outcomes.Answered answer) = pairs.answered (reply answer)

abbrev pub work_of : Work → hearing.Happening
work_of (works.Call id channel name arg cancelled) =
    hearing.work (record { id = id_of id; channel = channel; name = name; arg = tree arg; cancelled = cancelled })
work_of (works.Host body) = hearing.host body

abbrev pub happening_of : Happened → hearing.Happening
happening_of (happened.Work work) = work_of work
happening_of (happened.Settled id outcome) = hearing.call_settled (id_of id) (outcome_of outcome)
happening_of (happened.Fired id body) = hearing.event_fired (id_of id) (tree body)

abbrev pub turn_of : Turn → TurnAnswer
turn_of t = record { out = t.out; happening = option_map happening_of t.happened; took = t.took; again = t.again; ended = t.ended }

-- the argument of a call can be written
abbrev pub WorkFits : Work → Type 0
WorkFits work = hearing.HappeningFits (work_of work)

-- every value that a turn hands out can be written
abbrev pub TurnFits : Turn → Type 0
TurnFits t = IfSome t.happened (λ h. hearing.HappeningFits (happening_of h))

abbrev pub firing_of : Fire → Firing
firing_of fire = record { channel = fire.channel; event = fire.event; body = tree fire.body }

abbrev pub told : Tell → ℕ → Session → Session
told (tells.Answer id given fire) now s = answer (id_of id) (reply given) (option_map firing_of fire) now s
told (tells.Say body) now s = say_body body now s

abbrev pub tell_refusal : Tell → Session → Option Refusal
tell_refusal (tells.Answer id given fire) s = answer_refusal (id_of id) (reply given) (option_map firing_of fire) s
tell_refusal (tells.Say body) s = say_refusal body s

-- the messages that the session says
abbrev pub bodies_told : Tell → Server → List (List ℕ)
bodies_told (tells.Answer id given fire) server = map message_bytes (answer_packets server (id_of id) (reply given) (option_map firing_of fire))
bodies_told (tells.Say body) server = body ∷ []

-- it is for sessions of this kind
abbrev pub is_asked : Tell → Kind → Bool
is_asked (tells.Answer id given fire) kind = is_management kind
is_asked (tells.Say body) kind = not (is_management kind)

abbrev pub FireFits : Option Fire → Type 0
FireFits None = Unit {0}
FireFits (Some fire) = Fits levels (tree fire.body)

-- what is told can be written
abbrev pub TellFits : Tell → Type 0
TellFits (tells.Answer id given fire) = Fits levels (reply_body (reply given)) × FireFits fire
TellFits (tells.Say body) = Unit {0}

-- the channel, the name and the argument of a call or a listen
abbrev pub request_parts : Packet → Option (List ℕ × List ℕ × Value)
request_parts (packets.Promise id channel name arg) = Some (channel, name, arg)
request_parts (packets.PromiseCancel id) = None
request_parts (packets.EventListen id channel name arg) = Some (channel, name, arg)
request_parts (packets.EventDispose id) = None
request_parts packets.Initialize = None
request_parts (packets.PromiseSuccess id body) = None
request_parts (packets.PromiseError id body) = None
request_parts (packets.PromiseErrorObj id body) = None
request_parts (packets.EventFire id body) = None
