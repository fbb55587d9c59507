-- The channels of a client and of the session of its key, while the server's session changes on a link.
use Rattle.std.proofs.Common.{◌≡◌, ◌≢◌, ℕ, Bool, true, false, cond, Option, Some, None, List, refl, sym, ◌∙◌, subst}
use Rattle.std.specs.Prelude.{option_map}
use Rattle.ra_base.specs.declared.event.Side.TheVariants.{A}
use Rattle.ra_base.specs.declared.key.Cause.{Cause}
use Rattle.ra_base.specs.declared.key.Cause.TheVariants.{Disconnected, BadIpc}
use Rattle.ra_base.specs.declared.kind.Kind.{Kind}
use Rattle.ra_base.specs.declared.kind.Kind.TheVariants.{Management, ExtensionHost, Tunnel}
use Rattle.ra_model.specs.declared.session.Up.{Up as Delivery}
use Rattle.ra_model.specs.declared.session.Up.TheVariants.{Message as HandedUp, Control, Quiet, Ended as Closed}
use Rattle.ra_model.specs.Events.{taken}
use Rattle.ra_model.specs.Links.{Link}
use Rattle.ra_model.specs.Refusals.{or_fault}
use Rattle.ra_model.specs.Taking.{delivery}
use Rattle.ra_model.specs.Views.{View}
use Rattle.ra_model.specs.Worlds.{Peer}
use Rattle.ra_values.specs.Tree.{Tree}
use Rattle.ra_ipc.specs.ChannelPairs.{Outcome}
use Rattle.ra_session.specs.Hearing.{BadMessage, host, Heard, hears}
use Rattle.ra_session.specs.Saying.{serving}
use Rattle.ra_session.specs.SessionCalls.{end_session, feed_session, take_out}
use Rattle.ra_session.specs.SessionRefusals.{Refusal, ended, bad_ipc, feed_refusal}
use Rattle.ra_session.specs.Sessions.{Session, is_management}
use Rattle.ra_session.specs.TurnRefusals.{taken_refusal, turn_refusal}
use Rattle.ra_session.specs.Turns.{heard_at, on_heard, on_delivery, take_in, take_turn, turn, taken_answer, turn_answer}
use Rattle.ra_session.proofs.Meanings.{quietly, host_is}
use Rattle.ra_channel_laws.specs.Channels.{ChannelsHold, SaysNothing}
use Rattle.ra_channel_laws.proofs.Frames.{never_bad}
use Rattle.ra_channel_laws.proofs.Links.{server_still, server_silent}
use Rattle.ra_channel_laws.proofs.ServerHearing.{server_turn, server_means}
use Rattle.ra_channel_laws.proofs.Silence.{not_bad, silent_feed, silent_out, silent_end}
use Rattle.ra_grand_runs.specs.SetUps.{context}
use Rattle.ra_link_laws.proofs.SeatTurns.{made_admits, bad_admits}
use Rattle.ra_link_laws.proofs.ServedMoves.{Admits}
use Rattle.ra_grand_laws.specs.ChannelParts.{HearsNone, ChannelsOf}
use Rattle.ra_grand_laws.proofs.WorksFit.{FitsIfAny, happening_fits, other_fits}

-- ---- calls that say nothing

silent_hears : (call : Session → Session) (s : Session) → SaysNothing call s → HearsNone s → HearsNone (call s)
silent_hears call s says before = record { kind = says.kind ∙ before.kind; cause = says.cause before.cause }

pub becomes_called : (kind : Kind) (o : Option Session) (call : Session → Session) (d : Session) (settled : List (ℕ × Outcome)) (fired : List (ℕ × Tree))
    → ((s : Session) → SaysNothing call s) → ChannelsOf kind o d settled fired → ChannelsOf kind (option_map call o) d settled fired
becomes_called Management None call d settled fired silent h = h
becomes_called Management (Some t) call d settled fired silent (s, is, h) =
    (call t, refl, server_silent context d t settled fired call (silent t) (subst (λ (x : Session). ChannelsHold context d x settled fired) is h))
becomes_called ExtensionHost None call d settled fired silent h = h
becomes_called ExtensionHost (Some t) call d settled fired silent (near, other, none, empty) = (near, silent_hears call t (silent t) other, none, empty)
becomes_called Tunnel o call d settled fired silent h = tt

silent_itself : (s : Session) → SaysNothing (λ (x : Session). x) s
silent_itself s = record {
  kind = refl;
  serves = refl;
  server = refl;
  client = refl;
  packets = refl;
  entries = refl;
  said = refl;
  heard = refl;
  runs = λ runs. runs;
  cause = λ good. good;
}

-- it ends, or not
pub silent_end_if : (b : Bool) (cause : Cause) → cause ≢ BadIpc → (s : Session) → SaysNothing (λ (x : Session). cond b (end_session cause x) x) s
silent_end_if true cause other s = silent_end cause s other
silent_end_if false cause other s = silent_itself s

-- ---- an admission

begun_later : (d : Session) (settled : List (ℕ × Outcome)) (fired : List (ℕ × Tree)) (begin now : ℕ) → ChannelsHold context d (serving Management begin) settled fired
    → ChannelsHold context d (serving Management now) settled fired
begun_later d settled fired begin now h =
    server_still context d (serving Management begin) (serving Management now) settled fired (record {
      kind = refl;
      serves = refl;
      server = refl;
      client = refl;
      packets = refl;
      entries = refl;
      said = refl;
      runs = λ runs going. refl;
      cause = λ good. good;
    }) refl h

pub becomes_admitted : (kind : Kind) (o p : Option Session) (d : Session) (settled : List (ℕ × Outcome)) (fired : List (ℕ × Tree)) → Admits kind o p
    → ChannelsOf kind o d settled fired → ChannelsOf kind p d settled fired
becomes_admitted Management None p d settled fired (now, is) (s, (begin, first), h) =
    subst (λ (q : Option Session). ChannelsOf Management q d settled fired) (sym is)
    (serving Management now, refl, begun_later d settled fired begin now (subst (λ (x : Session). ChannelsHold context d x settled fired) first h))
becomes_admitted Management (Some t) p d settled fired is h = subst (λ (q : Option Session). ChannelsOf Management q d settled fired) (sym is) h
becomes_admitted ExtensionHost None p d settled fired (now, is) (near, other, none, empty) =
    subst (λ (q : Option Session). ChannelsOf ExtensionHost q d settled fired) (sym is) (near, record { kind = refl; cause = λ same. cc }, none, empty)
becomes_admitted ExtensionHost (Some t) p d settled fired is h = subst (λ (q : Option Session). ChannelsOf ExtensionHost q d settled fired) (sym is) h
becomes_admitted Tunnel o p d settled fired is h = tt

-- ---- a turn

-- once the session has the bytes, the two are the ends of a view
abbrev pub FedView : Peer → Session → ℕ → List ℕ → ℕ → Type 0
FedView client s epoch piece now = (i j : ℕ) × (links : List Link) × View 0 A i j client (feed_session epoch piece now s).peer links

second_of : (a b : Option Refusal) (o : Option Refusal) → a ≡ None → or_fault a b ≡ o → b ≡ o
second_of None b o none is = is
second_of (Some r) b o none is = absurd cc

taken_of : (epoch : ℕ) (piece : List ℕ) (now : ℕ) (s : Session) (o : Option Refusal) → feed_refusal epoch s ≡ None → turn_refusal epoch piece now s ≡ o
    → taken_refusal now (feed_session epoch piece now s) ≡ o
unfolding turn_refusal
taken_of epoch piece now s o admits is = second_of (feed_refusal epoch s) (taken_refusal now (feed_session epoch piece now s)) o admits is

going_by : (c : Option Cause) (b : Option Refusal) → or_fault (option_map (λ cause. ended cause) c) b ≡ None → c ≡ None
going_by None b is = refl
going_by (Some cause) b is = absurd cc

fed_going : (epoch : ℕ) (piece : List ℕ) (now : ℕ) (s : Session) → feed_refusal epoch s ≡ None → (feed_session epoch piece now s).cause ≡ None
unfolding feed_refusal feed_session
fed_going epoch piece now s is = going_by s.cause _ is

management_turn : (d s : Session) (settled : List (ℕ × Outcome)) (fired : List (ℕ × Tree)) (epoch : ℕ) (piece : List ℕ) (now : ℕ) → FedView d.peer s epoch piece now
    → turn_refusal epoch piece now s ≡ None → ChannelsHold context d s settled fired → ChannelsHold context d (turn epoch piece now s) settled fired
unfolding turn take_turn
management_turn d s settled fired epoch piece now (i, j, links, view) none h =
    let fed : Session = feed_session epoch piece now s in
    let admits : feed_refusal epoch s ≡ None = made_admits epoch piece now s none in
    server_silent context d (take_in now fed) settled fired take_out (silent_out (take_in now fed))
    (server_turn context d fed settled fired i j now links view (fed_going epoch piece now s admits) (taken_of epoch piece now s None admits none)
    (server_silent context d s settled fired (feed_session epoch piece now) (silent_feed epoch piece now s) h))

no_management : (kind : Kind) → kind ≡ ExtensionHost → is_management kind ≡ false
no_management Management is = absurd cc
no_management ExtensionHost is = refl
no_management Tunnel is = refl

host_hears : (s : Session) (id : ℕ) (body : List ℕ) (now : ℕ) → HearsNone s → heard_at s id body now ≡ hears (quietly s.server s.client None (Some (host body)))
host_hears s id body now h = host_is s.kind s.serves s.server s.client id body now (no_management s.kind h.kind)

host_delivery : (up : Option Delivery) (now : ℕ) (s : Session) → HearsNone s → HearsNone (on_delivery up now s)
host_delivery None now s h = h
host_delivery (Some (HandedUp id body)) now s h =
    subst (λ (means : Heard). HearsNone (on_heard means now s)) (sym (host_hears s id body now h)) (record { kind = h.kind; cause = h.cause })
host_delivery (Some (Control body)) now s h = h
host_delivery (Some Quiet) now s h = h
host_delivery (Some Closed) now s h = record { kind = h.kind; cause = not_bad s.cause Disconnected (λ is. cc) h.cause }

host_turn : (epoch : ℕ) (piece : List ℕ) (now : ℕ) (s : Session) → HearsNone s → HearsNone (turn epoch piece now s)
unfolding turn take_turn take_out take_in feed_session
host_turn epoch piece now s h =
    let fed : Session = feed_session epoch piece now s in
    let after : HearsNone (on_delivery (delivery fed.peer.endpoint) now (record fed { peer = taken now fed.peer })) =
    host_delivery (delivery fed.peer.endpoint) now (record fed { peer = taken now fed.peer }) (record { kind = h.kind; cause = h.cause }) in
    record { kind = after.kind; cause = after.cause }

-- one that is not refused
pub becomes_turned : (kind : Kind) (d s : Session) (settled : List (ℕ × Outcome)) (fired : List (ℕ × Tree)) (epoch : ℕ) (piece : List ℕ) (now : ℕ)
    → FedView d.peer s epoch piece now → turn_refusal epoch piece now s ≡ None → ChannelsOf kind (Some s) d settled fired
    → ChannelsOf kind (Some (turn epoch piece now s)) d settled fired
becomes_turned Management d s settled fired epoch piece now view none (t, is, h) = (
  turn epoch piece now s,
  refl,
  management_turn d s settled fired epoch piece now view none (subst (λ (x : Session). ChannelsHold context d x settled fired) is h),
)
becomes_turned ExtensionHost d s settled fired epoch piece now view none (near, other, nothing, empty) = (near, host_turn epoch piece now s other, nothing, empty)
becomes_turned Tunnel d s settled fired epoch piece now view none h = tt

-- what it hands up
pub turn_fits : (kind : Kind) (d s : Session) (settled : List (ℕ × Outcome)) (fired : List (ℕ × Tree)) (epoch : ℕ) (piece : List ℕ) (now : ℕ) → kind ≢ Tunnel
    → FedView d.peer s epoch piece now → ChannelsOf kind (Some s) d settled fired → FitsIfAny (turn_answer epoch piece now s).happening
unfolding turn_answer taken_answer
turn_fits Management d s settled fired epoch piece now known (i, j, links, view) (t, is, h) =
    happening_fits context d (feed_session epoch piece now s) settled fired i j now links view
    (server_silent context d s settled fired (feed_session epoch piece now) (silent_feed epoch piece now s) (subst (λ (x : Session). ChannelsHold context d x settled fired) is h))
turn_fits ExtensionHost d s settled fired epoch piece now known view (near, other, nothing, empty) =
    other_fits now (feed_session epoch piece now s) (no_management (feed_session epoch piece now s).kind ((silent_feed epoch piece now s).kind ∙ other.kind))
turn_fits Tunnel d s settled fired epoch piece now known view h = absurd (known refl)

-- no bad message is heard
pub turn_good : (kind : Kind) (d s : Session) (settled : List (ℕ × Outcome)) (fired : List (ℕ × Tree)) (epoch : ℕ) (piece : List ℕ) (now : ℕ) (bad : BadMessage) (message : List ℕ)
    → kind ≢ Tunnel → FedView d.peer s epoch piece now → ChannelsOf kind (Some s) d settled fired → turn_refusal epoch piece now s ≡ Some (bad_ipc bad message) → ⊥
turn_good Management d s settled fired epoch piece now bad message known (i, j, links, view) (t, is, h) refused =
    let fed : Session = feed_session epoch piece now s in
    never_bad now fed bad message
    (server_means context d fed settled fired i j now links view
    (server_silent context d s settled fired (feed_session epoch piece now) (silent_feed epoch piece now s) (subst (λ (x : Session). ChannelsHold context d x settled fired) is h)))
    (taken_of epoch piece now s (Some (bad_ipc bad message)) (bad_admits epoch piece now s bad message refused) refused)
turn_good ExtensionHost d s settled fired epoch piece now bad message known view (near, other, nothing, empty) refused =
    let fed : Session = feed_session epoch piece now s in
    never_bad now fed bad message (λ id body is. (quietly fed.server fed.client None (Some (host body)), host_hears fed id body now (silent_hears (feed_session epoch piece now) s (silent_feed epoch piece now s) other)))
    (taken_of epoch piece now s (Some (bad_ipc bad message)) (bad_admits epoch piece now s bad message refused) refused)
turn_good Tunnel d s settled fired epoch piece now bad message known view h refused = known refl
