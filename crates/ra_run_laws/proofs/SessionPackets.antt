-- What the calls of a session add to the packets that it said, where no request of its own waits.
use Rattle.std.proofs.Common.{◌≡◌, ℕ, Bool, true, false, cond, ◌&&◌, Option, Some, None, Result, Ok, Err, List, [], ◌∷◌, ◌++◌, refl, ap, sym, ◌∙◌, subst, append-nil}
use Rattle.std.specs.Prelude.{filter_map, nat_le}
use Rattle.std.specs.Option.{is_some}
use Rattle.std.proofs.lemmas.Bool.{cond_both}
use Rattle.std.proofs.lemmas.List.Elements.{filter_map-append}
use Rattle.std.specs.Str.{bytes_eq}
use Rattle.ra_base.specs.declared.key.Cause.{Cause}
use Rattle.ra_base.specs.declared.key.Cause.TheVariants.{GraceOver}
use Rattle.ra_base.specs.declared.kind.Kind.{Kind}
use Rattle.ra_values.specs.Tree.{Tree}
use Rattle.ra_model.specs.declared.session.Up.{Up as Delivery}
use Rattle.ra_model.specs.declared.session.Up.TheVariants.{Message as HandedUp, Control, Quiet, Ended}
use Rattle.ra_model.specs.Events.{taken}
use Rattle.ra_model.specs.Taking.{delivery}
use Rattle.ra_ipc.specs.declared.fault.PacketFault.{PacketFault}
use Rattle.ra_ipc.specs.ChannelClients.{Client, is_in, after_initialize, after_response}
use Rattle.ra_ipc.specs.ChannelPackets.{active_id, after_packet, notice_of}
use Rattle.ra_ipc.specs.ChannelServers.{Server, Active, waiting_call, handed_call, waiting_listen, listener, fire_one, timeout_one, timeout_answers, unknown_channel}
use Rattle.ra_ipc.specs.Deliveries.{released_by}
use Rattle.ra_ipc.specs.Messages.{Message, Reply, promise, promise_cancel, event_listen, event_dispose, initialize, response, event_fire, is_request}
use Rattle.ra_ipc.specs.ReadMessage.{message_at, context_at}
use Rattle.ra_session.specs.Hearing.{Heard, spoils, hears, heard_request, heard_other, heard_reading, heard_context, heard_host, heard_management, heard, is_context}
use Rattle.ra_session.specs.SessionCalls.{Firing, fired_by, answer_packets, attach, feed_session, take_out, answer, say_body, tick_session, lose_session, end_session}
use Rattle.ra_session.specs.SessionRefusals.{tick_refusal}
use Rattle.ra_session.specs.Sessions.{Session, is_management}
use Rattle.ra_session.specs.Turns.{heard_at, on_heard, on_delivery, take_in, take_turn, turn}
use Rattle.ra_hub.specs.Sweeps.{swept}
use Rattle.ra_run_laws.specs.SaidPackets.{without_initialize, late_packets}

said_both : (xs ys : List Message) → without_initialize (xs ++ ys) ≡ without_initialize xs ++ without_initialize ys
said_both [] ys = refl
said_both (promise id channel name arg ∷ xs) ys = ap (λ (l : List Message). promise id channel name arg ∷ l) (said_both xs ys)
said_both (promise_cancel id ∷ xs) ys = ap (λ (l : List Message). promise_cancel id ∷ l) (said_both xs ys)
said_both (event_listen id channel event arg ∷ xs) ys = ap (λ (l : List Message). event_listen id channel event arg ∷ l) (said_both xs ys)
said_both (event_dispose id ∷ xs) ys = ap (λ (l : List Message). event_dispose id ∷ l) (said_both xs ys)
said_both (initialize ∷ xs) ys = said_both xs ys
said_both (response id reply ∷ xs) ys = ap (λ (l : List Message). response id reply ∷ l) (said_both xs ys)
said_both (event_fire id body ∷ xs) ys = ap (λ (l : List Message). event_fire id body ∷ l) (said_both xs ys)

-- a session has said these packets, but for Initialize, and no request of its own waits
pub record HasSaid (said : List Message) (s : Session) : Type 0 where
  pub packets : without_initialize s.packets ≡ said
  pub none : s.client.waiting ≡ []

-- packets more
more_said : (packets more : List Message) (said new : List Message) → without_initialize packets ≡ said → without_initialize more ≡ new → without_initialize (packets ++ more) ≡ said ++ new
more_said packets more said new one other =
    said_both packets more ∙ ap (λ (l : List Message). l ++ without_initialize more) one ∙ ap (λ (l : List Message). said ++ l) other

no_more : (packets more : List Message) (said : List Message) → without_initialize packets ≡ said → without_initialize more ≡ [] → without_initialize (packets ++ more) ≡ said
no_more packets more said one none = more_said packets more said [] one none ∙ append-nil said

-- ---- calls that say no packet

pub said_attach : (said : List Message) (epoch : ℕ) (chunk : List ℕ) (now : ℕ) (s : Session) → HasSaid said s → HasSaid said (attach epoch chunk now s)
unfolding attach
said_attach said epoch chunk now s has = record { packets = has.packets; none = has.none }

pub said_lose : (said : List Message) (epoch : ℕ) (s : Session) → HasSaid said s → HasSaid said (lose_session epoch s)
unfolding lose_session
said_lose said epoch s has = record { packets = has.packets; none = has.none }

pub said_end : (said : List Message) (cause : Cause) (s : Session) → HasSaid said s → HasSaid said (end_session cause s)
unfolding end_session
said_end said cause s has = record { packets = has.packets; none = has.none }

pub said_body : (said : List Message) (body : List ℕ) (now : ℕ) (s : Session) → HasSaid said s → HasSaid said (say_body body now s)
unfolding say_body
said_body said body now s has = record { packets = has.packets; none = has.none }

-- ---- messages that are heard

-- what is said at once to a message is Initialize, or nothing, and nothing waits behind it
abbrev IsQuiet : Heard → Type 0
IsQuiet (spoils bad) = Unit {0}
IsQuiet (hears h) = (without_initialize h.says ≡ []) × (h.client.waiting ≡ [])

waits_if : (b : Bool) (c d : Client) → c.waiting ≡ [] → d.waiting ≡ [] → (cond b c d).waiting ≡ []
waits_if true c d so other = so
waits_if false c d so other = other

after_waits : (c : Client) (m : Message) → c.waiting ≡ [] → (after_packet c m).waiting ≡ []
after_waits c (promise id channel name arg) none = none
after_waits c (promise_cancel id) none = none
after_waits c (event_listen id channel event arg) none = none
after_waits c (event_dispose id) none = none
after_waits c initialize none = waits_if c.ready c (after_initialize c) none refl
after_waits c (response id reply) none = waits_if (is_in id c.calls) (after_response c id) c none none
after_waits c (event_fire id body) none = none

released_none : (c : Client) (m : Message) → c.waiting ≡ [] → without_initialize (released_by (notice_of c m)) ≡ []
released_none c (promise id channel name arg) none = refl
released_none c (promise_cancel id) none = refl
released_none c (event_listen id channel event arg) none = refl
released_none c (event_dispose id) none = refl
released_none c initialize none =
    cond_both c.ready _ _ (λ (n : Option _). without_initialize (released_by n) ≡ []) (λ so. refl) (λ other. ap (λ (l : List Message). without_initialize l) none)
released_none c (response id reply) none =
    cond_both (is_in id c.calls) _ _ (λ (n : Option _). without_initialize (released_by n) ≡ []) (λ so. refl) (λ other. refl)
released_none c (event_fire id body) none =
    cond_both (is_in id c.listeners) _ _ (λ (n : Option _). without_initialize (released_by n) ≡ []) (λ so. refl) (λ other. refl)

request_quiet : (server : Server) (c : Client) (m : Message) (now : ℕ) (active : Option ℕ) → c.waiting ≡ [] → IsQuiet (heard_request server c m now active)
request_quiet server c m now (Some id) none = tt
request_quiet server c m now None none = (refl, none)

other_quiet : (server : Server) (c : Client) (m : Message) → c.waiting ≡ [] → IsQuiet (heard_other server c m)
other_quiet server c m none = (released_none c m none, after_waits c m none)

quiet_if : (b : Bool) (h k : Heard) → IsQuiet h → IsQuiet k → IsQuiet (cond b h k)
quiet_if true h k so other = so
quiet_if false h k so other = other

reading_quiet : (server : Server) (c : Client) (r : Result Message PacketFault) (now : ℕ) → c.waiting ≡ [] → IsQuiet (heard_reading server c r now)
reading_quiet server c (Ok m) now none =
    quiet_if (is_request m) (heard_request server c m now (active_id server m)) (heard_other server c m) (request_quiet server c m now (active_id server m) none) (other_quiet server c m none)
reading_quiet server c (Err fault) now none = tt

context_quiet : (server : Server) (c : Client) (r : Result Tree PacketFault) → c.waiting ≡ [] → IsQuiet (heard_context server c r)
context_quiet server c (Ok context) none = (refl, none)
context_quiet server c (Err fault) none = tt

heard_quiet : (kind : Kind) (serves : Bool) (server : Server) (c : Client) (id : ℕ) (body : List ℕ) (now : ℕ) → c.waiting ≡ [] → IsQuiet (heard kind serves server c id body now)
unfolding heard
heard_quiet kind serves server c id body now none =
    quiet_if (is_management kind) (heard_management serves server c id body now) (heard_host server c body)
    (quiet_if (is_context serves id) (heard_context server c (context_at body)) (heard_reading server c (message_at body) now) (context_quiet server c (context_at body) none)
    (reading_quiet server c (message_at body) now none)) (refl, none)

said_heard : (said : List Message) (means : Heard) (now : ℕ) (s : Session) → IsQuiet means → HasSaid said s → HasSaid said (on_heard means now s)
said_heard said (spoils bad) now s quiet has = record { packets = has.packets; none = has.none }
said_heard said (hears h) now s quiet has = record { packets = no_more s.packets h.says said has.packets quiet.0; none = quiet.1 }

said_delivery : (said : List Message) (up : Option Delivery) (now : ℕ) (s : Session) → HasSaid said s → HasSaid said (on_delivery up now s)
said_delivery said None now s has = has
said_delivery said (Some (HandedUp id body)) now s has = said_heard said (heard_at s id body now) now s (heard_quiet s.kind s.serves s.server s.client id body now has.none) has
said_delivery said (Some (Control body)) now s has = has
said_delivery said (Some Quiet) now s has = has
said_delivery said (Some Ended) now s has = record { packets = has.packets; none = has.none }

pub said_turn : (said : List Message) (epoch : ℕ) (piece : List ℕ) (now : ℕ) (s : Session) → HasSaid said s → HasSaid said (turn epoch piece now s)
unfolding turn take_turn take_out take_in feed_session
said_turn said epoch piece now s has =
    let fed : Session = feed_session epoch piece now s in
    let before : Session = record fed { peer = taken now fed.peer } in
    let went = said_delivery said (delivery fed.peer.endpoint) now before (record { packets = has.packets; none = has.none }) in
    record { packets = went.packets; none = went.none }

-- ---- answers

-- what is fired, and what is answered to calls that waited too long, is not Initialize
fire_kept : (channel event : List ℕ) (body : Tree) (a : Active) → without_initialize (filter_map (fire_one channel event body) (a ∷ [])) ≡ filter_map (fire_one channel event body) (a ∷ [])
fire_kept channel event body (waiting_call id c name arg cancelled until) = refl
fire_kept channel event body (handed_call id) = refl
fire_kept channel event body (waiting_listen id c e until) = refl
fire_kept channel event body (listener id c e) =
    cond_both (bytes_eq channel c && bytes_eq event e) (Some (event_fire id body)) None
    (λ (o : Option Message). without_initialize (filter_map (λ (u : Option Message). u) (o ∷ [])) ≡ filter_map (λ (u : Option Message). u) (o ∷ [])) (λ so. refl) (λ other. refl)

late_kept : (now : ℕ) (a : Active) → without_initialize (filter_map (timeout_one now) (a ∷ [])) ≡ filter_map (timeout_one now) (a ∷ [])
late_kept now (waiting_call id c name arg cancelled until) =
    cond_both (nat_le until now) (Some (response id (unknown_channel c))) None
    (λ (o : Option Message). without_initialize (filter_map (λ (u : Option Message). u) (o ∷ [])) ≡ filter_map (λ (u : Option Message). u) (o ∷ [])) (λ so. refl) (λ other. refl)
late_kept now (handed_call id) = refl
late_kept now (waiting_listen id c e until) = refl
late_kept now (listener id c e) = refl

all_kept : (f : Active → Option Message) (active : List Active) → ((a : Active) → without_initialize (filter_map f (a ∷ [])) ≡ filter_map f (a ∷ []))
    → without_initialize (filter_map f active) ≡ filter_map f active
all_kept f [] kept = refl
all_kept f (a ∷ active) kept =
    ap (λ (l : List Message). without_initialize l) (filter_map-append f (a ∷ []) active)
    ∙ said_both (filter_map f (a ∷ [])) (filter_map f active)
    ∙ ap (λ (l : List Message). l ++ without_initialize (filter_map f active)) (kept a)
    ∙ ap (λ (l : List Message). filter_map f (a ∷ []) ++ l) (all_kept f active kept)
    ∙ sym (filter_map-append f (a ∷ []) active)

fired_kept : (server : Server) (fire : Option Firing) → without_initialize (fired_by server fire) ≡ fired_by server fire
fired_kept server None = refl
fired_kept server (Some f) = all_kept (fire_one f.channel f.event f.body) server.active (fire_kept f.channel f.event f.body)

pub said_answer : (said : List Message) (id : ℕ) (reply : Reply) (fire : Option Firing) (now : ℕ) (s : Session) → HasSaid said s
    → HasSaid (said ++ answer_packets s.server id reply fire) (answer id reply fire now s)
unfolding answer
said_answer said id reply fire now s has = record {
  packets = more_said s.packets (answer_packets s.server id reply fire) said (answer_packets s.server id reply fire) has.packets
      (said_both (fired_by s.server fire) (response id reply ∷ []) ∙ ap (λ (l : List Message). l ++ response id reply ∷ []) (fired_kept s.server fire));
  none = has.none;
}

-- ---- ticks

said_same : (said : List Message) (s : Session) → HasSaid said s → HasSaid (said ++ []) s
said_same said s has = subst (λ (l : List Message). HasSaid l s) (sym (append-nil said)) has

said_if : (b : Bool) (said one other : List Message) (s t : Session) → HasSaid (said ++ one) s → HasSaid (said ++ other) t → HasSaid (said ++ cond b one other) (cond b s t)
said_if true said one other s t so more = so
said_if false said one other s t so more = more

said_tick : (said : List Message) (now : ℕ) (s : Session) → HasSaid said s → HasSaid (said ++ cond (is_some s.cause) [] (timeout_answers s.server now)) (tick_session now s)
unfolding tick_session
said_tick said now s has =
    said_if (is_some s.cause) said [] (timeout_answers s.server now) s _ (said_same said s has)
    (record { packets = more_said s.packets (timeout_answers s.server now) said (timeout_answers s.server now) has.packets (all_kept (timeout_one now) s.server.active (late_kept now)); none = has.none })

pub said_swept : (said : List Message) (over left : Bool) (now : ℕ) (s : Session) → HasSaid said s → HasSaid (said ++ late_packets over left now s) (swept over left now s)
said_swept said over left now s has =
    said_if over said [] _ (end_session GraceOver s) _ (said_same said (end_session GraceOver s) (said_end said GraceOver s has))
    (said_if left said [] _ s _ (said_same said s has)
    (said_if (is_some (tick_refusal now s)) said [] _ s (tick_session now s) (said_same said s has) (said_tick said now s has)))
