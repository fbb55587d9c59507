-- Turns, by what the frame hands up.
use Rattle.std.proofs.Common.{◌≡◌, ◌≢◌, ℕ, true, false, Option, Some, None, List, [], ◌∷◌, refl, ap, sym, ◌∙◌, subst, map, length, ltb, ◌-◌, arith, lit≤, inl, inr}
use Rattle.std.proofs.lemmas.Bool.{cond_both, cases_Bool, false≢true}
use Rattle.std.specs.Prelude.{option_map, Result, Err}
use Rattle.ra_ipc.specs.declared.fault.PacketFault.{PacketFault}
use Rattle.ra_ipc.specs.declared.fault.PacketFault.TheVariants as packets
use Rattle.std.specs.List.{AllByRecursion}
use Rattle.ra_base.specs.declared.key.Cause.TheVariants.{Disconnected, BadIpc}
use Rattle.ra_model.specs.declared.session.Up.{Up as Delivery}
use Rattle.ra_model.specs.declared.session.Up.TheVariants.{Message as HandedUp, Control, Quiet, Ended as Closed}
use Rattle.ra_model.specs.FirstFrame.{is_too_long, stated}
use Rattle.ra_model.specs.FrameKinds.{frame_kind}
use Rattle.ra_model.specs.declared.frame.Frame.{Frame}
use Rattle.ra_model.specs.Worlds.{Peer}
use Rattle.ra_model.specs.Events.{taken, heard_with, applied_with}
use Rattle.ra_ipc.specs.ChannelPairs.{Entry}
use Rattle.ra_proto.specs.Coming.{is_no_message}
use Rattle.ra_model.specs.Frames.{last_id}
use Rattle.ra_model.specs.Refusals.{or_fault, fault_if, take_fault}
use Rattle.ra_model.specs.declared.fault.EndFault.{EndFault}
use Rattle.ra_model.specs.declared.fault.EndFault.TheVariants.{NoMemory, TooLong}
use Rattle.ra_model.specs.declared.session.Phase.{Phase}
use Rattle.ra_model.specs.Endpoints.{Endpoint, is_ended, is_linked, shown}
use Rattle.ra_model.specs.EndpointStates.{EndpointState, StandsFor}
use Rattle.ra_model.specs.GoesOn.{GoesOn}
use Rattle.ra_model.specs.Taking.{delivery, delivery_of, next_frame, took, take_frame}
use Rattle.ra_model.specs.Calls.{say, moment}
use Rattle.ra_model.proofs.Ending.{goes_take, goes_say}
use Rattle.ra_proto.specs.Shown.{shown_of}
use Rattle.ra_proto.specs.Shown as held
use Rattle.ra_proto.specs.SayAll.{say_all, say_all_fault}
use Rattle.ra_ipc.specs.Messages.{Message, promise, promise_cancel, event_listen, event_dispose, initialize, response, event_fire}
use Rattle.ra_values.specs.ValueBytes.{value_bytes, items_bytes, number_bytes}
use Rattle.ra_ipc.specs.Packets.{message_bytes}
use Rattle.ra_ipc.specs.ChannelServers.{Server}
use Rattle.ra_ipc.specs.ChannelServers as model
use Rattle.ra_chan_server.specs.View.{call_of, IsActiveId}
use Rattle.ra_chan_server.specs.declared.fault.ServerFault.{ServerFault}
use Rattle.ra_chan_server.specs.declared.fault.ServerFault.TheVariants as server
use Rattle.ra_session.specs.declared.values.IpcFault.{IpcFault}
use Rattle.ra_session.specs.declared.values.IpcFault.TheVariants as ipc
use Rattle.ra_ipc.specs.View.{id_of}
use Rattle.ra_chan_server.specs.declared.call.Call.{Call}
use Rattle.ra_ipc.specs.ChannelClients.{Client, is_in, after_initialize, after_response}
use Rattle.ra_ipc.specs.ChannelPackets.{after_packet}
use Rattle.ra_session.specs.Sessions.{Session, on_endpoint}
use Rattle.ra_session.specs.Hearing.{Happening, work, Hearing, BadMessage, hears, spoils, heard, active, unreadable}
use Rattle.ra_session.specs.SessionCalls.{emptied, take_out}
use Rattle.ra_session.specs.Turns.{take_in, take_turn, taken_answer, on_delivery, is_ready, ended_by, answer_after}
use Rattle.ra_session.specs.SessionRefusals.{Refusal, bad_ipc, ids_spent, IsRefusal, bad_message}
use Rattle.ra_session.specs.Faults.{fault_of, bad_request, bad_reading}
use Rattle.ra_session.specs.TurnRefusals.{taken_refusal, delivery_refusal, if_too_long}
use Rattle.ra_session.specs.SessionStates.{SessionState, with_past, Sayable, StandsForSession, OfEachSession, SessionBecomes}
use Rattle.ra_session.specs.View.{turn_of, happening_of}
use Rattle.ra_session.specs.declared.values.Turn.{Turn}
use Rattle.std.proofs.lemmas.Bool.Decides.{nat_tests}
use Rattle.ra_session.proofs.Meanings.{quietly}
use Rattle.ra_session.proofs.Standing.{Becomes, of_sessions, by_sessions, goes_emptied, never, phase_is}
use Rattle.ra_session.proofs.Refusing.{refusal_of, is_refusal, refuses_end, refuses_none, spent_is}

-- ---- what is read off an endpoint in memory

pub shown_is : (x : EndpointState) (e : Endpoint) → StandsFor x e → shown e ≡ shown_of x
shown_is x e stands = ap (λ (y : Endpoint). shown y) stands.same

pub ready_is : (x : EndpointState) (e : Endpoint) → StandsFor x e → is_ready e ≡ held.is_ready x
ready_is x e stands = ap (λ (y : Endpoint). is_ready y) stands.same

pub fits_is : (x : EndpointState) (e : Endpoint) → StandsFor x e → is_too_long x.unread ≡ false → is_too_long e.unread ≡ false
fits_is x e stands is = ap (λ (y : Endpoint). is_too_long y.unread) stands.same ∙ is

pub goes_say_all : (bodies : List (List ℕ)) (now : ℕ) → GoesOn (say_all bodies now)
unfolding say_all
goes_say_all [] now e going = going
goes_say_all (body ∷ bodies) now e going = goes_say_all bodies now (say body now e) (goes_say body now e going)

no_end : (id : ℕ) (body : List ℕ) (e : Endpoint) → delivery e ≡ Some (HandedUp id body) → delivery e ≡ Some Closed → ⊥
no_end id body e is same = cc

not_below_0 : (n : ℕ) → ltb n 0 ≡ false
not_below_0 n = grind (arith, nat_tests)

-- ---- a message that is heard

heard_turn : (h : SessionState) (z : EndpointState) (id : ℕ) (body : List ℕ) (now : ℕ) (means : Hearing) → h.cause ≡ None
    → ((e : Endpoint) → StandsFor h.endpoint e → delivery e ≡ Some (HandedUp id body))
    → heard h.kind h.serves h.server h.client id body now ≡ hears means
    → Becomes h.endpoint z (λ e. emptied (say_all (map message_bytes means.says) now (take_frame now e)))
    → (AllByRecursion Sayable h.client.waiting → AllByRecursion Sayable means.client.waiting)
    → SessionBecomes h (record { endpoint = z; kind = h.kind; serves = h.serves; server = means.server; client = means.client; cause = h.cause }) (take_turn now)
unfolding take_turn take_in take_out
heard_turn h z id body now means none hands is becomes waiting =
    let h' : SessionState = record { endpoint = z; kind = h.kind; serves = h.serves; server = means.server; client = means.client; cause = h.cause } in
    by_sessions h h' (take_turn now) (λ p ms es stands.
    let handed : delivery p.endpoint ≡ Some (HandedUp id body) = hands p.endpoint stands.endpoint in
    rw (handed, is) (record {
      same = refl;
      endpoint = becomes p.endpoint stands.endpoint;
      runs = λ still. goes_emptied (say_all (map message_bytes means.says) now (take_frame now p.endpoint))
          (goes_say_all (map message_bytes means.says) now (take_frame now p.endpoint)
          (goes_take now p.endpoint (no_end id body p.endpoint handed) (stands.runs none)));
      waiting = waiting stands.waiting;
    }))

pub heard_to : (h h' : SessionState) (id : ℕ) (body : List ℕ) (now : ℕ) (means : Hearing) → h.cause ≡ None
    → ((e : Endpoint) → StandsFor h.endpoint e → delivery e ≡ Some (HandedUp id body))
    → heard h.kind h.serves h.server h.client id body now ≡ hears means
    → Becomes h.endpoint h'.endpoint (λ e. emptied (say_all (map message_bytes means.says) now (take_frame now e)))
    → (AllByRecursion Sayable h.client.waiting → AllByRecursion Sayable means.client.waiting)
    → h' ≡ record { endpoint = h'.endpoint; kind = h.kind; serves = h.serves; server = means.server; client = means.client; cause = h.cause }
    → SessionBecomes h h' (take_turn now)
heard_to h h' id body now means none hands is becomes waiting same =
    subst (λ (x : SessionState). SessionBecomes h x (take_turn now)) (sym same) (heard_turn h h'.endpoint id body now means none hands is becomes waiting)

-- a message after which nothing is said
pub quiet_to : (h h' : SessionState) (id : ℕ) (body : List ℕ) (now : ℕ) (server : Server) (client : Client) (m : Option Message) (what : Option Happening)
    → h.cause ≡ None → ((e : Endpoint) → StandsFor h.endpoint e → delivery e ≡ Some (HandedUp id body))
    → heard h.kind h.serves h.server h.client id body now ≡ hears (quietly server client m what)
    → Becomes h.endpoint h'.endpoint (λ e. emptied (take_frame now e))
    → (AllByRecursion Sayable h.client.waiting → AllByRecursion Sayable client.waiting)
    → h' ≡ record { endpoint = h'.endpoint; kind = h.kind; serves = h.serves; server = server; client = client; cause = h.cause }
    → SessionBecomes h h' (take_turn now)
unfolding say_all
quiet_to h h' id body now server client m what none hands is becomes waiting same =
    heard_to h h' id body now (quietly server client m what) none hands is becomes waiting same

-- what such a turn answers
pub heard_answer : (h : SessionState) (y : EndpointState) (id : ℕ) (body : List ℕ) (now : ℕ) (means : Hearing) (t : Turn)
    → ((e : Endpoint) → StandsFor h.endpoint e → delivery e ≡ Some (HandedUp id body))
    → heard h.kind h.serves h.server h.client id body now ≡ hears means
    → Becomes h.endpoint y (λ e. say_all (map message_bytes means.says) now (take_frame now e))
    → t.out ≡ shown_of y → t.again ≡ held.is_ready y → option_map happening_of t.happened ≡ means.happening → t.took ≡ true → t.ended ≡ None
    → OfEachSession h (λ s. turn_of t ≡ taken_answer now s)
unfolding taken_answer take_in
heard_answer h y id body now means t hands is becomes out again happened took ended = of_sessions h (λ s. turn_of t ≡ taken_answer now s) (λ p ms es stands.
    let handed : delivery p.endpoint ≡ Some (HandedUp id body) = hands p.endpoint stands.endpoint in
    let after : Endpoint = say_all (map message_bytes means.says) now (take_frame now p.endpoint) in
    let at_end : StandsFor y after = becomes p.endpoint stands.endpoint in
    rw (handed, is, out, again, happened, took, ended, shown_is y after at_end, ready_is y after at_end) refl)

pub quiet_answer : (h : SessionState) (y : EndpointState) (id : ℕ) (body : List ℕ) (now : ℕ) (server : Server) (client : Client) (m : Option Message) (what : Option Happening) (t : Turn)
    → ((e : Endpoint) → StandsFor h.endpoint e → delivery e ≡ Some (HandedUp id body))
    → heard h.kind h.serves h.server h.client id body now ≡ hears (quietly server client m what)
    → Becomes h.endpoint y (take_frame now)
    → t.out ≡ shown_of y → t.again ≡ held.is_ready y → option_map happening_of t.happened ≡ what → t.took ≡ true → t.ended ≡ None
    → OfEachSession h (λ s. turn_of t ≡ taken_answer now s)
unfolding say_all
quiet_answer h y id body now server client m what t hands is becomes out again happened took ended =
    heard_answer h y id body now (quietly server client m what) t hands is becomes out again happened took ended

-- that it is not refused
pub heard_admits : (h : SessionState) (id : ℕ) (body : List ℕ) (now : ℕ) (means : Hearing) → is_too_long h.endpoint.unread ≡ false
    → ((e : Endpoint) → StandsFor h.endpoint e → delivery e ≡ Some (HandedUp id body))
    → heard h.kind h.serves h.server h.client id body now ≡ hears means
    → ltb (last_id - h.endpoint.sent) (length means.says) ≡ false
    → OfEachSession h (λ s. taken_refusal now s ≡ None)
unfolding taken_refusal
heard_admits h id body now means fits hands is left = of_sessions h (λ s. taken_refusal now s ≡ None) (λ p ms es stands.
    rw (fits_is h.endpoint p.endpoint stands.endpoint fits, hands p.endpoint stands.endpoint, is, ← stands.endpoint.sent, left) refl)

pub quiet_admits : (h : SessionState) (id : ℕ) (body : List ℕ) (now : ℕ) (server : Server) (client : Client) (m : Option Message) (what : Option Happening)
    → is_too_long h.endpoint.unread ≡ false → ((e : Endpoint) → StandsFor h.endpoint e → delivery e ≡ Some (HandedUp id body))
    → heard h.kind h.serves h.server h.client id body now ≡ hears (quietly server client m what)
    → OfEachSession h (λ s. taken_refusal now s ≡ None)
quiet_admits h id body now server client m what fits hands is =
    heard_admits h id body now (quietly server client m what) fits hands is (not_below_0 (last_id - h.endpoint.sent))

-- ---- a message that is bad

pub spoiled_turn : (h : SessionState) (z : EndpointState) (id : ℕ) (body : List ℕ) (now : ℕ) (bad : BadMessage) → h.cause ≡ None
    → ((e : Endpoint) → StandsFor h.endpoint e → delivery e ≡ Some (HandedUp id body))
    → heard h.kind h.serves h.server h.client id body now ≡ spoils bad
    → Becomes h.endpoint z (λ e. emptied (take_frame now e))
    → SessionBecomes h (record h { endpoint = z; cause = Some BadIpc }) (take_turn now)
unfolding take_turn take_in take_out
spoiled_turn h z id body now bad none hands is becomes =
    let h' : SessionState = record h { endpoint = z; cause = Some BadIpc } in
    by_sessions h h' (take_turn now) (λ p ms es stands.
    rw (hands p.endpoint stands.endpoint, is, none) (record {
      same = refl;
      endpoint = becomes p.endpoint stands.endpoint;
      runs = λ still. never BadIpc still;
      waiting = stands.waiting;
    }))

pub spoiled_refuses : (h : SessionState) (id : ℕ) (body : List ℕ) (now : ℕ) (bad : BadMessage) → is_too_long h.endpoint.unread ≡ false
    → ((e : Endpoint) → StandsFor h.endpoint e → delivery e ≡ Some (HandedUp id body))
    → heard h.kind h.serves h.server h.client id body now ≡ spoils bad
    → OfEachSession h (λ s. taken_refusal now s ≡ Some (bad_ipc bad body))
unfolding taken_refusal
spoiled_refuses h id body now bad fits hands is = of_sessions h (λ s. taken_refusal now s ≡ Some (bad_ipc bad body)) (λ p ms es stands.
    rw (fits_is h.endpoint p.endpoint stands.endpoint fits, hands p.endpoint stands.endpoint, is) refl)

-- the call that the server hands out, as work
pub works_are : (call : Option Call) (requested : Option model.Call) → option_map call_of call ≡ requested
    → option_map (λ c. work (call_of c)) call ≡ option_map (λ c. work c) requested
works_are None requested is = ap (λ (x : Option model.Call). option_map (λ c. work c) x) is
works_are (Some call) requested is = ap (λ (x : Option model.Call). option_map (λ c. work c) x) is

-- ---- messages after which the session says something

says_is : (h : SessionState) (id : ℕ) (body : List ℕ) (now : ℕ) (means : Hearing) → h.cause ≡ None → is_too_long h.endpoint.unread ≡ false
    → ((e : Endpoint) → StandsFor h.endpoint e → delivery e ≡ Some (HandedUp id body))
    → heard h.kind h.serves h.server h.client id body now ≡ hears means
    → (AllByRecursion Sayable h.client.waiting → AllByRecursion Sayable means.says)
    → (P : Option Refusal → Type 0)
    → ((r : Option Refusal) → r ≡ option_map refusal_of (say_all_fault h.endpoint.phase h.endpoint.sent (map message_bytes means.says)) → P r)
    → OfEachSession h (λ s. P (taken_refusal now s))
unfolding taken_refusal
says_is h id body now means none fits hands is sayable P leads = of_sessions h (λ s. P (taken_refusal now s)) (λ p ms es stands.
    let going : is_ended h.endpoint.phase ≡ false =
    sym (ap (λ (x : Phase). is_ended x) (phase_is h.endpoint p.endpoint stands.endpoint)) ∙ stands.runs none in
    rw (fits_is h.endpoint p.endpoint stands.endpoint fits, hands p.endpoint stands.endpoint, is, ← stands.endpoint.sent)
    (leads (fault_if (ltb (last_id - h.endpoint.sent) (length means.says)) ids_spent)
    (spent_is h.endpoint.phase h.endpoint.sent means.says going (sayable stands.waiting))))

pub says_refuses : (h : SessionState) (id : ℕ) (body : List ℕ) (now : ℕ) (means : Hearing) (fault : EndFault) (bodies : List (List ℕ)) → h.cause ≡ None
    → is_too_long h.endpoint.unread ≡ false → ((e : Endpoint) → StandsFor h.endpoint e → delivery e ≡ Some (HandedUp id body))
    → heard h.kind h.serves h.server h.client id body now ≡ hears means
    → (AllByRecursion Sayable h.client.waiting → AllByRecursion Sayable means.says) → bodies ≡ map message_bytes means.says
    → (fault ≢ NoMemory → say_all_fault h.endpoint.phase h.endpoint.sent bodies ≡ Some fault)
    → OfEachSession h (λ s. IsRefusal (fault_of fault) (taken_refusal now s))
says_refuses h id body now means fault bodies none fits hands is sayable are by =
    says_is h id body now means none fits hands is sayable (λ r. IsRefusal (fault_of fault) r)
    (λ r same. refuses_end fault (say_all_fault h.endpoint.phase h.endpoint.sent bodies) r
    (same ∙ ap (λ (bs : List (List ℕ)). option_map refusal_of (say_all_fault h.endpoint.phase h.endpoint.sent bs)) (sym are)) by)

pub says_admits : (h : SessionState) (id : ℕ) (body : List ℕ) (now : ℕ) (means : Hearing) (bodies : List (List ℕ)) → h.cause ≡ None
    → is_too_long h.endpoint.unread ≡ false → ((e : Endpoint) → StandsFor h.endpoint e → delivery e ≡ Some (HandedUp id body))
    → heard h.kind h.serves h.server h.client id body now ≡ hears means
    → (AllByRecursion Sayable h.client.waiting → AllByRecursion Sayable means.says) → bodies ≡ map message_bytes means.says
    → say_all_fault h.endpoint.phase h.endpoint.sent bodies ≡ None
    → OfEachSession h (λ s. taken_refusal now s ≡ None)
says_admits h id body now means bodies none fits hands is sayable are by =
    says_is h id body now means none fits hands is sayable (λ r. r ≡ None)
    (λ r same. refuses_none (say_all_fault h.endpoint.phase h.endpoint.sent bodies) r
    (same ∙ ap (λ (bs : List (List ℕ)). option_map refusal_of (say_all_fault h.endpoint.phase h.endpoint.sent bs)) (sym are)) by)

-- Initialize has six bytes
pub initialize_sayable : AllByRecursion Sayable (initialize ∷ [])
unfolding message_bytes value_bytes items_bytes number_bytes
initialize_sayable = (lit≤ tt, tt)

-- what waits at a client after a packet
pub still_sayable : (c : Client) (m : Message) → AllByRecursion Sayable c.waiting → AllByRecursion Sayable (after_packet c m).waiting
still_sayable c (promise id channel name arg) w = w
still_sayable c (promise_cancel id) w = w
still_sayable c (event_listen id channel event arg) w = w
still_sayable c (event_dispose id) w = w
still_sayable c initialize w = cond_both c.ready c (after_initialize c) (λ (x : Client). AllByRecursion Sayable x.waiting) (λ t. w) (λ f. tt)
still_sayable c (response id reply) w = cond_both (is_in id c.calls) (after_response c id) c (λ (x : Client). AllByRecursion Sayable x.waiting) (λ t. w) (λ f. w)
still_sayable c (event_fire id body) w = w

some_same : (a b : IpcFault) → Some a ≡ Some b → a ≡ b
some_same a b is = cc

-- a request that the server refuses for its id
pub active_again : (refused : ServerFault) (fault : IpcFault) (now_active : Option ℕ) → Some fault ≡ bad_request refused → IsActiveId refused now_active
    → (i : ℕ) × (now_active ≡ Some i) × (bad_message fault ≡ active i)
active_again (server.ActiveId id) fault now_active is same = (id_of id, same, ap bad_message (some_same fault (ipc.ActiveId id) is))
active_again (server.NoSuchCall id) fault now_active is same = absurd same
active_again server.NoMemory fault now_active is same = cc

-- a message that has no reading
pub no_reading : {X : Type 0} (refused : PacketFault) (fault : IpcFault) (reading : Result X PacketFault) → Some fault ≡ bad_reading refused
    → (refused ≢ packets.NoMemory → reading ≡ Err refused) → (reading ≡ Err refused) × (bad_message fault ≡ unreadable refused)
no_reading (packets.Value at what) fault reading is reads =
    (reads (λ same. cc), ap bad_message (some_same fault (ipc.Packet (packets.Value at what)) is))
no_reading (packets.BadHeader at) fault reading is reads = (reads (λ same. cc), ap bad_message (some_same fault (ipc.Packet (packets.BadHeader at)) is))
no_reading packets.BadBody fault reading is reads = (reads (λ same. cc), ap bad_message (some_same fault (ipc.Packet packets.BadBody) is))
no_reading (packets.Trailing at) fault reading is reads = (reads (λ same. cc), ap bad_message (some_same fault (ipc.Packet (packets.Trailing at)) is))
no_reading packets.NoMemory fault reading is reads = cc

-- ---- frames that are no messages, and none

fits_from : (x : EndpointState) → is_linked x.phase ≡ true → take_fault x.phase x.unread ≡ None → is_too_long x.unread ≡ false
fits_from x linked none = elim (cases_Bool (is_too_long x.unread)) [
  | inl t ↦ let some : Some (TooLong (stated x.unread)) ≡ None = rw (linked, t) at none in cc
  | inr f ↦ f
]

pub fits_when_read : (x : EndpointState) → is_linked x.phase ≡ true → take_fault x.phase x.unread ≡ None → is_too_long x.unread ≡ false
fits_when_read x linked none = fits_from x linked none

too_long_is : (x : EndpointState) (e : Endpoint) → StandsFor x e → is_linked x.phase ≡ true
    → if_too_long e ≡ option_map refusal_of (take_fault x.phase x.unread)
too_long_is x e stands linked = ap (λ (y : Endpoint). if_too_long y) stands.same ∙ rw linked (elim (cases_Bool (is_too_long x.unread)) [
  | inl t ↦ rw t refl
  | inr f ↦ rw f refl
])

first_cause : (fault : EndFault) (cause : Option EndFault) (r next : Option Refusal) → r ≡ option_map refusal_of cause → (fault ≢ NoMemory → cause ≡ Some fault)
    → fault ≢ NoMemory → or_fault r next ≡ Some (refusal_of fault)
first_cause fault cause r next is by other =
    ap (λ (x : Option Refusal). or_fault x next) (is ∙ ap (λ (x : Option EndFault). option_map refusal_of x) (by other))

pub too_long_refuses : (h : SessionState) (now : ℕ) (fault : EndFault) → is_linked h.endpoint.phase ≡ true
    → (fault ≢ NoMemory → take_fault h.endpoint.phase h.endpoint.unread ≡ Some fault)
    → OfEachSession h (λ s. IsRefusal (fault_of fault) (taken_refusal now s))
unfolding taken_refusal
too_long_refuses h now fault linked by = of_sessions h (λ s. IsRefusal (fault_of fault) (taken_refusal now s)) (λ p ms es stands.
    is_refusal fault _ (first_cause fault (take_fault h.endpoint.phase h.endpoint.unread) (if_too_long p.endpoint) _
    (too_long_is h.endpoint p.endpoint stands.endpoint linked) by))

-- what is handed up says nothing to the session
other_step : (h : SessionState) (z : EndpointState) (up : Option Delivery) (now : ℕ) (p : Peer) (ms : List Message) (es : List Entry) → h.cause ≡ None
    → AllByRecursion Sayable h.client.waiting → is_no_message up ≡ true → ((up ≡ Some Closed → ⊥) → is_ended p.endpoint.phase ≡ false)
    → StandsFor z (emptied p.endpoint)
    → StandsForSession (record { endpoint = z; kind = h.kind; serves = h.serves; server = h.server; client = h.client; cause = ended_by up })
    (on_endpoint emptied (on_delivery up now (with_past p ms es h)))
other_step h z None now p ms es none waiting other going at_end = absurd (false≢true other)
other_step h z (Some (HandedUp id body)) now p ms es none waiting other going at_end = absurd (false≢true other)
other_step h z (Some (Control body)) now p ms es none waiting other going at_end =
    rw none (record { same = refl; endpoint = at_end; runs = λ still. goes_emptied p.endpoint (going (λ same. cc)); waiting = waiting })
other_step h z (Some Quiet) now p ms es none waiting other going at_end =
    rw none (record { same = refl; endpoint = at_end; runs = λ still. goes_emptied p.endpoint (going (λ same. cc)); waiting = waiting })
other_step h z (Some Closed) now p ms es none waiting other going at_end =
    rw none (record { same = refl; endpoint = at_end; runs = λ still. never Disconnected still; waiting = waiting })

pub other_to : (h h' : SessionState) (up : Option Delivery) (now : ℕ) → h.cause ≡ None
    → ((e : Endpoint) → StandsFor h.endpoint e → up ≡ delivery e) → ((e : Endpoint) → StandsFor h.endpoint e → is_no_message (delivery e) ≡ true)
    → Becomes h.endpoint h'.endpoint (λ e. emptied (take_frame now e))
    → h' ≡ record { endpoint = h'.endpoint; kind = h.kind; serves = h.serves; server = h.server; client = h.client; cause = ended_by up }
    → SessionBecomes h h' (take_turn now)
unfolding take_turn take_in take_out
other_to h h' up now none hands other becomes same =
    subst (λ (x : SessionState). SessionBecomes h x (take_turn now)) (sym same)
    (by_sessions h _ (take_turn now) (λ p ms es stands.
    subst (λ (u : Option Delivery). StandsForSession (record { endpoint = h'.endpoint; kind = h.kind; serves = h.serves; server = h.server; client = h.client; cause = ended_by u })
    (on_endpoint emptied (on_delivery (delivery p.endpoint) now (with_past (taken now p) ms es h))))
    (sym (hands p.endpoint stands.endpoint))
    (other_step h h'.endpoint (delivery p.endpoint) now (taken now p) ms es none stands.waiting (other p.endpoint stands.endpoint)
    (λ no_close. goes_take now p.endpoint no_close (stands.runs none)) (becomes p.endpoint stands.endpoint))))

other_refusal : (up : Option Delivery) (now : ℕ) (s : Session) (e : Endpoint) → is_no_message up ≡ true → delivery_refusal up now s e ≡ None
other_refusal None now s e other = absurd (false≢true other)
other_refusal (Some (HandedUp id body)) now s e other = absurd (false≢true other)
other_refusal (Some (Control body)) now s e other = refl
other_refusal (Some Quiet) now s e other = refl
other_refusal (Some Closed) now s e other = refl

pub other_admits : (h : SessionState) (now : ℕ) → is_linked h.endpoint.phase ≡ true
    → ((e : Endpoint) → StandsFor h.endpoint e → is_no_message (delivery e) ≡ true) → take_fault h.endpoint.phase h.endpoint.unread ≡ None
    → OfEachSession h (λ s. taken_refusal now s ≡ None)
unfolding taken_refusal
other_admits h now linked other fits = of_sessions h (λ s. taken_refusal now s ≡ None) (λ p ms es stands.
    rw (fits_is h.endpoint p.endpoint stands.endpoint (fits_from h.endpoint linked fits))
    (other_refusal (delivery p.endpoint) now (with_past p ms es h) p.endpoint (other p.endpoint stands.endpoint)))

other_answers : (up : Option Delivery) (now : ℕ) (s : Session) (after : Endpoint) (t : Turn) → is_no_message up ≡ true
    → t.out ≡ shown after → t.again ≡ is_ready after → t.happened ≡ None → t.took ≡ true → t.ended ≡ ended_by up → turn_of t ≡ answer_after up now s after
other_answers None now s after t other out again happened took ended = absurd (false≢true other)
other_answers (Some (HandedUp id body)) now s after t other out again happened took ended = absurd (false≢true other)
other_answers (Some (Control body)) now s after t other out again happened took ended = rw (out, again, happened, took, ended) refl
other_answers (Some Quiet) now s after t other out again happened took ended = rw (out, again, happened, took, ended) refl
other_answers (Some Closed) now s after t other out again happened took ended = rw (out, again, happened, took, ended) refl

other_after : (up : Option Delivery) (now : ℕ) (s : Session) → is_no_message up ≡ true → (on_delivery up now s).peer ≡ s.peer
other_after None now s other = absurd (false≢true other)
other_after (Some (HandedUp id body)) now s other = absurd (false≢true other)
other_after (Some (Control body)) now s other = refl
other_after (Some Quiet) now s other = refl
other_after (Some Closed) now s other = refl

pub other_answer : (h : SessionState) (y : EndpointState) (up : Option Delivery) (now : ℕ) (t : Turn)
    → ((e : Endpoint) → StandsFor h.endpoint e → up ≡ delivery e) → ((e : Endpoint) → StandsFor h.endpoint e → is_no_message (delivery e) ≡ true)
    → Becomes h.endpoint y (take_frame now)
    → t.out ≡ shown_of y → t.again ≡ held.is_ready y → t.happened ≡ None → t.took ≡ true → t.ended ≡ ended_by up
    → OfEachSession h (λ s. turn_of t ≡ taken_answer now s)
unfolding taken_answer take_in
other_answer h y up now t hands other becomes out again happened took ended = of_sessions h (λ s. turn_of t ≡ taken_answer now s) (λ p ms es stands.
    let after : Endpoint = take_frame now p.endpoint in
    let at_end : StandsFor y after = becomes p.endpoint stands.endpoint in
    let is : up ≡ delivery p.endpoint = hands p.endpoint stands.endpoint in
    let no_message : is_no_message (delivery p.endpoint) ≡ true = other p.endpoint stands.endpoint in
    rw (other_after (delivery p.endpoint) now (with_past (taken now p) ms es h) no_message)
    (other_answers (delivery p.endpoint) now (with_past p ms es h) after t no_message (out ∙ sym (shown_is y after at_end))
    (again ∙ sym (ready_is y after at_end)) happened took (ended ∙ ap (λ (u : Option Delivery). ended_by u) is)))

-- no whole frame is unread
pub none_to : (h h' : SessionState) (now : ℕ) → ((e : Endpoint) → StandsFor h.endpoint e → delivery e ≡ None)
    → Becomes h.endpoint h'.endpoint emptied → h' ≡ record h { endpoint = h'.endpoint } → SessionBecomes h h' (take_turn now)
unfolding take_turn take_in take_out delivery take_frame
none_to h h' now none becomes same =
    subst (λ (x : SessionState). SessionBecomes h x (take_turn now)) (sym same)
    (by_sessions h (record h { endpoint = h'.endpoint }) (take_turn now) (λ p ms es stands.
    none_step h h'.endpoint now p ms es (next_frame p.endpoint) (none p.endpoint stands.endpoint) stands (becomes p.endpoint stands.endpoint)))
  where
    none_step : (h : SessionState) (z : EndpointState) (now : ℕ) (p : Peer) (ms : List Message) (es : List Entry) (next : Option (Frame × List ℕ))
        → option_map (λ (n : Frame × List ℕ). delivery_of (frame_kind n.0.kind) n.0 p.endpoint) next ≡ None
        → StandsForSession h (with_past p ms es h) → StandsFor z (emptied p.endpoint)
        → StandsForSession (record h { endpoint = z })
        (on_endpoint emptied (on_delivery (option_map (λ (n : Frame × List ℕ). delivery_of (frame_kind n.0.kind) n.0 p.endpoint) next) now
        (with_past (record {
          endpoint = took next (moment now p.endpoint) p.endpoint;
          heard = heard_with (option_map (λ (n : Frame × List ℕ). delivery_of (frame_kind n.0.kind) n.0 p.endpoint) next) p.heard;
          applied = applied_with next p.applied;
        }) ms es h)))
    none_step h z now p ms es None is stands at_end = record { same = refl; endpoint = at_end; runs = λ still. goes_emptied p.endpoint (stands.runs still); waiting = stands.waiting }
    none_step h z now p ms es (Some next) is stands at_end = cc

pub none_admits : (h : SessionState) (now : ℕ) → is_linked h.endpoint.phase ≡ true → ((e : Endpoint) → StandsFor h.endpoint e → delivery e ≡ None)
    → take_fault h.endpoint.phase h.endpoint.unread ≡ None → OfEachSession h (λ s. taken_refusal now s ≡ None)
unfolding taken_refusal
none_admits h now linked none fits = of_sessions h (λ s. taken_refusal now s ≡ None) (λ p ms es stands.
    rw (fits_is h.endpoint p.endpoint stands.endpoint (fits_from h.endpoint linked fits), none p.endpoint stands.endpoint) refl)

none_stays : (now : ℕ) (e : Endpoint) → delivery e ≡ None → take_frame now e ≡ e
unfolding take_frame delivery
none_stays now e is = none_took now e (next_frame e) is
  where
    none_took : (now : ℕ) (e : Endpoint) (next : Option (Frame × List ℕ)) → option_map (λ (n : Frame × List ℕ). delivery_of (frame_kind n.0.kind) n.0 e) next ≡ None
        → took next (moment now e) e ≡ e
    none_took now e None is = refl
    none_took now e (Some next) is = cc

pub none_answer : (h : SessionState) (now : ℕ) (t : Turn) → ((e : Endpoint) → StandsFor h.endpoint e → delivery e ≡ None)
    → t.out ≡ shown_of h.endpoint → t.again ≡ held.is_ready h.endpoint → t.happened ≡ None → t.took ≡ false → t.ended ≡ None
    → OfEachSession h (λ s. turn_of t ≡ taken_answer now s)
unfolding taken_answer take_in
none_answer h now t none out again happened took ended = of_sessions h (λ s. turn_of t ≡ taken_answer now s) (λ p ms es stands.
    rw (
      none p.endpoint stands.endpoint,
      none_stays now p.endpoint (none p.endpoint stands.endpoint),
      out,
      again,
      happened,
      took,
      ended,
      shown_is h.endpoint p.endpoint stands.endpoint,
      ready_is h.endpoint p.endpoint stands.endpoint,
    ) refl)
