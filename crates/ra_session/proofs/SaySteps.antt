-- Calls by which a session says something.
use Rattle.std.proofs.Common.{◌≡◌, ◌≢◌, ℕ, Bool, true, false, cond, Option, Some, None, List, [], ◌∷◌, ◌++◌, refl, ap, sym, ◌∙◌, subst, not, map, length, ltb, leb, ◌-◌, ◌^◌, ◌≤◌, ◌<◌, ◌+◌, ◌/◌, zero, suc, arith, inl, inr, ℤ, w32, to_z, of_z, length-append}
use Rattle.std.proofs.lemmas.Int.{of_z-to_z}
use Rattle.ra_values.specs.ValueBytes.{number_bytes, groups_of, value_bytes, items_bytes}
use Rattle.ra_ipc.specs.View.{id_of}
use Rattle.std.specs.Prelude.{option_map, if◌then◌else◌}
use Rattle.std.specs.List.{AllByRecursion, filter}
use Rattle.std.proofs.lemmas.Bool.{cases_Bool, cond_both}
use Rattle.std.proofs.lemmas.Bool.Decides.{nat_tests}
use Rattle.ra_model.specs.declared.fault.EndFault.{EndFault}
use Rattle.ra_model.specs.declared.fault.EndFault.TheVariants.{NoMemory}
use Rattle.ra_model.specs.declared.session.Phase.{Phase}
use Rattle.ra_model.specs.Frames.{body_limit, last_id}
use Rattle.ra_model.specs.Refusals.{or_fault, fault_if, say_fault}
use Rattle.ra_model.specs.Endpoints.{is_ended}
use Rattle.ra_model.specs.EndpointStates.{EndpointState, StandsFor}
use Rattle.ra_model.specs.Worlds.{Peer}
use Rattle.ra_model.specs.Calls.{say}
use Rattle.ra_model.proofs.Ending.{goes_say}
use Rattle.ra_proto.specs.SayAll.{say_all, say_all_fault}
use Rattle.ra_values.specs.Tree.{Tree}
use Rattle.ra_ipc.specs.Messages.{Reply, Message, promise, promise_cancel, event_listen, event_dispose, opens}
use Rattle.ra_ipc.specs.Packets.{message_bytes}
use Rattle.ra_ipc.specs.ChannelServers.{has_call, completed}
use Rattle.ra_ipc.specs.ChannelClients.{Client, sent_now, waiting_after, is_in, after_call, after_listen, after_cancel, after_dispose}
use Rattle.ra_ipc.specs.ChannelPairs.{Entry}
use Rattle.ra_session.specs.Faults.{fault_of}
use Rattle.ra_session.specs.declared.values.SessionFault.{SessionFault}
use Rattle.ra_session.specs.Sessions.{Session, is_management}
use Rattle.ra_session.specs.SessionCalls.{Firing, answer_packets, answer, say_body, call, listen, cancel, dispose}
use Rattle.ra_session.specs.SessionRefusals.{Refusal, ids_spent, no_such_call, wrong_kind, unless_kind, if_large, if_spent, if_ended, id_left, request_refusal, end_refusal, call_refusal, listen_refusal, cancel_refusal, dispose_refusal, unsayable, IsRefusal, IsEnd, answer_refusal, say_refusal}
use Rattle.ra_session.specs.SessionStates.{SessionState, with_past, Sayable, StandsForSession, OfEachSession, SessionBecomes}
use Rattle.ra_session.proofs.Standing.{Becomes, by_sessions, phase_is}
use Rattle.ra_session.proofs.Refusing.{refused_ended, running, refusal_of, refuses_end, refuses_none, unsayable_is, none_large}
use Rattle.ra_session.proofs.TurnSteps.{goes_say_all}
use Rattle.ra_session.proofs.WholeTurns.{refused_first}
use Rattle.ra_session.proofs.Packing.{all_push}

-- the endpoint of a running session has not ended, in memory either
pub runs_on : (h : SessionState) (p : Peer) (ms : List Message) (es : List Entry) → h.cause ≡ None → StandsForSession h (with_past p ms es h)
    → is_ended h.endpoint.phase ≡ false
runs_on h p ms es none stands = sym (ap (λ (x : Phase). is_ended x) (phase_is h.endpoint p.endpoint stands.endpoint)) ∙ stands.runs none

-- ---- an answer

pub answer_to : (h : SessionState) (x : EndpointState) (id : ℕ) (reply : Reply) (fire : Option Firing) (now : ℕ) (bodies : List (List ℕ))
    → bodies ≡ map message_bytes (answer_packets h.server id reply fire) → Becomes h.endpoint x (say_all bodies now)
    → SessionBecomes h (record h { endpoint = x; server = completed h.server id }) (answer id reply fire now)
unfolding answer
answer_to h x id reply fire now bodies are becomes =
    by_sessions h (record h { endpoint = x; server = completed h.server id }) (answer id reply fire now) (λ p ms es stands. record {
      same = refl;
      endpoint = subst (λ (bs : List (List ℕ)). StandsFor x (say_all bs now p.endpoint)) are (becomes p.endpoint stands.endpoint);
      runs = λ none. goes_say_all (map message_bytes (answer_packets h.server id reply fire)) now p.endpoint (stands.runs none);
      waiting = stands.waiting;
    })

pub answer_wrong : (h : SessionState) (id : ℕ) (reply : Reply) (fire : Option Firing) → h.cause ≡ None → is_management h.kind ≡ false
    → OfEachSession h (λ s. answer_refusal id reply fire s ≡ Some wrong_kind)
unfolding answer_refusal
answer_wrong h id reply fire none kind = running h (λ r. r ≡ Some wrong_kind)
    (λ s. or_fault (unless_kind (is_management s.kind)) (or_fault (fault_if (not (has_call id s.server)) (no_such_call id)) (unsayable (answer_packets s.server id reply fire) s.peer.endpoint)))
    none (λ p ms es stands. rw kind refl)

pub answer_unknown : (h : SessionState) (id : ℕ) (reply : Reply) (fire : Option Firing) → h.cause ≡ None → is_management h.kind ≡ true
    → has_call id h.server ≡ false → OfEachSession h (λ s. answer_refusal id reply fire s ≡ Some (no_such_call id))
unfolding answer_refusal
answer_unknown h id reply fire none kind unknown = running h (λ r. r ≡ Some (no_such_call id))
    (λ s. or_fault (unless_kind (is_management s.kind)) (or_fault (fault_if (not (has_call id s.server)) (no_such_call id)) (unsayable (answer_packets s.server id reply fire) s.peer.endpoint)))
    none (λ p ms es stands. rw (kind, unknown) refl)

pub answer_ended : (h : SessionState) (id : ℕ) (reply : Reply) (fire : Option Firing) (fault : SessionFault) → IsEnd fault h.cause
    → OfEachSession h (λ s. IsRefusal fault (answer_refusal id reply fire s))
unfolding answer_refusal
answer_ended h id reply fire fault is = refused_ended h fault
    (λ s. or_fault (unless_kind (is_management s.kind)) (or_fault (fault_if (not (has_call id s.server)) (no_such_call id)) (unsayable (answer_packets s.server id reply fire) s.peer.endpoint))) is

answer_judged : (h : SessionState) (id : ℕ) (reply : Reply) (fire : Option Firing) (P : Option Refusal → Type 0) → h.cause ≡ None → is_management h.kind ≡ true
    → has_call id h.server ≡ true
    → ((r : Option Refusal) → r ≡ option_map refusal_of (say_all_fault h.endpoint.phase h.endpoint.sent (map message_bytes (answer_packets h.server id reply fire))) → P r)
    → OfEachSession h (λ s. P (answer_refusal id reply fire s))
unfolding answer_refusal
answer_judged h id reply fire P none kind known leads = running h P
    (λ s. or_fault (unless_kind (is_management s.kind)) (or_fault (fault_if (not (has_call id s.server)) (no_such_call id)) (unsayable (answer_packets s.server id reply fire) s.peer.endpoint)))
    none (λ p ms es stands.
    let packets : List Message = answer_packets h.server id reply fire in
    rw (kind, known, ← stands.endpoint.sent)
    (leads (or_fault (if_large (map message_bytes packets)) (fault_if (ltb (last_id - h.endpoint.sent) (length packets)) ids_spent))
    (unsayable_is h.endpoint.phase h.endpoint.sent packets (runs_on h p ms es none stands))))

pub answer_refuses : (h : SessionState) (id : ℕ) (reply : Reply) (fire : Option Firing) (fault : EndFault) (bodies : List (List ℕ)) → h.cause ≡ None
    → is_management h.kind ≡ true → has_call id h.server ≡ true → bodies ≡ map message_bytes (answer_packets h.server id reply fire)
    → (fault ≢ NoMemory → say_all_fault h.endpoint.phase h.endpoint.sent bodies ≡ Some fault)
    → OfEachSession h (λ s. IsRefusal (fault_of fault) (answer_refusal id reply fire s))
answer_refuses h id reply fire fault bodies none kind known are by = answer_judged h id reply fire (λ r. IsRefusal (fault_of fault) r) none kind known (λ r same.
    refuses_end fault (say_all_fault h.endpoint.phase h.endpoint.sent bodies) r
    (same ∙ ap (λ (bs : List (List ℕ)). option_map refusal_of (say_all_fault h.endpoint.phase h.endpoint.sent bs)) (sym are)) by)

pub answer_admits : (h : SessionState) (id : ℕ) (reply : Reply) (fire : Option Firing) (bodies : List (List ℕ)) → h.cause ≡ None
    → is_management h.kind ≡ true → has_call id h.server ≡ true → bodies ≡ map message_bytes (answer_packets h.server id reply fire)
    → say_all_fault h.endpoint.phase h.endpoint.sent bodies ≡ None → OfEachSession h (λ s. answer_refusal id reply fire s ≡ None)
answer_admits h id reply fire bodies none kind known are by = answer_judged h id reply fire (λ r. r ≡ None) none kind known (λ r same.
    refuses_none (say_all_fault h.endpoint.phase h.endpoint.sent bodies) r
    (same ∙ ap (λ (bs : List (List ℕ)). option_map refusal_of (say_all_fault h.endpoint.phase h.endpoint.sent bs)) (sym are)) by)

-- ---- a message of an extension host

pub say_to : (h : SessionState) (x : EndpointState) (body : List ℕ) (now : ℕ) → Becomes h.endpoint x (say body now)
    → SessionBecomes h (record h { endpoint = x }) (say_body body now)
unfolding say_body
say_to h x body now becomes = by_sessions h (record h { endpoint = x }) (say_body body now) (λ p ms es stands. record {
  same = refl;
  endpoint = becomes p.endpoint stands.endpoint;
  runs = λ none. goes_say body now p.endpoint (stands.runs none);
  waiting = stands.waiting;
})

pub say_wrong : (h : SessionState) (body : List ℕ) → h.cause ≡ None → is_management h.kind ≡ true → OfEachSession h (λ s. say_refusal body s ≡ Some wrong_kind)
unfolding say_refusal
say_wrong h body none kind = running h (λ r. r ≡ Some wrong_kind)
    (λ s. or_fault (unless_kind (not (is_management s.kind))) (or_fault (if_large (body ∷ [])) (if_spent 1 s.peer.endpoint))) none (λ p ms es stands. rw kind refl)

pub say_ended : (h : SessionState) (body : List ℕ) (fault : SessionFault) → IsEnd fault h.cause → OfEachSession h (λ s. IsRefusal fault (say_refusal body s))
unfolding say_refusal
say_ended h body fault is = refused_ended h fault
    (λ s. or_fault (unless_kind (not (is_management s.kind))) (or_fault (if_large (body ∷ [])) (if_spent 1 s.peer.endpoint))) is

one_left : (last : ℕ) → ltb (last_id - last) 1 ≡ leb last_id last
one_left last = grind (arith, nat_tests)

-- the refusal of saying one body
pub one_is : (phase : Phase) (last : ℕ) (body : List ℕ) → is_ended phase ≡ false
    → or_fault (if_large (body ∷ [])) (fault_if (ltb (last_id - last) 1) ids_spent) ≡ option_map refusal_of (say_fault phase last (length body))
one_is phase last body going = rw (going, one_left last) (elim (cases_Bool (ltb body_limit (length body))) [
  | inl t ↦ rw t refl
  | inr f ↦ rw f (elim (cases_Bool (leb last_id last)) [ inl t' ↦ rw t' refl | inr f' ↦ rw f' refl ])
])

say_judged : (h : SessionState) (body : List ℕ) (P : Option Refusal → Type 0) → h.cause ≡ None → is_management h.kind ≡ false
    → ((r : Option Refusal) → r ≡ option_map refusal_of (say_fault h.endpoint.phase h.endpoint.sent (length body)) → P r)
    → OfEachSession h (λ s. P (say_refusal body s))
unfolding say_refusal
say_judged h body P none kind leads = running h P
    (λ s. or_fault (unless_kind (not (is_management s.kind))) (or_fault (if_large (body ∷ [])) (if_spent 1 s.peer.endpoint))) none (λ p ms es stands.
    rw (kind, ← stands.endpoint.sent)
    (leads (or_fault (if_large (body ∷ [])) (fault_if (ltb (last_id - h.endpoint.sent) 1) ids_spent))
    (one_is h.endpoint.phase h.endpoint.sent body (runs_on h p ms es none stands))))

pub say_refuses : (h : SessionState) (body : List ℕ) (fault : EndFault) → h.cause ≡ None → is_management h.kind ≡ false
    → (fault ≢ NoMemory → say_fault h.endpoint.phase h.endpoint.sent (length body) ≡ Some fault)
    → OfEachSession h (λ s. IsRefusal (fault_of fault) (say_refusal body s))
say_refuses h body fault none kind by = say_judged h body (λ r. IsRefusal (fault_of fault) r) none kind (λ r same. refuses_end fault _ r same by)

pub say_admits : (h : SessionState) (body : List ℕ) → h.cause ≡ None → is_management h.kind ≡ false
    → say_fault h.endpoint.phase h.endpoint.sent (length body) ≡ None → OfEachSession h (λ s. say_refusal body s ≡ None)
say_admits h body none kind by = say_judged h body (λ r. r ≡ None) none kind (λ r same. refuses_none _ r same by)

-- ---- requests of this end

sent_bodies : (c : Client) (m : Message) → map message_bytes (sent_now c m) ≡ cond c.ready (message_bytes m ∷ []) []
sent_bodies c m = elim (cases_Bool c.ready) [ inl t ↦ rw t refl | inr f ↦ rw f refl ]

pub still_waiting : (c : Client) (m : Message) → Sayable m → AllByRecursion Sayable c.waiting → AllByRecursion Sayable (waiting_after c m)
still_waiting c m fits w = cond_both c.ready c.waiting (c.waiting ++ m ∷ []) (AllByRecursion Sayable) (λ t. w) (λ f. all_push Sayable c.waiting m w fits)

pub all_filter : {X : Type 0} (P : X → Type 0) (test : X → Bool) (xs : List X) → AllByRecursion P xs → AllByRecursion P (filter test xs)
all_filter P test [] h = tt
all_filter P test (x ∷ xs) h = cond_both (test x) (x ∷ filter test xs) (filter test xs) (AllByRecursion P) (λ _. (h.0, all_filter P test xs h.1)) (λ _. all_filter P test xs h.1)

-- a packet that goes out now, or waits
request_said : (h : SessionState) (x : EndpointState) (m : Message) (now : ℕ) (body : List ℕ) → body ≡ message_bytes m
    → Becomes h.endpoint x (say_all (cond h.client.ready (body ∷ []) []) now) → Becomes h.endpoint x (say_all (map message_bytes (sent_now h.client m)) now)
request_said h x m now body is becomes e stands =
    subst (λ (bs : List (List ℕ)). StandsFor x (say_all bs now e))
    (ap (λ (b : List ℕ). cond h.client.ready (b ∷ []) []) is ∙ sym (sent_bodies h.client m)) (becomes e stands)

pub sayable_as : (m : Message) (body : List ℕ) → body ≡ message_bytes m → length body ≤ body_limit → Sayable m
sayable_as m body is fits = subst (λ (b : List ℕ). length b ≤ body_limit) is fits

pub call_to : (h : SessionState) (x : EndpointState) (channel name : List ℕ) (arg : Tree) (now : ℕ) (body : List ℕ)
    → body ≡ message_bytes (promise h.client.next channel name arg) → length body ≤ body_limit
    → Becomes h.endpoint x (say_all (cond h.client.ready (body ∷ []) []) now)
    → SessionBecomes h (record h { endpoint = x; client = after_call h.client (promise h.client.next channel name arg) }) (call channel name arg now)
unfolding call
call_to h x channel name arg now body is fits becomes =
    let m : Message = promise h.client.next channel name arg in
    by_sessions h (record h { endpoint = x; client = after_call h.client m }) (call channel name arg now) (λ p ms es stands. record {
      same = refl;
      endpoint = request_said h x m now body is becomes p.endpoint stands.endpoint;
      runs = λ none. goes_say_all (map message_bytes (sent_now h.client m)) now p.endpoint (stands.runs none);
      waiting = still_waiting h.client m (sayable_as m body is fits) stands.waiting;
    })

pub listen_to : (h : SessionState) (x : EndpointState) (channel event : List ℕ) (arg : Tree) (now : ℕ) (body : List ℕ)
    → body ≡ message_bytes (event_listen h.client.next channel event arg) → length body ≤ body_limit
    → Becomes h.endpoint x (say_all (cond h.client.ready (body ∷ []) []) now)
    → SessionBecomes h (record h { endpoint = x; client = after_listen h.client (event_listen h.client.next channel event arg) }) (listen channel event arg now)
unfolding listen
listen_to h x channel event arg now body is fits becomes =
    let m : Message = event_listen h.client.next channel event arg in
    by_sessions h (record h { endpoint = x; client = after_listen h.client m }) (listen channel event arg now) (λ p ms es stands. record {
      same = refl;
      endpoint = request_said h x m now body is becomes p.endpoint stands.endpoint;
      runs = λ none. goes_say_all (map message_bytes (sent_now h.client m)) now p.endpoint (stands.runs none);
      waiting = still_waiting h.client m (sayable_as m body is fits) stands.waiting;
    })

pub cancel_to : (h : SessionState) (x : EndpointState) (id now : ℕ) (body : List ℕ) → body ≡ message_bytes (promise_cancel id)
    → Becomes h.endpoint x (say_all (cond h.client.ready (body ∷ []) []) now)
    → SessionBecomes h (record h { endpoint = x; client = after_cancel h.client id }) (cancel id now)
unfolding cancel
cancel_to h x id now body is becomes = by_sessions h (record h { endpoint = x; client = after_cancel h.client id }) (cancel id now) (λ p ms es stands. record {
  same = refl;
  endpoint = request_said h x (promise_cancel id) now body is becomes p.endpoint stands.endpoint;
  runs = λ none. goes_say_all (map message_bytes (sent_now h.client (promise_cancel id))) now p.endpoint (stands.runs none);
  waiting = all_filter Sayable (λ m. not (opens id m)) h.client.waiting stands.waiting;
})

pub dispose_to : (h : SessionState) (x : EndpointState) (id now : ℕ) (body : List ℕ) → body ≡ message_bytes (event_dispose id)
    → Becomes h.endpoint x (say_all (cond h.client.ready (body ∷ []) []) now)
    → SessionBecomes h (record h { endpoint = x; client = after_dispose h.client id }) (dispose id now)
unfolding dispose
dispose_to h x id now body is becomes = by_sessions h (record h { endpoint = x; client = after_dispose h.client id }) (dispose id now) (λ p ms es stands. record {
  same = refl;
  endpoint = request_said h x (event_dispose id) now body is becomes p.endpoint stands.endpoint;
  runs = λ none. goes_say_all (map message_bytes (sent_now h.client (event_dispose id))) now p.endpoint (stands.runs none);
  waiting = all_filter Sayable (λ m. not (opens id m)) h.client.waiting stands.waiting;
})

-- ---- why they are refused

-- the parts of a refusal behind the end of the session and its kind
abbrev judged : Message → Session → Option Refusal
judged m s = or_fault (if id_left s then if_large (message_bytes m ∷ []) else None)
    (or_fault (fault_if (not (id_left s)) ids_spent) (if_spent (length (sent_now s.client m)) s.peer.endpoint))

abbrev end_judged : ℕ → List ℕ → Message → Session → Option Refusal
end_judged id ids m s = or_fault (fault_if (not (is_in id ids)) (no_such_call id)) (if_spent (length (sent_now s.client m)) s.peer.endpoint)

of_kind : (h : SessionState) (P : Option Refusal → Type 0) (rest : Session → Option Refusal) → h.cause ≡ None → is_management h.kind ≡ true
    → ((p : Peer) (ms : List Message) (es : List Entry) → StandsForSession h (with_past p ms es h) → P (rest (with_past p ms es h)))
    → OfEachSession h (λ s. P (or_fault (if_ended s) (or_fault (unless_kind (is_management s.kind)) (rest s))))
of_kind h P rest none kind step = running h P (λ s. or_fault (unless_kind (is_management s.kind)) (rest s)) none (λ p ms es stands. rw kind (step p ms es stands))

pub kind_wrong : (h : SessionState) (rest : Session → Option Refusal) → h.cause ≡ None → is_management h.kind ≡ false
    → OfEachSession h (λ s. or_fault (if_ended s) (or_fault (unless_kind (is_management s.kind)) (rest s)) ≡ Some wrong_kind)
kind_wrong h rest none kind = running h (λ r. r ≡ Some wrong_kind) (λ s. or_fault (unless_kind (is_management s.kind)) (rest s)) none (λ p ms es stands. rw kind refl)

-- the refusal of saying a packet that fits, where it goes out now
when_is : (phase : Phase) (last : ℕ) (c : Client) (m : Message) → is_ended phase ≡ false → Sayable m
    → fault_if (ltb (last_id - last) (length (sent_now c m))) ids_spent ≡ option_map refusal_of (cond c.ready (say_fault phase last (length (message_bytes m))) None)
when_is phase last c m going fits = elim (cases_Bool c.ready) [
  | inl t ↦ rw t (sym (ap (λ (r : Option Refusal). or_fault r (fault_if (ltb (last_id - last) 1) ids_spent)) (none_large (m ∷ []) (fits, tt)))
      ∙ one_is phase last (message_bytes m) going)
  | inr f ↦ rw (f, no_fewer (last_id - last)) refl
]
  where
    no_fewer : (n : ℕ) → ltb n 0 ≡ false
    no_fewer n = grind (arith, nat_tests)

left_true : (n : ℕ) → n < 2 ^ 31 → ltb n (2 ^ 31) ≡ true
left_true n h = grind (arith, nat_tests)

left_false : (n : ℕ) → 2 ^ 31 ≤ n → ltb n (2 ^ 31) ≡ false
left_false n h = grind (arith, nat_tests)

request_judged : (h : SessionState) (m : Message) (P : Option Refusal → Type 0) → h.cause ≡ None → is_management h.kind ≡ true → h.client.next < 2 ^ 31 → Sayable m
    → ((r : Option Refusal) → r ≡ option_map refusal_of (cond h.client.ready (say_fault h.endpoint.phase h.endpoint.sent (length (message_bytes m))) None) → P r)
    → OfEachSession h (λ s. P (request_refusal m s))
request_judged h m P none kind left fits leads = of_kind h P (judged m) none kind (λ p ms es stands.
    rw (left_true h.client.next left, none_large (m ∷ []) (fits, tt), ← stands.endpoint.sent)
    (leads (fault_if (ltb (last_id - h.endpoint.sent) (length (sent_now h.client m))) ids_spent)
    (when_is h.endpoint.phase h.endpoint.sent h.client m (runs_on h p ms es none stands) fits)))

pub request_refuses : (h : SessionState) (m : Message) (body : List ℕ) (fault : EndFault) → h.cause ≡ None → is_management h.kind ≡ true → h.client.next < 2 ^ 31
    → body ≡ message_bytes m → length body ≤ body_limit
    → (fault ≢ NoMemory → cond h.client.ready (say_fault h.endpoint.phase h.endpoint.sent (length body)) None ≡ Some fault)
    → OfEachSession h (λ s. IsRefusal (fault_of fault) (request_refusal m s))
request_refuses h m body fault none kind left is fits by = request_judged h m (λ r. IsRefusal (fault_of fault) r) none kind left (sayable_as m body is fits) (λ r same.
    refuses_end fault (cond h.client.ready (say_fault h.endpoint.phase h.endpoint.sent (length body)) None) r
    (same ∙ ap (λ (b : List ℕ). option_map refusal_of (cond h.client.ready (say_fault h.endpoint.phase h.endpoint.sent (length b)) None)) (sym is)) by)

pub request_admits : (h : SessionState) (m : Message) (body : List ℕ) → h.cause ≡ None → is_management h.kind ≡ true → h.client.next < 2 ^ 31
    → body ≡ message_bytes m → length body ≤ body_limit
    → cond h.client.ready (say_fault h.endpoint.phase h.endpoint.sent (length body)) None ≡ None
    → OfEachSession h (λ s. request_refusal m s ≡ None)
request_admits h m body none kind left is fits by = request_judged h m (λ r. r ≡ None) none kind left (sayable_as m body is fits) (λ r same.
    refuses_none (cond h.client.ready (say_fault h.endpoint.phase h.endpoint.sent (length body)) None) r
    (same ∙ ap (λ (b : List ℕ). option_map refusal_of (cond h.client.ready (say_fault h.endpoint.phase h.endpoint.sent (length b)) None)) (sym is)) by)

pub request_large : (h : SessionState) (m : Message) (fault : SessionFault) → h.cause ≡ None → is_management h.kind ≡ true → h.client.next < 2 ^ 31
    → IsRefusal fault (if_large (message_bytes m ∷ [])) → OfEachSession h (λ s. IsRefusal fault (request_refusal m s))
request_large h m fault none kind left is = of_kind h (λ r. IsRefusal fault r) (judged m) none kind (λ p ms es stands.
    rw (left_true h.client.next left) (refused_first fault (if_large (message_bytes m ∷ [])) _ is))

pub request_no_ids : (h : SessionState) (m : Message) → h.cause ≡ None → is_management h.kind ≡ true → 2 ^ 31 ≤ h.client.next
    → OfEachSession h (λ s. request_refusal m s ≡ Some ids_spent)
request_no_ids h m none kind none_left = of_kind h (λ r. r ≡ Some ids_spent) (judged m) none kind (λ p ms es stands. rw (left_false h.client.next none_left) refl)

pub request_ended : (h : SessionState) (m : Message) (fault : SessionFault) → IsEnd fault h.cause → OfEachSession h (λ s. IsRefusal fault (request_refusal m s))
request_ended h m fault is = refused_ended h fault (λ s. or_fault (unless_kind (is_management s.kind)) (judged m s)) is

pub request_wrong : (h : SessionState) (m : Message) → h.cause ≡ None → is_management h.kind ≡ false → OfEachSession h (λ s. request_refusal m s ≡ Some wrong_kind)
request_wrong h m none kind = kind_wrong h (judged m) none kind

-- ---- the end of a request

end_judges : (h : SessionState) (id : ℕ) (ids : List ℕ) (m : Message) (P : Option Refusal → Type 0) → h.cause ≡ None → is_management h.kind ≡ true
    → is_in id ids ≡ true → Sayable m
    → ((r : Option Refusal) → r ≡ option_map refusal_of (cond h.client.ready (say_fault h.endpoint.phase h.endpoint.sent (length (message_bytes m))) None) → P r)
    → OfEachSession h (λ s. P (end_refusal id ids m s))
end_judges h id ids m P none kind known fits leads = of_kind h P (end_judged id ids m) none kind (λ p ms es stands.
    rw (known, ← stands.endpoint.sent)
    (leads (fault_if (ltb (last_id - h.endpoint.sent) (length (sent_now h.client m))) ids_spent)
    (when_is h.endpoint.phase h.endpoint.sent h.client m (runs_on h p ms es none stands) fits)))

pub end_refuses : (h : SessionState) (id : ℕ) (ids : List ℕ) (m : Message) (body : List ℕ) (fault : EndFault) → h.cause ≡ None → is_management h.kind ≡ true
    → is_in id ids ≡ true → Sayable m → body ≡ message_bytes m
    → (fault ≢ NoMemory → cond h.client.ready (say_fault h.endpoint.phase h.endpoint.sent (length body)) None ≡ Some fault)
    → OfEachSession h (λ s. IsRefusal (fault_of fault) (end_refusal id ids m s))
end_refuses h id ids m body fault none kind known fits is by = end_judges h id ids m (λ r. IsRefusal (fault_of fault) r) none kind known fits (λ r same.
    refuses_end fault (cond h.client.ready (say_fault h.endpoint.phase h.endpoint.sent (length body)) None) r
    (same ∙ ap (λ (b : List ℕ). option_map refusal_of (cond h.client.ready (say_fault h.endpoint.phase h.endpoint.sent (length b)) None)) (sym is)) by)

pub end_admits : (h : SessionState) (id : ℕ) (ids : List ℕ) (m : Message) (body : List ℕ) → h.cause ≡ None → is_management h.kind ≡ true
    → is_in id ids ≡ true → Sayable m → body ≡ message_bytes m
    → cond h.client.ready (say_fault h.endpoint.phase h.endpoint.sent (length body)) None ≡ None
    → OfEachSession h (λ s. end_refusal id ids m s ≡ None)
end_admits h id ids m body none kind known fits is by = end_judges h id ids m (λ r. r ≡ None) none kind known fits (λ r same.
    refuses_none (cond h.client.ready (say_fault h.endpoint.phase h.endpoint.sent (length body)) None) r
    (same ∙ ap (λ (b : List ℕ). option_map refusal_of (cond h.client.ready (say_fault h.endpoint.phase h.endpoint.sent (length b)) None)) (sym is)) by)

pub end_unknown : (h : SessionState) (id : ℕ) (ids : List ℕ) (m : Message) → h.cause ≡ None → is_management h.kind ≡ true → is_in id ids ≡ false
    → OfEachSession h (λ s. end_refusal id ids m s ≡ Some (no_such_call id))
end_unknown h id ids m none kind unknown = of_kind h (λ r. r ≡ Some (no_such_call id)) (end_judged id ids m) none kind (λ p ms es stands. rw unknown refl)

pub end_ended : (h : SessionState) (id : ℕ) (ids : List ℕ) (m : Message) (fault : SessionFault) → IsEnd fault h.cause
    → OfEachSession h (λ s. IsRefusal fault (end_refusal id ids m s))
end_ended h id ids m fault is = refused_ended h fault (λ s. or_fault (unless_kind (is_management s.kind)) (end_judged id ids m s)) is

pub end_wrong : (h : SessionState) (id : ℕ) (ids : List ℕ) (m : Message) → h.cause ≡ None → is_management h.kind ≡ false
    → OfEachSession h (λ s. end_refusal id ids m s ≡ Some wrong_kind)
end_wrong h id ids m none kind = kind_wrong h (end_judged id ids m) none kind

-- ---- calls and listens as requests

next_is : (h : SessionState) (s : Session) → StandsForSession h s → s.client.next ≡ h.client.next
next_is h s stands = ap (λ (x : Session). x.client.next) stands.same

pub as_call : (h : SessionState) (channel name : List ℕ) (arg : Tree) (P : Option Refusal → Type 0)
    → OfEachSession h (λ s. P (request_refusal (promise h.client.next channel name arg) s)) → OfEachSession h (λ s. P (call_refusal channel name arg s))
unfolding call_refusal
as_call h channel name arg P of_each s stands =
    subst (λ (n : ℕ). P (request_refusal (promise n channel name arg) s)) (sym (next_is h s stands)) (of_each s stands)

pub as_listen : (h : SessionState) (channel event : List ℕ) (arg : Tree) (P : Option Refusal → Type 0)
    → OfEachSession h (λ s. P (request_refusal (event_listen h.client.next channel event arg) s)) → OfEachSession h (λ s. P (listen_refusal channel event arg s))
unfolding listen_refusal
as_listen h channel event arg P of_each s stands =
    subst (λ (n : ℕ). P (request_refusal (event_listen n channel event arg) s)) (sym (next_is h s stands)) (of_each s stands)

pub as_cancel : (h : SessionState) (id : ℕ) (P : Option Refusal → Type 0)
    → OfEachSession h (λ s. P (end_refusal id h.client.calls (promise_cancel id) s)) → OfEachSession h (λ s. P (cancel_refusal id s))
unfolding cancel_refusal
as_cancel h id P of_each s stands =
    subst (λ (ids : List ℕ). P (end_refusal id ids (promise_cancel id) s)) (sym (ap (λ (x : Session). x.client.calls) stands.same)) (of_each s stands)

pub as_dispose : (h : SessionState) (id : ℕ) (P : Option Refusal → Type 0)
    → OfEachSession h (λ s. P (end_refusal id h.client.listeners (event_dispose id) s)) → OfEachSession h (λ s. P (dispose_refusal id s))
unfolding dispose_refusal
as_dispose h id P of_each s stands =
    subst (λ (ids : List ℕ). P (end_refusal id ids (event_dispose id) s)) (sym (ap (λ (x : Session). x.client.listeners) stands.same)) (of_each s stands)

-- the next id, once it was passed on
pub id_again : (z : ℤ) (next : ℕ) → id_of z ≡ next → next < 2 ^ 31 → id_of (to_z w32 (of_z w32 z)) ≡ next
id_again z next is small = ap (λ (n : ℕ). of_z w32 (to_z w32 n)) is ∙ of_z-to_z w32 next (omega arith)

-- a cancel and a dispose have few bytes
pub number_few : (n : ℕ) → length (number_bytes n) ≤ 5
unfolding number_bytes
number_few n = groups_few 4 n
  where
    groups_few : (left n : ℕ) → length (groups_of left n) ≤ left + 1
    groups_few zero n = omega arith
    groups_few (suc left) n = cond_both (ltb n 128) _ _ (λ (w : List ℕ). length w ≤ suc left + 1) (λ t. omega arith) (λ f. omega (arith, groups_few left (n / 128)))

few_bytes : (code id : ℕ) → length ((4 ∷ (number_bytes 2 ++ ((6 ∷ number_bytes code) ++ ((6 ∷ number_bytes id) ++ [])))) ++ (0 ∷ [])) ≤ body_limit
few_bytes code id =
    omega (
      arith,
      number_few 2,
      number_few code,
      number_few id,
      length-append (4 ∷ (number_bytes 2 ++ ((6 ∷ number_bytes code) ++ ((6 ∷ number_bytes id) ++ [])))) (0 ∷ []),
      length-append (number_bytes 2) ((6 ∷ number_bytes code) ++ ((6 ∷ number_bytes id) ++ [])),
      length-append (number_bytes code) ((6 ∷ number_bytes id) ++ []),
      length-append (number_bytes id) [],
    )

pub cancel_sayable : (id : ℕ) → Sayable (promise_cancel id)
unfolding message_bytes value_bytes items_bytes
cancel_sayable id = few_bytes 101 id

pub dispose_sayable : (id : ℕ) → Sayable (event_dispose id)
unfolding message_bytes value_bytes items_bytes
dispose_sayable id = few_bytes 103 id
