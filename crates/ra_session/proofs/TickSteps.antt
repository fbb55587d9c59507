-- Moments that pass at a session, and the session that is left.
use Rattle.std.proofs.Common.{◌≡◌, ℕ, Bool, true, false, not, Option, Some, None, List, [], ◌∷◌, ◌++◌, refl, ap, sym, ◌∙◌, subst, map, length, ltb, ◌-◌, ◌≤◌, arith, length-append}
use Rattle.std.proofs.lemmas.Bool.{cond-true, cond-false, cond_both, or_parts, ltb-false, true≢false}
use Rattle.std.proofs.lemmas.Bool.Decides.{nat_tests}
use Rattle.std.specs.Prelude.{option_map, codes, nat_le, nat_lt, Result, Ok, Err, IfErr}
use Rattle.std.specs.List.{AllByRecursion, filter, filter_map, list_any, cons_option}
use Rattle.std.specs.Option.{is_some}
use Rattle.ra_base.specs.declared.key.Cause.{Cause}
use Rattle.ra_base.specs.declared.key.Cause.TheVariants.{Disconnected}
use Rattle.json.specs.Print.{escape}
use Rattle.ra_values.specs.ValueBytes.{number_bytes, value_bytes, items_bytes}
use Rattle.ra_chan_server.proofs.Texts.{escaped_length}
use Rattle.ra_model.specs.declared.fault.EndFault.{EndFault}
use Rattle.ra_model.specs.declared.session.Phase.{Phase}
use Rattle.ra_model.specs.Frames.{body_limit, last_id}
use Rattle.ra_model.specs.Refusals.{or_fault, fault_if}
use Rattle.ra_model.specs.Endpoints.{Endpoint, is_ended, is_up, sent}
use Rattle.ra_model.specs.EndpointStates.{EndpointState, StandsFor}
use Rattle.ra_model.specs.Calls.{tick, leave, times_out}
use Rattle.ra_model.proofs.Ending.{goes_tick}
use Rattle.ra_proto.specs.SayAll.{say_all, say_all_fault}
use Rattle.ra_ipc.specs.Messages.{Message, response}
use Rattle.ra_ipc.specs.Packets.{message_bytes}
use Rattle.ra_ipc.specs.ChannelServers.{Active, waiting_call, handed_call, waiting_listen, listener, is_timed_out, timeout_one, ticked, timeout_answers, shown_name, unknown_channel}
use Rattle.ra_session.specs.Faults.{fault_of}
use Rattle.ra_session.specs.declared.values.SessionFault.{SessionFault}
use Rattle.ra_session.specs.declared.values.SessionFault.TheVariants.{NoMemory}
use Rattle.ra_session.specs.Sessions.{Session}
use Rattle.ra_session.specs.SessionCalls.{emptied, tick_session, leave_session}
use Rattle.ra_session.specs.SessionRefusals.{Refusal, ids_spent, if_ended, if_spent, IsRefusal, IsEnd, tick_refusal, leave_refusal}
use Rattle.ra_session.specs.Moments.{timeout_of, AdmitsTick, TickRefused}
use Rattle.ra_session.specs.SessionStates.{SessionState, with_past, Sayable, StandsForSession, OfEachSession, SessionBecomes}
use Rattle.ra_session.proofs.Standing.{Becomes, of_sessions, by_sessions, phase_is, never}
use Rattle.ra_session.proofs.Refusing.{refused_ended, running, refusal_of, is_refusal, refuses_none, spent_is}
use Rattle.ra_session.proofs.SaySteps.{number_few}
use Rattle.ra_session.proofs.TurnSteps.{goes_say_all}

-- ---- the session is left

or_none : (r : Option Refusal) → or_fault r None ≡ r
or_none None = refl
or_none (Some x) = refl

pub leave_ended : (h : SessionState) (fault : SessionFault) → IsEnd fault h.cause → OfEachSession h (λ s. IsRefusal fault (leave_refusal s))
unfolding leave_refusal
leave_ended h fault is s stands =
    subst (λ (r : Option Refusal). IsRefusal fault r) (or_none (if_ended s)) (refused_ended h fault (λ _. None) is s stands)

pub leave_running : (h : SessionState) → h.cause ≡ None → OfEachSession h (λ s. leave_refusal s ≡ None)
unfolding leave_refusal
leave_running h none s stands =
    subst (λ (r : Option Refusal). r ≡ None) (or_none (if_ended s)) (running h (λ r. r ≡ None) (λ _. None) none (λ p ms es st. refl) s stands)

none_is : (cause : Option Cause) → cause ≡ None → is_some cause ≡ false
none_is cause none = ap (λ (c : Option Cause). is_some c) none

pub left : (h : SessionState) (x : EndpointState) → h.cause ≡ None → Becomes h.endpoint x (λ e. emptied (leave e))
    → SessionBecomes h (record h { endpoint = x; cause = Some Disconnected }) leave_session
unfolding leave_session
left h x none becomes = by_sessions h (record h { endpoint = x; cause = Some Disconnected }) leave_session (λ p ms es stands.
    subst (λ (c : Option Cause). StandsForSession (record h { endpoint = x; cause = Some Disconnected })
    (record (with_past (record p { endpoint = emptied (leave p.endpoint) }) ms es h) { cause = c }))
    (sym (cond-false (is_some h.cause) h.cause (Some Disconnected) (none_is h.cause none)))
    (record { same = refl; endpoint = becomes p.endpoint stands.endpoint; runs = λ none. never Disconnected none; waiting = stands.waiting }))

-- ---- a session that has ended lets moments pass

pub tick_ended : (h : SessionState) (now : ℕ) → is_some h.cause ≡ true → SessionBecomes h h (tick_session now)
unfolding tick_session
tick_ended h now is = by_sessions h h (tick_session now) (λ p ms es stands.
    subst (λ (s : Session). StandsForSession h s) (sym (cond-true (is_some h.cause) _ _ is)) stands)

pub tick_ended_refusal : (h : SessionState) (now : ℕ) → is_some h.cause ≡ true → OfEachSession h (λ s. tick_refusal now s ≡ None)
unfolding tick_refusal
tick_ended_refusal h now is = of_sessions h (λ s. tick_refusal now s ≡ None) (λ p ms es stands. cond-true (is_some h.cause) _ _ is)

pub timeout_ended : (h : SessionState) (now : ℕ) → is_some h.cause ≡ true → OfEachSession h (λ s. false ≡ timeout_of now s)
timeout_ended h now is = of_sessions h (λ s. false ≡ timeout_of now s) (λ p ms es stands. sym (cond-true (is_some h.cause) _ _ is))

pub timeout_is : (h : SessionState) (now : ℕ) (answer : Bool) → h.cause ≡ None
    → ((e : Endpoint) → StandsFor h.endpoint e → answer ≡ times_out now e) → OfEachSession h (λ s. answer ≡ timeout_of now s)
timeout_is h now answer none tells = of_sessions h (λ s. answer ≡ timeout_of now s) (λ p ms es stands.
    tells p.endpoint stands.endpoint ∙ sym (cond-false (is_some h.cause) _ _ (none_is h.cause none)))

-- ---- a session that runs

pub tick_to : (h : SessionState) (x y : EndpointState) (now : ℕ) (bodies : List (List ℕ)) → h.cause ≡ None
    → bodies ≡ map message_bytes (timeout_answers h.server now) → Becomes h.endpoint x (tick now) → Becomes x y (say_all bodies now)
    → SessionBecomes h (record h { endpoint = y; server = ticked h.server now }) (tick_session now)
unfolding tick_session
tick_to h x y now bodies none are ticks says = by_sessions h (record h { endpoint = y; server = ticked h.server now }) (tick_session now) (λ p ms es stands.
    subst (λ (s : Session). StandsForSession (record h { endpoint = y; server = ticked h.server now }) s)
    (sym (cond-false (is_some h.cause) _ _ (none_is h.cause none)))
    (record {
      same = refl;
      endpoint = subst (λ (bs : List (List ℕ)). StandsFor y (say_all bs now (tick now p.endpoint))) are (says (tick now p.endpoint) (ticks p.endpoint stands.endpoint));
      runs = λ none. goes_say_all (map message_bytes (timeout_answers h.server now)) now (tick now p.endpoint) (goes_tick now p.endpoint (stands.runs none));
      waiting = stands.waiting;
    }))

-- what is on time stays, and is not answered
all_stay : (now : ℕ) (active : List Active) → list_any (is_timed_out now) active ≡ false → filter (λ a. not (is_timed_out now a)) active ≡ active
all_stay now [] h = refl
all_stay now (a ∷ active) h = let p = or_parts (is_timed_out now a) (list_any (is_timed_out now) active) h in rw p.0 (ap (λ (rest : List Active). a ∷ rest) (all_stay now active p.1))

none_of : (now : ℕ) (a : Active) → is_timed_out now a ≡ false → timeout_one now a ≡ None
none_of now (waiting_call id channel name arg cancelled until) h = cond-false (nat_le until now) _ _ h
none_of now (handed_call id) h = refl
none_of now (waiting_listen id channel event until) h = refl
none_of now (listener id channel event) h = refl

none_answered : (now : ℕ) (active : List Active) → list_any (is_timed_out now) active ≡ false → filter_map (timeout_one now) active ≡ []
none_answered now [] h = refl
none_answered now (a ∷ active) h =
    let p = or_parts (is_timed_out now a) (list_any (is_timed_out now) active) h in rw (none_of now a p.0) (none_answered now active p.1)

pub tick_alone : (h : SessionState) (x : EndpointState) (now : ℕ) → h.cause ≡ None → list_any (is_timed_out now) h.server.active ≡ false
    → Becomes h.endpoint x (tick now) → SessionBecomes h (record h { endpoint = x }) (tick_session now)
unfolding say_all
tick_alone h x now none on_time ticks =
    subst (λ (active : List Active). SessionBecomes h (record h { endpoint = x; server = record { channels = h.server.channels; active = active } }) (tick_session now))
    (all_stay now h.server.active on_time)
    (tick_to h x x now [] none (sym (ap (λ (ms : List Message). map message_bytes ms) (none_answered now h.server.active on_time))) ticks (λ e stands. stands))

-- ---- why it is refused

few_left : (n : ℕ) → ltb n 0 ≡ false
few_left n = grind (arith, nat_tests)

pub tick_admits_alone : (h : SessionState) (now : ℕ) → h.cause ≡ None → list_any (is_timed_out now) h.server.active ≡ false → OfEachSession h (λ s. tick_refusal now s ≡ None)
unfolding tick_refusal
tick_admits_alone h now none on_time = of_sessions h (λ s. tick_refusal now s ≡ None) (λ p ms es stands.
    cond-false (is_some h.cause) _ _ (none_is h.cause none)
    ∙ ap (λ (ms : List Message). if_spent (length ms) p.endpoint) (none_answered now h.server.active on_time)
    ∙ ap (λ (b : Bool). fault_if b ids_spent) (few_left (last_id - sent p.endpoint)))

-- it is refused exactly where fewer ids are left than there are answers
pub tick_by_ids : (h : SessionState) (now : ℕ) (lacks : Bool) → h.cause ≡ None → lacks ≡ nat_lt (last_id - h.endpoint.sent) (length (timeout_answers h.server now))
    → OfEachSession h (λ s. tick_refusal now s ≡ fault_if lacks ids_spent)
unfolding tick_refusal
tick_by_ids h now lacks none is = of_sessions h (λ s. tick_refusal now s ≡ fault_if lacks ids_spent) (λ p ms es stands.
    cond-false (is_some h.cause) _ _ (none_is h.cause none)
    ∙ ap (λ (n : ℕ). fault_if (ltb (last_id - n) (length (timeout_answers h.server now))) ids_spent) (sym stands.endpoint.sent)
    ∙ ap (λ (b : Bool). fault_if b ids_spent) (sym is))

pub tick_spent : (h : SessionState) (now : ℕ) (lacks : Bool) → h.cause ≡ None → lacks ≡ nat_lt (last_id - h.endpoint.sent) (length (timeout_answers h.server now)) → lacks ≡ true
    → OfEachSession h (λ s. tick_refusal now s ≡ Some ids_spent)
tick_spent h now lacks none is so s stands = tick_by_ids h now lacks none is s stands ∙ ap (λ (b : Bool). fault_if b ids_spent) so

tick_enough : (h : SessionState) (now : ℕ) (lacks : Bool) → h.cause ≡ None → lacks ≡ nat_lt (last_id - h.endpoint.sent) (length (timeout_answers h.server now)) → lacks ≡ false
    → OfEachSession h (λ s. tick_refusal now s ≡ None)
tick_enough h now lacks none is so s stands = tick_by_ids h now lacks none is s stands ∙ ap (λ (b : Bool). fault_if b ids_spent) so

pub not_ended : (cause : Option Cause) (ends : Bool) → ends ≡ is_some cause → ends ≡ false → cause ≡ None
not_ended None ends is so = refl
not_ended (Some cause) ends is so = absurd (true≢false (sym is ∙ so))

pub short_admits : {X : Type 0} (h : SessionState) (now : ℕ) (lacks : Bool) (r : Result X SessionFault) → h.cause ≡ None → lacks ≡ nat_lt (last_id - h.endpoint.sent) (length (timeout_answers h.server now)) → lacks ≡ false
    → IfErr r (λ fault. fault ≡ NoMemory → AdmitsTick now h)
short_admits h now lacks (Ok x) none is so = tt
short_admits h now lacks (Err fault) none is so = λ short. (none, tick_enough h now lacks none is so)

sent_stays : (now : ℕ) (e : Endpoint) → sent (tick now e) ≡ sent e
unfolding tick
sent_stays now e = cond_both (is_up e.phase) _ _ (λ (x : Endpoint). sent x ≡ sent e) (λ t. refl) (λ f. refl)

-- an answer to a call that waited too long can be said
abbrev front : List ℕ
front = codes "{\"message\":\"Channel name '"

abbrev back : List ℕ
back = codes "' timed out after 1000ms\",\"name\":\"Unknown channel\"}"

shown_few : (channel : List ℕ) → length (shown_name channel) ≤ 65536
shown_few channel = cond_both (nat_lt 65536 (length channel)) _ _ (λ (w : List ℕ). length w ≤ 65536) (λ _. omega arith) (λ f. ltb-false 65536 (length channel) f)

text_few : (channel : List ℕ) → length (front ++ (escape (shown_name channel) ++ back)) ≤ 400000
text_few channel = omega (arith, shown_few channel, escaped_length (shown_name channel), length-append (escape (shown_name channel)) back)

answer_few : (id : ℕ) (t : List ℕ) → length t ≤ 400000
    → length ((4 ∷ (number_bytes 2 ++ ((6 ∷ number_bytes 202) ++ ((6 ∷ number_bytes id) ++ [])))) ++ (5 ∷ (number_bytes (length t) ++ t))) ≤ body_limit
answer_few id t few =
    omega (
      arith,
      few,
      number_few 2,
      number_few 202,
      number_few id,
      number_few (length t),
      length-append (4 ∷ (number_bytes 2 ++ ((6 ∷ number_bytes 202) ++ ((6 ∷ number_bytes id) ++ [])))) (5 ∷ (number_bytes (length t) ++ t)),
      length-append (number_bytes 2) ((6 ∷ number_bytes 202) ++ ((6 ∷ number_bytes id) ++ [])),
      length-append (number_bytes 202) ((6 ∷ number_bytes id) ++ []),
      length-append (number_bytes id) [],
      length-append (number_bytes (length t)) t,
    )

answer_sayable : (id : ℕ) (channel : List ℕ) → Sayable (response id (unknown_channel channel))
unfolding message_bytes value_bytes items_bytes
answer_sayable id channel = answer_few id (front ++ (escape (shown_name channel) ++ back)) (text_few channel)

all_sayable : (now : ℕ) (active : List Active) → AllByRecursion Sayable (filter_map (timeout_one now) active)
all_sayable now [] = tt
all_sayable now (a ∷ active) = one now a (filter_map (timeout_one now) active) (all_sayable now active)
  where
    one : (now : ℕ) (a : Active) (ms : List Message) → AllByRecursion Sayable ms → AllByRecursion Sayable (cons_option (timeout_one now a) ms)
    one now (waiting_call id channel name arg cancelled until) ms rest =
        cond_both (nat_le until now) _ _ (λ (r : Option Message). AllByRecursion Sayable (cons_option r ms)) (λ t. (answer_sayable id channel, rest)) (λ f. rest)
    one now (handed_call id) ms rest = rest
    one now (waiting_listen id channel event until) ms rest = rest
    one now (listener id channel event) ms rest = rest

tick_judged : (h : SessionState) (x : EndpointState) (now : ℕ) (P : Option Refusal → Type 0) → h.cause ≡ None → Becomes h.endpoint x (tick now)
    → ((r : Option Refusal) → r ≡ option_map refusal_of (say_all_fault x.phase x.sent (map message_bytes (timeout_answers h.server now))) → P r)
    → OfEachSession h (λ s. P (tick_refusal now s))
unfolding tick_refusal
tick_judged h x now P none ticks leads = of_sessions h (λ s. P (tick_refusal now s)) (λ p ms es stands.
    let after : StandsFor x (tick now p.endpoint) = ticks p.endpoint stands.endpoint in
    let goes : is_ended x.phase ≡ false = sym (ap (λ (f : Phase). is_ended f) (phase_is x (tick now p.endpoint) after)) ∙ goes_tick now p.endpoint (stands.runs none) in
    subst (λ (r : Option Refusal). P r) (sym (cond-false (is_some h.cause) _ _ (none_is h.cause none)))
    (subst (λ (n : ℕ). P (fault_if (ltb (last_id - n) (length (timeout_answers h.server now))) ids_spent)) (after.sent ∙ sent_stays now p.endpoint)
    (leads (fault_if (ltb (last_id - x.sent) (length (timeout_answers h.server now))) ids_spent)
    (spent_is x.phase x.sent (timeout_answers h.server now) goes (all_sayable now h.server.active)))))

pub tick_refuses : (h : SessionState) (now : ℕ) (fault : EndFault) (bodies : List (List ℕ)) → h.cause ≡ None
    → bodies ≡ map message_bytes (timeout_answers h.server now) → TickRefused fault h.endpoint bodies now → OfEachSession h (λ s. IsRefusal (fault_of fault) (tick_refusal now s))
tick_refuses h now fault bodies none are by s stands = is_refusal fault (tick_refusal now s) (λ other.
    let t = by other in
    tick_judged h t.0 now (λ r. r ≡ Some (refusal_of fault)) none t.1 (λ r same.
    same ∙ ap (λ (bs : List (List ℕ)). option_map refusal_of (say_all_fault t.0.phase t.0.sent bs)) (sym are)
    ∙ ap (λ (f : Option EndFault). option_map refusal_of f) t.2) s stands)

pub tick_admits : (h : SessionState) (x : EndpointState) (now : ℕ) (bodies : List (List ℕ)) → h.cause ≡ None
    → bodies ≡ map message_bytes (timeout_answers h.server now) → Becomes h.endpoint x (tick now)
    → say_all_fault x.phase x.sent bodies ≡ None → OfEachSession h (λ s. tick_refusal now s ≡ None)
tick_admits h x now bodies none are ticks by = tick_judged h x now (λ r. r ≡ None) none ticks (λ r same.
    refuses_none (say_all_fault x.phase x.sent bodies) r
    (same ∙ ap (λ (bs : List (List ℕ)). option_map refusal_of (say_all_fault x.phase x.sent bs)) (sym are)) by)
