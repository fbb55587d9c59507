-- What a session in memory stands for, through calls of its endpoint.
use Rattle.std.proofs.Common.{◌≡◌, ℕ, Bool, true, false, Option, Some, None, List, refl, ap, sym, subst, length}
use Rattle.std.proofs.lemmas.Bool.{cond-true, cond-false, cond_both, false≢true}
use Rattle.std.specs.Option.{is_some}
use Rattle.ra_base.specs.declared.key.Cause.{Cause}
use Rattle.ra_model.specs.Endpoints.{Endpoint, is_joining, is_ended, shown}
use Rattle.ra_model.specs.EndpointStates.{EndpointState, StandsFor}
use Rattle.ra_model.specs.GoesOn.{GoesOn}
use Rattle.ra_model.specs.Worlds.{Peer}
use Rattle.ra_model.specs.Calls.{begin, finish, ask_resume, lose, feed}
use Rattle.ra_model.proofs.Ending.{goes_begin, goes_finish, goes_resume, goes_feed, goes_wrote, goes_lose}
use Rattle.ra_ipc.specs.Messages.{Message}
use Rattle.ra_ipc.specs.ChannelPairs.{Entry}
use Rattle.ra_session.specs.Sessions.{Session, on_endpoint}
use Rattle.ra_session.specs.SessionCalls.{rejoined, joined, resumes, attach, feed_session, emptied, take_out, lose_session, end_session}
use Rattle.ra_session.specs.SessionStates.{SessionState, with_past, StandsForSession, OfEachSession, SessionBecomes}

-- a change of what is held is one of each endpoint that it stands for
abbrev pub Becomes : EndpointState → EndpointState → (Endpoint → Endpoint) → Type 0
Becomes old new call = (e : Endpoint) → StandsFor old e → StandsFor new (call e)

-- ---- each session that is stood for

-- it is enough to look at the sessions that are as in memory, with any past
pub of_sessions : (h : SessionState) (P : Session → Type 0)
    → ((p : Peer) (ms : List Message) (es : List Entry) → StandsForSession h (with_past p ms es h) → P (with_past p ms es h))
    → OfEachSession h P
of_sessions h P step s stands =
    subst (λ (x : Session). P x) (sym stands.same)
    (step s.peer s.packets s.entries (subst (λ (x : Session). StandsForSession h x) stands.same stands))

pub by_sessions : (h h' : SessionState) (call : Session → Session)
    → ((p : Peer) (ms : List Message) (es : List Entry) → StandsForSession h (with_past p ms es h) → StandsForSession h' (call (with_past p ms es h)))
    → SessionBecomes h h' call
by_sessions h h' call step = of_sessions h (λ s. StandsForSession h' (call s)) step

-- a call of the endpoint alone
pub moved : (h : SessionState) (x : EndpointState) (call : Endpoint → Endpoint) → GoesOn call → Becomes h.endpoint x call
    → SessionBecomes h (record h { endpoint = x }) (on_endpoint call)
moved h x call goes becomes = by_sessions h (record h { endpoint = x }) (on_endpoint call) (λ p ms es stands.
    record { same = refl; endpoint = becomes p.endpoint stands.endpoint; runs = λ none. goes p.endpoint (stands.runs none); waiting = stands.waiting })

pub lost : (h : SessionState) (x : EndpointState) (epoch : ℕ) → Becomes h.endpoint x (lose epoch) → SessionBecomes h (record h { endpoint = x }) (lose_session epoch)
unfolding lose_session
lost h x epoch becomes = moved h x (lose epoch) (goes_lose epoch) becomes

pub fed : (h : SessionState) (x : EndpointState) (epoch : ℕ) (piece : List ℕ) (now : ℕ) → Becomes h.endpoint x (feed epoch piece now)
    → SessionBecomes h (record h { endpoint = x }) (feed_session epoch piece now)
unfolding feed_session
fed h x epoch piece now becomes = moved h x (feed epoch piece now) (goes_feed epoch piece now) becomes

pub goes_emptied : GoesOn emptied
goes_emptied e going = goes_wrote (length (shown e)) e going

pub taken_out : (h : SessionState) (x : EndpointState) → Becomes h.endpoint x emptied → SessionBecomes h (record h { endpoint = x }) take_out
unfolding take_out
taken_out h x becomes = moved h x emptied goes_emptied becomes

-- ---- the end

is_none : {X : Type 0} → Option X → Bool
is_none None = true
is_none (Some x) = false

pub never : {P : Type 0} (cause : Cause) → Some cause ≡ None → P
unfolding is_none
never cause none = absurd (false≢true (ap (λ (c : Option Cause). is_none c) none))

pub ended : (h : SessionState) (cause : Cause) → is_some h.cause ≡ false → SessionBecomes h (record h { cause = Some cause }) (end_session cause)
unfolding end_session
ended h cause is = by_sessions h (record h { cause = Some cause }) (end_session cause) (λ p ms es stands.
    subst (λ (c : Option Cause). StandsForSession (record h { cause = Some cause }) (record (with_past p ms es h) { cause = c })) (sym (cond-false (is_some h.cause) h.cause (Some cause) is))
    (record { same = refl; endpoint = stands.endpoint; runs = λ none. never cause none; waiting = stands.waiting }))

pub not_ended : (h : SessionState) (cause : Cause) → is_some h.cause ≡ true → SessionBecomes h h (end_session cause)
unfolding end_session
not_ended h cause is = by_sessions h h (end_session cause) (λ p ms es stands.
    subst (λ (c : Option Cause). StandsForSession h (record (with_past p ms es h) { cause = c })) (sym (cond-true (is_some h.cause) h.cause (Some cause) is)) stands)

-- ---- links

-- the phase is the same in memory and at each endpoint that is stood for
pub phase_is : (x : EndpointState) (e : Endpoint) → StandsFor x e → e.phase ≡ x.phase
phase_is x e stands = ap (λ (y : Endpoint). y.phase) stands.same

pub goes_rejoined : (now : ℕ) → GoesOn (rejoined now)
goes_rejoined now e going =
    cond_both (is_joining e.phase) (finish now e) e (λ (x : Endpoint). is_ended x.phase ≡ false) (λ t. goes_finish now e going) (λ f. going)

pub goes_joined : (with_resume : Bool) (now : ℕ) → GoesOn (joined with_resume now)
goes_joined with_resume now e going =
    cond_both with_resume (ask_resume (rejoined now e)) (rejoined now e) (λ (x : Endpoint). is_ended x.phase ≡ false)
    (λ t. goes_resume (rejoined now e) (goes_rejoined now e going)) (λ f. goes_rejoined now e going)

pub attached : (h : SessionState) (x : EndpointState) (epoch : ℕ) (chunk : List ℕ) (now : ℕ)
    → Becomes h.endpoint x (λ e. joined (resumes h.serves h.kind) now (begin epoch chunk now e))
    → SessionBecomes h (record h { endpoint = x }) (attach epoch chunk now)
unfolding attach
attached h x epoch chunk now becomes = by_sessions h (record h { endpoint = x }) (attach epoch chunk now) (λ p ms es stands. record {
  same = refl;
  endpoint = becomes p.endpoint stands.endpoint;
  runs = λ none. goes_joined (resumes h.serves h.kind) now (begin epoch chunk now p.endpoint) (goes_begin epoch chunk now p.endpoint (stands.runs none));
  waiting = stands.waiting;
})
