-- A link takes nothing back, and writes no more than its calls of the hub make.
use Rattle.std.proofs.Common.{◌≡◌, ℕ, zero, suc, ◌≤◌, Bool, true, false, Option, Some, None, List, [], ◌∷◌, ◌++◌, if◌then◌else◌, refl, sym, ap, subst, ◌∙◌, append_assoc, append-nil, arith}
use Rattle.std.proofs.lemmas.List.{length-append}
use Rattle.std.specs.Prelude.{◌+◌, length}
use Rattle.ra_base.specs.declared.handshake.Reason.{Reason}
use Rattle.ra_base.specs.declared.handshake.Request.{Request}
use Rattle.ra_base.specs.declared.key.Cause.{Cause}
use Rattle.ra_base.specs.declared.key.Cause.TheVariants.{BadIpc}
use Rattle.ra_base.specs.declared.key.Seat.{Seat}
use Rattle.ra_opening.specs.Verdicts.{refusal_bytes, acceptance_bytes}
use Rattle.ra_registry.specs.Admission.{admission_refusal, seat_for}
use Rattle.ra_session.specs.SessionRefusals.{Refusal, ended, stale, no_link, too_long, bad_ipc, too_large, ids_spent, no_such_call, wrong_kind, attach_refusal}
use Rattle.ra_session.specs.Sessions.{Session}
use Rattle.ra_session.specs.TurnRefusals.{turn_refusal}
use Rattle.ra_session.specs.Turns.{TurnAnswer, turn_answer}
use Rattle.ra_hub.specs.Hubs.{Hub}
use Rattle.ra_hub.specs.Jobs.{SeenJob}
use Rattle.ra_link_core.specs.HubEvents.{HubEvent, event_done, event_jobs, event_bytes, events_done, events_jobs, events_bytes, admission_bytes, turn_bytes, session_bytes, seat_judged_by, seat_by, seats_by}
use Rattle.ra_link_core.specs.HubEvents.HubEvent.{Admit, Attach, Turn, Close}
use Rattle.ra_link_core.specs.LinkRuns.{Serving, Welcome, End, request_refused, Turned, writes, does, closes, ends_by, turn_refused, turn_ended, turn_made, turn_by, turn_in, turned, turned_again, turns_for, served, attached_by, attached_in, attached, welcomed, asked_by, asked}
use Rattle.ra_link_core.specs.Makes.{Happens, Grows, Writes}

-- ---- events

pub events_both : (a b : List HubEvent) (h : Hub) → events_done (a ++ b) h ≡ events_done b (events_done a h)
events_both [] b h = refl
events_both (e ∷ a) b h = events_both a b (event_done e h)

pub jobs_both : (a b : List HubEvent) (h : Hub) → events_jobs (a ++ b) h ≡ events_jobs a h ++ events_jobs b (events_done a h)
jobs_both [] b h = refl
jobs_both (e ∷ a) b h =
    ap (λ (l : List SeenJob). event_jobs e h ++ l) (jobs_both a b (event_done e h))
    ∙ sym (append_assoc (event_jobs e h) (events_jobs a (event_done e h)) (events_jobs b (events_done a (event_done e h))))

pub bytes_both : (a b : List HubEvent) (h : Hub) → events_bytes (a ++ b) h ≡ events_bytes a h ++ events_bytes b (events_done a h)
bytes_both [] b h = refl
bytes_both (e ∷ a) b h =
    ap (λ (l : List ℕ). event_bytes e h ++ l) (bytes_both a b (event_done e h))
    ∙ sym (append_assoc (event_bytes e h) (events_bytes a (event_done e h)) (events_bytes b (events_done a (event_done e h))))

pub seats_both : (a b : List HubEvent) (h : Hub) (seat : Option Seat) → seats_by (a ++ b) h seat ≡ seats_by b (events_done a h) (seats_by a h seat)
seats_both [] b h seat = refl
seats_both (e ∷ a) b h seat = seats_both a b (event_done e h) (seat_by e h seat)

turn_writes : (seat : Seat) (piece : List ℕ) (now : ℕ) (h : Hub) → event_bytes (Turn seat piece now) h ≡ session_bytes (h.session seat.key) seat piece now
unfolding event_bytes
turn_writes seat piece now h = refl

close_writes : (seat : Seat) (cause : Cause) (now : ℕ) (h : Hub) → event_bytes (Close seat cause now) h ≡ []
unfolding event_bytes
close_writes seat cause now h = refl

attach_writes : (seat : Seat) (chunk : List ℕ) (now : ℕ) (h : Hub) → event_bytes (Attach seat chunk now) h ≡ []
unfolding event_bytes
attach_writes seat chunk now h = refl

admit_writes : (request : Request) (now : ℕ) (h : Hub)
    → event_bytes (Admit request now) h ≡ admission_bytes (admission_refusal h.registry request now) (seat_for h.registry request)
unfolding event_bytes
admit_writes request now h = refl

-- ---- what happened

-- what happened says nothing of the bytes, the welcome and the end
abbrev pub happens_same : (s : Serving) (out : List ℕ) (drawn : ℕ) (welcome : Option Welcome) (end : Option End) → s.drawn ≤ drawn
    → Happens s (record s { out = out; drawn = drawn; welcome = welcome; end = end })
happens_same s out drawn welcome end later =
    record { more = []; events = sym (append-nil s.events); hub = refl; jobs = sym (append-nil s.jobs); drawn = later; seat = refl }

pub happens_refl : (s : Serving) → Happens s s
happens_refl s = happens_same s s.out s.drawn s.welcome s.end (omega arith)

abbrev happens_both : (s t u : Serving) → Happens s t → Happens t u → Happens s u
happens_both s t u a b = record {
  more = a.more ++ b.more;
  events = b.events ∙ ap (λ (l : List HubEvent). l ++ b.more) a.events ∙ append_assoc s.events a.more b.more;
  hub = b.hub ∙ ap (events_done b.more) a.hub ∙ sym (events_both a.more b.more s.hub);
  jobs =
      b.jobs
      ∙ ap (λ (l : List SeenJob). l ++ events_jobs b.more t.hub) a.jobs
      ∙ ap (λ (h : Hub). (s.jobs ++ events_jobs a.more s.hub) ++ events_jobs b.more h) a.hub
      ∙ append_assoc s.jobs (events_jobs a.more s.hub) (events_jobs b.more (events_done a.more s.hub))
      ∙ ap (λ (l : List SeenJob). s.jobs ++ l) (sym (jobs_both a.more b.more s.hub));
  drawn = omega (arith, a.drawn, b.drawn);
  seat =
      b.seat
      ∙ ap (λ (h : Hub). seats_by b.more h t.seat) a.hub
      ∙ ap (λ (o : Option Seat). seats_by b.more (events_done a.more s.hub) o) a.seat
      ∙ sym (seats_both a.more b.more s.hub s.seat);
}

pub happens_trans : (s t u : Serving) → Happens s t → Happens t u → Happens s u
happens_trans s t u a b = happens_both s t u a b

pub happens_more : (s t u : Serving) → Happens s t → Grows t u → Happens s u
happens_more s t u a b = happens_trans s t u a b.happens

-- an event, and the seat that it leaves
abbrev event_happens : (s : Serving) (e : HubEvent) (out : List ℕ) (seat : Option Seat) (welcome : Option Welcome) (end : Option End) → seat ≡ seat_by e s.hub s.seat
    → Happens s (record (does e s) { out = out; seat = seat; welcome = welcome; end = end })
event_happens s e out seat welcome end leaves = record {
  more = e ∷ [];
  events = refl;
  hub = refl;
  jobs = ap (λ (l : List SeenJob). s.jobs ++ l) (sym (append-nil (event_jobs e s.hub)));
  drawn = omega arith;
  seat = leaves;
}

-- its bytes are not written yet
pub happens_does : (s t : Serving) (e : HubEvent) (seat : Option Seat) → Happens s t → seat ≡ seat_by e t.hub t.seat → Happens s (record (does e t) { seat = seat })
happens_does s t e seat a leaves = happens_trans s t (record (does e t) { seat = seat }) a (event_happens t e t.out seat t.welcome t.end leaves)

-- ---- what was written

pub writes_same : (s : Serving) (welcome : Option Welcome) (end : Option End) → Writes s (record s { welcome = welcome; end = end })
writes_same s welcome end = record { happens = happens_same s s.out s.drawn welcome end (omega arith); out = sym (append-nil s.out) }

pub writes_refl : (s : Serving) → Writes s s
writes_refl s = writes_same s s.welcome s.end

-- an event, and what is written for it
writes_does : (s : Serving) (e : HubEvent) (out : List ℕ) (seat : Option Seat) (welcome : Option Welcome) (end : Option End)
    → seat ≡ seat_by e s.hub s.seat → out ≡ s.out ++ event_bytes e s.hub
    → Writes s (record (does e s) { out = out; seat = seat; welcome = welcome; end = end })
writes_does s e out seat welcome end leaves is =
    record { happens = event_happens s e out seat welcome end leaves; out = is ∙ ap (λ (l : List ℕ). s.out ++ l) (sym (append-nil (event_bytes e s.hub))) }

-- nothing is written for it
writes_none : (s : Serving) (e : HubEvent) (seat : Option Seat) (welcome : Option Welcome) (end : Option End)
    → seat ≡ seat_by e s.hub s.seat → event_bytes e s.hub ≡ []
    → Writes s (record (does e s) { seat = seat; welcome = welcome; end = end })
writes_none s e seat welcome end leaves none =
    writes_does s e s.out seat welcome end leaves (sym (append-nil s.out) ∙ ap (λ (l : List ℕ). s.out ++ l) (sym none))

pub writes_trans : (s t u : Serving) → Writes s t → Writes t u → Writes s u
writes_trans s t u a b =
    let before = a.happens.more in
    let behind = b.happens.more in
    record {
      happens = happens_both s t u a.happens b.happens;
      out =
          b.out
          ∙ ap (λ (l : List ℕ). l ++ events_bytes behind t.hub) a.out
          ∙ ap (λ (h : Hub). (s.out ++ events_bytes before s.hub) ++ events_bytes behind h) a.happens.hub
          ∙ append_assoc s.out (events_bytes before s.hub) (events_bytes behind (events_done before s.hub))
          ∙ ap (λ (l : List ℕ). s.out ++ l) (sym (bytes_both before behind s.hub));
    }

-- ---- the order

pub grows_by : (s t : Serving) → Writes s t → Grows s t
grows_by s t a = record { bytes = events_bytes a.happens.more s.hub; out = a.out; happens = a.happens; enough = omega arith }

pub grows_same : (s : Serving) (welcome : Option Welcome) (end : Option End) → Grows s (record s { welcome = welcome; end = end })
grows_same s welcome end = grows_by s (record s { welcome = welcome; end = end }) (writes_same s welcome end)

pub grows_refl : (s : Serving) → Grows s s
grows_refl s = grows_same s s.welcome s.end

pub grows_writes : (s : Serving) (bytes : List ℕ) (welcome : Option Welcome) (end : Option End)
    → Grows s (record s { out = s.out ++ bytes; welcome = welcome; end = end })
grows_writes s bytes welcome end =
    record { bytes = bytes; out = refl; happens = happens_same s (s.out ++ bytes) s.drawn welcome end (omega arith); enough = omega arith }

pub grows_trans : (s t u : Serving) → Grows s t → Grows t u → Grows s u
grows_trans s t u a b =
    let before = a.happens.more in
    let behind = b.happens.more in
    let parts : length (events_bytes (before ++ behind) s.hub) ≡ length (events_bytes before s.hub) + length (events_bytes behind (events_done before s.hub)) =
    ap length (bytes_both before behind s.hub) ∙ length-append (events_bytes before s.hub) (events_bytes behind (events_done before s.hub)) in
    let rest : length (events_bytes behind (events_done before s.hub)) ≤ length b.bytes =
    subst (λ (h : Hub). length (events_bytes behind h) ≤ length b.bytes) a.happens.hub b.enough in
    record {
      bytes = a.bytes ++ b.bytes;
      out = b.out ∙ ap (λ (l : List ℕ). l ++ b.bytes) a.out ∙ append_assoc s.out a.bytes b.bytes;
      happens = happens_both s t u a.happens b.happens;
      enough = omega (arith, parts, rest, a.enough, length-append a.bytes b.bytes);
    }

-- ---- turns

spoiled : (seat : Seat) (piece : List ℕ) (now : ℕ) (s : Serving) (end : End) → event_bytes (Turn seat piece now) s.hub ≡ []
    → Writes s (ends_by end (closes seat BadIpc now (does (Turn seat piece now) s)))
spoiled seat piece now s end none =
    let v = does (Turn seat piece now) s in
    writes_trans s v (ends_by end (closes seat BadIpc now v))
    (writes_none s (Turn seat piece now) s.seat s.welcome s.end refl none)
    (writes_none v (Close seat BadIpc now) None s.welcome (Some end) refl (close_writes seat BadIpc now v.hub))

writes_refused : (refusal : Refusal) (seat : Seat) (piece : List ℕ) (now : ℕ) (s : Serving) → event_bytes (Turn seat piece now) s.hub ≡ []
    → Writes s (turn_refused refusal seat piece now s)
writes_refused (bad_ipc bad message) seat piece now s none = spoiled seat piece now s _ none
writes_refused (ended cause) seat piece now s none = writes_same s _ _
writes_refused (stale current) seat piece now s none = writes_same s _ _
writes_refused no_link seat piece now s none = writes_same s _ _
writes_refused (too_long n) seat piece now s none = writes_same s _ _
writes_refused (too_large n) seat piece now s none = writes_same s _ _
writes_refused ids_spent seat piece now s none = writes_same s _ _
writes_refused (no_such_call id) seat piece now s none = writes_same s _ _
writes_refused wrong_kind seat piece now s none = writes_same s _ _

writes_turn_ended : (cause : Option Cause) (again : Bool) (seat : Seat) (now : ℕ) (s : Serving) → Writes s (turn_ended cause again seat now s).after
writes_turn_ended None again seat now s = writes_refl s
writes_turn_ended (Some cause) again seat now s = writes_none s (Close seat cause now) _ _ _ refl (close_writes seat cause now s.hub)

writes_made : (answer : TurnAnswer) (seat : Seat) (piece : List ℕ) (now : ℕ) (s : Serving) → event_bytes (Turn seat piece now) s.hub ≡ answer.out
    → Writes s (turn_made answer seat piece now s).after
writes_made answer seat piece now s is =
    let w = writes answer.out (does (Turn seat piece now) s) in
    writes_trans s w (turn_made answer seat piece now s).after
    (writes_does s (Turn seat piece now) (s.out ++ answer.out) s.seat s.welcome s.end refl (ap (λ (l : List ℕ). s.out ++ l) (sym is)))
    (writes_turn_ended answer.ended answer.again seat now w)

writes_turn_by : (refusal : Option Refusal) (answer : TurnAnswer) (seat : Seat) (piece : List ℕ) (now : ℕ) (s : Serving)
    → event_bytes (Turn seat piece now) s.hub ≡ turn_bytes refusal answer → Writes s (turn_by refusal answer seat piece now s).after
writes_turn_by (Some refusal) answer seat piece now s is = writes_refused refusal seat piece now s is
writes_turn_by None answer seat piece now s is = writes_made answer seat piece now s is

writes_turn_in : (session : Option Session) (seat : Seat) (piece : List ℕ) (now : ℕ) (s : Serving)
    → event_bytes (Turn seat piece now) s.hub ≡ session_bytes session seat piece now → Writes s (turn_in session seat piece now s).after
writes_turn_in None seat piece now s is = writes_refl s
writes_turn_in (Some session) seat piece now s is =
    writes_turn_by (turn_refusal seat.epoch piece now session) (turn_answer seat.epoch piece now session) seat piece now s is

pub writes_turned : (seat : Seat) (piece : List ℕ) (now : ℕ) (s : Serving) → Writes s (turned seat piece now s).after
unfolding turned
writes_turned seat piece now s = writes_turn_in (s.hub.session seat.key) seat piece now s (turn_writes seat piece now s.hub)

writes_if : (b : Bool) (s t u : Serving) → Writes s t → Writes s u → Writes s (if b then t else u)
writes_if true s t u a b = a
writes_if false s t u a b = b

pub writes_again : (n : ℕ) (seat : Seat) (now : ℕ) (t : Turned) → Writes t.after (turned_again n seat now t)
unfolding turned_again
writes_again zero seat now t = writes_refl t.after
writes_again (suc n) seat now t =
    writes_if t.again t.after (turned_again n seat now (turned seat [] now t.after)) t.after
    (writes_trans t.after (turned seat [] now t.after).after (turned_again n seat now (turned seat [] now t.after))
    (writes_turned seat [] now t.after) (writes_again n seat now (turned seat [] now t.after)))
    (writes_refl t.after)

pub writes_served : (n : ℕ) (seat : Seat) (piece : List ℕ) (now : ℕ) (s : Serving) → Writes s (served n seat piece now s)
unfolding served
writes_served n seat piece now s =
    writes_trans s (turned seat piece now s).after (turned_again n seat now (turned seat piece now s))
    (writes_turned seat piece now s) (writes_again n seat now (turned seat piece now s))

pub grows_turn_ended : (cause : Option Cause) (again : Bool) (seat : Seat) (now : ℕ) (s : Serving) → Grows s (turn_ended cause again seat now s).after
grows_turn_ended cause again seat now s = grows_by s (turn_ended cause again seat now s).after (writes_turn_ended cause again seat now s)

pub grows_again : (n : ℕ) (seat : Seat) (now : ℕ) (t : Turned) → Grows t.after (turned_again n seat now t)
grows_again n seat now t = grows_by t.after (turned_again n seat now t) (writes_again n seat now t)

pub grows_served : (n : ℕ) (seat : Seat) (piece : List ℕ) (now : ℕ) (s : Serving) → Grows s (served n seat piece now s)
grows_served n seat piece now s = grows_by s (served n seat piece now s) (writes_served n seat piece now s)

-- ---- requests

writes_attached_by : (refusal : Option Refusal) (seat : Seat) (chunk : List ℕ) (now : ℕ) (s : Serving) → Writes s (attached_by refusal seat chunk now s)
writes_attached_by (Some refusal) seat chunk now s = writes_same s _ _
writes_attached_by None seat chunk now s =
    let v = does (Attach seat chunk now) s in
    writes_trans s v (served (turns_for chunk) seat [] now v)
    (writes_none s (Attach seat chunk now) s.seat s.welcome s.end refl (attach_writes seat chunk now s.hub)) (writes_served (turns_for chunk) seat [] now v)

writes_attached_in : (session : Option Session) (seat : Seat) (chunk : List ℕ) (now : ℕ) (s : Serving) → Writes s (attached_in session seat chunk now s)
writes_attached_in None seat chunk now s = writes_refl s
writes_attached_in (Some session) seat chunk now s = writes_attached_by (attach_refusal seat.epoch session) seat chunk now s

pub writes_attached : (seat : Seat) (chunk : List ℕ) (now : ℕ) (s : Serving) → Writes s (attached seat chunk now s)
unfolding attached
writes_attached seat chunk now s = writes_attached_in (s.hub.session seat.key) seat chunk now s

pub grows_attached : (seat : Seat) (chunk : List ℕ) (now : ℕ) (s : Serving) → Grows s (attached seat chunk now s)
grows_attached seat chunk now s = grows_by s (attached seat chunk now s) (writes_attached seat chunk now s)

-- the link was admitted, or not
writes_judged : (reason : Option Reason) (request : Request) (place : ℕ) (chunk : List ℕ) (now : ℕ) (s : Serving) → admission_refusal s.hub.registry request now ≡ reason
    → event_bytes (Admit request now) s.hub ≡ admission_bytes reason (seat_for s.hub.registry request)
    → Writes s (asked_by reason (seat_for s.hub.registry request) place chunk now (does (Admit request now) s))
writes_judged (Some reason) request place chunk now s why is =
    let seat : s.seat ≡ seat_by (Admit request now) s.hub s.seat = ap (λ (o : Option Reason). seat_judged_by o (seat_for s.hub.registry request) s.seat) (sym why) in
    writes_does s (Admit request now) (s.out ++ refusal_bytes reason) s.seat s.welcome (Some (request_refused reason)) seat (ap (λ (l : List ℕ). s.out ++ l) (sym is))
writes_judged None request place chunk now s why is =
    let given = seat_for s.hub.registry request in
    let w = welcomed given place (writes (acceptance_bytes given.key.kind) (does (Admit request now) s)) in
    let seat : Some given ≡ seat_by (Admit request now) s.hub s.seat = ap (λ (o : Option Reason). seat_judged_by o given s.seat) (sym why) in
    writes_trans s w (attached given chunk now w)
    (writes_does s (Admit request now) (s.out ++ acceptance_bytes given.key.kind) (Some given) w.welcome s.end seat (ap (λ (l : List ℕ). s.out ++ l) (sym is)))
    (writes_attached given chunk now w)

pub writes_asked : (request : Request) (place : ℕ) (chunk : List ℕ) (now : ℕ) (s : Serving) → Writes s (asked request place chunk now s)
unfolding asked
writes_asked request place chunk now s =
    writes_judged (admission_refusal s.hub.registry request now) request place chunk now s refl (admit_writes request now s.hub)

pub grows_asked : (request : Request) (place : ℕ) (chunk : List ℕ) (now : ℕ) (s : Serving) → Grows s (asked request place chunk now s)
grows_asked request place chunk now s = grows_by s (asked request place chunk now s) (writes_asked request place chunk now s)
