-- A piece on a link of one key, in two worlds that agree on that key: what it makes of the link is the same, and the hubs still agree.
use Rattle.std.proofs.Common.{◌≡◌, ℕ, zero, suc, Bool, true, false, cond, Option, Some, None, is_some, List, [], ◌∷◌, ◌++◌, length, refl, ap, ◌∙◌, subst}
use Rattle.ra_base.specs.declared.handshake.Reason.{Reason}
use Rattle.ra_base.specs.declared.handshake.Request.{Request}
use Rattle.ra_base.specs.declared.key.Cause.{Cause}
use Rattle.ra_base.specs.declared.key.Cause.TheVariants.{BadIpc}
use Rattle.ra_base.specs.declared.key.Key.{Key}
use Rattle.ra_base.specs.declared.key.Seat.{Seat}
use Rattle.ra_opening.specs.Verdicts.{refusal_bytes, acceptance_bytes}
use Rattle.ra_registry.specs.Admission.{key_of, admission_refusal, seat_for}
use Rattle.ra_session.specs.SessionRefusals.{Refusal, ended, stale, no_link, too_long, bad_ipc, too_large, ids_spent, no_such_call, wrong_kind, attach_refusal}
use Rattle.ra_session.specs.Sessions.{Session}
use Rattle.ra_session.specs.TurnRefusals.{turn_refusal}
use Rattle.ra_session.specs.Turns.{TurnAnswer, turn_answer}
use Rattle.ra_hub.specs.Hubs.{row}
use Rattle.ra_hub.specs.Jobs.{SeenJob}
use Rattle.ra_link_core.specs.HubEvents.{HubEvent, event_done, event_jobs, session_jobs}
use Rattle.ra_link_core.specs.HubEvents.HubEvent.{Admit, Attach, Turn, Close}
use Rattle.ra_link_core.specs.LinkRuns.{Serving, Welcome, End, request_refused, refused_by, Turned, writes, does, closes, ends_by, turn_refused, turn_ended, turn_made, turn_by, turn_in, turned, turned_again, turns_for, served, attached_by, attached_in, attached, pause_bytes, welcomed, asked_by, asked}
use Rattle.ra_isolation_laws.specs.Isolation.{jobs_for}
use Rattle.ra_isolation_laws.proofs.IsolatedHubs.{Agree, IsOf, agree_admit, agree_attach, agree_turn, agree_close, same_answer, same_seat}
use Rattle.ra_isolation_laws.proofs.IsolatedJobs.{jobs_both, own_jobs}

-- the second link is as the first, with a hub that agrees on the key, and with the jobs of that key
pub record ServeAlike (key : Key) (s t : Serving) : Type 0 where
  pub seat : s.seat ≡ t.seat
  pub welcome : s.welcome ≡ t.welcome
  pub out : s.out ≡ t.out
  pub drawn : s.drawn ≡ t.drawn
  pub events : s.events ≡ t.events
  pub end : s.end ≡ t.end
  pub hub : Agree key s.hub t.hub
  pub jobs : jobs_for key s.jobs ≡ t.jobs
  pub own : IsOf key s.seat

-- ---- parts of a step

serve_write : (key : Key) (bytes : List ℕ) (s t : Serving) → ServeAlike key s t → ServeAlike key (writes bytes s) (writes bytes t)
serve_write key bytes s t both = record {
  seat = both.seat;
  welcome = both.welcome;
  out = ap (λ (l : List ℕ). l ++ bytes) both.out;
  drawn = both.drawn;
  events = both.events;
  end = both.end;
  hub = both.hub;
  jobs = both.jobs;
  own = both.own;
}

pub serve_at_end : (key : Key) (o : Option End) (s t : Serving) → ServeAlike key s t → ServeAlike key (record s { end = o }) (record t { end = o })
serve_at_end key o s t both = record {
  seat = both.seat;
  welcome = both.welcome;
  out = both.out;
  drawn = both.drawn;
  events = both.events;
  end = refl;
  hub = both.hub;
  jobs = both.jobs;
  own = both.own;
}

serve_end : (key : Key) (end : End) (s t : Serving) → ServeAlike key s t → ServeAlike key (ends_by end s) (ends_by end t)
serve_end key end s t both = serve_at_end key (Some end) s t both

-- an event that leaves the hubs agreed and gives jobs of the key
serve_do : (key : Key) (e : HubEvent) (s t : Serving) → Agree key (event_done e s.hub) (event_done e t.hub) → jobs_for key (event_jobs e s.hub) ≡ event_jobs e t.hub
    → ServeAlike key s t → ServeAlike key (does e s) (does e t)
serve_do key e s t agree gives both = record {
  seat = both.seat;
  welcome = both.welcome;
  out = both.out;
  drawn = both.drawn;
  events = ap (λ (l : List HubEvent). l ++ e ∷ []) both.events;
  end = both.end;
  hub = agree;
  jobs = jobs_both key s.jobs (event_jobs e s.hub) ∙ ap (λ (l : List SeenJob). l ++ jobs_for key (event_jobs e s.hub)) both.jobs ∙ ap (λ (l : List SeenJob). t.jobs ++ l) gives;
  own = both.own;
}

serve_turn : (seat : Seat) (piece : List ℕ) (now : ℕ) (s t : Serving) → ServeAlike seat.key s t → ServeAlike seat.key (does (Turn seat piece now) s) (does (Turn seat piece now) t)
unfolding event_jobs
serve_turn seat piece now s t both =
    serve_do seat.key (Turn seat piece now) s t (agree_turn seat piece now s.hub t.hub both.hub)
    (own_jobs (s.hub.session seat.key) seat piece now ∙ ap (λ (o : Option Session). session_jobs o seat piece now) both.hub.session) both

serve_attach : (seat : Seat) (chunk : List ℕ) (now : ℕ) (s t : Serving) → ServeAlike seat.key s t → ServeAlike seat.key (does (Attach seat chunk now) s) (does (Attach seat chunk now) t)
unfolding event_jobs
serve_attach seat chunk now s t both =
    serve_do seat.key (Attach seat chunk now) s t (agree_attach seat chunk now s.hub t.hub both.hub) refl both

serve_close : (seat : Seat) (cause : Cause) (now : ℕ) (s t : Serving) → ServeAlike seat.key s t → ServeAlike seat.key (closes seat cause now s) (closes seat cause now t)
unfolding event_jobs
serve_close seat cause now s t both =
    let did = serve_do seat.key (Close seat cause now) s t (agree_close seat cause now s.hub t.hub both.hub) refl both in record {
      seat = refl;
      welcome = did.welcome;
      out = did.out;
      drawn = did.drawn;
      events = did.events;
      end = did.end;
      hub = did.hub;
      jobs = did.jobs;
      own = tt;
    }

-- ---- turns

-- the same of links after a turn
record TurnAlike (key : Key) (s t : Turned) : Type 0 where
  pub again : s.again ≡ t.again
  pub after : ServeAlike key s.after t.after

spoiled : (seat : Seat) (piece : List ℕ) (now : ℕ) (end : End) (s t : Serving) → ServeAlike seat.key s t
    → ServeAlike seat.key (ends_by end (closes seat BadIpc now (does (Turn seat piece now) s))) (ends_by end (closes seat BadIpc now (does (Turn seat piece now) t)))
spoiled seat piece now end s t both =
    serve_end seat.key end (closes seat BadIpc now (does (Turn seat piece now) s)) (closes seat BadIpc now (does (Turn seat piece now) t))
    (serve_close seat BadIpc now (does (Turn seat piece now) s) (does (Turn seat piece now) t) (serve_turn seat piece now s t both))

serve_refused : (r : Refusal) (seat : Seat) (piece : List ℕ) (now : ℕ) (s t : Serving) → ServeAlike seat.key s t → ServeAlike seat.key (turn_refused r seat piece now s) (turn_refused r seat piece now t)
serve_refused (bad_ipc bad message) seat piece now s t both = spoiled seat piece now _ s t both
serve_refused (ended cause) seat piece now s t both = serve_end seat.key _ s t both
serve_refused (stale current) seat piece now s t both = serve_end seat.key _ s t both
serve_refused no_link seat piece now s t both = serve_end seat.key _ s t both
serve_refused (too_long n) seat piece now s t both = serve_end seat.key _ s t both
serve_refused (too_large n) seat piece now s t both = serve_end seat.key _ s t both
serve_refused ids_spent seat piece now s t both = serve_end seat.key _ s t both
serve_refused (no_such_call id) seat piece now s t both = serve_end seat.key _ s t both
serve_refused wrong_kind seat piece now s t both = serve_end seat.key _ s t both

serve_ended : (o : Option Cause) (again : Bool) (seat : Seat) (now : ℕ) (s t : Serving) → ServeAlike seat.key s t → TurnAlike seat.key (turn_ended o again seat now s) (turn_ended o again seat now t)
serve_ended None again seat now s t both = record { again = refl; after = both }
serve_ended (Some cause) again seat now s t both =
    record { again = refl; after = serve_end seat.key (refused_by (ended cause)) (closes seat cause now s) (closes seat cause now t) (serve_close seat cause now s t both) }

serve_made : (answer : TurnAnswer) (seat : Seat) (piece : List ℕ) (now : ℕ) (s t : Serving) → ServeAlike seat.key s t
    → TurnAlike seat.key (turn_made answer seat piece now s) (turn_made answer seat piece now t)
serve_made answer seat piece now s t both =
    serve_ended answer.ended answer.again seat now (writes answer.out (does (Turn seat piece now) s)) (writes answer.out (does (Turn seat piece now) t))
    (serve_write seat.key answer.out (does (Turn seat piece now) s) (does (Turn seat piece now) t) (serve_turn seat piece now s t both))

serve_by : (r : Option Refusal) (answer : TurnAnswer) (seat : Seat) (piece : List ℕ) (now : ℕ) (s t : Serving) → ServeAlike seat.key s t
    → TurnAlike seat.key (turn_by r answer seat piece now s) (turn_by r answer seat piece now t)
serve_by (Some r) answer seat piece now s t both = record { again = refl; after = serve_refused r seat piece now s t both }
serve_by None answer seat piece now s t both = serve_made answer seat piece now s t both

serve_in : (o : Option Session) (seat : Seat) (piece : List ℕ) (now : ℕ) (s t : Serving) → ServeAlike seat.key s t
    → TurnAlike seat.key (turn_in o seat piece now s) (turn_in o seat piece now t)
serve_in None seat piece now s t both = record { again = refl; after = both }
serve_in (Some session) seat piece now s t both =
    serve_by (turn_refusal seat.epoch piece now session) (turn_answer seat.epoch piece now session) seat piece now s t both

serve_turned : (seat : Seat) (piece : List ℕ) (now : ℕ) (s t : Serving) → ServeAlike seat.key s t → TurnAlike seat.key (turned seat piece now s) (turned seat piece now t)
unfolding turned
serve_turned seat piece now s t both =
    subst (λ (o : Option Session). TurnAlike seat.key (turn_in (s.hub.session seat.key) seat piece now s) (turn_in o seat piece now t)) both.hub.session
    (serve_in (s.hub.session seat.key) seat piece now s t both)

serve_if : (key : Key) (b c : Bool) (s t u v : Serving) → b ≡ c → ServeAlike key s u → ServeAlike key t v → ServeAlike key (cond b s t) (cond c u v)
serve_if key true true s t u v same so other = so
serve_if key true false s t u v same so other = absurd cc
serve_if key false true s t u v same so other = absurd cc
serve_if key false false s t u v same so other = other

serve_again : (n : ℕ) (seat : Seat) (now : ℕ) (s t : Turned) → TurnAlike seat.key s t → ServeAlike seat.key (turned_again n seat now s) (turned_again n seat now t)
unfolding turned_again
serve_again zero seat now s t both = both.after
serve_again (suc n) seat now s t both =
    serve_if seat.key s.again t.again (turned_again n seat now (turned seat [] now s.after)) s.after (turned_again n seat now (turned seat [] now t.after)) t.after both.again
    (serve_again n seat now (turned seat [] now s.after) (turned seat [] now t.after) (serve_turned seat [] now s.after t.after both.after)) both.after

pub serve_served : (n : ℕ) (seat : Seat) (piece : List ℕ) (now : ℕ) (s t : Serving) → ServeAlike seat.key s t → ServeAlike seat.key (served n seat piece now s) (served n seat piece now t)
unfolding served
serve_served n seat piece now s t both =
    serve_again n seat now (turned seat piece now s) (turned seat piece now t) (serve_turned seat piece now s t both)

-- ---- requests

serve_attached_by : (r : Option Refusal) (seat : Seat) (chunk : List ℕ) (now : ℕ) (s t : Serving) → ServeAlike seat.key s t
    → ServeAlike seat.key (attached_by r seat chunk now s) (attached_by r seat chunk now t)
serve_attached_by (Some r) seat chunk now s t both = serve_end seat.key (refused_by r) s t both
serve_attached_by None seat chunk now s t both =
    serve_served (turns_for chunk) seat [] now (does (Attach seat chunk now) s) (does (Attach seat chunk now) t) (serve_attach seat chunk now s t both)

serve_attached_in : (o : Option Session) (seat : Seat) (chunk : List ℕ) (now : ℕ) (s t : Serving) → ServeAlike seat.key s t
    → ServeAlike seat.key (attached_in o seat chunk now s) (attached_in o seat chunk now t)
serve_attached_in None seat chunk now s t both = both
serve_attached_in (Some session) seat chunk now s t both = serve_attached_by (attach_refusal seat.epoch session) seat chunk now s t both

serve_attached : (seat : Seat) (chunk : List ℕ) (now : ℕ) (s t : Serving) → ServeAlike seat.key s t → ServeAlike seat.key (attached seat chunk now s) (attached seat chunk now t)
unfolding attached
serve_attached seat chunk now s t both =
    subst (λ (o : Option Session). ServeAlike seat.key (attached_in (s.hub.session seat.key) seat chunk now s) (attached_in o seat chunk now t)) both.hub.session
    (serve_attached_in (s.hub.session seat.key) seat chunk now s t both)

serve_welcomed : (seat : Seat) (place : ℕ) (s t : Serving) → ServeAlike seat.key s t → ServeAlike seat.key (welcomed seat place s) (welcomed seat place t)
serve_welcomed seat place s t both = record {
  seat = refl;
  welcome = ap (λ (l : List ℕ). Some (welcome_at l)) both.out;
  out = both.out;
  drawn = both.drawn;
  events = both.events;
  end = both.end;
  hub = both.hub;
  jobs = both.jobs;
  own = refl;
}
  where
    welcome_at : List ℕ → Welcome
    welcome_at l = record { epoch = seat.epoch; up = place; down = length l; pause = pause_bytes seat.key.kind }

serve_asked_by : (o : Option Reason) (seat : Seat) (place : ℕ) (chunk : List ℕ) (now : ℕ) (s t : Serving) → ServeAlike seat.key s t
    → ServeAlike seat.key (asked_by o seat place chunk now s) (asked_by o seat place chunk now t)
serve_asked_by (Some reason) seat place chunk now s t both =
    serve_end seat.key (request_refused reason) (writes (refusal_bytes reason) s) (writes (refusal_bytes reason) t) (serve_write seat.key (refusal_bytes reason) s t both)
serve_asked_by None seat place chunk now s t both =
    let u = writes (acceptance_bytes seat.key.kind) s in
    let v = writes (acceptance_bytes seat.key.kind) t in
    serve_attached seat chunk now (welcomed seat place u) (welcomed seat place v)
    (serve_welcomed seat place u v (serve_write seat.key (acceptance_bytes seat.key.kind) s t both))

-- A request of the key. A reconnection is only asked for where the row is there.
pub serve_asked : (request : Request) (place : ℕ) (chunk : List ℕ) (now : ℕ) (s t : Serving)
    → (request.reconnection ≡ true → is_some (row s.hub (key_of request)) ≡ true) → ServeAlike (key_of request) s t
    → ServeAlike (key_of request) (asked request place chunk now s) (asked request place chunk now t)
unfolding asked event_jobs
serve_asked request place chunk now s t there both =
    let key : Key = key_of request in
    let seat : Seat = seat_for s.hub.registry request in
    let u = does (Admit request now) s in
    let v = does (Admit request now) t in
    let did : ServeAlike key u v = serve_do key (Admit request now) s t (agree_admit request now s.hub t.hub both.hub there) refl both in
    subst (λ (o : Option Reason). ServeAlike key (asked_by (admission_refusal s.hub.registry request now) seat place chunk now u) (asked_by o (seat_for t.hub.registry request) place chunk now v))
    (same_answer request now s.hub t.hub both.hub there)
    (subst (λ (x : Seat). ServeAlike key (asked_by (admission_refusal s.hub.registry request now) seat place chunk now u) (asked_by (admission_refusal s.hub.registry request now) x place chunk now v))
    (same_seat request s.hub t.hub both.hub)
    (serve_asked_by (admission_refusal s.hub.registry request now) seat place chunk now u v did))
