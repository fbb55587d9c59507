-- A piece on a link of another key: the session of the key stays, and its row too, but that a request which is judged shortens it.
use Rattle.std.proofs.Common.{◌≡◌, ℕ, zero, suc, Bool, true, false, cond, ◌||◌, Option, Some, None, option_map, List, [], ◌∷◌, ◌++◌, refl, ap, sym, ◌∙◌, append-nil}
use Rattle.std.specs.List.{list_any}
use Rattle.std.proofs.lemmas.List.Folds.{list_any-append}
use Rattle.ra_base.specs.declared.handshake.Reason.{Reason}
use Rattle.ra_base.specs.declared.handshake.Request.{Request}
use Rattle.ra_base.specs.declared.key.Cause.{Cause}
use Rattle.ra_base.specs.declared.key.Cause.TheVariants.{BadIpc}
use Rattle.ra_base.specs.declared.key.Key.{Key}
use Rattle.ra_base.specs.declared.key.Seat.{Seat}
use Rattle.ra_opening.specs.Verdicts.{refusal_bytes, acceptance_bytes}
use Rattle.ra_registry.specs.declared.row.Row.{Row}
use Rattle.ra_registry.specs.Admission.{key_of, admission_refusal, seat_for}
use Rattle.ra_registry.specs.RowChanges.{shorten}
use Rattle.ra_registry.specs.Rows.{same_key}
use Rattle.ra_registry.proofs.RowLemmas.{shorten_again}
use Rattle.ra_session.specs.SessionRefusals.{Refusal, ended, stale, no_link, too_long, bad_ipc, too_large, ids_spent, no_such_call, wrong_kind, attach_refusal}
use Rattle.ra_session.specs.Sessions.{Session}
use Rattle.ra_session.specs.TurnRefusals.{turn_refusal}
use Rattle.ra_session.specs.Turns.{TurnAnswer, turn_answer}
use Rattle.ra_hub.specs.Hubs.{Hub, row}
use Rattle.ra_hub.specs.Jobs.{SeenJob}
use Rattle.ra_link_core.specs.HubEvents.{HubEvent, event_done, event_jobs}
use Rattle.ra_link_core.specs.HubEvents.HubEvent.{Admit, Attach, Turn, Close}
use Rattle.ra_link_core.specs.LinkRuns.{Serving, End, refused_by, Turned, writes, does, closes, ends_by, turn_refused, turn_ended, turn_made, turn_by, turn_in, turned, turned_again, turns_for, served, attached_by, attached_in, attached, welcomed, asked_by, asked}
use Rattle.ra_isolation_laws.specs.Isolation.{is_admit, jobs_for}
use Rattle.ra_isolation_laws.proofs.IsolatedHubs.{bare, Agree, Shortens, IsOf, other_admit, other_attach, other_turn, other_close}
use Rattle.ra_isolation_laws.proofs.IsolatedJobs.{jobs_both, other_jobs}

-- the row of a key, where a request of another was judged or not
abbrev pub row_by : Bool → ℕ → Option Row → Option Row
row_by b now o = cond b (option_map (shorten now) o) o

-- what a link of another key leaves of this key's session, row and jobs
pub record Beside (key other : Key) (now : ℕ) (h : Hub) (jobs : List SeenJob) (s : Serving) : Type 0 where
  pub session : s.hub.session key ≡ h.session key
  pub row_is : row s.hub key ≡ row_by (list_any is_admit s.events) now (row h key)
  pub times : bare s.hub.registry ≡ bare h.registry
  pub jobs_are : jobs_for key s.jobs ≡ jobs_for key jobs
  pub seat : IsOf other s.seat

-- ---- the steps of one link. All of them are at one moment, and of the other key

-- only the seat, the bytes and the end are others
beside_same : (key other : Key) (now : ℕ) (h : Hub) (jobs : List SeenJob) (s t : Serving) → t.hub ≡ s.hub → t.jobs ≡ s.jobs → t.events ≡ s.events → IsOf other t.seat
    → Beside key other now h jobs s → Beside key other now h jobs t
beside_same key other now h jobs s t hub same events seat beside = record {
  session = ap (λ (g : Hub). g.session key) hub ∙ beside.session;
  row_is = ap (λ (g : Hub). row g key) hub ∙ beside.row_is ∙ ap (λ (l : List HubEvent). row_by (list_any is_admit l) now (row h key)) (sym events);
  times = ap (λ (g : Hub). bare g.registry) hub ∙ beside.times;
  jobs_are = ap (λ (l : List SeenJob). jobs_for key l) same ∙ beside.jobs_are;
  seat = seat;
}

beside_end : (key other : Key) (now : ℕ) (h : Hub) (jobs : List SeenJob) (end : End) (s : Serving) → Beside key other now h jobs s → Beside key other now h jobs (ends_by end s)
beside_end key other now h jobs end s beside = beside_same key other now h jobs s (ends_by end s) refl refl refl beside.seat beside

beside_write : (key other : Key) (now : ℕ) (h : Hub) (jobs : List SeenJob) (bytes : List ℕ) (s : Serving) → Beside key other now h jobs s → Beside key other now h jobs (writes bytes s)
beside_write key other now h jobs bytes s beside = beside_same key other now h jobs s (writes bytes s) refl refl refl beside.seat beside

no_more : (b : Bool) → (b || false) ≡ b
no_more true = refl
no_more false = refl

-- an event that is no request
beside_do : (key other : Key) (now : ℕ) (h : Hub) (jobs : List SeenJob) (e : HubEvent) (s : Serving) → is_admit e ≡ false → Agree key (event_done e s.hub) s.hub
    → jobs_for key (event_jobs e s.hub) ≡ [] → Beside key other now h jobs s → Beside key other now h jobs (does e s)
beside_do key other now h jobs e s quiet agree none beside = record {
  session = agree.session ∙ beside.session;
  row_is =
      agree.row_is ∙ beside.row_is
      ∙ ap (λ (b : Bool). row_by b now (row h key))
      (sym (list_any-append is_admit s.events (e ∷ []) ∙ ap (λ (b : Bool). list_any is_admit s.events || (b || false)) quiet ∙ no_more (list_any is_admit s.events)));
  times = agree.times ∙ beside.times;
  jobs_are = jobs_both key s.jobs (event_jobs e s.hub) ∙ ap (λ (l : List SeenJob). jobs_for key s.jobs ++ l) none ∙ append-nil (jobs_for key s.jobs) ∙ beside.jobs_are;
  seat = beside.seat;
}

beside_turn : (key : Key) (seat : Seat) (piece : List ℕ) (now : ℕ) (h : Hub) (jobs : List SeenJob) (s : Serving) → same_key seat.key key ≡ false
    → Beside key seat.key now h jobs s → Beside key seat.key now h jobs (does (Turn seat piece now) s)
unfolding event_jobs
beside_turn key seat piece now h jobs s apart beside =
    beside_do key seat.key now h jobs (Turn seat piece now) s refl (other_turn key seat piece now s.hub apart) (other_jobs (s.hub.session seat.key) key seat piece now apart) beside

beside_close : (key : Key) (seat : Seat) (cause : Cause) (now : ℕ) (h : Hub) (jobs : List SeenJob) (s : Serving) → same_key seat.key key ≡ false
    → Beside key seat.key now h jobs s → Beside key seat.key now h jobs (closes seat cause now s)
unfolding event_jobs
beside_close key seat cause now h jobs s apart beside =
    beside_same key seat.key now h jobs (does (Close seat cause now) s) (closes seat cause now s) refl refl refl tt
    (beside_do key seat.key now h jobs (Close seat cause now) s refl (other_close key seat cause now s.hub apart) refl beside)

beside_attach : (key : Key) (seat : Seat) (chunk : List ℕ) (now : ℕ) (h : Hub) (jobs : List SeenJob) (s : Serving) → same_key seat.key key ≡ false
    → Beside key seat.key now h jobs s → Beside key seat.key now h jobs (does (Attach seat chunk now) s)
unfolding event_jobs
beside_attach key seat chunk now h jobs s apart beside =
    beside_do key seat.key now h jobs (Attach seat chunk now) s refl (other_attach key seat chunk now s.hub apart) refl beside

-- ---- turns

beside_refused : (r : Refusal) (key : Key) (seat : Seat) (piece : List ℕ) (now : ℕ) (h : Hub) (jobs : List SeenJob) (s : Serving) → same_key seat.key key ≡ false
    → Beside key seat.key now h jobs s → Beside key seat.key now h jobs (turn_refused r seat piece now s)
beside_refused (bad_ipc bad message) key seat piece now h jobs s apart beside =
    beside_end key seat.key now h jobs (refused_by (bad_ipc bad message)) (closes seat BadIpc now (does (Turn seat piece now) s))
    (beside_close key seat BadIpc now h jobs (does (Turn seat piece now) s) apart (beside_turn key seat piece now h jobs s apart beside))
beside_refused (ended cause) key seat piece now h jobs s apart beside = beside_end key seat.key now h jobs _ s beside
beside_refused (stale current) key seat piece now h jobs s apart beside = beside_end key seat.key now h jobs _ s beside
beside_refused no_link key seat piece now h jobs s apart beside = beside_end key seat.key now h jobs _ s beside
beside_refused (too_long n) key seat piece now h jobs s apart beside = beside_end key seat.key now h jobs _ s beside
beside_refused (too_large n) key seat piece now h jobs s apart beside = beside_end key seat.key now h jobs _ s beside
beside_refused ids_spent key seat piece now h jobs s apart beside = beside_end key seat.key now h jobs _ s beside
beside_refused (no_such_call id) key seat piece now h jobs s apart beside = beside_end key seat.key now h jobs _ s beside
beside_refused wrong_kind key seat piece now h jobs s apart beside = beside_end key seat.key now h jobs _ s beside

beside_ended : (o : Option Cause) (again : Bool) (key : Key) (seat : Seat) (now : ℕ) (h : Hub) (jobs : List SeenJob) (s : Serving) → same_key seat.key key ≡ false
    → Beside key seat.key now h jobs s → Beside key seat.key now h jobs (turn_ended o again seat now s).after
beside_ended None again key seat now h jobs s apart beside = beside
beside_ended (Some cause) again key seat now h jobs s apart beside =
    beside_end key seat.key now h jobs (refused_by (ended cause)) (closes seat cause now s) (beside_close key seat cause now h jobs s apart beside)

beside_made : (answer : TurnAnswer) (key : Key) (seat : Seat) (piece : List ℕ) (now : ℕ) (h : Hub) (jobs : List SeenJob) (s : Serving) → same_key seat.key key ≡ false
    → Beside key seat.key now h jobs s → Beside key seat.key now h jobs (turn_made answer seat piece now s).after
beside_made answer key seat piece now h jobs s apart beside =
    beside_ended answer.ended answer.again key seat now h jobs (writes answer.out (does (Turn seat piece now) s)) apart
    (beside_write key seat.key now h jobs answer.out (does (Turn seat piece now) s) (beside_turn key seat piece now h jobs s apart beside))

beside_by : (r : Option Refusal) (answer : TurnAnswer) (key : Key) (seat : Seat) (piece : List ℕ) (now : ℕ) (h : Hub) (jobs : List SeenJob) (s : Serving) → same_key seat.key key ≡ false
    → Beside key seat.key now h jobs s → Beside key seat.key now h jobs (turn_by r answer seat piece now s).after
beside_by (Some r) answer key seat piece now h jobs s apart beside = beside_refused r key seat piece now h jobs s apart beside
beside_by None answer key seat piece now h jobs s apart beside = beside_made answer key seat piece now h jobs s apart beside

beside_in : (o : Option Session) (key : Key) (seat : Seat) (piece : List ℕ) (now : ℕ) (h : Hub) (jobs : List SeenJob) (s : Serving) → same_key seat.key key ≡ false
    → Beside key seat.key now h jobs s → Beside key seat.key now h jobs (turn_in o seat piece now s).after
beside_in None key seat piece now h jobs s apart beside = beside
beside_in (Some session) key seat piece now h jobs s apart beside =
    beside_by (turn_refusal seat.epoch piece now session) (turn_answer seat.epoch piece now session) key seat piece now h jobs s apart beside

beside_turned : (key : Key) (seat : Seat) (piece : List ℕ) (now : ℕ) (h : Hub) (jobs : List SeenJob) (s : Serving) → same_key seat.key key ≡ false
    → Beside key seat.key now h jobs s → Beside key seat.key now h jobs (turned seat piece now s).after
unfolding turned
beside_turned key seat piece now h jobs s apart beside = beside_in (s.hub.session seat.key) key seat piece now h jobs s apart beside

beside_if : (key other : Key) (now : ℕ) (h : Hub) (jobs : List SeenJob) (b : Bool) (s t : Serving) → Beside key other now h jobs s → Beside key other now h jobs t
    → Beside key other now h jobs (cond b s t)
beside_if key other now h jobs true s t so not = so
beside_if key other now h jobs false s t so not = not

beside_again : (n : ℕ) (key : Key) (seat : Seat) (now : ℕ) (h : Hub) (jobs : List SeenJob) (t : Turned) → same_key seat.key key ≡ false
    → Beside key seat.key now h jobs t.after → Beside key seat.key now h jobs (turned_again n seat now t)
unfolding turned_again
beside_again zero key seat now h jobs t apart beside = beside
beside_again (suc n) key seat now h jobs t apart beside =
    beside_if key seat.key now h jobs t.again (turned_again n seat now (turned seat [] now t.after)) t.after
    (beside_again n key seat now h jobs (turned seat [] now t.after) apart (beside_turned key seat [] now h jobs t.after apart beside)) beside

pub beside_served : (n : ℕ) (key : Key) (seat : Seat) (piece : List ℕ) (now : ℕ) (h : Hub) (jobs : List SeenJob) (s : Serving) → same_key seat.key key ≡ false
    → Beside key seat.key now h jobs s → Beside key seat.key now h jobs (served n seat piece now s)
unfolding served
beside_served n key seat piece now h jobs s apart beside =
    beside_again n key seat now h jobs (turned seat piece now s) apart (beside_turned key seat piece now h jobs s apart beside)

-- ---- requests

beside_attached_by : (r : Option Refusal) (key : Key) (seat : Seat) (chunk : List ℕ) (now : ℕ) (h : Hub) (jobs : List SeenJob) (s : Serving) → same_key seat.key key ≡ false
    → Beside key seat.key now h jobs s → Beside key seat.key now h jobs (attached_by r seat chunk now s)
beside_attached_by (Some r) key seat chunk now h jobs s apart beside = beside_end key seat.key now h jobs (refused_by r) s beside
beside_attached_by None key seat chunk now h jobs s apart beside =
    beside_served (turns_for chunk) key seat [] now h jobs (does (Attach seat chunk now) s) apart (beside_attach key seat chunk now h jobs s apart beside)

beside_attached_in : (o : Option Session) (key : Key) (seat : Seat) (chunk : List ℕ) (now : ℕ) (h : Hub) (jobs : List SeenJob) (s : Serving) → same_key seat.key key ≡ false
    → Beside key seat.key now h jobs s → Beside key seat.key now h jobs (attached_in o seat chunk now s)
beside_attached_in None key seat chunk now h jobs s apart beside = beside
beside_attached_in (Some session) key seat chunk now h jobs s apart beside =
    beside_attached_by (attach_refusal seat.epoch session) key seat chunk now h jobs s apart beside

beside_asked_by : (o : Option Reason) (key : Key) (seat : Seat) (place : ℕ) (chunk : List ℕ) (now : ℕ) (h : Hub) (jobs : List SeenJob) (s : Serving) → same_key seat.key key ≡ false
    → Beside key seat.key now h jobs s → Beside key seat.key now h jobs (asked_by o seat place chunk now s)
unfolding attached
beside_asked_by (Some reason) key seat place chunk now h jobs s apart beside =
    beside_end key seat.key now h jobs _ (writes (refusal_bytes reason) s) (beside_write key seat.key now h jobs (refusal_bytes reason) s beside)
beside_asked_by None key seat place chunk now h jobs s apart beside =
    let u = welcomed seat place (writes (acceptance_bytes seat.key.kind) s) in
    beside_attached_in (u.hub.session seat.key) key seat chunk now h jobs u apart (beside_same key seat.key now h jobs s u refl refl refl refl beside)

-- a row that was shortened is shortened no more
again : (b c : Bool) (now : ℕ) (o : Option Row) → option_map (shorten now) (row_by b now o) ≡ row_by (b || (true || c)) now o
again true c now None = refl
again true c now (Some r) = ap (λ (x : Row). Some x) (shorten_again now now r)
again false c now o = refl

beside_admit : (key : Key) (request : Request) (now : ℕ) (h : Hub) (jobs : List SeenJob) (s : Serving) → same_key (key_of request) key ≡ false
    → Beside key (key_of request) now h jobs s → Beside key (key_of request) now h jobs (does (Admit request now) s)
unfolding event_jobs
beside_admit key request now h jobs s apart beside =
    let short : Shortens key now s.hub (event_done (Admit request now) s.hub) = other_admit key request now s.hub apart in record {
      session = short.session ∙ beside.session;
      row_is =
          short.row_is ∙ ap (λ (o : Option Row). option_map (shorten now) o) beside.row_is
          ∙ again (list_any is_admit s.events) false now (row h key)
          ∙ ap (λ (b : Bool). row_by b now (row h key)) (sym (list_any-append is_admit s.events (Admit request now ∷ [])));
      times = short.times ∙ beside.times;
      jobs_are = ap (λ (l : List SeenJob). jobs_for key l) (append-nil s.jobs) ∙ beside.jobs_are;
      seat = beside.seat;
    }

pub beside_asked : (key : Key) (request : Request) (place : ℕ) (chunk : List ℕ) (now : ℕ) (h : Hub) (jobs : List SeenJob) (s : Serving) → same_key (key_of request) key ≡ false
    → Beside key (key_of request) now h jobs s → Beside key (key_of request) now h jobs (asked request place chunk now s)
unfolding asked
beside_asked key request place chunk now h jobs s apart beside =
    beside_asked_by (admission_refusal s.hub.registry request now) key (seat_for s.hub.registry request) place chunk now h jobs (does (Admit request now) s) apart
    (beside_admit key request now h jobs s apart beside)
