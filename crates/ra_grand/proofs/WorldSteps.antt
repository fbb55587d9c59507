-- What events of a world in memory stand for.
use Rattle.std.proofs.Common.{◌≡◌, ℕ, suc, ◌<◌, Option, Some, None, Ok, Err, List, length, map, refl, ap, sym, ◌∙◌, subst, arith, inl, inr, zero, ◌≤◌, [], ◌∷◌}
use Rattle.std.specs.Prelude.{ℤ, slice_set, slice_get}
use Rattle.ra_model.specs.Links.{at_number}
use Rattle.ra_ipc.specs.View.{id_of}
use Rattle.ra_session.specs.declared.values.SessionFault.{SessionFault}
use Rattle.ra_session.specs.declared.values.SessionFault.TheVariants as faults
use Rattle.ra_session.specs.SessionRefusals.{Refusal as SessionRefusal, ended, stale, no_link, too_long, bad_ipc, too_large, ids_spent, no_such_call, wrong_kind, bad_message, IsRefusal}
use Rattle.ra_session.specs.Sessions.{Session}
use Rattle.ra_grand_runs.specs.declared.fault.GrandFault.{GrandFault}
use Rattle.ra_grand_runs.specs.declared.fault.GrandFault.TheVariants as grand_faults
use Rattle.ra_grand_runs.specs.GrandViews.{IsCause}
use Rattle.ra_dial.specs.declared.values.DialAct.{DialAct}
use Rattle.ra_dial.specs.declared.values.DialEvent.{DialEvent}
use Rattle.ra_dial.specs.Acts.{act_of}
use Rattle.ra_grand.specs.declared.world.GrandWorld.{GrandWorld}
use Rattle.ra_grand_clients.specs.ClientStates.{ClientState}
use Rattle.ra_grand_runs.specs.GrandClients.{ServerEnd, Client, ends_of, dials, dialled, asked}
use Rattle.ra_grand_runs.specs.GrandEffects.{acts, issued, next_id, act_at, act_of as effect_at}
use Rattle.ra_grand_runs.specs.GrandRefusals.{Refusal, no_such_client, of_client, unrefused, by_session, if_session}
use Rattle.ra_grand_runs.specs.GrandRuns.{on_dialer, on_session}
use Rattle.ra_grand_runs.specs.Grands.{Grand, changed}
use Rattle.ra_grand.specs.GrandStates.{StandsForGrand, IsIndex}
use Rattle.ra_grand_clients.specs.Crowds.{ClientsStand, ClientsStay, DialsAt, AsksAt, IsNextIdAt}
use Rattle.ra_grand_runs.specs.Reached.{BringsNothing, ClientsHold}
use Rattle.ra_grand_server.specs.ServerStates.{EndsStand}
use Rattle.ra_grand_clients.proofs.AnswerReading.{ReadsWhole, ReadsFront, reads_answer}
use Rattle.ra_grand_runs.proofs.ClientHolding.{dialled_holds, asked_holds}
use Rattle.ra_grand_runs.proofs.CrowdHolding.{holds_one, holds_set}
use Rattle.ra_grand_clients.proofs.CrowdLemmas.{count, there}
use Rattle.ra_grand_runs.proofs.EndLemmas.{ends_dialled, ends_asked, ends_set}

-- none has a number that is too large
missing : (cs : List Client) (number many : ℕ) → many ≡ length cs → IsIndex number many None → at_number cs number ≡ None
missing cs zero many is none = refl
missing cs (suc n) many is (inl e) = absurd (omega (arith, e))
missing cs (suc n) many is (inr large) = past cs n (omega (arith, is, large))
  where
    past : (cs : List Client) (n : ℕ) → length cs ≤ n → slice_get cs n ≡ None
    past [] n less = refl
    past (c ∷ cs) zero less = absurd (omega (arith, less))
    past (c ∷ cs) (suc n) less = past cs n (omega (arith, less))

-- the world with these clients
abbrev pub with_clients : GrandWorld → List ClientState → GrandWorld
with_clients s hs = record s { clients = hs }

pub stands_with : (s : GrandWorld) (hs : List ClientState) (w : Grand) (cs : List Client) → StandsForGrand s w → ClientsStand hs cs → ClientsHold cs
    → map ends_of cs ≡ map ends_of w.clients → StandsForGrand (with_clients s hs) (record w { clients = cs })
stands_with s hs w cs stands all hold ends = record {
  now = stands.now;
  server = record {
    hub = stands.server.hub;
    draws = stands.server.draws;
    jobs = stands.server.jobs;
    places = stands.server.places;
    apart = stands.server.apart;
    ends = subst (λ (es : List (List ServerEnd)). EndsStand s.server.links es) (sym ends) stands.server.ends;
  };
  clients = all;
  holds = hold;
}

-- an event of a client's dialer
abbrev DialsOne : GrandWorld → List ClientState → DialEvent → DialAct → Grand → ℕ → Type 0
DialsOne s new event act w client =
    (of_client client unrefused (at_number w.clients client) ≡ None) × (acts (act_of act) ≡ effect_at event client w)
    × StandsForGrand (with_clients s new) (on_dialer client event w)

at_place : ReadsWhole → ReadsFront → (s : GrandWorld) (new : List ClientState) (n : ℕ) (event : DialEvent) (act : DialAct) (w : Grand) (c : Client)
    → BringsNothing event → slice_get w.clients n ≡ Some c → StandsForGrand s w → DialsAt n event s.moment (act_of act) s.clients new → DialsOne s new event act w (suc n)
at_place whole front s new n event act w c nothing is stands dials_at =
    let h = holds_one w.clients n c stands.holds is in
    let made = dials_at w.clients c stands.clients is (reads_answer whole front c h) in (
      ap (λ (x : Option Client). of_client (suc n) unrefused x) is,
      ap (λ x. acts x) (sym made.0 ∙ ap (λ (m : ℕ). (dials event m c).0) (sym stands.now)) ∙ ap (λ (x : Option Client). acts (act_at event w.now x)) (sym is),
      subst (λ (cs : List Client). StandsForGrand (with_clients s new) (record w { clients = cs }))
          (ap (λ (m : ℕ). slice_set w.clients n (dialled event m c)) (sym stands.now) ∙ ap (λ (x : Option Client). changed (suc n) (dialled event w.now) x w.clients) (sym is))
          (stands_with s new w (slice_set w.clients n (dialled event s.moment c)) stands made.1 (holds_set w.clients n (dialled event s.moment c) stands.holds (dialled_holds event s.moment c nothing h))
          (ends_set w.clients n c (dialled event s.moment c) is (ends_dialled event s.moment c))),
    )

pub dials_one : ReadsWhole → ReadsFront → (s : GrandWorld) (new : List ClientState) (client n : ℕ) (event : DialEvent) (act : DialAct) → BringsNothing event → client ≡ suc n
    → n < length s.clients → DialsAt n event s.moment (act_of act) s.clients new → (w : Grand) → StandsForGrand s w → DialsOne s new event act w client
dials_one whole front s new client n event act nothing is less dials_at w stands =
    let found = there w.clients n (omega (arith, less, count s.clients w.clients stands.clients)) in
    subst (λ (m : ℕ). DialsOne s new event act w m) (sym is) (at_place whole front s new n event act w found.0 nothing found.1 stands dials_at)

pub stays_one : (s : GrandWorld) (new : List ClientState) → ClientsStay s.clients new → (w : Grand) → StandsForGrand s w → StandsForGrand (with_clients s new) w
stays_one s new stay w stands = stands_with s new w w.clients stands (stay w.clients stands.clients) stands.holds refl

pub no_client : (s : GrandWorld) (client : ℕ) → IsIndex client (length s.clients) None → (w : Grand) → StandsForGrand s w
    → of_client client unrefused (at_number w.clients client) ≡ Some (no_such_client client)
no_client s client none w stands =
    ap (λ (x : Option Client). of_client client unrefused x) (missing w.clients client (length s.clients) (count s.clients w.clients stands.clients) none)

-- ---- calls

pub session_cause : (fault : SessionFault) (cause : Option SessionRefusal) → (fault ≡ faults.NoMemory → ⊥) → IsRefusal fault cause → IsCause (grand_faults.Session fault) (by_session cause)
session_cause (faults.Ended by) cause some is = (ended by, refl, ap by_session is)
session_cause (faults.Stale current) cause some is = (stale current, refl, ap by_session is)
session_cause faults.NoLink cause some is = (no_link, refl, ap by_session is)
session_cause (faults.TooLong stated) cause some is = (too_long stated, refl, ap by_session is)
session_cause (faults.BadIpc bad message) cause some is = (bad_ipc (bad_message bad) message, refl, ap by_session is)
session_cause (faults.TooLarge len) cause some is = (too_large len, refl, ap by_session is)
session_cause faults.IdsSpent cause some is = (ids_spent, refl, ap by_session is)
session_cause (faults.NoSuchCall id) cause some is = (no_such_call (id_of id), refl, ap by_session is)
session_cause faults.WrongKind cause some is = (wrong_kind, refl, ap by_session is)
session_cause faults.NoMemory cause some is = absurd (some refl)

pub no_client_for : (further : Client → Option Refusal) (s : GrandWorld) (client : ℕ) → IsIndex client (length s.clients) None → (w : Grand) → StandsForGrand s w
    → of_client client further (at_number w.clients client) ≡ Some (no_such_client client)
no_client_for further s client none w stands =
    ap (λ (x : Option Client). of_client client further x) (missing w.clients client (length s.clients) (count s.clients w.clients stands.clients) none)

asked_at : {X : Type 0} → (s : GrandWorld) (new : List ClientState) (n : ℕ) (x : X) (call : ℕ → Session → Session) (refused : Session → Option SessionRefusal) (w : Grand) (c : Client)
    → slice_get w.clients n ≡ Some c → StandsForGrand s w → AsksAt {X = X} n (Ok x) s.clients new (call s.moment) refused
    → (of_client (suc n) (if_session refused) (at_number w.clients (suc n)) ≡ None) × StandsForGrand (with_clients s new) (on_session (suc n) call w)
asked_at {X} s new n x call refused w c is stands asks =
    let made = asks w.clients c stands.clients is in (
      ap (λ (y : Option Client). of_client (suc n) (if_session refused) y) is ∙ ap by_session made.0,
      subst (λ (cs : List Client). StandsForGrand (with_clients s new) (record w { clients = cs }))
          (ap (λ (m : ℕ). slice_set w.clients n (asked (call m) c)) (sym stands.now) ∙ ap (λ (y : Option Client). changed (suc n) (asked (call w.now)) y w.clients) (sym is))
          (stands_with s new w (slice_set w.clients n (asked (call s.moment) c)) stands made.1 (holds_set w.clients n (asked (call s.moment) c) stands.holds (asked_holds (call s.moment) c (holds_one w.clients n c stands.holds is)))
          (ends_set w.clients n c (asked (call s.moment) c) is (ends_asked (call s.moment) c))),
    )

pub asked_one : {X : Type 0} → (s : GrandWorld) (new : List ClientState) (client n : ℕ) (x : X) (call : ℕ → Session → Session) (refused : Session → Option SessionRefusal)
    → client ≡ suc n → n < length s.clients → AsksAt {X = X} n (Ok x) s.clients new (call s.moment) refused → (w : Grand) → StandsForGrand s w
    → (of_client client (if_session refused) (at_number w.clients client) ≡ None) × StandsForGrand (with_clients s new) (on_session client call w)
asked_one {X} s new client n x call refused is less asks w stands =
    let found = there w.clients n (omega (arith, less, count s.clients w.clients stands.clients)) in
    subst (λ (m : ℕ). (of_client m (if_session refused) (at_number w.clients m) ≡ None) × StandsForGrand (with_clients s new) (on_session m call w)) (sym is)
    (asked_at s new n x call refused w found.0 found.1 stands asks)

pub not_asked_one : (X : Type 0) (s : GrandWorld) (new : List ClientState) (client n : ℕ) (fault : SessionFault) (refused : Session → Option SessionRefusal) (call : Session → Session) (result : GrandFault)
    → client ≡ suc n → n < length s.clients → AsksAt {X = X} n (Err fault) s.clients new call refused
    → ((cause : Option SessionRefusal) → IsRefusal fault cause → IsCause result (by_session cause)) → (w : Grand) → StandsForGrand s w
    → IsCause result (of_client client (if_session refused) (at_number w.clients client)) × StandsForGrand (with_clients s new) w
not_asked_one X s new client n fault refused call result is less asks because w stands =
    let found = there w.clients n (omega (arith, less, count s.clients w.clients stands.clients)) in
    let made = asks w.clients found.0 stands.clients found.1 in (
      subst (λ (m : ℕ). IsCause result (of_client m (if_session refused) (at_number w.clients m))) (sym is)
          (subst (λ (y : Option Client). IsCause result (of_client (suc n) (if_session refused) y)) (sym found.1) (because (refused found.0.dialer.session) made.0)),
      stands_with s new w w.clients stands made.1 stands.holds refl,
    )

-- the id of a request
pub issued_one : (s : GrandWorld) (client n : ℕ) (id : ℤ) → client ≡ suc n → n < length s.clients → IsNextIdAt n s.clients id → (w : Grand) → StandsForGrand s w
    → issued (id_of id) ≡ next_id (at_number w.clients client)
issued_one s client n id is less next w stands =
    let found = there w.clients n (omega (arith, less, count s.clients w.clients stands.clients)) in
    subst (λ (m : ℕ). issued (id_of id) ≡ next_id (at_number w.clients m)) (sym is)
    (ap (λ (k : ℕ). issued k) (next w.clients found.0 stands.clients found.1) ∙ ap (λ (y : Option Client). next_id y) (sym found.1))
