-- A job of the server's side is done, or stays.
use Rattle.std.proofs.Common.{◌≡◌, ℕ, zero, suc, ◌+◌, ◌-◌, ◌<◌, Option, Some, None, option_map, Result, Ok, Err, List, [], ◌∷◌, ◌++◌, length, map, take, drop, get_or, refl, ap, sym, ◌∙◌, subst, arith}
use Rattle.std.specs.Prelude.{slice_get}
use Rattle.std.proofs.lemmas.List.{take-map, drop-map, map-append}
use Rattle.ra_base.specs.declared.key.Cause.TheVariants.{Stopped}
use Rattle.ra_base.specs.declared.key.Key.{Key}
use Rattle.ra_model.specs.Links.{at_number}
use Rattle.ra_registry.specs.declared.row.Row.{Row}
use Rattle.ra_session.specs.View.{work_of}
use Rattle.ra_session.specs.declared.values.SessionFault.{SessionFault}
use Rattle.ra_session.specs.declared.values.SessionFault.TheVariants as session_faults
use Rattle.ra_session.specs.declared.values.Work.{Work}
use Rattle.ra_session.specs.declared.values.Work.TheVariants as works
use Rattle.ra_session.specs.SessionRefusals.{Refusal, ended, IsRefusal}
use Rattle.ra_session.specs.Sessions.{Session}
use Rattle.ra_hub.specs.Hubs.{Hub, at_key, row, missed}
use Rattle.ra_hub.specs.JobLists.{jobs_in}
use Rattle.ra_hub.specs.Jobs.{SeenJob, seen}
use Rattle.ra_hub.specs.Keeping.{Stands}
use Rattle.ra_hub.specs.declared.fault.HubFault.{HubFault}
use Rattle.ra_hub.specs.declared.fault.HubFault.TheVariants as faults
use Rattle.ra_hub.specs.Jobs.{JobState}
use Rattle.ra_hub.specs.declared.jobs.JobList.{JobList}
use Rattle.ra_hub.specs.MemHubs.{MemHub}
use Rattle.ra_grand_runs.specs.Grands.{Grand}
use Rattle.ra_grand_server.specs.ServerCalls.{Works}
use Rattle.ra_grand_server.specs.ServerStates.{ServerState, StandsForServer}
use Rattle.ra_grand_server.specs.Tellings.{ToldIn, ToldAt, settled, settled_by}
use Rattle.ra_grand_runs.specs.Works.{Telling, Told, telling, telling_refusal, sayable, session_by, told_to, told_by, told, if_told, told_refusal, unless_ended, misses, tells, without_job, work_by, worked}
use Rattle.ra_grand_server.proofs.SweepSteps.{with_hub}

abbrev Unit0 : Type 0
Unit0 = Unit {0}

-- work is told
pub telling_there : (work : Work) → (t : Telling) × (telling (work_of work) ≡ Some t)
telling_there (works.Call id channel name arg cancelled) = (_, refl)
telling_there (works.Host body) = (_, refl)

-- a key that has this row, or none
tells_with : Option Row → Key → Option Told → Grand → Grand
tells_with r key None w = misses r key w
tells_with r key (Some t) w = unless_ended (telling_refusal t.telling t.session) key t.telling t.session w

tells_as : (key : Key) (t : Option Told) (w : Grand) → tells key t w ≡ tells_with (row w.hub key) key t w
unfolding tells_with
tells_as key None w = refl
tells_as key (Some t) w = refl

-- ---- it is done

abbrev told_in : Telling → Option Row → Option Session → Option Told
told_in t r session = told_to (Some t) (session_by r session)

record IsDone (w : Grand) (key : Key) (t : Telling) (r : Option Row) (session : Option Session) (After : Hub → Type 0) : Type 0 where
  none : told_refusal (told_in t r session) ≡ None
  hub : Hub
  after : After hub
  tells : tells_with r key (told_in t r session) w ≡ record w { hub = hub }

ended_by : (w : Grand) (key : Key) (t : Telling) (r : Row) (s : Session) (fault : SessionFault) (After : Hub → Type 0) → settled_by fault ≡ Ok (tt)
    → IsRefusal fault (telling_refusal (sayable t s) s) → After w.hub → IsDone w key t (Some r) (Some s) After
unfolding tells_with
ended_by w key t r s (session_faults.Ended cause) After is refused same = record {
  none = ap if_told refused;
  hub = w.hub;
  after = same;
  tells = ap (λ (y : Option Refusal). unless_ended y key (sayable t s) s w) refused;
}
ended_by w key t r s (session_faults.Stale current) After is refused same = absurd cc
ended_by w key t r s session_faults.NoLink After is refused same = absurd cc
ended_by w key t r s (session_faults.TooLong n) After is refused same = absurd cc
ended_by w key t r s (session_faults.BadIpc bad message) After is refused same = absurd cc
ended_by w key t r s (session_faults.TooLarge len) After is refused same = absurd cc
ended_by w key t r s session_faults.IdsSpent After is refused same = absurd cc
ended_by w key t r s (session_faults.NoSuchCall id) After is refused same = absurd cc
ended_by w key t r s session_faults.WrongKind After is refused same = absurd cc
ended_by w key t r s session_faults.NoMemory After is refused same = absurd cc

done : (w : Grand) (key : Key) (t : Telling) (r : Option Row) (session : Option Session) (result : Result Unit0 HubFault) (After : Hub → Type 0)
    → ToldIn w.hub key t w.now r session result After → settled result ≡ Ok (tt) → IsDone w key t r session After
unfolding tells_with
done w key t None session (Ok u) After is ends = absurd is
done w key t None session (Err faults.NoSession) After is ends = record { none = refl; hub = missed key w.now w.hub; after = is; tells = refl }
done w key t None session (Err faults.NoMemory) After is ends = absurd cc
done w key t None session (Err (faults.Refused reason)) After is ends = absurd is
done w key t None session (Err (faults.Session fault)) After is ends = absurd is
done w key t None session (Err faults.KeepFault) After is ends = absurd is
done w key t (Some r) None (Ok u) After is ends = absurd (apart is.0)
  where
    apart : {x : Refusal} → ◌≡◌ {A = Option Refusal} (Some x) None → ⊥
    apart e = cc
done w key t (Some r) None (Err faults.NoSession) After is ends = absurd is
done w key t (Some r) None (Err faults.NoMemory) After is ends = absurd cc
done w key t (Some r) None (Err (faults.Refused reason)) After is ends = absurd is
done w key t (Some r) None (Err (faults.Session fault)) After is ends = record { none = refl; hub = w.hub; after = is.1; tells = refl }
done w key t (Some r) None (Err faults.KeepFault) After is ends = absurd is
done w key t (Some r) (Some s) (Ok u) After is ends = record {
  none = ap if_told is.0;
  hub = at_key key (told (sayable t s) w.now s) w.hub;
  after = is.2;
  tells = ap (λ (y : Option Refusal). unless_ended y key (sayable t s) s w) is.0;
}
done w key t (Some r) (Some s) (Err faults.NoSession) After is ends = absurd is
done w key t (Some r) (Some s) (Err faults.NoMemory) After is ends = absurd cc
done w key t (Some r) (Some s) (Err (faults.Refused reason)) After is ends = absurd is
done w key t (Some r) (Some s) (Err (faults.Session fault)) After is ends = ended_by w key t r s fault After ends is.0 is.1
done w key t (Some r) (Some s) (Err faults.KeepFault) After is ends = absurd is

-- ---- it stays

kept_by : (fault other : SessionFault) (refusal : Option Refusal) → settled_by fault ≡ Err other → IsRefusal fault refusal → IsRefusal other (if_told refusal)
kept_by (session_faults.Ended cause) other refusal is refused = absurd cc
kept_by (session_faults.Stale current) other refusal is refused =
    let e : session_faults.Stale current ≡ other = cc in subst (λ (x : SessionFault). IsRefusal x (if_told refusal)) e (ap if_told refused)
kept_by session_faults.NoLink other refusal is refused =
    let e : session_faults.NoLink ≡ other = cc in subst (λ (x : SessionFault). IsRefusal x (if_told refusal)) e (ap if_told refused)
kept_by (session_faults.TooLong n) other refusal is refused =
    let e : session_faults.TooLong n ≡ other = cc in subst (λ (x : SessionFault). IsRefusal x (if_told refusal)) e (ap if_told refused)
kept_by (session_faults.BadIpc bad message) other refusal is refused =
    let e : session_faults.BadIpc bad message ≡ other = cc in subst (λ (x : SessionFault). IsRefusal x (if_told refusal)) e (ap if_told refused)
kept_by (session_faults.TooLarge len) other refusal is refused =
    let e : session_faults.TooLarge len ≡ other = cc in subst (λ (x : SessionFault). IsRefusal x (if_told refusal)) e (ap if_told refused)
kept_by session_faults.IdsSpent other refusal is refused =
    let e : session_faults.IdsSpent ≡ other = cc in subst (λ (x : SessionFault). IsRefusal x (if_told refusal)) e (ap if_told refused)
kept_by (session_faults.NoSuchCall id) other refusal is refused =
    let e : session_faults.NoSuchCall id ≡ other = cc in subst (λ (x : SessionFault). IsRefusal x (if_told refusal)) e (ap if_told refused)
kept_by session_faults.WrongKind other refusal is refused =
    let e : session_faults.WrongKind ≡ other = cc in subst (λ (x : SessionFault). IsRefusal x (if_told refusal)) e (ap if_told refused)
kept_by session_faults.NoMemory other refusal is refused =
    let e : session_faults.NoMemory ≡ other = cc in subst (λ (x : SessionFault). IsRefusal x (if_told refusal)) e (tt)

short_by : (other : SessionFault) (refusal : Option Refusal) → ◌≡◌ {A = Result Unit0 SessionFault} (Err session_faults.NoMemory) (Err other) → IsRefusal other refusal
short_by other refusal is = let e : session_faults.NoMemory ≡ other = cc in subst (λ (x : SessionFault). IsRefusal x refusal) e (tt)

kept : (w : Grand) (key : Key) (t : Telling) (r : Option Row) (session : Option Session) (result : Result Unit0 HubFault) (fault : SessionFault) (After : Hub → Type 0)
    → ToldIn w.hub key t w.now r session result After → settled result ≡ Err fault → IsRefusal fault (told_refusal (told_in t r session)) × After w.hub
kept w key t None session (Ok u) fault After is ends = absurd is
kept w key t None session (Err faults.NoSession) fault After is ends = absurd cc
kept w key t None session (Err faults.NoMemory) fault After is ends = (short_by fault None ends, is)
kept w key t None session (Err (faults.Refused reason)) fault After is ends = absurd is
kept w key t None session (Err (faults.Session told)) fault After is ends = absurd is
kept w key t None session (Err faults.KeepFault) fault After is ends = absurd is
kept w key t (Some r) None (Ok u) fault After is ends = absurd cc
kept w key t (Some r) None (Err faults.NoSession) fault After is ends = absurd is
kept w key t (Some r) None (Err faults.NoMemory) fault After is ends = (short_by fault None ends, is)
kept w key t (Some r) None (Err (faults.Refused reason)) fault After is ends = absurd is
kept w key t (Some r) None (Err (faults.Session told)) fault After is ends = (kept_by told fault (Some (ended Stopped)) ends is.0, is.1)
kept w key t (Some r) None (Err faults.KeepFault) fault After is ends = absurd is
kept w key t (Some r) (Some s) (Ok u) fault After is ends = absurd cc
kept w key t (Some r) (Some s) (Err faults.NoSession) fault After is ends = absurd is
kept w key t (Some r) (Some s) (Err faults.NoMemory) fault After is ends = (short_by fault (if_told (telling_refusal (sayable t s) s)) ends, is)
kept w key t (Some r) (Some s) (Err (faults.Refused reason)) fault After is ends = absurd is
kept w key t (Some r) (Some s) (Err (faults.Session told)) fault After is ends = (kept_by told fault (telling_refusal (sayable t s) s) ends is.0, is.1)
kept w key t (Some r) (Some s) (Err faults.KeepFault) fault After is ends = absurd is

-- ---- the job

get_seen : (jobs : List JobState) (at : ℕ) (job : JobState) → slice_get jobs at ≡ Some job → slice_get (map seen jobs) at ≡ Some (seen job)
get_seen [] at job is = absurd cc
get_seen (x ∷ xs) zero job is = ap (option_map seen) is
get_seen (x ∷ xs) (suc at) job is = get_seen xs at job is

without : (jobs : List JobState) (at : ℕ) → map seen (take at jobs ++ drop (at + 1) jobs) ≡ take at (map seen jobs) ++ drop (at + 1) (map seen jobs)
without jobs at =
    map-append seen (take at jobs) (drop (at + 1) jobs)
    ∙ ap (λ (xs : List SeenJob). xs ++ map seen (drop (at + 1) jobs)) (sym (take-map seen at jobs))
    ∙ ap (λ (xs : List SeenJob). take at (map seen jobs) ++ xs) (sym (drop-map seen (at + 1) jobs))

with_jobs : (s : ServerState) (w : Grand) (hub : MemHub) (h : Hub) (jobs : JobList) (js : List SeenJob) → StandsForServer s w → Stands hub h → map seen (jobs_in jobs) ≡ js
    → StandsForServer (record s { hub = hub; jobs = jobs }) (record w { hub = h; jobs = js })
with_jobs s w hub h jobs js stands is same = record { hub = is; draws = stands.draws; jobs = same; places = stands.places; apart = stands.apart; ends = stands.ends }

-- what came of the telling, at the moment of the world
abbrev pub ToldNow : MemHub → ServerState → JobState → ℕ → Result Unit0 HubFault → Type 0
ToldNow hub s job now result =
    (h : Hub) (t : Telling) → Stands s.hub h → telling (work_of job.work) ≡ Some t → ToldAt h job.key t now result (λ after. Stands hub after)

before : (at : ℕ) → at ≡ at + 1 - 1
before at = omega arith

next : (at : ℕ) → at + 1 ≡ suc at
next at = omega arith

pub is_there : {X : Type 0} → (xs : List X) (at : ℕ) (d x : X) → at < length xs → x ≡ get_or xs at d → slice_get xs at ≡ Some x
is_there [] at d x less is = absurd (omega (arith, less))
is_there (y ∷ ys) zero d x less is = ap (λ z. Some z) (sym is)
is_there (y ∷ ys) (suc at) d x less is = is_there ys at d x (omega (arith, less)) is

one_job : (jobs : List JobState) (at : ℕ) (job other : JobState) → slice_get jobs at ≡ Some other → slice_get jobs at ≡ Some job → other ≡ job
one_job jobs at job other is that = same (sym is ∙ that)
  where
    same : {x y : JobState} → ◌≡◌ {A = Option JobState} (Some x) (Some y) → x ≡ y
    same e = cc

pub work_done : (s : ServerState) (hub : MemHub) (jobs : JobList) (at : ℕ) (now : ℕ) (result : Result Unit0 HubFault)
    → settled result ≡ Ok (tt) → jobs_in jobs ≡ take at (jobs_in s.jobs) ++ drop (at + 1) (jobs_in s.jobs)
    → (there : JobState) → slice_get (jobs_in s.jobs) at ≡ Some there → ToldNow hub s there now result
    → (w : Grand) (job : JobState) → StandsForServer s w → w.now ≡ now → slice_get (jobs_in s.jobs) at ≡ Some job
    → Works (Ok (tt)) (at + 1) (seen job) (record s { hub = hub; jobs = jobs }) w
unfolding worked
work_done s hub jobs at now result ends left first here tells_first w job stands is there =
    let told_now = subst (λ (j : JobState). ToldNow hub s j now result) (one_job (jobs_in s.jobs) at job first here there) tells_first in
    let t = telling_there job.work in
    let tells_it : told_by (seen job) w ≡ told_in t.0 (row w.hub job.key) (w.hub.session job.key) =
    ap (λ (x : Option Telling). told_to x (session_by (row w.hub job.key) (w.hub.session job.key))) t.1 in
    let v = without_job (at + 1) w in
    let made = done v job.key t.0 (row w.hub job.key) (w.hub.session job.key) result (λ after. Stands hub after)
    (subst (λ (m : ℕ). ToldAt w.hub job.key t.0 m result (λ after. Stands hub after)) (sym is) (told_now w.hub t.0 stands.hub t.1)) ends in
    let number : at_number w.jobs (at + 1) ≡ Some (seen job) =
    ap (λ (n : ℕ). at_number w.jobs n) (next at) ∙ ap (λ (js : List SeenJob). slice_get js at) (sym stands.jobs) ∙ get_seen (jobs_in s.jobs) at job there in
    let left_are : map seen (jobs_in jobs) ≡ v.jobs =
    ap (λ (js : List JobState). map seen js) left ∙ without (jobs_in s.jobs) at ∙ ap (λ (js : List SeenJob). take at js ++ drop (at + 1) js) stands.jobs
    ∙ ap (λ (n : ℕ). take n w.jobs ++ drop (at + 1) w.jobs) (before at) in
    let is_it : worked (at + 1) w ≡ record v { hub = made.hub } =
    ap (λ (x : Option SeenJob). work_by x (at + 1) w) number
    ∙ ap (λ (x : Option Told). tells job.key x v) tells_it
    ∙ tells_as job.key (told_in t.0 (row w.hub job.key) (w.hub.session job.key)) v
    ∙ made.tells in (
      ap told_refusal tells_it ∙ made.none,
      subst (λ (u : Grand). StandsForServer (record s { hub = hub; jobs = jobs }) u) (sym is_it)
          (with_jobs s w hub made.hub jobs v.jobs stands made.after left_are),
    )

pub work_stays : (s : ServerState) (hub : MemHub) (at : ℕ) (now : ℕ) (result : Result Unit0 HubFault) (fault : SessionFault) → settled result ≡ Err fault
    → (there : JobState) → slice_get (jobs_in s.jobs) at ≡ Some there → ToldNow hub s there now result
    → (w : Grand) (job : JobState) → StandsForServer s w → w.now ≡ now → slice_get (jobs_in s.jobs) at ≡ Some job
    → Works (Err fault) (at + 1) (seen job) (record s { hub = hub }) w
work_stays s hub at now result fault ends first here tells_first w job stands is there =
    let told_now = subst (λ (j : JobState). ToldNow hub s j now result) (one_job (jobs_in s.jobs) at job first here there) tells_first in
    let t = telling_there job.work in
    let tells_it : told_by (seen job) w ≡ told_in t.0 (row w.hub job.key) (w.hub.session job.key) =
    ap (λ (x : Option Telling). told_to x (session_by (row w.hub job.key) (w.hub.session job.key))) t.1 in
    let made = kept w job.key t.0 (row w.hub job.key) (w.hub.session job.key) result fault (λ after. Stands hub after)
    (subst (λ (m : ℕ). ToldAt w.hub job.key t.0 m result (λ after. Stands hub after)) (sym is) (told_now w.hub t.0 stands.hub t.1)) ends in
    (subst (λ (x : Option Told). IsRefusal fault (told_refusal x)) (sym tells_it) made.0, with_hub s w hub w.hub stands made.1)
