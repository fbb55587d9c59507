-- What calls of the server's side make of a world.
use Rattle.std.proofs.Common.{◌≡◌, inl, inr, ℕ, zero, suc, ◌+◌, ◌<◌, ◌≤◌, Option, Some, None, Result, Ok, Err, List, [], ◌∷◌, length, option_map, map, refl, ap, sym, ◌∙◌, subst, arith}
use Rattle.std.specs.Prelude.{slice_get}
use Rattle.std.proofs.lemmas.List.{length-map}
use Rattle.ra_base.specs.declared.key.Key.{Key}
use Rattle.ra_model.specs.Links.{at_number}
use Rattle.ra_registry.specs.declared.row.Row.{Row}
use Rattle.ra_session.specs.declared.values.SessionFault.{SessionFault}
use Rattle.ra_session.specs.SessionRefusals.{Refusal as SessionRefusal, IsRefusal}
use Rattle.ra_session.specs.Sessions.{Session}
use Rattle.ra_hub.specs.JobLists.{jobs_in}
use Rattle.ra_hub.specs.Jobs.{SeenJob, seen}
use Rattle.ra_hub.specs.declared.hub.Swept.{Swept}
use Rattle.ra_hub.specs.Jobs.{JobState}
use Rattle.ra_script.specs.declared.grand_line.GrandEvent.TheVariants as events
use Rattle.ra_grand_runs.specs.declared.effect.GrandEffect.TheVariants as seen_effects
use Rattle.ra_grand_runs.specs.declared.fault.GrandFault.{GrandFault}
use Rattle.ra_grand_runs.specs.declared.fault.GrandFault.TheVariants as grand_faults
use Rattle.ra_grand.specs.declared.world.GrandWorld.{GrandWorld}
use Rattle.ra_grand_clients.specs.Crowds.{ClientsStand}
use Rattle.ra_grand_runs.specs.GrandClients.{Client}
use Rattle.ra_grand_runs.specs.GrandEffects.{swept, effect}
use Rattle.ra_grand_runs.specs.GrandRefusals.{no_such_job, by_session, of_job, refusal}
use Rattle.ra_grand_runs.specs.GrandRuns.{happens}
use Rattle.ra_grand_runs.specs.Grands.{Grand}
use Rattle.ra_grand.specs.GrandStates.{StandsForGrand, IsIndex}
use Rattle.ra_grand_runs.specs.GrandSweeps.{expired_keys, sweeps}
use Rattle.ra_grand_runs.specs.GrandViews.{Applies, IsCause}
use Rattle.ra_grand_runs.specs.Marks.{whole}
use Rattle.ra_grand_runs.specs.Reached.{ClientsHold}
use Rattle.ra_grand_server.specs.ServerCalls.{Sweeps, Works}
use Rattle.ra_grand_server.specs.ServerStates.{ServerState, StandsForServer}
use Rattle.ra_grand_runs.specs.Works.{Told, Telling, told_by, told_refusal, unless_ended, misses, tells, without_job, work_by, worked}

-- the moment and the clients are the same
abbrev Same : Grand → Grand → Type 0
Same v w = (v.now ≡ w.now) × (v.clients ≡ w.clients)

pub with_server : (s : GrandWorld) (server : ServerState) (w v : Grand) → StandsForGrand s w → StandsForServer server v → Same v w
    → StandsForGrand (record s { server = server }) v
with_server s server w v stands is same = record {
  now = same.0 ∙ stands.now;
  server = is;
  clients = subst (λ (cs : List Client). ClientsStand s.clients cs) (sym same.1) stands.clients;
  holds = subst (λ (cs : List Client). ClientsHold cs) (sym same.1) stands.holds;
}

-- ---- a sweep

pub swept_one : (s : GrandWorld) (server : ServerState) (swept : Swept) → ((w : Grand) → StandsForServer s.server w → w.now ≡ s.moment → Sweeps swept server w)
    → (w : Grand) → StandsForGrand s w → Applies (Ok (seen_effects.Swept swept)) events.Sweep w (StandsForGrand (record s { server = server }))
unfolding refusal effect happens sweeps
swept_one s server told sweeps_so w stands =
    let made = sweeps_so w stands.server stands.now in (
      made.mark,
      refl,
      ap (λ (n : ℕ). swept n told.short) made.expired ∙ ap (λ (n : ℕ). swept (length (expired_keys w)) n) made.short,
      with_server s server w (sweeps made.mark w) stands made.stands (refl, refl),
      tt {0},
    )

-- ---- a job

misses_same : (r : Option Row) (key : Key) (w : Grand) → Same (misses r key w) w
misses_same None key w = (refl, refl)
misses_same (Some r) key w = (refl, refl)

unless_same : (r : Option SessionRefusal) (key : Key) (t : Telling) (s : Session) (w : Grand) → Same (unless_ended r key t s w) w
unless_same None key t s w = (refl, refl)
unless_same (Some r) key t s w = (refl, refl)

tells_same : (key : Key) (told : Option Told) (w : Grand) → Same (tells key told w) w
tells_same key None w = misses_same _ key w
tells_same key (Some t) w = unless_same _ key t.telling t.session w

work_same : (job : Option SeenJob) (n : ℕ) (w : Grand) → Same (work_by job n w) w
work_same None n w = (refl, refl)
work_same (Some job) n w = tells_same job.key (told_by job w) (without_job n w)

worked_same : (n : ℕ) (w : Grand) → Same (worked n w) w
unfolding worked
worked_same n w = work_same (at_number w.jobs n) n w

there : {X : Type 0} → (xs : List X) (n : ℕ) → n < length xs → (x : X) × (slice_get xs n ≡ Some x)
there [] n less = absurd (omega (arith, less))
there (x ∷ xs) zero less = (x, refl)
there (x ∷ xs) (suc n) less = there xs n (omega (arith, less))

past : {X : Type 0} → (xs : List X) (n : ℕ) → length xs ≤ n → slice_get xs n ≡ None
past [] n less = refl
past (x ∷ xs) zero less = absurd (omega (arith, less))
past (x ∷ xs) (suc n) less = past xs n (omega (arith, less))

none_there : {X : Type 0} → (xs : List X) (number many : ℕ) → many ≡ length xs → IsIndex number many None → at_number xs number ≡ None
none_there xs zero many is none = refl
none_there xs (suc n) many is (inl e) = absurd (omega (arith, e))
none_there xs (suc n) many is (inr large) = past xs n (omega (arith, is, large))

seen_there : (jobs : List JobState) (at : ℕ) (job : JobState) → slice_get jobs at ≡ Some job → slice_get (map seen jobs) at ≡ Some (seen job)
seen_there [] at job is = absurd cc
seen_there (x ∷ xs) zero job is = ap (λ (y : Option JobState). option_map seen y) is
seen_there (x ∷ xs) (suc at) job is = seen_there xs at job is

job_there : (s : GrandWorld) (w : Grand) (at : ℕ) (job : JobState) → StandsForGrand s w → slice_get (jobs_in s.server.jobs) at ≡ Some job → at_number w.jobs (suc at) ≡ Some (seen job)
job_there s w at job stands is = ap (λ (js : List SeenJob). slice_get js at) (sym stands.server.jobs) ∙ seen_there (jobs_in s.server.jobs) at job is

pub no_job : (s : GrandWorld) (number there : ℕ) → there ≡ length (jobs_in s.server.jobs) → IsIndex number there None
    → (w : Grand) → StandsForGrand s w → Applies (Err (grand_faults.NoSuchJob number there)) (events.Work number) w (StandsForGrand s)
unfolding refusal
no_job s number many is none w stands =
    let count : many ≡ length w.jobs = is ∙ sym (length-map (jobs_in s.server.jobs) seen) ∙ ap (λ (js : List SeenJob). length js) stands.server.jobs in
    (ap (λ (job : Option SeenJob). of_job number w job) (none_there w.jobs number many count none) ∙ ap (λ (n : ℕ). Some (no_such_job number n)) (sym count), stands)

abbrev WorksAt : ServerState → ServerState → ℕ → ℕ → Result (Unit {0}) SessionFault → Type 0
WorksAt old new at now result = (w : Grand) (job : JobState) → StandsForServer old w → w.now ≡ now → slice_get (jobs_in old.jobs) at ≡ Some job → Works result (at + 1) (seen job) new w

pub worked_one : (s : GrandWorld) (server : ServerState) (number at : ℕ) → number ≡ suc at → at < length (jobs_in s.server.jobs)
    → WorksAt s.server server at s.moment (Ok tt)
    → (w : Grand) → StandsForGrand s w → Applies (Ok seen_effects.Done) (events.Work number) w (StandsForGrand (record s { server = server }))
unfolding refusal effect happens
worked_one s server number at is less works w stands =
    let job = there (jobs_in s.server.jobs) at less in
    let made = works w job.0 stands.server stands.now job.1 in
    subst (λ (n : ℕ). Applies (Ok seen_effects.Done) (events.Work n) w (StandsForGrand (record s { server = server }))) (sym is) (
      whole,
      ap (λ (x : Option SeenJob). of_job (suc at) w x) (job_there s w at job.0 stands job.1) ∙ ap by_session made.0,
      refl,
      with_server s server w (worked (suc at) w) stands (subst (λ (n : ℕ). StandsForServer server (worked n w)) (omega arith) made.1) (worked_same (suc at) w),
      tt {0},
    )

pub not_worked : (s : GrandWorld) (server : ServerState) (number at : ℕ) (fault : SessionFault) (result : GrandFault) → number ≡ suc at → at < length (jobs_in s.server.jobs)
    → WorksAt s.server server at s.moment (Err fault)
    → ((cause : Option SessionRefusal) → IsRefusal fault cause → IsCause result (by_session cause))
    → (w : Grand) → StandsForGrand s w → Applies (Err result) (events.Work number) w (StandsForGrand (record s { server = server }))
unfolding refusal
not_worked s server number at fault result is less works because w stands =
    let job = there (jobs_in s.server.jobs) at less in
    let made = works w job.0 stands.server stands.now job.1 in
    subst (λ (n : ℕ). Applies (Err result) (events.Work n) w (StandsForGrand (record s { server = server }))) (sym is) (
      subst (λ (x : Option SeenJob). IsCause result (of_job (suc at) w x)) (sym (job_there s w at job.0 stands job.1)) (because (told_refusal (told_by (seen job.0) w)) made.0),
      with_server s server w w stands made.1 (refl, refl),
    )
