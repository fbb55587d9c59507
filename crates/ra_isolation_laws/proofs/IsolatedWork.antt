-- A job that is done, in a world and in the world of the one client.
use Rattle.std.proofs.Common.{◌≡◌, ℕ, zero, suc, ◌-◌, Bool, true, false, Option, Some, None, List, ◌++◌, length, take, drop, filter, refl, ap, sym, ◌∙◌, subst, arith}
use Rattle.std.specs.Prelude.{slice_get}
use Rattle.ra_base.specs.declared.key.Key.{Key}
use Rattle.ra_model.specs.Links.{at_number}
use Rattle.ra_registry.specs.declared.past.Did.TheVariants.{Missed}
use Rattle.ra_registry.specs.declared.row.Row.{Row}
use Rattle.ra_registry.specs.Rows.{same_key}
use Rattle.ra_registry.proofs.SameKeys.{same_key_is, same_key_other_way}
use Rattle.ra_session.specs.SessionRefusals.{Refusal}
use Rattle.ra_session.specs.Sessions.{Session}
use Rattle.ra_hub.specs.Hubs.{Hub, row, entry_of, missed}
use Rattle.ra_hub.specs.Jobs.{SeenJob}
use Rattle.ra_script.specs.declared.grand_line.GrandEvent.TheVariants as events
use Rattle.ra_grand_runs.specs.GrandRuns.{happens}
use Rattle.ra_grand_runs.specs.Grands.{Grand}
use Rattle.ra_grand_runs.specs.Works.{Telling, told, telling, telling_refusal, Told, told_to, told_by, session_by, unless_ended, misses, tells, without_job, work_by, worked}
use Rattle.ra_run_laws.proofs.Lists.{none_there}
use Rattle.ra_isolation_laws.specs.Isolation.{jobs_for, if_own, job_seen, alone}
use Rattle.ra_isolation_laws.proofs.IsolatedHubs.{Agree, agree_itself, agree_trans, agree_enter, agree_at, other_at, other_missed}
use Rattle.ra_isolation_laws.proofs.IsolatedJobs.{Among, among, not_among}
use Rattle.ra_isolation_laws.proofs.IsolatedWorlds.{Alike, Between, left_itself, others_step}

-- only the hub is another
record Stays (x v : Grand) : Type 0 where
  pub clients : v.clients ≡ x.clients
  pub places : v.places ≡ x.places
  pub now : v.now ≡ x.now
  pub jobs_are : v.jobs ≡ x.jobs

stays_itself : (x : Grand) → Stays x x
stays_itself x = record { clients = refl; places = refl; now = refl; jobs_are = refl }

stays_telling : (o : Option Refusal) (key : Key) (t : Telling) (s : Session) (x : Grand) → Stays x (unless_ended o key t s x)
stays_telling None key t s x = record { clients = refl; places = refl; now = refl; jobs_are = refl }
stays_telling (Some refusal) key t s x = stays_itself x

stays_missing : (o : Option Row) (key : Key) (x : Grand) → Stays x (misses o key x)
stays_missing None key x = record { clients = refl; places = refl; now = refl; jobs_are = refl }
stays_missing (Some r) key x = stays_itself x

stays_tells : (key : Key) (found : Option Told) (x : Grand) → Stays x (tells key found x)
stays_tells key None x = stays_missing (row x.hub key) key x
stays_tells key (Some t) x = stays_telling (telling_refusal t.telling t.session) key t.telling t.session x

-- ---- a job of the key

agree_telling : (o : Option Refusal) (key : Key) (t : Telling) (s : Session) (x y : Grand) → x.now ≡ y.now → Agree key x.hub y.hub
    → Agree key (unless_ended o key t s x).hub (unless_ended o key t s y).hub
agree_telling None key t s x y now agree =
    subst (λ (n : ℕ). Agree key (unless_ended None key t s x).hub (at_hub n)) now (agree_at key (told t x.now s) x.hub y.hub agree)
  where
    at_hub : ℕ → Hub
    at_hub n = (unless_ended None key t s (record y { now = n })).hub
agree_telling (Some refusal) key t s x y now agree = agree

agree_missing : (o : Option Row) (key : Key) (x y : Grand) → x.now ≡ y.now → Agree key x.hub y.hub → Agree key (misses o key x).hub (misses o key y).hub
unfolding missed
agree_missing None key x y now agree =
    subst (λ (n : ℕ). Agree key (misses None key x).hub (at_hub n)) now (agree_enter (entry_of key x.now Missed) key x.hub y.hub agree)
  where
    at_hub : ℕ → Hub
    at_hub n = missed key n y.hub
agree_missing (Some r) key x y now agree = agree

agree_tells : (key : Key) (found : Option Told) (x y : Grand) → x.now ≡ y.now → Agree key x.hub y.hub → Agree key (tells key found x).hub (tells key found y).hub
agree_tells key None x y now agree =
    subst (λ (o : Option Row). Agree key (misses (row x.hub key) key x).hub (misses o key y).hub) agree.row_is (agree_missing (row x.hub key) key x y now agree)
agree_tells key (Some t) x y now agree = agree_telling (telling_refusal t.telling t.session) key t.telling t.session x y now agree

same_told : (job : SeenJob) (w a : Grand) → Agree job.key w.hub a.hub → told_by job w ≡ told_by job a
same_told job w a agree =
    ap (λ (o : Option Row). told_to (telling job.work) (session_by o (w.hub.session job.key))) agree.row_is
    ∙ ap (λ (o : Option Session). told_to (telling job.work) (session_by (row a.hub job.key) o)) agree.session

one_less : (n : ℕ) → suc n - 1 ≡ n
one_less n = omega arith

-- the jobs that are left, by the place of the one that is done
left_jobs : (key : Key) (w a : Grand) (n m : ℕ) → jobs_for key w.jobs ≡ a.jobs
    → take m (jobs_for key w.jobs) ++ drop (suc m) (jobs_for key w.jobs) ≡ jobs_for key (take n w.jobs ++ drop (suc n) w.jobs)
    → jobs_for key (without_job (suc n) w).jobs ≡ (without_job (suc m) a).jobs
left_jobs key w a n m same left =
    ap (λ (k : ℕ). jobs_for key (take k w.jobs ++ drop (suc n) w.jobs)) (one_less n)
    ∙ sym left
    ∙ ap (λ (js : List SeenJob). take m js ++ drop (suc m) js) same
    ∙ ap (λ (k : ℕ). take k a.jobs ++ drop (suc m) a.jobs) (sym (one_less m))

own_work : (key : Key) (job : SeenJob) (n m : ℕ) (w a : Grand) → same_key key job.key ≡ true → Between w (work_by (Some job) (suc n) w) → Alike key w a
    → jobs_for key (without_job (suc n) w).jobs ≡ (without_job (suc m) a).jobs
    → Alike key (work_by (Some job) (suc n) w) (work_by (Some job) (suc m) a)
own_work key job n m w a own between alike left =
    let x = without_job (suc n) w in
    let y = without_job (suc m) a in
    let is : key ≡ job.key = same_key_is key job.key own in
    let agree : Agree job.key w.hub a.hub = subst (λ (q : Key). Agree q w.hub a.hub) is alike.hub in
    let one = stays_tells job.key (told_by job w) x in
    let other = stays_tells job.key (told_by job a) y in
    others_step key w (work_by (Some job) (suc n) w) a (work_by (Some job) (suc m) a) between alike (left_itself key w.clients (work_by (Some job) (suc n) w).clients one.clients)
    other.clients other.places (one.now ∙ alike.now ∙ sym other.now)
    (subst (λ (q : Key). Agree q (tells job.key (told_by job w) x).hub (tells job.key (told_by job a) y).hub) (sym is)
    (subst (λ (o : Option Told). Agree job.key (tells job.key (told_by job w) x).hub (tells job.key o y).hub) (same_told job w a agree)
    (agree_tells job.key (told_by job w) x y alike.now agree)))
    (ap (λ (js : List SeenJob). jobs_for key js) one.jobs_are ∙ left ∙ sym other.jobs_are)

-- ---- a job of another key

other_telling : (o : Option Refusal) (key other : Key) (t : Telling) (s : Session) (x : Grand) → same_key other key ≡ false → Agree key (unless_ended o other t s x).hub x.hub
other_telling None key other t s x apart = other_at key other (told t x.now s) x.hub apart
other_telling (Some refusal) key other t s x apart = agree_itself key x.hub

other_missing : (o : Option Row) (key other : Key) (x : Grand) → same_key other key ≡ false → Agree key (misses o other x).hub x.hub
other_missing None key other x apart = other_missed key other x.now x.hub apart
other_missing (Some r) key other x apart = agree_itself key x.hub

other_tells : (key other : Key) (found : Option Told) (x : Grand) → same_key other key ≡ false → Agree key (tells other found x).hub x.hub
other_tells key other None x apart = other_missing (row x.hub other) key other x apart
other_tells key other (Some t) x apart = other_telling (telling_refusal t.telling t.session) key other t.telling t.session x apart

other_work : (key : Key) (job : SeenJob) (n : ℕ) (w a : Grand) → same_key key job.key ≡ false → slice_get w.jobs n ≡ Some job → Between w (work_by (Some job) (suc n) w) → Alike key w a
    → Alike key (work_by (Some job) (suc n) w) a
other_work key job n w a apart is between alike =
    let x = without_job (suc n) w in
    let one = stays_tells job.key (told_by job w) x in
    others_step key w (work_by (Some job) (suc n) w) a a between alike (left_itself key w.clients (work_by (Some job) (suc n) w).clients one.clients) refl refl (one.now ∙ alike.now)
    (agree_trans key (tells job.key (told_by job w) x).hub w.hub a.hub (other_tells key job.key (told_by job w) x (same_key_other_way job.key key ∙ apart)) alike.hub)
    (ap (λ (js : List SeenJob). jobs_for key js) one.jobs_are
    ∙ ap (λ (k : ℕ). jobs_for key (take k w.jobs ++ drop (suc n) w.jobs)) (one_less n)
    ∙ not_among (λ (j : SeenJob). same_key key j.key) w.jobs n job is apart
    ∙ alike.jobs_are)

-- ---- both

by_key : (key : Key) (job : SeenJob) (n : ℕ) (b : Bool) (w a : Grand) → same_key key job.key ≡ b → slice_get w.jobs n ≡ Some job → Between w (work_by (Some job) (suc n) w) → Alike key w a
    → Alike key (work_by (Some job) (suc n) w) (alone key (if_own b (events.Work (length (jobs_for key (take (suc n) w.jobs))))) a)
unfolding happens worked
by_key key job n true w a own is between alike =
    let p : SeenJob → Bool = λ j. same_key key j.key in
    let m : ℕ = length (filter p (take n w.jobs)) in
    let at : Among p w.jobs n job = among p w.jobs n job is own in
    let there : at_number a.jobs (suc m) ≡ Some job = ap (λ (js : List SeenJob). slice_get js m) (sym alike.jobs_are) ∙ at.there in
    subst (λ (k : ℕ). Alike key (work_by (Some job) (suc n) w) (work_by (at_number a.jobs k) k a)) (sym at.counts)
    (subst (λ (o : Option SeenJob). Alike key (work_by (Some job) (suc n) w) (work_by o (suc m) a)) (sym there)
    (own_work key job n m w a own between alike (left_jobs key w a n m alike.jobs_are at.left)))
by_key key job n false w a apart is between alike = other_work key job n w a apart is between alike

by_number : (key : Key) (n : ℕ) (o : Option SeenJob) (w a : Grand) → at_number w.jobs n ≡ o → Between w (work_by o n w) → Alike key w a
    → Alike key (work_by o n w) (alone key (job_seen key n o w.jobs) a)
by_number key n None w a is between alike = alike
by_number key zero (Some job) w a is between alike = none_there is
by_number key (suc n) (Some job) w a is between alike = by_key key job n (same_key key job.key) w a refl is between alike

pub alike_worked : (key : Key) (n : ℕ) (w a : Grand) → Between w (worked n w) → Alike key w a → Alike key (worked n w) (alone key (job_seen key n (at_number w.jobs n) w.jobs) a)
unfolding worked
alike_worked key n w a between alike = by_number key n (at_number w.jobs n) w a refl between alike
