-- A sweep and a job, in the run of the channels.
use Rattle.std.proofs.Common.{◌≡◌, ℕ, zero, suc, ◌-◌, Option, Some, None, List, [], ◌∷◌, take, drop, refl, subst}
use Rattle.std.specs.Prelude.{slice_get}
use Rattle.std.specs.List.{AllByRecursion, list_any}
use Rattle.ra_base.specs.declared.key.Key.{Key}
use Rattle.ra_base.specs.declared.kind.Kind.{Kind}
use Rattle.ra_base.specs.declared.kind.Kind.TheVariants.{Management, ExtensionHost, Tunnel}
use Rattle.ra_model.specs.Links.{at_number}
use Rattle.ra_ipc.specs.Messages.{Reply}
use Rattle.ra_registry.specs.declared.row.Row.{Row}
use Rattle.ra_registry.specs.Rows.{same_key}
use Rattle.ra_session.specs.SessionCalls.{Firing, answer}
use Rattle.ra_session.specs.SessionRefusals.{Refusal, answer_refusal}
use Rattle.ra_session.specs.Sessions.{Session, is_management}
use Rattle.ra_hub.specs.Hubs.{row, missed}
use Rattle.ra_hub.specs.Jobs.{SeenJob}
use Rattle.ra_hub.specs.Sweeps.{swept, grace_is_over}
use Rattle.ra_channel_laws.specs.Channels.{ChannelsHold}
use Rattle.ra_channel_laws.proofs.Answering.{server_answer}
use Rattle.ra_channel_laws.proofs.Lists.{all_both}
use Rattle.ra_grand_runs.specs.Grands.{Grand}
use Rattle.ra_grand_runs.specs.GrandSweeps.{left_by, sweeps}
use Rattle.ra_grand_runs.specs.Marks.{Mark}
use Rattle.ra_grand_runs.specs.SetUps.{context}
use Rattle.ra_grand_runs.specs.Works.{Telling, answers, speaks, told, telling, telling_refusal, Told, told_to, told_by, session_by, unless_ended, misses, tells, without_job, work_by, worked}
use Rattle.ra_run_laws.proofs.Lists.{none_there, there_is}
use Rattle.ra_run_laws.proofs.Rising.{told_session}
use Rattle.ra_grand_laws.specs.ChannelParts.{WorkFits, HearsNone, ChannelsKeep}
use Rattle.ra_grand_laws.proofs.ChannelAsks.{other_kind, no_say, said_hears}
use Rattle.ra_grand_laws.proofs.ChannelSides.{Becomes, becomes_itself, becomes_mapped, keeps_swept}
use Rattle.ra_grand_laws.proofs.ChannelSteps.{Settled, Fired, JobsFit, channels_hub, becomes_at}
use Rattle.ra_grand_laws.proofs.ChannelTools.{TellingFits, telling_fits, sayable_fits, packets_fit}
use Rattle.ra_grand_laws.proofs.ChannelTurns.{no_management}

-- ---- sweeps

pub channels_sweep : (mark : Mark) (w : Grand) (settled : Settled) (fired : Fired) → ChannelsKeep w settled fired → ChannelsKeep (sweeps mark w) settled fired
unfolding sweeps
channels_sweep mark w settled fired keep =
    channels_hub w (sweeps mark w) settled fired refl (λ key.
    let over = grace_is_over w.hub w.now key in
    let left = list_any (same_key key) (left_by mark) in
    becomes_mapped key.kind (w.hub.session key) (swept over left w.now) (keeps_swept over left w.now)) keep.jobs keep

-- ---- what a session is told

answered_hears : (id : ℕ) (reply : Reply) (fire : Option Firing) (s : Session) → HearsNone s → answer_refusal id reply fire s ≡ None → ⊥
unfolding answer_refusal
answered_hears id reply fire s h none = other_kind s.cause (is_management s.kind) _ (no_management s.kind h.kind) none

told_becomes : (t : Telling) (now : ℕ) (s : Session) → TellingFits t → telling_refusal t s ≡ None → (kind : Kind) → Becomes kind (Some s) (Some (told t now s))
told_becomes (answers id reply fire) now s fits none Management d settled fired (x, is, h) =
    let held : ChannelsHold context d s settled fired = subst (λ (y : Session). ChannelsHold context d y settled fired) is h in
    (answer id reply fire now s, refl, server_answer context d s settled fired id reply fire now none (packets_fit d s settled fired id reply fire held fits) held)
told_becomes (speaks body) now s fits none Management d settled fired (x, is, h) =
    absurd (no_say body s (subst (λ (y : Session). ChannelsHold context d y settled fired) is h).server_end.kind none)
told_becomes (answers id reply fire) now s fits none ExtensionHost d settled fired (own, other, nothing, empty) = absurd (answered_hears id reply fire s other none)
told_becomes (speaks body) now s fits none ExtensionHost d settled fired (own, other, nothing, empty) = (own, said_hears body now s other, nothing, empty)
told_becomes (answers id reply fire) now s fits none Tunnel d settled fired h = tt
told_becomes (speaks body) now s fits none Tunnel d settled fired h = tt

channels_told : (refusal : Option Refusal) (key : Key) (t : Telling) (s : Session) (w : Grand) (settled : Settled) (fired : Fired) → telling_refusal t s ≡ refusal → TellingFits t
    → w.hub.session key ≡ Some s → ChannelsKeep w settled fired → ChannelsKeep (unless_ended refusal key t s w) settled fired
channels_told None key t s w settled fired none fits is keep =
    channels_hub w (unless_ended None key t s w) settled fired refl
    (λ other. becomes_at key other s (told t w.now s) w.hub is (told_becomes t w.now s fits none)) keep.jobs keep
channels_told (Some refusal) key t s w settled fired refused fits is keep = keep

channels_missed : (o : Option Row) (key : Key) (w : Grand) (settled : Settled) (fired : Fired) → ChannelsKeep w settled fired → ChannelsKeep (misses o key w) settled fired
unfolding missed
channels_missed None key w settled fired keep =
    channels_hub w (misses None key w) settled fired refl (λ other. becomes_itself other.kind (w.hub.session other) (w.hub.session other) refl) keep.jobs keep
channels_missed (Some r) key w settled fired keep = keep

told_fits : (o : Option Telling) (r : Option Row) (session : Option Session) (found : Told) → told_to o (session_by r session) ≡ Some found
    → ((t : Telling) → o ≡ Some t → TellingFits t) → TellingFits found.telling
told_fits None r session found is fits = none_there is
told_fits (Some t) None session found is fits = none_there is
told_fits (Some t) (Some r) None found is fits = none_there is
told_fits (Some t) (Some r) (Some s) found is fits =
    subst (λ (x : Told). TellingFits x.telling) (there_is is) (sayable_fits (telling_refusal t s) t (fits t refl))

channels_tells : (key : Key) (found : Option Told) (w : Grand) (settled : Settled) (fired : Fired)
    → ((t : Told) → found ≡ Some t → (w.hub.session key ≡ Some t.session) × TellingFits t.telling) → ChannelsKeep w settled fired → ChannelsKeep (tells key found w) settled fired
channels_tells key None w settled fired is keep = channels_missed (row w.hub key) key w settled fired keep
channels_tells key (Some t) w settled fired is keep =
    let found = is t refl in
    channels_told (telling_refusal t.telling t.session) key t.telling t.session w settled fired refl found.1 found.0 keep

-- ---- jobs

all_taken : {X : Type 0} (P : X → Type 0) (n : ℕ) (xs : List X) → AllByRecursion P xs → AllByRecursion P (take n xs)
all_taken P zero xs all = tt
all_taken P (suc n) [] all = tt
all_taken P (suc n) (x ∷ xs) all = (all.0, all_taken P n xs all.1)

all_behind : {X : Type 0} (P : X → Type 0) (n : ℕ) (xs : List X) → AllByRecursion P xs → AllByRecursion P (drop n xs)
all_behind P zero xs all = all
all_behind P (suc n) [] all = tt
all_behind P (suc n) (x ∷ xs) all = all_behind P n xs all.1

all_at : {X : Type 0} (P : X → Type 0) (xs : List X) (n : ℕ) (x : X) → AllByRecursion P xs → slice_get xs n ≡ Some x → P x
all_at P [] n x all is = none_there is
all_at P (y ∷ xs) zero x all is = subst P (there_is is) all.0
all_at P (y ∷ xs) (suc n) x all is = all_at P xs n x all.1 is

job_at : (jobs : List SeenJob) (n : ℕ) (job : SeenJob) → JobsFit jobs → at_number jobs n ≡ Some job → WorkFits job.work
job_at jobs zero job all is = none_there is
job_at jobs (suc n) job all is = all_at (λ (j : SeenJob). WorkFits j.work) jobs n job all is

channels_without : (n : ℕ) (w : Grand) (settled : Settled) (fired : Fired) → ChannelsKeep w settled fired → ChannelsKeep (without_job n w) settled fired
channels_without n w settled fired keep = record {
  parts = keep.parts;
  jobs = all_both (λ (j : SeenJob). WorkFits j.work) (take (n - 1) w.jobs) (drop n w.jobs) (all_taken (λ (j : SeenJob). WorkFits j.work) (n - 1) w.jobs keep.jobs)
      (all_behind (λ (j : SeenJob). WorkFits j.work) n w.jobs keep.jobs);
}

channels_job : (o : Option SeenJob) (n : ℕ) (w : Grand) (settled : Settled) (fired : Fired) → at_number w.jobs n ≡ o → ChannelsKeep w settled fired
    → ChannelsKeep (work_by o n w) settled fired
channels_job None n w settled fired is keep = keep
channels_job (Some job) n w settled fired is keep =
    channels_tells job.key (told_by job w) (without_job n w) settled fired
    (λ t found. (
      told_session (telling job.work) (row w.hub job.key) (w.hub.session job.key) t found,
      told_fits (telling job.work) (row w.hub job.key) (w.hub.session job.key) t found
          (λ x same. telling_fits job.work x same (job_at w.jobs n job keep.jobs is)),
    )) (channels_without n w settled fired keep)

pub channels_work : (n : ℕ) (w : Grand) (settled : Settled) (fired : Fired) → ChannelsKeep w settled fired → ChannelsKeep (worked n w) settled fired
unfolding worked
channels_work n w settled fired keep = channels_job (at_number w.jobs n) n w settled fired refl keep
