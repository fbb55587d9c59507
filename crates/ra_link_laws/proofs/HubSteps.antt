-- A sweep and a job: the sessions of many keys change, and no client does.
use Rattle.std.proofs.Common.{◌≡◌, ℕ, Bool, true, false, true≢false, cond, Option, Some, None, option_map, List, refl, ap, sym, ◌∙◌, subst}
use Rattle.std.specs.Prelude.{slice_get}
use Rattle.std.specs.List.{list_any}
use Rattle.std.specs.Option.{is_some}
use Rattle.ra_base.specs.declared.key.Cause.TheVariants.{GraceOver}
use Rattle.ra_base.specs.declared.key.Key.{Key}
use Rattle.ra_model.specs.Links.{at_number}
use Rattle.ra_registry.specs.declared.row.Row.{Row}
use Rattle.ra_registry.specs.Rows.{same_key}
use Rattle.ra_registry.proofs.SameKeys.{same_key_is}
use Rattle.ra_session.specs.SessionCalls.{end_session, tick_session}
use Rattle.ra_session.specs.SessionRefusals.{Refusal, tick_refusal}
use Rattle.ra_session.specs.Sessions.{Session}
use Rattle.ra_hub.specs.Hubs.{Hub, row, at_key, missed}
use Rattle.ra_hub.specs.Jobs.{SeenJob}
use Rattle.ra_hub.specs.Sweeps.{swept, tick_one, grace_is_over}
use Rattle.ra_grand_runs.specs.GrandClients.{Client}
use Rattle.ra_grand_runs.specs.Grands.{Grand}
use Rattle.ra_grand_runs.specs.GrandSweeps.{expired_keys, left_by, sweeps}
use Rattle.ra_grand_runs.specs.Marks.{Mark}
use Rattle.ra_grand_runs.specs.Works.{Telling, answers, speaks, told, telling, telling_refusal, Told, told_by, unless_ended, misses, tells, without_job, work_by, worked}
use Rattle.ra_run_laws.specs.KeptRows.{RowsAgree}
use Rattle.ra_run_laws.proofs.KeptRows.{agree_itself, entry_agrees, expiries_agree}
use Rattle.ra_run_laws.proofs.Lists.{by_bool}
use Rattle.ra_run_laws.proofs.Rising.{told_session}
use Rattle.ra_link_laws.specs.Parts.{PartHolds, WorldKeeps}
use Rattle.ra_link_laws.proofs.SessionCallsKept.{kept_end, kept_tick, kept_answer, kept_say}
use Rattle.ra_link_laws.proofs.SessionSteps.{IsKept, kept_itself, kept_if, kept_by, part_mapped}
use Rattle.ra_link_laws.proofs.WorldSteps.{part_rows}

-- what becomes of the session and the row of a key
pub record KeyKeeps (old new : Hub) (key : Key) : Type 0 where
  pub call : Session → Session
  pub kept : IsKept call
  pub session : new.session key ≡ option_map call (old.session key)
  pub rows : RowsAgree (row old key) (row new key)

pub world_hub : (w v : Grand) → WorldKeeps w → v.clients ≡ w.clients → ((key : Key) → KeyKeeps w.hub v.hub key) → WorldKeeps v
world_hub w v keeps same each = record {
  parts = λ n c is.
      let e = each c.key in
      part_rows (v.hub.session c.key) (row w.hub c.key) (row v.hub c.key) c
      (subst (λ (o : Option Session). PartHolds o (row w.hub c.key) c) (sym e.session)
      (part_mapped (w.hub.session c.key) (row w.hub c.key) c e.call e.kept (keeps.parts n c (ap (λ (l : List Client). slice_get l n) (sym same) ∙ is))))
      e.rows;
  keys = λ n m c d one other alike.
      keeps.keys n m c d (ap (λ (l : List Client). slice_get l n) (sym same) ∙ one) (ap (λ (l : List Client). slice_get l m) (sym same) ∙ other) alike;
  unknown = λ key none.
      let e = each key in
      let old = keeps.unknown key (λ n c is. none n c (ap (λ (l : List Client). slice_get l n) same ∙ is)) in
      (e.session ∙ ap (λ (o : Option Session). option_map e.call o) old.0, no_row (row v.hub key) (e.rows.there ∙ ap (λ (o : Option Row). is_some o) old.1));
}
  where
    no_row : (o : Option Row) → is_some o ≡ false → o ≡ None
    no_row None none = refl
    no_row (Some r) none = absurd (true≢false none)

-- ---- sweeps

kept_swept : (over left : Bool) (now : ℕ) → IsKept (swept over left now)
kept_swept over left now =
    kept_if over (end_session GraceOver) (λ (s : Session). cond left s (tick_one now s)) (kept_end GraceOver)
    (kept_if left (λ (s : Session). s) (tick_one now) kept_itself (kept_by (λ (s : Session). is_some (tick_refusal now s)) (λ (s : Session). s) (tick_session now) kept_itself (kept_tick now)))

pub keeps_sweep : (mark : Mark) (w : Grand) → WorldKeeps w → WorldKeeps (sweeps mark w)
unfolding sweeps
keeps_sweep mark w keeps = world_hub w (sweeps mark w) keeps refl (λ key. record {
  call = swept (grace_is_over w.hub w.now key) (list_any (same_key key) (left_by mark)) w.now;
  kept = kept_swept (grace_is_over w.hub w.now key) (list_any (same_key key) (left_by mark)) w.now;
  session = refl;
  rows = expiries_agree w.now (expired_keys w) w.hub.registry key;
})

-- ---- jobs

same_hub : (h : Hub) (key : Key) → KeyKeeps h h key
same_hub h key = record { call = λ (s : Session). s; kept = kept_itself; session = mapped (h.session key); rows = agree_itself (row h key) }
  where
    mapped : (o : Option Session) → o ≡ option_map (λ (s : Session). s) o
    mapped None = refl
    mapped (Some s) = refl

kept_told : (t : Telling) (now : ℕ) → IsKept (told t now)
kept_told (answers id reply fire) now = kept_answer id reply fire now
kept_told (speaks body) now = kept_say body now

-- the session of a key is told
at_one : (key other : Key) (t : Telling) (now : ℕ) (s : Session) (h : Hub) → h.session key ≡ Some s → KeyKeeps h (at_key key (told t now s) h) other
at_one key other t now s h is = record {
  call = λ (x : Session). cond (same_key key other) (told t now x) x;
  kept = kept_if (same_key key other) (told t now) (λ (x : Session). x) (kept_told t now) kept_itself;
  session = by_bool (same_key key other) yes no;
  rows = agree_itself (row h other);
}
  where
    mapped : (o : Option Session) → o ≡ option_map (λ (x : Session). x) o
    mapped None = refl
    mapped (Some x) = refl

    yes : same_key key other ≡ true → cond (same_key key other) (Some (told t now s)) (h.session other) ≡ option_map (λ (x : Session). cond (same_key key other) (told t now x) x) (h.session other)
    yes same =
        ap (λ (b : Bool). cond b (Some (told t now s)) (h.session other)) same
        ∙ sym (ap (λ (b : Bool). option_map (λ (x : Session). cond b (told t now x) x) (h.session other)) same
        ∙ ap (λ (o : Option Session). option_map (told t now) o) (ap h.session (sym (same_key_is key other same)) ∙ is))

    no : same_key key other ≡ false → cond (same_key key other) (Some (told t now s)) (h.session other) ≡ option_map (λ (x : Session). cond (same_key key other) (told t now x) x) (h.session other)
    no apart =
        ap (λ (b : Bool). cond b (Some (told t now s)) (h.session other)) apart
        ∙ mapped (h.session other)
        ∙ sym (ap (λ (b : Bool). option_map (λ (x : Session). cond b (told t now x) x) (h.session other)) apart)

keeps_telling : (refusal : Option Refusal) (key : Key) (t : Telling) (s : Session) (w : Grand) → w.hub.session key ≡ Some s → WorldKeeps w → WorldKeeps (unless_ended refusal key t s w)
keeps_telling None key t s w is keeps =
    world_hub w (unless_ended None key t s w) keeps refl (λ other. at_one key other t w.now s w.hub is)
keeps_telling (Some refusal) key t s w is keeps = keeps

keeps_missing : (o : Option Row) (key : Key) (w : Grand) → WorldKeeps w → WorldKeeps (misses o key w)
unfolding missed same_hub
keeps_missing None key w keeps = world_hub w (misses None key w) keeps refl (λ other. record {
  call = λ (s : Session). s;
  kept = kept_itself;
  session = (same_hub w.hub other).session;
  rows = entry_agrees w.hub.registry _ other tt;
})
keeps_missing (Some r) key w keeps = keeps

keeps_tells : (key : Key) (found : Option Told) (w : Grand) → ((t : Told) → found ≡ Some t → w.hub.session key ≡ Some t.session) → WorldKeeps w → WorldKeeps (tells key found w)
keeps_tells key None w is keeps = keeps_missing (row w.hub key) key w keeps
keeps_tells key (Some t) w is keeps = keeps_telling (telling_refusal t.telling t.session) key t.telling t.session w (is t refl) keeps

keeps_without : (n : ℕ) (w : Grand) → WorldKeeps w → WorldKeeps (without_job n w)
keeps_without n w keeps = record { parts = keeps.parts; keys = keeps.keys; unknown = keeps.unknown }

keeps_job : (o : Option SeenJob) (n : ℕ) (w : Grand) → WorldKeeps w → WorldKeeps (work_by o n w)
keeps_job None n w keeps = keeps
keeps_job (Some job) n w keeps =
    keeps_tells job.key (told_by job w) (without_job n w)
    (λ t is. told_session (telling job.work) (row w.hub job.key) (w.hub.session job.key) t is) (keeps_without n w keeps)

pub keeps_work : (n : ℕ) (w : Grand) → WorldKeeps w → WorldKeeps (worked n w)
unfolding worked
keeps_work n w keeps = keeps_job (at_number w.jobs n) n w keeps
