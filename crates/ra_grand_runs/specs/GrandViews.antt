-- How a contract sees what an event answers.
use Rattle.std.specs.Prelude.{◌≡◌, ℕ, Option, Some, None, Result, Ok, Err, List}
use Rattle.ra_ipc.specs.View.{id_of}
use Rattle.ra_link_core.specs.Makes.{Outcome, goes, over, unkept, short, outcome_of as ends_of}
use Rattle.ra_session.specs.SessionRefusals.{Refusal as SessionRefusal, IsRefusal}
use Rattle.ra_ipc.specs.ChannelPairs.{cancelled}
use Rattle.ra_dial.specs.Acts.{act_of}
use Rattle.ra_grand_runs.specs.declared.effect.GrandEffect.{GrandEffect}
use Rattle.ra_grand_runs.specs.declared.effect.GrandEffect.TheVariants as seen
use Rattle.ra_grand_runs.specs.declared.fault.GrandFault.{GrandFault}
use Rattle.ra_grand_runs.specs.declared.fault.GrandFault.TheVariants as faults
use Rattle.ra_grand_runs.specs.Fits.{EventFits}
use Rattle.ra_grand_runs.specs.GrandEffects.{Effect, done, made, acts, moved, broke, swept, issued, outcome, effect}
use Rattle.ra_grand_runs.specs.GrandRefusals.{Refusal, no_such_link, no_such_client, no_such_job, token_taken, not_dialling, link_over, too_many, of_session, refusal}
use Rattle.ra_grand_runs.specs.GrandRuns.{happens}
use Rattle.ra_grand_runs.specs.Grands.{Grand}
use Rattle.ra_grand_runs.specs.Marks.{Mark}
use Rattle.ra_script.specs.declared.grand_line.GrandEvent.{GrandEvent}

-- memory ran out, or a record was not kept, where the link was cut short
abbrev pub moved_to : List ℕ → Outcome → Effect
moved_to bytes goes = moved bytes None
moved_to bytes (over end) = moved bytes (Some end)
moved_to bytes unkept = broke bytes
moved_to bytes short = broke bytes

abbrev pub effect_of : GrandEffect → Effect
effect_of seen.Done = done
effect_of (seen.Made number) = made number
effect_of (seen.Act act) = acts (act_of act)
effect_of (seen.Moved bytes end) = moved_to bytes (ends_of end)
effect_of (seen.Swept sweep) = swept sweep.expired sweep.short
effect_of (seen.Issued id) = issued (id_of id)
effect_of seen.Cancelled = outcome cancelled

-- the fault is this cause, or memory ran out
abbrev pub IsCause : GrandFault → Option Refusal → Type 0
IsCause (faults.NoSuchLink link) cause = cause ≡ Some (no_such_link link)
IsCause (faults.NoSuchClient client) cause = cause ≡ Some (no_such_client client)
IsCause (faults.NoSuchJob job there) cause = cause ≡ Some (no_such_job job there)
IsCause (faults.TokenTaken client) cause = cause ≡ Some (token_taken client)
IsCause (faults.NotDialling client) cause = cause ≡ Some (not_dialling client)
IsCause (faults.Over link) cause = cause ≡ Some (link_over link)
IsCause (faults.TooMany asked there) cause = cause ≡ Some (too_many asked there)
IsCause (faults.Session fault) cause = (r : SessionRefusal) × IsRefusal fault (Some r) × (cause ≡ Some (of_session r))
IsCause faults.NoMemory cause = Unit {0}

-- it was applied so far as a mark tells, which fits the world, or refused, and then all is as it was
abbrev pub Applies : Result GrandEffect GrandFault → GrandEvent → Grand → (Grand → Type 0) → Type 0
Applies (Ok answer) event w After = (mark : Mark) × (refusal event w ≡ None) × (effect_of answer ≡ effect mark event w) × After (happens mark event w) × EventFits mark event w
Applies (Err fault) event w After = IsCause fault (refusal event w) × After w

-- it goes on exactly where there is no cause, unless memory ran out
abbrev pub Causes : {X : Type 0} → Result X GrandFault → Option Refusal → Type 0
Causes (Ok x) cause = cause ≡ None
Causes (Err fault) cause = IsCause fault cause

-- no cause refused the event, it answers this, and this holds then; or the cause refused it, and all is as it was
abbrev pub Answers : Result GrandEffect GrandFault → Option Refusal → Effect → (Changed Same : Type 0) → Type 0
Answers (Ok answer) cause effect Changed Same = (cause ≡ None) × (effect_of answer ≡ effect) × Changed
Answers (Err fault) cause effect Changed Same = IsCause fault cause × Same
