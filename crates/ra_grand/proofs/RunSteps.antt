-- A run of events, one after the other.
use Rattle.std.proofs.Common.{◌≡◌, ℕ, zero, suc, ◌+◌, ◌<◌, ◌≤◌, Bool, true, false, ◌&&◌, is_none, Option, None, Some, Ok, Err, List, [], ◌∷◌, ◌++◌, map, take, length, get_or, refl, ap, sym, ◌∙◌, subst, arith}
use Rattle.std.specs.Prelude.{slice_get}
use Rattle.std.proofs.lemmas.List.{map-append, take_more}
use Rattle.ra_script.specs.declared.grand_line.GrandEvent.{GrandEvent}
use Rattle.ra_grand_runs.specs.declared.effect.GrandEffect.{GrandEffect}
use Rattle.ra_grand_runs.specs.declared.fault.GrandFault.{GrandFault}
use Rattle.ra_grand.specs.declared.world.GrandWorld.{GrandWorld}
use Rattle.ra_grand_runs.specs.Fits.{EventFits, RunFits}
use Rattle.ra_grand.specs.GrandEvents.{Ran, WasRefused}
use Rattle.ra_grand_runs.specs.GrandRefusals.{Refusal, refusal}
use Rattle.ra_grand_runs.specs.GrandRuns.{happens, unless, after, run, is_accepted}
use Rattle.ra_grand_runs.specs.Grands.{Grand, new_grand}
use Rattle.ra_grand.specs.GrandStates.{StandsForGrand}
use Rattle.ra_grand_runs.specs.GrandViews.{Applies}
use Rattle.ra_grand_runs.specs.Marks.{Entry}

-- so many of the events were applied
pub record RunsTo (events : List GrandEvent) (at : ℕ) (world : GrandWorld) : Type 0 where
  pub entries : List Entry
  pub events_are : map (λ (e : Entry). e.event) entries ≡ take at events
  pub accepted : is_accepted entries new_grand ≡ true
  pub fits : RunFits entries new_grand
  pub stands : StandsForGrand world (run entries new_grand)

pub runs_at_start : (events : List GrandEvent) (world : GrandWorld) → StandsForGrand world new_grand → RunsTo events 0 world
runs_at_start events world stands = record { entries = []; events_are = refl; accepted = refl; fits = tt {0}; stands = stands }

run_more : (entries : List Entry) (e : Entry) (w : Grand) → run (entries ++ e ∷ []) w ≡ after e (run entries w)
run_more [] e w = refl
run_more (x ∷ xs) e w = run_more xs e (after x w)

accepted_more : (entries : List Entry) (e : Entry) (w : Grand) → is_accepted entries w ≡ true → refusal e.event (run entries w) ≡ None → is_accepted (entries ++ e ∷ []) w ≡ true
accepted_more [] e w ok none = ap (λ (r : Option Refusal). is_none r && true) none
accepted_more (x ∷ xs) e w ok none =
    let both = both_of (is_none (refusal x.event w)) (is_accepted xs (after x w)) ok in
    ap (λ b. b && is_accepted (xs ++ e ∷ []) (after x w)) both.0 ∙ accepted_more xs e (after x w) both.1 none
  where
    both_of : (a b : Bool) → (a && b) ≡ true → (a ≡ true) × (b ≡ true)
    both_of true b h = (refl, h)
    both_of false b h = absurd cc

fits_more : (entries : List Entry) (e : Entry) (w : Grand) → RunFits entries w → EventFits e.mark e.event (run entries w) → RunFits (entries ++ e ∷ []) w
fits_more [] e w all one = (one, tt {0})
fits_more (x ∷ xs) e w all one = (all.0, fits_more xs e (after x w) all.1 one)

after_none : (e : Entry) (w : Grand) → refusal e.event w ≡ None → after e w ≡ happens e.mark e.event w
after_none e w none = ap (λ (r : Option Refusal). unless r (happens e.mark e.event w) w) none

is_at : (events : List GrandEvent) (at : ℕ) (event : GrandEvent) → at < length events → event ≡ get_or events at event → slice_get events at ≡ Some event
is_at [] at event less is = absurd (omega (arith, less))
is_at (x ∷ xs) zero event less is = ap (λ (e : GrandEvent). Some e) (sym is)
is_at (x ∷ xs) (suc at) event less is = is_at xs at event (omega (arith, less)) is

take_next : (events : List GrandEvent) (at : ℕ) (event : GrandEvent) → at < length events → event ≡ get_or events at event → take (at + 1) events ≡ take at events ++ event ∷ []
take_next events at event less is = take_more events at event less ∙ ap (λ (e : GrandEvent). take at events ++ e ∷ []) (sym is)

pub runs_on : (events : List GrandEvent) (at : ℕ) (event : GrandEvent) (answer : GrandEffect) (world next : GrandWorld) → at < length events → event ≡ get_or events at event
    → RunsTo events at world → ((w : Grand) → StandsForGrand world w → Applies (Ok answer) event w (StandsForGrand next)) → RunsTo events (at + 1) next
runs_on events at event answer world next less is so_far applies =
    let w = run so_far.entries new_grand in
    let made = applies w so_far.stands in
    let e : Entry = record { event = event; mark = made.0 } in record {
      entries = so_far.entries ++ e ∷ [];
      events_are =
          map-append (λ (x : Entry). x.event) so_far.entries (e ∷ [])
          ∙ ap (λ (es : List GrandEvent). es ++ event ∷ []) so_far.events_are
          ∙ sym (take_next events at event less is);
      accepted = accepted_more so_far.entries e new_grand so_far.accepted made.1;
      fits = fits_more so_far.entries e new_grand so_far.fits made.4;
      stands = subst (λ (v : Grand). StandsForGrand next v) (sym (run_more so_far.entries e new_grand ∙ after_none e w made.1)) made.3;
    }

all_taken : (events : List GrandEvent) (at : ℕ) → length events ≤ at → take at events ≡ events
all_taken [] zero most = refl
all_taken [] (suc at) most = refl
all_taken (x ∷ xs) zero most = absurd (omega (arith, most))
all_taken (x ∷ xs) (suc at) most = ap (λ es. x ∷ es) (all_taken xs at (omega (arith, most)))

pub ran : (events : List GrandEvent) (at : ℕ) (world : GrandWorld) → length events ≤ at → RunsTo events at world → Ran events world
ran events at world most so_far = record {
  entries = so_far.entries;
  events_are = so_far.events_are ∙ all_taken events at most;
  accepted = so_far.accepted;
  fits = so_far.fits;
  stands = so_far.stands;
}

pub refused : (events : List GrandEvent) (at : ℕ) (event : GrandEvent) (fault : GrandFault) (world next : GrandWorld) → at < length events → event ≡ get_or events at event
    → RunsTo events at world → ((w : Grand) → StandsForGrand world w → Applies (Err fault) event w (StandsForGrand next)) → WasRefused events at fault
refused events at event fault world next less is so_far applies = record {
  entries = so_far.entries;
  events_are = so_far.events_are;
  accepted = so_far.accepted;
  fits = so_far.fits;
  event = event;
  there = is_at events at event less is;
  cause = (applies (run so_far.entries new_grand) so_far.stands).0;
}
