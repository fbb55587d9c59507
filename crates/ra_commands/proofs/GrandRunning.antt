-- A grand script, line by line.
use Rattle.std.proofs.Common.{◌≡◌, ℕ, zero, suc, ◌+◌, ◌-◌, ◌^◌, ◌<◌, ◌≤◌, Bool, true, false, List, [], ◌∷◌, ◌++◌, length, drop, append_assoc, append-nil, refl, sym, ap, subst, ◌∙◌, arith}
use Rattle.std.specs.Prelude.{◌≢◌, Option, Some, None, Result, Ok, Err, IfOk, OnOk, slice_index_or}
use Rattle.std.proofs.lemmas.List.{drop_more, drop_all}
use Rattle.ra_base.specs.declared.memory.NoMemory.{NoMemory as Lacking}
use Rattle.ra_script.specs.declared.grand_line.GrandEvent.{GrandEvent}
use Rattle.ra_script.specs.declared.grand_line.GrandEvent.TheVariants.{Frame}
use Rattle.ra_script.specs.declared.grand_line.GrandLine.{GrandLine}
use Rattle.ra_script.specs.declared.grand_line.GrandLine.TheVariants.{Do, Drain}
use Rattle.ra_grand_runs.specs.declared.effect.GrandEffect.{GrandEffect}
use Rattle.ra_grand_runs.specs.declared.fault.GrandFault.{GrandFault}
use Rattle.ra_grand_runs.specs.declared.fault.GrandFault.TheVariants as faults
use Rattle.ra_grand_runs.specs.declared.fault.GrandFault.TheVariants.{NoMemory}
use Rattle.ra_grand.specs.declared.world.GrandWorld.{GrandWorld}
use Rattle.ra_grand_runs.specs.GrandEffects.{Effect, effect}
use Rattle.ra_grand_runs.specs.GrandRefusals.{Refusal, refusal}
use Rattle.ra_grand_runs.specs.GrandRuns.{happens}
use Rattle.ra_grand_runs.specs.Grands.{Grand, new_grand}
use Rattle.ra_grand.specs.GrandStates.{StandsForGrand}
use Rattle.ra_grand_runs.specs.GrandViews.{Applies, IsCause, effect_of}
use Rattle.ra_grand_runs.specs.Marks.{Mark, whole}
use Rattle.ra_endpoint_commands.specs.declared.report.Ending.{Ending}
use Rattle.ra_endpoint_commands.specs.declared.report.Ending.TheVariants.{Done, Refused}
use Rattle.ra_commands.specs.Grand.{GrandStep, refused_or, event_step, goes_on, and_then, frame_on, drain_within, drain_step, line_step, step_then, lines_report, world_line}
use Rattle.ra_commands.specs.GrandLines.{IsWhole, AddsLine, AddsFault, effect_text, made_word, grand_fault_line, grand_end_line}
use Rattle.ra_commands.specs.GrandSteps.{GrandMakes, GrandSteps, TakesOneFrame, RefusesFrame}
use Rattle.ra_endpoint_commands.specs.Lines.{line}
use Rattle.ra_endpoint_commands.specs.Receive.{Report, prefixed}
use Rattle.ra_endpoint_commands.specs.Stepping.{Adds}
use Rattle.ra_commands.proofs.WholeEvents.{as_whole}

-- ---- an event

-- it was applied whole, and its line was added
record WasApplied (event : GrandEvent) (world : GrandWorld) (before behind : List ℕ) (w : Grand) : Type 0 where
  free : refusal event w ≡ None
  stands : StandsForGrand world (happens whole event w)
  text : behind ≡ before ++ line (effect_text (made_word event) (effect whole event w))

was_applied : (event : GrandEvent) (answer : GrandEffect) (w : Grand) (next : GrandWorld) (before behind : List ℕ) → Applies (Ok answer) event w (StandsForGrand next)
    → AddsLine (made_word event) (effect_of answer) before behind → WasApplied event next before behind w
was_applied event answer w next before behind made adds =
    let same = as_whole made.0 event w (subst (λ (e : Effect). IsWhole e) made.2 adds.whole) in record {
      free = made.1;
      stands = subst (λ (v : Grand). StandsForGrand next v) same.1 made.3;
      text = adds.text ∙ ap (λ (e : Effect). before ++ line (effect_text (made_word event) e)) (made.2 ∙ same.0);
    }

pub event_done : (event : GrandEvent) (answer : GrandEffect) (w : Grand) (next : GrandWorld) (before behind : List ℕ) → Applies (Ok answer) event w (StandsForGrand next)
    → AddsLine (made_word event) (effect_of answer) before behind → GrandMakes next before behind (event_step event w) × ((event_step event w).cause ≡ None)
unfolding event_step
event_done event answer w next before behind made adds =
    let was = was_applied event answer w next before behind made adds in
    let text = line (effect_text (made_word event) (effect whole event w)) in
    let step : event_step event w ≡ record { text = text; world = happens whole event w; cause = None } =
    ap (λ (r : Option Refusal). refused_or r text (happens whole event w) w) was.free in (
      record {
        stands = subst (λ (v : Grand). StandsForGrand next v) (sym (ap (λ (s : GrandStep). s.world) step)) was.stands;
        text = was.text ∙ ap (λ (s : GrandStep). before ++ s.text) (sym step);
      },
      ap (λ (s : GrandStep). s.cause) step,
    )

none_some : {r : Refusal} → ◌≡◌ {A = Option Refusal} None (Some r) → ⊥
none_some e = cc

no_cause : (fault : GrandFault) → fault ≢ NoMemory → IsCause fault None → ⊥
no_cause (faults.NoSuchLink link) other is = none_some is
no_cause (faults.NoSuchClient client) other is = none_some is
no_cause (faults.NoSuchJob job there) other is = none_some is
no_cause (faults.TokenTaken client) other is = none_some is
no_cause (faults.NotDialling client) other is = none_some is
no_cause (faults.Over link) other is = none_some is
no_cause (faults.TooMany asked there) other is = none_some is
no_cause (faults.Session fault) other is = none_some is.2
no_cause NoMemory other is = other refl

some_cause : (fault : GrandFault) (cause : Option Refusal) → fault ≢ NoMemory → IsCause fault cause → (r : Refusal) × (cause ≡ Some r)
some_cause fault None other is = absurd (no_cause fault other is)
some_cause fault (Some r) other is = (r, refl)

pub event_refused : (event : GrandEvent) (fault : GrandFault) (w : Grand) (next : GrandWorld) (before : List ℕ) → Applies (Err fault) event w (StandsForGrand next) → fault ≢ NoMemory
    → GrandMakes next before before (event_step event w) × IsCause fault (event_step event w).cause
unfolding event_step
event_refused event fault w next before made other =
    let some = some_cause fault (refusal event w) other made.0 in
    let step : event_step event w ≡ record { text = []; world = w; cause = refusal event w } =
    ap (λ (r : Option Refusal). refused_or r (line (effect_text (made_word event) (effect whole event w))) (happens whole event w) w) some.1
    ∙ ap (λ (r : Option Refusal). let x : GrandStep = record { text = []; world = w; cause = r } in x) (sym some.1) in (
      record {
        stands = subst (λ (v : Grand). StandsForGrand next v) (sym (ap (λ (s : GrandStep). s.world) step)) made.1;
        text = sym (append-nil before) ∙ ap (λ (s : GrandStep). before ++ s.text) (sym step);
      },
      subst (λ (r : Option Refusal). IsCause fault r) (sym (ap (λ (s : GrandStep). s.cause) step)) made.0,
    )

-- ---- frames

pub frame_taken : (client : ℕ) (answer : GrandEffect) (w : Grand) (next : GrandWorld) (before behind : List ℕ) → Applies (Ok answer) (Frame client) w (StandsForGrand next)
    → AddsLine (made_word (Frame client)) (effect_of answer) before behind → TakesOneFrame client (goes_on (effect_of answer)) next before behind w
frame_taken client answer w next before behind made adds =
    let was = was_applied (Frame client) answer w next before behind made adds in
    let same = as_whole made.0 (Frame client) w (subst (λ (e : Effect). IsWhole e) made.2 adds.whole) in
    record { free = was.free; stands = was.stands; text = was.text; on = ap (λ (e : Effect). goes_on e) (made.2 ∙ same.0) }

-- frames were taken so far, and at most k more
pub record IsDraining (client : ℕ) (w0 : Grand) (k : ℕ) (s : GrandWorld) (before text : List ℕ) : Type 0 where
  pub w : Grand
  pub so_far : List ℕ
  pub stands : StandsForGrand s w
  pub text_is : text ≡ before ++ so_far
  pub same : drain_step client w0 ≡ and_then so_far (drain_within k client w)

then_nothing : (s : GrandStep) → s ≡ and_then [] s
then_nothing s = refl

pub draining_at_start : (client : ℕ) (w : Grand) (s : GrandWorld) (before : List ℕ) → StandsForGrand s w → IsDraining client w (2 ^ 64) s before before
unfolding drain_step
draining_at_start client w s before stands =
    record { w = w; so_far = []; stands = stands; text_is = sym (append-nil before); same = then_nothing (drain_within (2 ^ 64) client w) }

one_frame : (n client : ℕ) (w : Grand) → drain_within (suc n) client w
    ≡ frame_on (refusal (Frame client) w) (goes_on (effect whole (Frame client) w)) (line (effect_text (made_word (Frame client)) (effect whole (Frame client) w)))
    (happens whole (Frame client) w) w (drain_within n client)
unfolding drain_within
one_frame n client w = refl

then_then : (a b : List ℕ) (s : GrandStep) → and_then a (and_then b s) ≡ and_then (a ++ b) s
then_then a b s = ap (λ (t : List ℕ). let x : GrandStep = record { text = t; world = s.world; cause = s.cause } in x) (sym (append_assoc a b s.text))

draining_more : (client : ℕ) (w0 : Grand) (n : ℕ) (s s' : GrandWorld) (before text text' : List ℕ) (more : Bool) → more ≡ true → IsDraining client w0 (suc n) s before text
    → ((w : Grand) → StandsForGrand s w → TakesOneFrame client more s' text text' w) → IsDraining client w0 n s' before text'
draining_more client w0 n s s' before text text' more on d takes =
    let took = takes d.w d.stands in
    let done = effect whole (Frame client) d.w in
    let added = line (effect_text (made_word (Frame client)) done) in
    let next = happens whole (Frame client) d.w in record {
      w = next;
      so_far = d.so_far ++ added;
      stands = took.stands;
      text_is = took.text ∙ ap (λ (t : List ℕ). t ++ added) d.text_is ∙ append_assoc before d.so_far added;
      same =
          d.same
          ∙ ap (λ (x : GrandStep). and_then d.so_far x)
          (one_frame n client d.w
          ∙ ap (λ (r : Option Refusal). frame_on r (goes_on done) added next d.w (drain_within n client)) took.free
          ∙ ap (λ (b : Bool). frame_on None b added next d.w (drain_within n client)) (sym took.on ∙ on))
          ∙ then_then d.so_far added (drain_within n client next);
    }

drained_at : (client : ℕ) (w0 : Grand) (n : ℕ) (s s' : GrandWorld) (before text text' : List ℕ) (more : Bool) → more ≡ false → IsDraining client w0 (suc n) s before text
    → ((w : Grand) → StandsForGrand s w → TakesOneFrame client more s' text text' w) → GrandMakes s' before text' (drain_step client w0) × ((drain_step client w0).cause ≡ None)
drained_at client w0 n s s' before text text' more off d takes =
    let took = takes d.w d.stands in
    let done = effect whole (Frame client) d.w in
    let added = line (effect_text (made_word (Frame client)) done) in
    let next = happens whole (Frame client) d.w in
    let step : drain_step client w0 ≡ record { text = d.so_far ++ added; world = next; cause = None } =
    d.same
    ∙ ap (λ (x : GrandStep). and_then d.so_far x)
    (one_frame n client d.w
    ∙ ap (λ (r : Option Refusal). frame_on r (goes_on done) added next d.w (drain_within n client)) took.free
    ∙ ap (λ (b : Bool). frame_on None b added next d.w (drain_within n client)) (sym took.on ∙ off)) in (
      record {
        stands = subst (λ (v : Grand). StandsForGrand s' v) (sym (ap (λ (x : GrandStep). x.world) step)) took.stands;
        text = took.text ∙ ap (λ (t : List ℕ). t ++ added) d.text_is ∙ append_assoc before d.so_far added ∙ ap (λ (x : GrandStep). before ++ x.text) (sym step);
      },
      ap (λ (x : GrandStep). x.cause) step,
    )

refused_at : (client : ℕ) (w0 : Grand) (n : ℕ) (s s' : GrandWorld) (before text text' : List ℕ) (fault : GrandFault) → IsDraining client w0 (suc n) s before text
    → ((w : Grand) → StandsForGrand s w → fault ≢ NoMemory → RefusesFrame client fault s' text text' w) → fault ≢ NoMemory
    → GrandMakes s' before text' (drain_step client w0) × IsCause fault (drain_step client w0).cause
refused_at client w0 n s s' before text text' fault d takes other =
    let not = takes d.w d.stands other in
    let some = some_cause fault (refusal (Frame client) d.w) other not.cause in
    let done = effect whole (Frame client) d.w in
    let added = line (effect_text (made_word (Frame client)) done) in
    let step : drain_step client w0 ≡ record { text = d.so_far ++ []; world = d.w; cause = Some some.0 } =
    d.same
    ∙ ap (λ (x : GrandStep). and_then d.so_far x)
    (one_frame n client d.w ∙ ap (λ (r : Option Refusal). frame_on r (goes_on done) added (happens whole (Frame client) d.w) d.w (drain_within n client)) some.1) in (
      record {
        stands = subst (λ (v : Grand). StandsForGrand s' v) (sym (ap (λ (x : GrandStep). x.world) step)) not.stands;
        text = not.text ∙ d.text_is ∙ ap (λ (t : List ℕ). before ++ t) (sym (append-nil d.so_far)) ∙ ap (λ (x : GrandStep). before ++ x.text) (sym step);
      },
      subst (λ (r : Option Refusal). IsCause fault r) (some.1 ∙ sym (ap (λ (x : GrandStep). x.cause) step)) not.cause,
    )

-- the same, where this many more may be taken
at_count : (client : ℕ) (w0 : Grand) (k n : ℕ) (s : GrandWorld) (before text : List ℕ) → k ≡ suc n → IsDraining client w0 k s before text → IsDraining client w0 (suc n) s before text
at_count client w0 k n s before text is d = subst (λ (m : ℕ). IsDraining client w0 m s before text) is d

pub draining_on : (client : ℕ) (w0 : Grand) (k n : ℕ) (s s' : GrandWorld) (before text text' : List ℕ) (more : Bool) → k ≡ suc n → more ≡ true → IsDraining client w0 k s before text
    → ((w : Grand) → StandsForGrand s w → TakesOneFrame client more s' text text' w) → IsDraining client w0 n s' before text'
draining_on client w0 k n s s' before text text' more is on d takes =
    draining_more client w0 n s s' before text text' more on (at_count client w0 k n s before text is d) takes

pub drained : (client : ℕ) (w0 : Grand) (k n : ℕ) (s s' : GrandWorld) (before text text' : List ℕ) (more : Bool) → k ≡ suc n → more ≡ false → IsDraining client w0 k s before text
    → ((w : Grand) → StandsForGrand s w → TakesOneFrame client more s' text text' w) → GrandMakes s' before text' (drain_step client w0) × ((drain_step client w0).cause ≡ None)
drained client w0 k n s s' before text text' more is off d takes =
    drained_at client w0 n s s' before text text' more off (at_count client w0 k n s before text is d) takes

pub drain_refused : (client : ℕ) (w0 : Grand) (k n : ℕ) (s s' : GrandWorld) (before text text' : List ℕ) (fault : GrandFault) → k ≡ suc n → IsDraining client w0 k s before text
    → ((w : Grand) → StandsForGrand s w → fault ≢ NoMemory → RefusesFrame client fault s' text text' w) → fault ≢ NoMemory
    → GrandMakes s' before text' (drain_step client w0) × IsCause fault (drain_step client w0).cause
drain_refused client w0 k n s s' before text text' fault is d takes other =
    refused_at client w0 n s s' before text text' fault (at_count client w0 k n s before text is d) takes other

-- ---- lines

do_line : (event : GrandEvent) (w : Grand) → line_step (Do event) w ≡ event_step event w
unfolding line_step
do_line event w = refl

drain_line : (client : ℕ) (w : Grand) → line_step (Drain client) w ≡ drain_step client w
unfolding line_step
drain_line client w = refl

pub steps_do : (r : Result (Unit {0}) GrandFault) (event : GrandEvent) (s : GrandWorld) (before behind : List ℕ) (w : Grand) → GrandSteps r s before behind (event_step event w)
    → GrandSteps r s before behind (line_step (Do event) w)
steps_do r event s before behind w is = subst (λ (step : GrandStep). GrandSteps r s before behind step) (sym (do_line event w)) is

pub steps_drain : (r : Result (Unit {0}) GrandFault) (client : ℕ) (s : GrandWorld) (before behind : List ℕ) (w : Grand) → GrandSteps r s before behind (drain_step client w)
    → GrandSteps r s before behind (line_step (Drain client) w)
steps_drain r client s before behind w is = subst (λ (step : GrandStep). GrandSteps r s before behind step) (sym (drain_line client w)) is

-- what was printed so far, and the world in which the rest is run
pub record IsRunning (lines rest : List GrandLine) (n : ℕ) (s : GrandWorld) (before text : List ℕ) : Type 0 where
  pub w : Grand
  pub so_far : List ℕ
  pub stands : StandsForGrand s w
  pub text_is : text ≡ before ++ so_far
  pub same : lines_report 1 lines new_grand ≡ prefixed so_far (lines_report n rest w)

pub running_at_start : (lines : List GrandLine) (s : GrandWorld) (before : List ℕ) → StandsForGrand s new_grand → IsRunning lines lines 1 s before before
running_at_start lines s before stands = record { w = new_grand; so_far = []; stands = stands; text_is = sym (append-nil before); same = refl }

prefixed_both : (a b : List ℕ) (r : Report) → prefixed a (prefixed b r) ≡ prefixed (a ++ b) r
prefixed_both a b r = ap (λ (t : List ℕ). let x : Report = record { text = t; ending = r.ending } in x) (sym (append_assoc a b r.text))

line_then : (n : ℕ) (l : GrandLine) (rest : List GrandLine) (w : Grand)
    → lines_report n (l ∷ rest) w ≡ step_then (line_step l w).cause n (line_step l w).text (lines_report (n + 1) rest (line_step l w).world)
unfolding lines_report
line_then n l rest w = refl

line_at : (lines : List GrandLine) (i : ℕ) (l : GrandLine) → i < length lines → l ≡ slice_index_or lines i l → drop i lines ≡ l ∷ drop (i + 1) lines
line_at lines i l there is = drop_more lines i l there ∙ ap (λ (x : GrandLine). x ∷ drop (i + 1) lines) (sym is)

pub line_on : (lines : List GrandLine) (i : ℕ) (l : GrandLine) (s s' : GrandWorld) (before text text' : List ℕ) → i < length lines → l ≡ slice_index_or lines i l
    → IsRunning lines (drop i lines) (i + 1) s before text
    → ((w : Grand) → StandsForGrand s w → GrandMakes s' text text' (line_step l w) × ((line_step l w).cause ≡ None))
    → IsRunning lines (drop (i + 1) lines) (i + 1 + 1) s' before text'
line_on lines i l s s' before text text' there is before_it makes =
    let r = subst (λ (x : List GrandLine). IsRunning lines x (i + 1) s before text) (line_at lines i l there is) before_it in
    let m = makes r.w r.stands in
    let step : GrandStep = line_step l r.w in
    let others = lines_report (i + 1 + 1) (drop (i + 1) lines) step.world in record {
      w = step.world;
      so_far = r.so_far ++ step.text;
      stands = m.0.stands;
      text_is = m.0.text ∙ ap (λ (t : List ℕ). t ++ step.text) r.text_is ∙ append_assoc before r.so_far step.text;
      same = r.same
          ∙ ap (prefixed r.so_far) (line_then (i + 1) l (drop (i + 1) lines) r.w ∙ ap (λ (c : Option Refusal). step_then c (i + 1) step.text others) m.1)
          ∙ prefixed_both r.so_far step.text others;
    }

report_of : (lines : List GrandLine) (before text so_far more : List ℕ) (end : Ending) → text ≡ (before ++ so_far) ++ more
    → lines_report 1 lines new_grand ≡ prefixed so_far (record { text = more; ending = end }) → Adds (lines_report 1 lines new_grand) before text end
report_of lines before text so_far more end is same = record {
  text = is ∙ append_assoc before so_far more ∙ ap (λ (r : Report). before ++ r.text) (sym same);
  ending = ap (λ (r : Report). r.ending) (sym same);
}

-- a line is refused, and its cause was added
pub line_off : (lines : List GrandLine) (i : ℕ) (l : GrandLine) (s s' : GrandWorld) (fault : GrandFault) (before text text' last : List ℕ) → i < length lines → l ≡ slice_index_or lines i l
    → IsRunning lines (drop i lines) (i + 1) s before text
    → ((w : Grand) → StandsForGrand s w → fault ≢ NoMemory → GrandMakes s' text text' (line_step l w) × IsCause fault (line_step l w).cause) → fault ≢ NoMemory
    → ((cause : Option Refusal) → IsCause fault cause → AddsFault (i + 1) cause text' last) → Adds (lines_report 1 lines new_grand) before last Refused
line_off lines i l s s' fault before text text' last there is before_it makes other adds =
    let r = subst (λ (x : List GrandLine). IsRunning lines x (i + 1) s before text) (line_at lines i l there is) before_it in
    let m = makes r.w r.stands other in
    let step : GrandStep = line_step l r.w in
    let added = adds step.cause m.1 in
    let others = lines_report (i + 1 + 1) (drop (i + 1) lines) step.world in
    report_of lines before last r.so_far (step.text ++ grand_fault_line (i + 1) added.0) Refused
    (added.2
    ∙ ap (λ (t : List ℕ). t ++ grand_fault_line (i + 1) added.0) (m.0.text ∙ ap (λ (t : List ℕ). t ++ step.text) r.text_is)
    ∙ append_assoc (before ++ r.so_far) step.text (grand_fault_line (i + 1) added.0))
    (r.same ∙ ap (prefixed r.so_far) (line_then (i + 1) l (drop (i + 1) lines) r.w ∙ ap (λ (c : Option Refusal). step_then c (i + 1) step.text others) added.1))

-- all lines were run
no_lines : (n : ℕ) (w : Grand) → lines_report n [] w ≡ record { text = world_line w; ending = Done }
unfolding lines_report
no_lines n w = refl

pub lines_over : (lines : List GrandLine) (i : ℕ) (s : GrandWorld) (before text last : List ℕ) → length lines ≤ i → IsRunning lines (drop i lines) (i + 1) s before text
    → ((w : Grand) → StandsForGrand s w → last ≡ text ++ world_line w) → Adds (lines_report 1 lines new_grand) before last Done
lines_over lines i s before text last all before_it printed =
    let r = subst (λ (x : List GrandLine). IsRunning lines x (i + 1) s before text) (drop_all i lines all) before_it in
    report_of lines before last r.so_far (world_line r.w) Done
    (printed r.w r.stands ∙ ap (λ (t : List ℕ). t ++ world_line r.w) r.text_is)
    (r.same ∙ ap (prefixed r.so_far) (no_lines (i + 1) r.w))

-- ---- the last line

pub world_printed : (r : Result (Unit {0}) Lacking) (s : GrandWorld) (clients links jobs : ℕ) (before behind : List ℕ)
    → ((w : Grand) → StandsForGrand s w → clients ≡ length w.clients) → ((w : Grand) → StandsForGrand s w → links ≡ length w.places) → ((w : Grand) → StandsForGrand s w → jobs ≡ length w.jobs)
    → OnOk r (behind ≡ before ++ grand_end_line clients links jobs) → OnOk r ((w : Grand) → StandsForGrand s w → behind ≡ before ++ world_line w)
unfolding world_line
world_printed (Err e) s clients links jobs before behind one two three printed = printed
world_printed (Ok u) s clients links jobs before behind one two three printed = λ w stands.
    printed
    ∙ ap (λ (n : ℕ). before ++ grand_end_line n links jobs) (one w stands)
    ∙ ap (λ (n : ℕ). before ++ grand_end_line (length w.clients) n jobs) (two w stands)
    ∙ ap (λ (n : ℕ). before ++ grand_end_line (length w.clients) (length w.places) n) (three w stands)
