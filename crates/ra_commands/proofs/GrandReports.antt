-- A grand script that was read, and what is written for it.
use Rattle.std.proofs.Common.{◌≡◌, ℕ, ◌<◌, ◌≤◌, Bool, true, false, cond, List, [], ◌++◌, length, take, drop, sym, ap, ◌∙◌, arith, rules}
use Rattle.std.specs.Prelude.{nat_lt, Option, Some}
use Rattle.std.specs.Io.KnownBytes.{Appends}
use Rattle.std.proofs.lemmas.List.{take-append-drop}
use Rattle.ra_script.specs.GrandReading.{grand_script_at}
use Rattle.ra_ports.specs.Causes.{AppendsFront}
use Rattle.ra_ports.specs.Texts.{WroteFront}
use Rattle.ra_endpoint_commands.specs.declared.read_whole.Input.{Input}
use Rattle.ra_endpoint_commands.specs.declared.read_whole.Input.TheVariants.{Whole, Over}
use Rattle.ra_endpoint_commands.specs.declared.report.Ending.{Ending}
use Rattle.ra_endpoint_commands.specs.declared.report.Ending.TheVariants.{Done, Refused}
use Rattle.ra_endpoint_commands.specs.WholeInput.{IsInput}
use Rattle.ra_endpoint_commands.specs.Receive.{Report}
use Rattle.ra_endpoint_commands.specs.Progress.{IsReported}
use Rattle.ra_commands.specs.Grand.{script_report, input_report, grand_report}
use Rattle.ra_endpoint_commands.specs.Replay.{script_limit, over_report}
use Rattle.ra_endpoint_commands.specs.Stepping.{Adds}
use Rattle.ra_endpoint_commands.proofs.Runs.{some_taken}

by_length : (b : Bool) (bytes : List ℕ) → nat_lt script_limit (length bytes) ≡ b → grand_report bytes ≡ cond b over_report (script_report (grand_script_at bytes))
unfolding grand_report
by_length b bytes is = ap (λ (x : Bool). cond x over_report (script_report (grand_script_at bytes))) is

within : (limit n : ℕ) → n ≤ limit → nat_lt limit n ≡ false
within limit n few = search (rules, few)

above : (limit n : ℕ) → limit < n → nat_lt limit n ≡ true
above limit n many = search (rules, many)

-- the report of an input that was read
pub read_report : (input : Input) (left left' : Option (List ℕ)) (bytes : List ℕ) → left ≡ Some bytes → IsInput script_limit input left left' → grand_report bytes ≡ input_report input
read_report (Whole v) left left' bytes is h =
    let same : v.items ≡ bytes = (h.1 bytes is).0 in
    let few : length bytes ≤ script_limit = omega (arith, h.0, ap length same) in
    by_length false bytes (within script_limit (length bytes) few) ∙ ap (λ (t : List ℕ). script_report (grand_script_at t)) (sym same)
read_report Over left left' bytes is h = by_length true bytes (above script_limit (length bytes) (h bytes is))

read_to_end : (input : Input) (left left' : Option (List ℕ)) (bytes : List ℕ) (end : Ending) → left ≡ Some bytes → IsInput script_limit input left left' → end ≡ (input_report input).ending → end ≡ Done → left' ≡ Some []
read_to_end (Whole v) left left' bytes end is h e done = (h.1 bytes is).1
read_to_end Over left left' bytes end is h e done = absurd (let no : Refused ≡ Done = sym e ∙ done in cc)

added : (report : Report) (start text : List ℕ) (end : Ending) → start ≡ [] → Adds report start text end → text ≡ report.text
added report start text end none a = a.text ∙ ap (λ (t : List ℕ). t ++ report.text) none

pub grand_done : (input : Input) (left left' to to' : Option (List ℕ)) (start text written : List ℕ) (end : Ending) → IsInput script_limit input left left' → start ≡ [] → Adds (input_report input) start text end
    → written ≡ text → Appends to to' written → (bytes before : List ℕ) → left ≡ Some bytes → to ≡ Some before → IsReported grand_report bytes before end left' to'
grand_done input left left' to to' start text written end h none a same wrote bytes before is taken =
    let report : grand_report bytes ≡ input_report input = read_report input left left' bytes is h in
    record {
      text = record {
        now = some_taken to to' written before taken wrote ∙ ap (λ (t : List ℕ). Some (before ++ t)) (same ∙ added (input_report input) start text end none a ∙ ap (λ (r : Report). r.text) (sym report));
      };
      ending = a.ending ∙ ap (λ (r : Report). r.ending) (sym report);
      read = read_to_end input left left' bytes end is h a.ending;
    }

pub grand_front : (input : Input) (left left' to to' : Option (List ℕ)) (start text written : List ℕ) (end : Ending) → IsInput script_limit input left left' → start ≡ [] → Adds (input_report input) start text end
    → written ≡ text → AppendsFront to to' written → (bytes before : List ℕ) → left ≡ Some bytes → to ≡ Some before → WroteFront before (grand_report bytes).text to'
grand_front input left left' to to' start text written end h none a same wrote bytes before is taken =
    let report : grand_report bytes ≡ input_report input = read_report input left left' bytes is h in
    let n = wrote.0 in
    record {
      written = take n written;
      more = drop n written;
      parts = ap (λ (r : Report). r.text) report ∙ sym (same ∙ added (input_report input) start text end none a) ∙ sym (take-append-drop n written);
      now = some_taken to to' (take n written) before taken wrote.1;
    }
