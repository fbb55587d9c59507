-- The program by its words.
use Rattle.std.proofs.Common.{◌≡◌, ℕ, List, take, drop, sym, refl}
use Rattle.std.specs.Prelude.{Option, Some, Result, Ok, Err, IfOk, OnErr}
use Rattle.std.specs.Io.KnownBytes.{Appends}
use Rattle.std.proofs.lemmas.List.{take-append-drop}
use Rattle.ra_ports.specs.Causes.{AppendsFront}
use Rattle.ra_ports.specs.Texts.{Told, WroteAll, WroteFront}
use Rattle.ra_endpoint_commands.specs.declared.report.Ending.{Ending}
use Rattle.ra_endpoint_commands.specs.declared.report.Ending.TheVariants.{Done, Refused}
use Rattle.ra_endpoint_commands.specs.declared.report.Fault.{Fault}
use Rattle.ra_commands.specs.declared.command.Command.TheVariants.{Receive, Replay, Grand, Soak}
use Rattle.ra_endpoint_commands.specs.Receive.{receive_report}
use Rattle.ra_endpoint_commands.specs.Progress.{IsReported}
use Rattle.ra_commands.specs.Grand.{grand_report}
use Rattle.ra_endpoint_commands.specs.Replay.{replay_report}
use Rattle.ra_endpoint_commands.specs.Soak.{soak_text}
use Rattle.ra_commands.specs.Programs.{report_of, status_of, IsPrinted}
use Rattle.ra_endpoint_commands.proofs.Runs.{some_taken}

-- a text of which a front was written
pub front_of_text : (text before : List ℕ) (to to' : Option (List ℕ)) → to ≡ Some before → AppendsFront to to' text → WroteFront before text to'
front_of_text text before to to' is wrote =
    let n = wrote.0 in
    record { written = take n text; more = drop n text; parts = sym (take-append-drop n text); now = some_taken to to' (take n text) before is wrote.1 }

pub all_of_text : (text before : List ℕ) (to to' : Option (List ℕ)) → to ≡ Some before → Appends to to' text → WroteAll before text to'
all_of_text text before to to' is wrote = record { now = some_taken to to' text before is wrote }

pub printed_receive : (input before : List ℕ) (end : Ending) (left taken : Option (List ℕ)) → IsReported receive_report input before end left taken → IsPrinted Receive input before end left taken
printed_receive input before end left taken r = record { text = r.text; ending = r.ending; read = r.read }

pub printed_replay : (input before : List ℕ) (end : Ending) (left taken : Option (List ℕ)) → IsReported replay_report input before end left taken → IsPrinted Replay input before end left taken
printed_replay input before end left taken r = record { text = r.text; ending = r.ending; read = r.read }

pub printed_grand : (input before : List ℕ) (end : Ending) (left taken : Option (List ℕ)) → IsReported grand_report input before end left taken → IsPrinted Grand input before end left taken
printed_grand input before end left taken r = record { text = r.text; ending = r.ending; read = r.read }

pub printed_soak : (start steps : ℕ) (input before : List ℕ) (end : Ending) (left to to' : Option (List ℕ)) → left ≡ Some input → to ≡ Some before → end ≡ Done → Appends to to' (soak_text start steps)
    → IsPrinted (Soak start steps) input before end left to'
printed_soak start steps input before end left to to' here is done wrote = record { text = all_of_text (soak_text start steps) before to to' is wrote; ending = done; read = λ e. here }

pub done_from_zero : (ending : Ending) → status_of ending ≡ 0 → ending ≡ Done
done_from_zero Done e = refl
done_from_zero Refused e = absurd cc

-- ---- each command

pub receive_done : (r : Result Ending Fault) (left left' to to' : Option (List ℕ)) → IfOk r (λ end. Told left to (λ input before. IsReported receive_report input before end left' to'))
    → IfOk r (λ end. Told left to (λ input before. IsPrinted Receive input before end left' to'))
receive_done (Ok end) left left' to to' h = λ input before here is. printed_receive input before end left' to' (h input before here is)
receive_done (Err fault) left left' to to' h = tt

pub replay_done : (r : Result Ending Fault) (left left' to to' : Option (List ℕ)) → IfOk r (λ end. Told left to (λ input before. IsReported replay_report input before end left' to'))
    → IfOk r (λ end. Told left to (λ input before. IsPrinted Replay input before end left' to'))
replay_done (Ok end) left left' to to' h = λ input before here is. printed_replay input before end left' to' (h input before here is)
replay_done (Err fault) left left' to to' h = tt

pub grand_done : (r : Result Ending Fault) (left left' to to' : Option (List ℕ)) → IfOk r (λ end. Told left to (λ input before. IsReported grand_report input before end left' to'))
    → IfOk r (λ end. Told left to (λ input before. IsPrinted Grand input before end left' to'))
grand_done (Ok end) left left' to to' h = λ input before here is. printed_grand input before end left' to' (h input before here is)
grand_done (Err fault) left left' to to' h = tt

pub soak_front : (r : Result Ending Fault) (start steps : ℕ) (left to to' : Option (List ℕ)) → OnErr r (AppendsFront to to' (soak_text start steps))
    → OnErr r (Told left to (λ input before. WroteFront before (report_of (Soak start steps) input).text to'))
soak_front (Ok end) start steps left to to' h = tt
soak_front (Err fault) start steps left to to' h = λ input before here is. front_of_text (soak_text start steps) before to to' is h
