use Rattle.std.proofs.Common.{◌≡◌, map, string_bytes, sym, ap, ◌∙◌, rules}
use Rattle.std.specs.Prelude.{Some, None}
use Rattle.ra_endpoint_commands.specs.Lines.{usage_line}
use Rattle.ra_commands.specs.Programs.{command_of, status_of}
use Rattle.ra_commands.proofs.ProgramLemmas.{front_of_text, all_of_text, done_from_zero}
use Rattle.ra_commands.proofs.plain.run_plain.Goals as goal

pub returns-in_default-write_all-clause-front : goal.returns-in_default-write_all-clause-front
returns-in_default-write_all-clause-front g c = λ broken input before source sink.
    let none : command_of (map string_bytes c.args.words.now) ≡ None = search rules in
    rw none (front_of_text usage_line before _ _ sink c.in_default-write_all.ensures.err)

pub returns-in_default-clause-output : goal.returns-in_default-clause-output
returns-in_default-clause-output g c = λ written input before source sink.
    let none : command_of (map string_bytes c.args.words.now) ≡ None = search rules in
    rw none (all_of_text usage_line before _ _ sink c.in-Ok.ensures.ok)

pub returns-in-Ok-run-clause-status : goal.returns-in-Ok-run-clause-status
returns-in-Ok-run-clause-status g c = λ written input before source sink.
    let some : command_of (map string_bytes c.args.words.now) ≡ Some c.in-Some.command = search rules in
    let done = c.in-Ok-run.ensures.done input before source sink in
    rw some (c.status_of.ensures ∙ ap status_of done.ending)

pub returns-in-Ok-run-clause-read_all : goal.returns-in-Ok-run-clause-read_all
returns-in-Ok-run-clause-read_all g c = λ zero input before source sink.
    let some : command_of (map string_bytes c.args.words.now) ≡ Some c.in-Some.command = search rules in
    let done = c.in-Ok-run.ensures.done input before source sink in
    rw some (done.read (done_from_zero c.in-Ok-run.ending (sym c.status_of.ensures ∙ zero)))
