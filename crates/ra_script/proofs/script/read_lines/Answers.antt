use Rattle.std.proofs.Common.{length, arith}
use Rattle.std.proofs.lemmas.Result.{err_from_is_err_and}
use Rattle.ra_script.specs.Lines.{script_by}
use Rattle.ra_script.proofs.Lines.{one_read, one_fault, none_left, fault_passes, is_some_text, shorter_rest}
use Rattle.ra_script.proofs.script.read_lines.Goals as goal

pub returns-in_err-read_numbered : goal.returns-in_err-read_numbered
returns-in_err-read_numbered g c =
    let says = g.L.ReadWords.says in
    let p = err_from_is_err_and c.from_residual.result c.from_residual.ensures.1 in
    let some = is_some_text (length c.loop-rest.rest.now) c.is_empty.result c.is_empty.ensures c.loop-rest-test.true in
    rw (p.1, p.2) (fault_passes c.in_err-read_numbered.field-0.0 _ (script_by says c.args.bytes.now) c.in_err-read_numbered.ensures
    (λ fault. one_fault says c.loop-rest.lines.items c.loop-rest.number c.loop-rest.rest.now c.first_line.result.0.now c.first_line.result.1.now fault (script_by says c.args.bytes.now) some c.first_line.ensures.line c.first_line.ensures.rest c.loop-rest.invariant.read))

pub loop-rest-preserved : goal.loop-rest-preserved
loop-rest-preserved g c =
    let says = g.L.ReadWords.says in
    let some = is_some_text (length c.loop-rest.rest.now) c.is_empty.result c.is_empty.ensures c.loop-rest-test.true in
    let shorter = shorter_rest c.loop-rest.rest.now c.first_line.result.1.now some c.first_line.ensures.rest in
    record {
      read = rw c.in_ok-push.ensures.items (one_read says c.loop-rest.lines.items c.loop-rest.number c.loop-rest.rest.now c.first_line.result.0.now c.first_line.result.1.now c.in_ok-read_numbered.field-0 (script_by says c.args.bytes.now) some c.first_line.ensures.line c.first_line.ensures.rest c.in_ok-read_numbered.ensures c.loop-rest.invariant.read);
      numbers = let numbers = c.loop-rest.invariant.numbers in omega arith;
    }

pub returns : goal.returns
returns g c = none_left g.L.ReadWords.says c.loop-rest.lines.items c.loop-rest.number c.loop-rest.rest.now (script_by g.L.ReadWords.says c.args.bytes.now) (grind arith) c.loop-rest.invariant.read
