use Rattle.std.proofs.Common.{ℕ, drop, take, Err, ap, ◌∙◌, arith}
use Rattle.std.proofs.lemmas.Result.{err_from_is_err_and}
use Rattle.ra_values.specs.View.{tree}
use Rattle.ra_values.specs.Spelling.{levels}
use Rattle.ra_values.proofs.Once.{spelled_fits}
use Rattle.ra_ipc.specs.declared.fault.PacketFault.TheVariants as faults
use Rattle.ra_ipc.proofs.Readings.{context_value, context_fault, trailing_after, nothing_after}
use Rattle.ra_ipc.proofs.decoding.decode_context.Goals as goal

pub returns-in_err-value-clause-answer : goal.returns-in_err-value-clause-answer
returns-in_err-value-clause-answer c =
    let p = err_from_is_err_and c.from_residual.result c.from_residual.ensures.1 in
    rw (p.1, p.2) (λ more. context_fault c.args.bytes.now c.in_err-value.field-0.0 (c.in_err-value.ensures.reads c.args.bytes.now (omega arith) more))

pub returns-then-len-bytes-clause-answer : goal.returns-then-len-bytes-clause-answer
returns-then-len-bytes-clause-answer c = λ _.
    context_value c.args.bytes.now (drop c.in_ok-value.len c.args.bytes.now) (tree c.in_ok-value.value) (c.in_ok-value.ensures.reads c.args.bytes.now (omega arith))
    ∙ trailing_after c.args.bytes.now c.args.bytes.now 0 c.in_ok-value.len (tree c.in_ok-value.value) (omega arith) (omega arith)
    ∙ ap (λ (at : ℕ). Err (faults.Trailing at)) (omega arith)

pub returns-clause-fits : goal.returns-clause-fits
returns-clause-fits c = spelled_fits levels (tree c.in_ok-value.value) (take c.in_ok-value.len c.args.bytes.now) c.in_ok-value.ensures.found

pub returns-clause-answer : goal.returns-clause-answer
returns-clause-answer c =
    context_value c.args.bytes.now (drop c.in_ok-value.len c.args.bytes.now) (tree c.in_ok-value.value) (c.in_ok-value.ensures.reads c.args.bytes.now (omega arith))
    ∙ nothing_after c.args.bytes.now c.args.bytes.now c.in_ok-value.len (tree c.in_ok-value.value) (omega arith)
