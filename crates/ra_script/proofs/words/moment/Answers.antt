use Rattle.std.proofs.Common.{sym, arith}
use Rattle.std.proofs.lemmas.Result.{err_from_is_err_and}
use Rattle.ra_script.specs.Words.{moment_limit}
use Rattle.ra_script.proofs.Numbers.{number_below, number_above, number_bad}
use Rattle.ra_script.proofs.words.moment.Goals as goal

pub returns-in_err-n : goal.returns-in_err-n
returns-in_err-n c =
    let bad = number_bad moment_limit c.args.word.now c.in_err-n.field-0.0 (omega arith) (sym c.in_err-n.ensures) in
    let p = err_from_is_err_and c.from_residual.result c.from_residual.ensures.1 in rw (p.1, p.2) (sym bad)

pub returns-then-n : goal.returns-then-n
returns-then-n c = sym (number_below moment_limit c.in_ok-n.n c.args.word.now (omega arith) (sym c.in_ok-n.ensures) c.if-n.true)

pub returns-else-n : goal.returns-else-n
returns-else-n c = sym (number_above moment_limit c.in_ok-n.n c.args.word.now (omega arith) (sym c.in_ok-n.ensures) c.if-n.false)
