use Rattle.std.proofs.Common.{sym}
use Rattle.std.specs.Prelude.{pos}
use Rattle.std.specs.Int.{w32}
use Rattle.std.proofs.lemmas.Int.{to_z-of_z}
use Rattle.std.proofs.lemmas.Result.{err_from_is_err_and}
use Rattle.ra_script.proofs.GrandAnswers.{id_fits, id_read, id_above, id_bad}
use Rattle.ra_script.proofs.grand_words.id.Goals as goal

pub returns-in_err-n : goal.returns-in_err-n
returns-in_err-n c =
    let bad = id_bad c.args.word.now c.in_err-n.field-0.0 (sym c.in_err-n.ensures) in
    let p = err_from_is_err_and c.from_residual.result c.from_residual.ensures.1 in rw (p.1, p.2) (sym bad)

pub returns-in-Ok : goal.returns-in-Ok
returns-in-Ok c =
    rw (c.in-Ok.ensures.1, to_z-of_z w32 (pos c.in_ok-n.n) c.in-Ok.ensures.0) (sym (id_read c.args.word.now c.in_ok-n.n (sym c.in_ok-n.ensures) (id_fits c.in_ok-n.n c.in-Ok.ensures.0)))

pub returns-in-Err : goal.returns-in-Err
returns-in-Err c = sym (id_above c.args.word.now c.in_ok-n.n (sym c.in_ok-n.ensures) c.in-Err.ensures)
