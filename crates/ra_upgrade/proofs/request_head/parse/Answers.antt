use Rattle.std.proofs.Common.{arith}
use Rattle.ra_upgrade.proofs.HeadLemmas.{request_is_all}
use Rattle.ra_upgrade.proofs.request_head.parse.Goals as goal

pub returns-in_default-clause-none : goal.returns-in_default-clause-none
returns-in_default-clause-none c = λ k whole.
    let found = rw c.in-Ok-Complete.field-0-is at c.in-Ok-Complete.ensures.complete in
    let within = rw c.in-Ok-Complete.field-0-is at c.in-Ok-Complete.ensures.within in
    let all = request_is_all c.args.text.now c.in-Ok-Complete.found.len found.0 k found.1.reads whole in
    c.if-found-text.false (omega (arith, all, within.section.len_fits))
