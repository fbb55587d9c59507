use Rattle.std.proofs.Common.{arith, []}
use Rattle.ra_upgrade.proofs.HeadLemmas.{response_is_all, whole_response}
use Rattle.ra_upgrade.proofs.answer_head.parse.Goals as goal

pub returns-else-found-text-clause-none : goal.returns-else-found-text-clause-none
returns-else-found-text-clause-none c = λ k whole.
    let found = rw c.in-Ok-Complete.field-0-is at c.in-Ok-Complete.ensures.complete in
    let within = rw c.in-Ok-Complete.field-0-is at c.in-Ok-Complete.ensures.within in
    let all = response_is_all c.args.text.now c.in-Ok-Complete.found.len found.0 k found.1.reads whole in
    c.if-found-text.false (omega (arith, all, within.section.len_fits))

pub returns-in-Ok-Partial-clause-none : goal.returns-in-Ok-Partial-clause-none
returns-in-Ok-Partial-clause-none c = λ h whole.
    let partial = rw c.in-Ok-Partial.field-0-is at c.in-Ok-Partial.ensures.partial in
    partial h [] (whole_response c.args.text.now h whole)
