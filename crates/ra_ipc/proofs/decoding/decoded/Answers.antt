use Rattle.std.proofs.Common.{drop, arith}
use Rattle.std.proofs.lemmas.Result.{err_from_is_err_and}
use Rattle.ra_values.specs.View.{tree}
use Rattle.ra_ipc.proofs.Readings.{at_header, behind_header}
use Rattle.ra_ipc.proofs.Spelled.{whole_found}
use Rattle.ra_ipc.proofs.decoding.decoded.Goals as goal

pub returns-in_err-header-clause-reads : goal.returns-in_err-header-clause-reads
returns-in_err-header-clause-reads c =
    let p = err_from_is_err_and c.from_residual.result c.from_residual.ensures.1 in
    rw (p.1, p.2) (λ more. at_header c.args.bytes.now c.in_err-header.field-0.0 (c.in_err-header.ensures.reads c.args.bytes.now (omega arith) more))

pub returns-clause-found : goal.returns-clause-found
returns-clause-found c =
    whole_found c.packet_behind.result (tree c.in_ok-header.header) c.args.bytes.now c.in_ok-header.len (rw (← c.split_at.ensures.back) c.packet_behind.ensures.found) c.in_ok-header.ensures.found

pub returns-clause-reads : goal.returns-clause-reads
returns-clause-reads c =
    rw (behind_header c.args.bytes.now (drop c.in_ok-header.len c.args.bytes.now) (tree c.in_ok-header.header) (c.in_ok-header.ensures.reads c.args.bytes.now (omega arith)), ← c.split_at.ensures.back)
    (c.packet_behind.ensures.reads c.args.bytes.now (omega (arith, c.split_at.ensures.back_len)))
