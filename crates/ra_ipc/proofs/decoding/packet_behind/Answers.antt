use Rattle.std.proofs.Common.{sym, ap, ◌∙◌, arith, Err}
use Rattle.std.proofs.lemmas.Result.{err_from_is_err_and}
use Rattle.ra_values.specs.View.{tree}
use Rattle.ra_ipc.proofs.HeadFits.{is_header}
use Rattle.ra_ipc.proofs.Readings.{at_element, at_body, trailing_is, packet_reads}
use Rattle.ra_ipc.proofs.Spelled.{packet_found}
use Rattle.ra_ipc.proofs.decoding.packet_behind.Goals as goal

pub returns-in-Err-clause-reads : goal.returns-in-Err-clause-reads
returns-in-Err-clause-reads c = λ all long _. at_element all c.args.rest.now (tree c.args.header_value.now) c.in-Err.at c.in-Err.ensures

pub returns-in_err-body-clause-reads : goal.returns-in_err-body-clause-reads
returns-in_err-body-clause-reads c =
    let p = err_from_is_err_and c.from_residual.result c.from_residual.ensures.1 in
    let head = c.in-Ok.ensures in
    let is = is_header c.in-Ok.head head.0 head.1 (tree c.args.header_value.now) head.2 head.3 in
    λ all long. rw (p.1, p.2) (λ more. at_body all c.args.rest.now (tree c.args.header_value.now) c.in_err-body.field-0.0 is.good (c.in_err-body.ensures.reads all long more))

pub returns-then-read-rest-clause-reads : goal.returns-then-read-rest-clause-reads
returns-then-read-rest-clause-reads c =
    let head = c.in-Ok.ensures in
    let is = is_header c.in-Ok.head head.0 head.1 (tree c.args.header_value.now) head.2 head.3 in
    λ all long _. trailing_is all c.args.rest.now (tree c.args.header_value.now) (tree c.in_ok-body.body) c.in-Ok.head c.args.len c.in_ok-body.read is (c.in_ok-body.ensures.reads all long) (sym long) c.if-read-rest.true
    ∙ ap (λ e. Err e) (sym c.trailing.ensures)

pub returns-clause-found : goal.returns-clause-found
returns-clause-found c =
    let head = c.in-Ok.ensures in
    packet_found c.packet_of.result c.in-Ok.head head.0 head.1 (tree c.args.header_value.now) (tree c.in_ok-body.body) c.args.rest.now c.in_ok-body.read head.2 head.3 c.packet_of.ensures c.in_ok-body.ensures.found (omega arith)

pub returns-clause-reads : goal.returns-clause-reads
returns-clause-reads c =
    let head = c.in-Ok.ensures in
    let is = is_header c.in-Ok.head head.0 head.1 (tree c.args.header_value.now) head.2 head.3 in
    λ all long. packet_reads c.packet_of.result all c.args.rest.now (tree c.args.header_value.now) (tree c.in_ok-body.body) c.in-Ok.head c.in_ok-body.read is (c.in_ok-body.ensures.reads all long) (omega arith) c.packet_of.ensures
