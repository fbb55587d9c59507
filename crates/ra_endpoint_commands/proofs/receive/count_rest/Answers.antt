use Rattle.std.proofs.Common.{[], refl, arith}
use Rattle.std.specs.Io.KnownBytes.{Consumes}
use Rattle.ra_endpoint_commands.specs.declared.report.Ending.TheVariants.{Done, Refused}
use Rattle.ra_endpoint_commands.specs.Lines.{end_line, over_line}
use Rattle.ra_endpoint_commands.specs.Progress.{due_after_end}
use Rattle.ra_endpoint_commands.proofs.Runs.{front_of, lines_read, ends_there, ends_on, next_of_end, next_last, done_by, front_by, rose_from}
use Rattle.ra_endpoint_commands.proofs.Receiving.{counting_at_start, counting_on, counted_end, counted_over}
use Rattle.ra_endpoint_commands.proofs.receive.count_rest.Goals as goal

pub pieces-init : goal.pieces-init
pieces-init g c = counting_at_start _ _ _ _ _ _ _ c.requires.within c.requires.limited

pub returns-in_default-clause-front : goal.returns-in_default-clause-front
returns-in_default-clause-front g c = λ input before source sink. front_of _ _ input before _ _ (c.pieces.invariant.told input before source sink)

pub returns-in_default-clause-lines : goal.returns-in_default-clause-lines
returns-in_default-clause-lines g c = λ _ input before source sink.
    lines_read _ _ input before _ _ _ c.args.heard c.pieces.rest (c.pieces.invariant.told input before source sink) (counted_end c.args.heard c.pieces.rest c.pieces.fed) c.in_default.ensures.bytes

pub returns-then-count-eq0-clause-done : goal.returns-then-count-eq0-clause-done
returns-then-count-eq0-clause-done g c =
    let bytes = c.in-Ok.ensures.bytes in
    let read : Consumes (g.S.Source.left c.pieces.source) (g.S.Source.left c.read.new.self) [] = rw c.if-count-eq0.true at bytes.0 in
    let end = bytes.1 c.if-count-eq0.true (omega arith) in
    done_by c.write_end.result _ _ _ _ _ _ _ _ (end_line c.args.heard c.pieces.rest) Done c.pieces.invariant.told
    (λ input before s wrote. ends_there _ _ input before _ _ _ _ _ Done s read end (counted_end c.args.heard c.pieces.rest c.pieces.fed) refl wrote) c.write_end.ensures.ok c.write_end.ensures.ending

pub returns-then-count-eq0-clause-front : goal.returns-then-count-eq0-clause-front
returns-then-count-eq0-clause-front g c =
    let bytes = c.in-Ok.ensures.bytes in
    let read : Consumes (g.S.Source.left c.pieces.source) (g.S.Source.left c.read.new.self) [] = rw c.if-count-eq0.true at bytes.0 in
    let end = bytes.1 c.if-count-eq0.true (omega arith) in
    front_by c.write_end.result _ _ _ _ _ _ _ (end_line c.args.heard c.pieces.rest) c.pieces.invariant.told
    (next_of_end (due_after_end c.args.heard c.pieces.rest c.pieces.fed) _ _ _ read end (counted_end c.args.heard c.pieces.rest c.pieces.fed)) c.write_end.ensures.err

pub returns-then-count-eq0-clause-write : goal.returns-then-count-eq0-clause-write
returns-then-count-eq0-clause-write g c = λ is. rose_from _ _ _ c.pieces.invariant.sink_faults (c.write_end.ensures.write is)

pub returns-then-count-fed-clause-done : goal.returns-then-count-fed-clause-done
returns-then-count-fed-clause-done g c =
    let over = c.if-count-fed.true in
    let read = c.in-Ok.ensures.bytes.0 in
    done_by c.write_over.result _ _ _ _ _ _ _ _ over_line Refused c.pieces.invariant.told
    (λ input before s wrote. ends_on _ _ input before _ _ _ _ _ _ Refused s read (λ left. counted_over c.args.heard c.pieces.rest c.pieces.fed c.in-Ok.count _ left c.in-Ok.ensures.bound.1 over) wrote (λ is. cc))
    c.write_over.ensures.ok c.write_over.ensures.ending

pub returns-then-count-fed-clause-front : goal.returns-then-count-fed-clause-front
returns-then-count-fed-clause-front g c =
    let over = c.if-count-fed.true in
    let read = c.in-Ok.ensures.bytes.0 in
    front_by c.write_over.result _ _ _ _ _ _ _ over_line c.pieces.invariant.told
    (next_last (due_after_end c.args.heard c.pieces.rest c.pieces.fed) _ _ _ _ Refused read (λ left. counted_over c.args.heard c.pieces.rest c.pieces.fed c.in-Ok.count _ left c.in-Ok.ensures.bound.1 over)) c.write_over.ensures.err

pub returns-then-count-fed-clause-write : goal.returns-then-count-fed-clause-write
returns-then-count-fed-clause-write g c = λ is. rose_from _ _ _ c.pieces.invariant.sink_faults (c.write_over.ensures.write is)

pub pieces-preserved : goal.pieces-preserved
pieces-preserved g c =
    counting_on _ _ _ _ _ c.args.heard c.args.rest c.args.fed c.pieces.rest c.pieces.fed _ _ _ _ _ c.in-Ok.count _ c.pieces.invariant c.in-Ok.ensures.bytes.0 c.in-Ok.ensures.bound.1 (omega arith) c.read.ensures.cause.later
