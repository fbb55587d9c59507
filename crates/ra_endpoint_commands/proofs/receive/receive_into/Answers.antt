use Rattle.std.proofs.Common.{[], sym, refl, ◌∙◌, arith}
use Rattle.std.specs.Io.KnownBytes.{Consumes}
use Rattle.ra_endpoint_commands.specs.declared.report.Ending.TheVariants.{Done, Refused}
use Rattle.ra_endpoint_commands.specs.Lines.{end_line}
use Rattle.ra_endpoint_commands.specs.Receive.{Report, receive_report}
use Rattle.ra_endpoint_commands.specs.Progress.{due_input, due_after_end}
use Rattle.ra_endpoint_commands.proofs.Runs.{front_of, lines_read, ends_there, ends_on, next_of_end, wrote_front, done_by, front_by, done_from, front_on, lines_on}
use Rattle.ra_endpoint_commands.proofs.Receiving.{under_way_at_start, under_way_on, last_line, next_of_turn, turn_text, ended_told}
use Rattle.ra_endpoint_commands.proofs.receive.receive_into.Goals as goal

pub pieces-init : goal.pieces-init
pieces-init g c = under_way_at_start _ _ c.in-Ok.receiver _ _ c.in-Ok.ensures.ready c.in-Ok.ensures.end c.in-Ok.ensures.empty

pub returns-in_default-read-clause-front : goal.returns-in_default-read-clause-front
returns-in_default-read-clause-front g c = λ input before source sink. front_of receive_report (due_input c.pieces.receiver) input before _ _ (c.pieces.invariant.told input before source sink)

pub returns-in_default-read-clause-lines : goal.returns-in_default-read-clause-lines
returns-in_default-read-clause-lines g c = λ _ input before source sink.
    lines_read receive_report (due_input c.pieces.receiver) input before _ _ _ _ _ (c.pieces.invariant.told input before source sink) (last_line c.pieces.receiver c.pieces.invariant.waiting) c.in_default-read.ensures.bytes

pub returns-then-count-eq0-clause-done : goal.returns-then-count-eq0-clause-done
returns-then-count-eq0-clause-done g c =
    let p = c.pieces.receiver in
    let bytes = c.in-Ok-read.ensures.bytes in
    let read : Consumes (g.S.Source.left c.pieces.source) (g.S.Source.left c.read.new.self) [] = rw c.if-count-eq0.true at bytes.0 in
    let end = bytes.1 c.if-count-eq0.true (omega arith) in
    let last = last_line p c.pieces.invariant.waiting ∙ (λ i. let x : Report = record { text = end_line (sym c.heard.ensures i) (sym c.rest_len.ensures i); ending = Done } in x) in
    done_by c.write_end.result receive_report (due_input p) _ _ _ _ _ _ (end_line c.heard.result c.rest_len.result) Done c.pieces.invariant.told
    (λ input before s wrote. ends_there receive_report (due_input p) input before _ _ _ _ _ Done s read end last refl wrote) c.write_end.ensures.ok c.write_end.ensures.ending

pub returns-then-count-eq0-clause-front : goal.returns-then-count-eq0-clause-front
returns-then-count-eq0-clause-front g c =
    let p = c.pieces.receiver in
    let bytes = c.in-Ok-read.ensures.bytes in
    let read : Consumes (g.S.Source.left c.pieces.source) (g.S.Source.left c.read.new.self) [] = rw c.if-count-eq0.true at bytes.0 in
    let end = bytes.1 c.if-count-eq0.true (omega arith) in
    let last = last_line p c.pieces.invariant.waiting ∙ (λ i. let x : Report = record { text = end_line (sym c.heard.ensures i) (sym c.rest_len.ensures i); ending = Done } in x) in
    front_by c.write_end.result receive_report (due_input p) _ _ _ _ _ (end_line c.heard.result c.rest_len.result) c.pieces.invariant.told
    (next_of_end (due_input p) _ _ _ read end last) c.write_end.ensures.err

pub returns-in_default-turn-clause-front : goal.returns-in_default-turn-clause-front
returns-in_default-turn-clause-front g c = λ input before source sink. front_of receive_report (due_input c.pieces.receiver) input before _ _ (c.pieces.invariant.told input before source sink)

pub returns-in_default-write_all-clause-front : goal.returns-in_default-write_all-clause-front
returns-in_default-write_all-clause-front g c = λ input before source sink.
    let p = c.pieces.receiver in
    let turn = turn_text _ _ p c.turn.new.self _ _ _ c.clear.ensures.items refl c.in-Ok-turn.ensures in
    let wrote = rw c.as_slice.ensures.value at c.in_default-write_all.ensures.err in
    wrote_front receive_report (due_input p) input before _ _ _ _ (c.pieces.invariant.told input before source sink)
    (next_of_turn _ _ _ p c.turn.new.self _ _ c.in-Ok-read.ensures.bytes.0 turn) wrote

pub pieces-preserved : goal.pieces-preserved
pieces-preserved g c =
    let p = c.pieces.receiver in
    let turn = turn_text _ _ p c.turn.new.self _ _ _ c.clear.ensures.items c.in-Waiting.is c.in-Ok-turn.ensures in
    let wrote = rw c.as_slice.ensures.value at c.in-Ok-write_all.ensures.ok in
    under_way_on _ _ _ _ _ _ p c.turn.new.self _ _ _ _ _ _ _ _ c.pieces.invariant c.in-Ok-read.ensures.bytes.0 turn wrote c.read.ensures.cause.later c.write_all.ensures.cause.later

pub returns-in-Refused-clause-done : goal.returns-in-Refused-clause-done
returns-in-Refused-clause-done g c = λ input before source sink.
    let p = c.pieces.receiver in
    let turn = turn_text _ _ p c.turn.new.self _ _ _ c.clear.ensures.items c.in-Refused.is c.in-Ok-turn.ensures in
    let wrote = rw c.as_slice.ensures.value at c.in-Ok-write_all.ensures.ok in
    ends_on receive_report (due_input p) input before _ _ _ _ _ _ Refused (c.pieces.invariant.told input before source sink) c.in-Ok-read.ensures.bytes.0 turn wrote (λ is. cc)

pub returns-in-Ended-clause-done : goal.returns-in-Ended-clause-done
returns-in-Ended-clause-done g c =
    let p = c.pieces.receiver in
    let turn = turn_text _ _ p c.turn.new.self _ _ _ c.clear.ensures.items c.in-Ended.is c.in-Ok-turn.ensures in
    let wrote = rw c.as_slice.ensures.value at c.in-Ok-write_all.ensures.ok in
    let told = ended_told _ _ _ _ _ _ p c.turn.new.self _ _ _ _ _ _ _ _ _ c.pieces.invariant c.in-Ok-read.ensures.bytes.0 turn wrote c.heard-heard.ensures c.rest_len-rest.ensures c.fed.ensures in
    done_from c.count_rest.result receive_report (due_after_end c.heard-heard.result c.rest_len-rest.result c.fed.result) _ _ _ _ _ _ told c.count_rest.ensures.done

pub returns-in-Ended-clause-front : goal.returns-in-Ended-clause-front
returns-in-Ended-clause-front g c =
    let p = c.pieces.receiver in
    let turn = turn_text _ _ p c.turn.new.self _ _ _ c.clear.ensures.items c.in-Ended.is c.in-Ok-turn.ensures in
    let wrote = rw c.as_slice.ensures.value at c.in-Ok-write_all.ensures.ok in
    let told = ended_told _ _ _ _ _ _ p c.turn.new.self _ _ _ _ _ _ _ _ _ c.pieces.invariant c.in-Ok-read.ensures.bytes.0 turn wrote c.heard-heard.ensures c.rest_len-rest.ensures c.fed.ensures in
    front_on c.count_rest.result receive_report (due_after_end c.heard-heard.result c.rest_len-rest.result c.fed.result) _ _ _ _ _ told c.count_rest.ensures.front

pub returns-in-Ended-clause-lines : goal.returns-in-Ended-clause-lines
returns-in-Ended-clause-lines g c = λ is.
    let p = c.pieces.receiver in
    let turn = turn_text _ _ p c.turn.new.self _ _ _ c.clear.ensures.items c.in-Ended.is c.in-Ok-turn.ensures in
    let wrote = rw c.as_slice.ensures.value at c.in-Ok-write_all.ensures.ok in
    let told = ended_told _ _ _ _ _ _ p c.turn.new.self _ _ _ _ _ _ _ _ _ c.pieces.invariant c.in-Ok-read.ensures.bytes.0 turn wrote c.heard-heard.ensures c.rest_len-rest.ensures c.fed.ensures in
    lines_on receive_report (due_after_end c.heard-heard.result c.rest_len-rest.result c.fed.result) _ _ _ _ _ _ told (c.count_rest.ensures.lines is)
