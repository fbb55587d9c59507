use Rattle.std.proofs.Common.{◌≡◌, ◌<◌, Some, length, refl, arith}
use Rattle.ra_model.specs.FirstFrame.{first_frame}
use Rattle.ra_opening.proofs.FindLemmas.{find_waits, find_fault, find_memory, find_control, find_left, frame_shortens}
use Rattle.ra_opening.proofs.BudgetLemmas.{waits_within, is_left, fault_long}
use Rattle.ra_opening.proofs.shaking.find.Goals as goal

pub returns-then-not-pass_over-clause-found : goal.returns-then-not-pass_over-clause-found
returns-then-not-pass_over-clause-found c = λ g head text before next shake out x.
    find_memory g head text before next c.pass_over.new.reader shake out (c.pass_over.ensures.passed.keeps g head text before next shake out x)

pub returns-in-Err-clause-found : goal.returns-in-Err-clause-found
returns-in-Err-clause-found c = λ g head text before next shake out x.
    rw c.found_of.ensures (find_fault g head text before next c.pass_over.new.reader c.next_frame.new.self shake out c.in-Err.fault (c.pass_over.ensures.passed.keeps g head text before next shake out x)
    (λ done at has. c.in-Err.ensures.of_request head text done at has))

pub returns-in-Ok-None-clause-bounded : goal.returns-in-Ok-None-clause-bounded
returns-in-Ok-None-clause-bounded c =
    let none = rw c.in-Ok-None.field-0-is at c.in-Ok-None.ensures.found in
    rw none.1 (waits_within c.pass_over.new.reader.unread none.0 (c.if-not-pass_over.ensures.within refl))

pub returns-in-Ok-None-clause-found : goal.returns-in-Ok-None-clause-found
returns-in-Ok-None-clause-found c = λ g head text before next shake out x.
    find_waits g head text before next c.pass_over.new.reader c.next_frame.new.self shake out (c.pass_over.ensures.passed.keeps g head text before next shake out x) c.in-Ok-None.ensures.behind
    (λ done at has. rw c.in-Ok-None.field-0-is at (c.in-Ok-None.ensures.of_request head text done at has))

pub returns-then-frame-eq-CONTROL-clause-shorter : goal.returns-then-frame-eq-CONTROL-clause-shorter
returns-then-frame-eq-CONTROL-clause-shorter c = λ control.
    let first : first_frame c.pass_over.new.reader.unread ≡ Some (c.in-Ok-Some.frame, c.next_frame.new.self.unread) = rw c.in-Ok-Some.field-0-is at c.in-Ok-Some.ensures.found in
    let shorter : length c.next_frame.new.self.unread < length c.pass_over.new.reader.unread = frame_shortens c.pass_over.new.reader.unread c.next_frame.new.self.unread c.in-Ok-Some.frame first in
    omega (arith, c.pass_over.ensures.passed.fewer)

pub returns-then-frame-eq-CONTROL-clause-found : goal.returns-then-frame-eq-CONTROL-clause-found
returns-then-frame-eq-CONTROL-clause-found c = λ g head text before next shake out x.
    find_control g head text before next c.pass_over.new.reader c.next_frame.new.self shake out c.in-Ok-Some.frame (c.pass_over.ensures.passed.keeps g head text before next shake out x)
    (λ done at has. rw c.in-Ok-Some.field-0-is at (c.in-Ok-Some.ensures.of_request head text done at has)) c.if-frame-eq-CONTROL.true

pub returns-else-frame-eq-CONTROL-clause-found : goal.returns-else-frame-eq-CONTROL-clause-found
returns-else-frame-eq-CONTROL-clause-found c = λ g head text before next shake out x.
    let first : first_frame c.pass_over.new.reader.unread ≡ Some (c.in-Ok-Some.frame, c.next_frame.new.self.unread) = rw c.in-Ok-Some.field-0-is at c.in-Ok-Some.ensures.found in
    find_left g head text before next c.pass_over.new.reader c.next_frame.new.self shake out c.in-Ok-Some.frame (c.pass_over.ensures.passed.keeps g head text before next shake out x)
    (λ done at has. rw c.in-Ok-Some.field-0-is at (c.in-Ok-Some.ensures.of_request head text done at has))
    (is_left c.in-Ok-Some.frame.kind (c.if-not-pass_over.ensures.counts refl c.in-Ok-Some.frame c.next_frame.new.self.unread first) c.if-frame-eq-CONTROL.false)

pub returns-in-Err-clause-long : goal.returns-in-Err-clause-long
returns-in-Err-clause-long c = rw c.found_of.ensures (fault_long c.pass_over.new.reader.unread c.in-Err.fault (λ n is. c.in-Err.ensures.too_long n is))
