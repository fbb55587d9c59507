use Rattle.std.proofs.Common.{◌≡◌, ◌≤◌, ◌+◌, length, ap, ◌∙◌, arith}
use Rattle.ra_model.specs.Frames.{body_limit}
use Rattle.ra_model.specs.FirstFrame.{header_len, is_wide}
use Rattle.ra_frame.proofs.FrontLemmas as fronts
use Rattle.ra_frame.proofs.reader.FrameReader.peek.Goals as goal

pub overflow_add-len : goal.overflow_add-len
overflow_add-len c = let small : c.in-Whole.body ≤ body_limit = fronts.whole_small _ _ c.in-Whole.ensures in omega (arith, c.header_len.ensures.bound)

pub returns-in_ok-frame-in-Whole-clause-found : goal.returns-in_ok-frame-in-Whole-clause-found
returns-in_ok-frame-in-Whole-clause-found c =
    let same : c.header_len.result ≡ header_len (is_wide c.unread-unread.result.now) = c.header_len.ensures.len ∙ ap header_len c.in_ok-frame-in-Whole.ensures.wide in
    let there : header_len (is_wide c.unread-unread.result.now) + c.in-Whole.body ≤ length c.unread-unread.result.now = fronts.whole_there _ _ c.in-Whole.ensures in
    rw (← c.unread-unread.ensures) (rw (c.header_len.ensures.len) c.in_ok-frame-in-Whole.ensures.frame, omega (arith, same, there))

pub returns-in_ok-frame-in-Whole-clause-begins : goal.returns-in_ok-frame-in-Whole-clause-begins
returns-in_ok-frame-in-Whole-clause-begins c =
    rw (← c.unread-unread.ensures) (rw (c.header_len.ensures.len) (fronts.whole_begins _ _ _ _ c.in-Whole.ensures c.in_ok-frame-in-Whole.ensures.frame))

pub returns-in_ok-frame-in-Whole-clause-none : goal.returns-in_ok-frame-in-Whole-clause-none
returns-in_ok-frame-in-Whole-clause-none c = rw (← c.unread-unread.ensures) (λ none _. absurd (fronts.whole_held _ _ c.in-Whole.ensures none))

pub returns-in_ok-frame-in-Whole-clause-stands : goal.returns-in_ok-frame-in-Whole-clause-stands
returns-in_ok-frame-in-Whole-clause-stands c = rw (← c.unread-unread.ensures) (λ n long. absurd (fronts.whole_not_too_long _ _ n c.in-Whole.ensures long))

pub returns-in_err-frame-in-Whole-clause-none : goal.returns-in_err-frame-in-Whole-clause-none
returns-in_err-frame-in-Whole-clause-none c = rw (← c.unread-unread.ensures) (λ none _. absurd (fronts.whole_held _ _ c.in-Whole.ensures none))

pub returns-in_err-frame-in-Whole-clause-stands : goal.returns-in_err-frame-in-Whole-clause-stands
returns-in_err-frame-in-Whole-clause-stands c = rw (← c.unread-unread.ensures) (λ n long. absurd (fronts.whole_not_too_long _ _ n c.in-Whole.ensures long))
