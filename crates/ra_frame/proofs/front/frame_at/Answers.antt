use Rattle.std.proofs.Common.{◌≡◌, ◌≤◌, ℕ, ◌+◌, ◌-◌, List, length, take, drop, ap, ◌∙◌, arith, rules}
use Rattle.ra_model.specs.Frames.{body_limit}
use Rattle.ra_model.specs.FirstFrame.{is_wide, header_len}
use Rattle.ra_frame.proofs.FrontLemmas as fronts
use Rattle.ra_frame.proofs.front.frame_at.Goals as goal

pub head_at-head-requires : goal.head_at-head-requires
head_at-head-requires c = record { whole = (c.args.body, c.requires.whole) }

pub overflow_add-header : goal.overflow_add-header
overflow_add-header c =
    let small : c.args.body ≤ body_limit = fronts.whole_small c.args.unread.now c.args.body c.requires.whole in
    let header : c.header_len-header.result ≤ 21 = c.header_len-header.ensures.bound in
    omega arith

pub slice_bounds-copy-end : goal.slice_bounds-copy-end
slice_bounds-copy-end c =
    let there : header_len (is_wide c.args.unread.now) + c.args.body ≤ length c.args.unread.now = fronts.whole_there c.args.unread.now c.args.body c.requires.whole in
    let same : c.header_len-header.result ≡ header_len (is_wide c.args.unread.now) = c.header_len-header.ensures.len ∙ ap header_len c.head_at-head.ensures.wide in
    let within : c.header_len-header.result + c.args.body ≤ length c.args.unread.now = omega arith in
    search (rules, within)

pub returns-clause-frame : goal.returns-clause-frame
returns-clause-frame c =
    let text : List ℕ = c.args.unread.now in
    let header : c.header_len-header.result ≡ header_len c.head_at-head.result.wide = c.header_len-header.ensures.len in
    let size : (c.header_len-header.result + c.args.body) - c.header_len-header.result ≡ c.args.body = omega arith in
    let body : c.in_ok-body.body ≡ take c.args.body (drop (header_len c.head_at-head.result.wide) text) =
    c.in_ok-body.ensures ∙ ap (λ (n : ℕ). take n (drop c.header_len-header.result text)) size ∙ ap (λ (n : ℕ). take c.args.body (drop n text)) header in
    let head = c.head_at-head.ensures in
    fronts.frame_read text c.args.body (record { kind = c.head_at-head.result.kind; wide = c.head_at-head.result.wide; id = c.head_at-head.result.id; ack = c.head_at-head.result.ack; body = c.in_ok-body.body })
    c.requires.whole head.wide head.kind head.id head.ack body
