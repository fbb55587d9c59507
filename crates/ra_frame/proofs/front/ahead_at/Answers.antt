use Rattle.std.proofs.Common.{◌≡◌, ◌<◌, ◌≤◌, ℕ, length, arith, rules}
use Rattle.ra_model.specs.Frames.{body_limit}
use Rattle.ra_frame.proofs.FrontLemmas as fronts
use Rattle.ra_frame.proofs.front.ahead_at.Goals as goal

pub is_wide-wide-requires : goal.is_wide-wide-requires
is_wide-wide-requires c = fronts.whole_some c.args.unread.now c.args.body c.requires.whole

pub bounds-unread-0 : goal.bounds-unread-0
bounds-unread-0 c = let some : 0 < length c.args.unread.now = fronts.whole_some c.args.unread.now c.args.body c.requires.whole in search (rules, some)

pub overflow_add-result : goal.overflow_add-result
overflow_add-result c =
    let small : c.args.body ≤ body_limit = fronts.whole_small c.args.unread.now c.args.body c.requires.whole in
    let header : c.header_len.result ≤ 21 = c.header_len.ensures.bound in
    omega arith

pub returns : goal.returns
returns c =
    fronts.has_whole c.args.unread.now c.args.body c.kind_of.result c.header_len.result c.is_wide-wide.result c.requires.whole c.is_wide-wide.ensures c.header_len.ensures.len c.kind_of.ensures
