use Rattle.std.proofs.Common.{◌≡◌, ◌<◌, ◌≤◌, ℕ, ◌+◌, length, ap, ◌∙◌, arith, rules}
use Rattle.std.specs.Int.{byte_len}
use Rattle.ra_model.specs.Frames.{number_width}
use Rattle.ra_model.specs.FirstFrame.{is_wide, header_len, ack_place, number_at}
use Rattle.ra_frame.proofs.FrontLemmas as fronts
use Rattle.ra_frame.proofs.front.head_at.Goals as goal

pub is_wide-wide-requires : goal.is_wide-wide-requires
is_wide-wide-requires c = fronts.whole_some c.args.unread.now c.requires.whole.0 c.requires.whole.1

pub bounds-unread-0 : goal.bounds-unread-0
bounds-unread-0 c = let some : 0 < length c.args.unread.now = fronts.whole_some c.args.unread.now c.requires.whole.0 c.requires.whole.1 in search (rules, some)

pub number-id-requires : goal.number-id-requires
number-id-requires c =
    let there : header_len (is_wide c.args.unread.now) + c.requires.whole.0 ≤ length c.args.unread.now = fronts.whole_there c.args.unread.now c.requires.whole.0 c.requires.whole.1 in
    let same : header_len c.is_wide-wide.result ≡ header_len (is_wide c.args.unread.now) = ap header_len c.is_wide-wide.ensures in
    (fronts.places c.is_wide-wide.result c.args.unread.now (omega arith)).0

pub number-ack-requires : goal.number-ack-requires
number-ack-requires c =
    let there : header_len (is_wide c.args.unread.now) + c.requires.whole.0 ≤ length c.args.unread.now = fronts.whole_there c.args.unread.now c.requires.whole.0 c.requires.whole.1 in
    let same : header_len c.is_wide-wide.result ≡ header_len (is_wide c.args.unread.now) = ap header_len c.is_wide-wide.ensures in
    let at : ack_place c.is_wide-wide.result + byte_len (number_width c.is_wide-wide.result) ≤ length c.args.unread.now = (fronts.places c.is_wide-wide.result c.args.unread.now (omega arith)).1 in
    omega (arith, c.ack_place.ensures)

pub returns-clause-id : goal.returns-clause-id
returns-clause-id c = c.number-id.ensures

pub returns-clause-ack : goal.returns-clause-ack
returns-clause-ack c = c.number-ack.ensures ∙ ap (λ (p : ℕ). number_at (number_width c.is_wide-wide.result) p c.args.unread.now) c.ack_place.ensures

pub returns-clause-head : goal.returns-clause-head
returns-clause-head c =
    fronts.head_read c.args.unread.now c.requires.whole.0 (record { kind = c.kind_of-kind.result; wide = c.is_wide-wide.result; id = c.number-id.result; ack = c.number-ack.result })
    c.requires.whole.1 c.is_wide-wide.ensures c.kind_of-kind.ensures c.number-id.ensures (c.number-ack.ensures ∙ ap (λ (p : ℕ). number_at (number_width c.is_wide-wide.result) p c.args.unread.now) c.ack_place.ensures)
