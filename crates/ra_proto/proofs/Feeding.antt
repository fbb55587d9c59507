-- A piece that is taken back leaves nothing.
use Rattle.std.proofs.Common.{◌≡◌, ℕ, ◌≤◌, List, ◌++◌, length, take, ap, ◌∙◌, arith, length-append}
use Rattle.std.proofs.Math.Seq.{take-append_seam}
use Rattle.ra_model.specs.EndpointStates.{EndpointState}
use Rattle.ra_proto.specs.declared.links.FeedMark.{FeedMark}
use Rattle.ra_proto.specs.FeedMarks.{mark_of}

-- what a feed and then its undoing give
pub undone : (before fed : EndpointState) (piece : List ℕ) (mark : FeedMark) → mark ≡ mark_of before
    → fed ≡ record before { unread = before.unread ++ piece; timing = fed.timing } → record fed { unread = take mark.unread fed.unread; timing = mark.timing } ≡ before
undone before fed piece mark marked is =
    ap (λ (x : EndpointState). record x { unread = take mark.unread x.unread; timing = mark.timing }) is
    ∙ ap (λ (m : FeedMark). record before { unread = take m.unread (before.unread ++ piece); timing = m.timing }) marked
    ∙ ap (λ (text : List ℕ). record before { unread = text }) (take-append_seam before.unread piece)

-- what was unread before is still there
pub mark_within : (before fed : EndpointState) (piece : List ℕ) (mark : FeedMark) → mark ≡ mark_of before
    → fed ≡ record before { unread = before.unread ++ piece; timing = fed.timing } → mark.unread ≤ length fed.unread
mark_within before fed piece mark marked is =
    let size : length fed.unread ≡ length (before.unread ++ piece) = ap (λ (x : EndpointState). length x.unread) is in
    let there : mark.unread ≡ length before.unread = ap (λ (m : FeedMark). m.unread) marked in
    omega (arith, length-append before.unread piece)
