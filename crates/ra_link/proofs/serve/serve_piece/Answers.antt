use Rattle.std.proofs.Common.{◌≡◌, Some, [], ◌++◌, length, drop, ◌∙◌, ap}
use Rattle.ra_opening.specs.Openings.{Grounds, grounds_of}
use Rattle.ra_ports.specs.Causes.{Rose}
use Rattle.ra_link_core.specs.LinkRuns.{with_piece, piece_done}
use Rattle.ra_link_core.proofs.GrowLemmas.{happens_trans}
use Rattle.ra_link_core.proofs.PieceLemmas.{piece_happens}
use Rattle.ra_link.proofs.ServeLemmas.{broken_piece, sent_end, goes_framed, core_going, all_sent, sent_as}
use Rattle.ra_link.proofs.ComeLemmas.{head_ends}
use Rattle.ra_link.proofs.FrameLemmas.{framed_past, framed_due, unframed_free, frames_by, frames_stay, frames_held, unable_broken, unable_ended}
use Rattle.ra_link_core.specs.Cores.{NotHeld, IsHeld, HeldOrShort, KnowsHead, SetsFramed}
use Rattle.ra_link_core.specs.Makes.{outcome_of}
use Rattle.ra_link.specs.Pieces.{is_framed}
use Rattle.ra_link.specs.Served.{link_end, broken_end, link_outcome, OnNotShort, LinkKnows}
use Rattle.ra_opening.specs.Comes.{HasHead}
use Rattle.ra_link.proofs.KnownLemmas.{on_no_head, knows_broken, knows_ended, knows_framed}
use Rattle.ra_link.proofs.serve.serve_piece.Goals as goal

pub returns-in-Err-clause-made : goal.returns-in-Err-clause-made
returns-in-Err-clause-made g c = λ draw head text first start s is free stands sent happens.
    let grounds : Grounds = grounds_of c.args.settings.now.shake (g.G.Signer.signature_of c.args.signer.now) (g.G.Signer.counts c.args.signer.now) draw in
    let made = c.piece-end.ensures.made draw head text s.out s is free (rw c.new-out.ensures.items stands) in
    let sends = rw c.deref.ensures.value at c.in-Err.ensures.err in
    rw c.broken.ensures.value
    (broken_piece c.piece-end.result c.piece-end.new.self grounds head (with_piece head text c.args.piece.now) s.out (g.E.Entropy.draw c.piece-end.new.entropy)
    (g.H.Hub.stands c.piece-end.new.hub) (g.J.JobSink.told c.piece-end.new.jobs) c.piece-end.new.out.items first (g.L.Link.sent c.args.link.now) (g.L.Link.sent c.send_all.new.link)
    (Rose (g.L.Link.faults c.args.link.now) (g.L.Link.faults c.send_all.new.link)) start s (piece_done grounds head text (record { bytes = c.args.piece.now; now = c.args.now }) s)
    made sent sends happens c.in-Err.ensures.cause.failed)

pub returns-in-Some-clause-made : goal.returns-in-Some-clause-made
returns-in-Some-clause-made g c = λ draw head text first start s is free stands sent happens.
    let grounds : Grounds = grounds_of c.args.settings.now.shake (g.G.Signer.signature_of c.args.signer.now) (g.G.Signer.counts c.args.signer.now) draw in
    let made = c.in-Some.ensures.made draw head text s.out s is free (rw c.new-out.ensures.items stands) in
    let sends = rw c.deref.ensures.value at c.in-Ok.ensures.ok in
    rw c.link_end.ensures.value
    (sent_end c.in-Some.end c.piece-end.new.self grounds head (with_piece head text c.args.piece.now) s.out (g.E.Entropy.draw c.piece-end.new.entropy)
    (g.H.Hub.stands c.piece-end.new.hub) (g.J.JobSink.told c.piece-end.new.jobs) c.piece-end.new.out.items first (g.L.Link.sent c.args.link.now) (g.L.Link.sent c.send_all.new.link)
    (Rose (g.L.Link.faults c.args.link.now) (g.L.Link.faults c.send_all.new.link)) start s (piece_done grounds head text (record { bytes = c.args.piece.now; now = c.args.now }) s)
    made sent sends happens)

pub returns-clause-made : goal.returns-clause-made
returns-clause-made g c = λ draw head text first start s is free stands sent happens.
    let grounds : Grounds = grounds_of c.args.settings.now.shake (g.G.Signer.signature_of c.args.signer.now) (g.G.Signer.counts c.args.signer.now) draw in
    let made = c.in-None.ensures.made draw head text s.out s is free (rw c.new-out.ensures.items stands) in
    let sends = rw c.deref.ensures.value at c.in-Ok.ensures.ok in
    let u = piece_done grounds head text (record { bytes = c.args.piece.now; now = c.args.now }) s in
    goes_framed c.frame_link.result c.piece-end.new.self c.frame_link.new.core grounds head (with_piece head text c.args.piece.now) s.out (g.E.Entropy.draw c.piece-end.new.entropy)
    (g.H.Hub.stands c.piece-end.new.hub) (g.J.JobSink.told c.piece-end.new.jobs) c.piece-end.new.out.items first (g.L.Link.sent c.args.link.now) (g.L.Link.sent c.send_all.new.link) (g.L.Link.sent c.frame_link.new.link)
    (Rose (g.L.Link.faults c.args.link.now) (g.L.Link.faults c.frame_link.new.link)) start u made sent sends c.frame_link.ensures.sent
    (happens_trans start s u happens (piece_happens c.args.core.now grounds head text s.out (g.E.Entropy.draw c.args.entropy.now) (g.H.Hub.stands c.args.hub.now) (g.J.JobSink.told c.args.jobs.now) [] (record { bytes = c.args.piece.now; now = c.args.now }) s stands))
    (λ not. let r = c.frame_link.ensures.unheld not in (r.0, r.1)) c.frame_link.ensures.held c.frame_link.ensures.framed

pub returns-in-Err-clause-came : goal.returns-in-Err-clause-came
returns-in-Err-clause-came g c = λ draw head text first s is free behind stands sent.
    let grounds : Grounds = grounds_of c.args.settings.now.shake (g.G.Signer.signature_of c.args.signer.now) (g.G.Signer.counts c.args.signer.now) draw in
    let whole = with_piece head text c.args.piece.now in
    rw c.broken.ensures.value
    (frames_stay (is_framed head text) (is_framed head whole) (broken_end c.piece-end.result) (drop head.size (text ++ c.args.piece.now))
    (length (first ++ (piece_done grounds head text (record { bytes = c.args.piece.now; now = c.args.now }) s).out)) (g.L.Link.incoming c.args.link.now) (g.L.Link.incoming c.send_all.new.link)
    c.in-Err.ensures.keeps
    (λ before after. unable_broken c.piece-end.result c.piece-end.new.self
    (framed_due (HeldOrShort (outcome_of c.piece-end.result) c.piece-end.new.self) c.args.core.now grounds head text c.args.piece.now s.out (g.E.Entropy.draw c.args.entropy.now)
    (g.H.Hub.stands c.args.hub.now) (g.J.JobSink.told c.args.jobs.now) [] s stands free behind is before after c.piece-end.ensures.framing)))

pub returns-in-Some-clause-came : goal.returns-in-Some-clause-came
returns-in-Some-clause-came g c = λ draw head text first s is free behind stands sent.
    let grounds : Grounds = grounds_of c.args.settings.now.shake (g.G.Signer.signature_of c.args.signer.now) (g.G.Signer.counts c.args.signer.now) draw in
    let whole = with_piece head text c.args.piece.now in
    rw c.link_end.ensures.value
    (frames_stay (is_framed head text) (is_framed head whole) (link_end c.in-Some.end) (drop head.size (text ++ c.args.piece.now))
    (length (first ++ (piece_done grounds head text (record { bytes = c.args.piece.now; now = c.args.now }) s).out)) (g.L.Link.incoming c.args.link.now) (g.L.Link.incoming c.send_all.new.link)
    c.in-Ok.ensures.keeps
    (λ before after. unable_ended c.in-Some.end c.piece-end.new.self
    (framed_due (HeldOrShort (outcome_of (Some c.in-Some.end)) c.piece-end.new.self) c.args.core.now grounds head text c.args.piece.now s.out (g.E.Entropy.draw c.args.entropy.now)
    (g.H.Hub.stands c.args.hub.now) (g.J.JobSink.told c.args.jobs.now) [] s stands free behind is before after c.in-Some.ensures.framing)))

pub returns-clause-came : goal.returns-clause-came
returns-clause-came g c = λ draw head text first s is free behind stands sent.
    let grounds : Grounds = grounds_of c.args.settings.now.shake (g.G.Signer.signature_of c.args.signer.now) (g.G.Signer.counts c.args.signer.now) draw in
    let whole = with_piece head text c.args.piece.now in
    let raw = text ++ c.args.piece.now in
    let core = c.piece-end.new.self in
    let draws = g.E.Entropy.draw c.args.entropy.now in
    let hub = g.H.Hub.stands c.args.hub.now in
    let jobs = g.J.JobSink.told c.args.jobs.now in
    let old = g.L.Link.incoming c.args.link.now in
    let new = g.L.Link.incoming c.frame_link.new.link in
    let made = c.in-None.ensures.made draw head text s.out s is free (rw c.new-out.ensures.items stands) in
    let u = piece_done grounds head text (record { bytes = c.args.piece.now; now = c.args.now }) s in
    let sends = rw c.deref.ensures.value at c.in-Ok.ensures.ok in
    let is_sent : g.L.Link.sent c.send_all.new.link ≡ Some (first ++ u.out) =
    sent_as first (g.L.Link.sent c.send_all.new.link) s.out c.piece-end.new.out.items u.out
    (all_sent first s.out c.piece-end.new.out.items (g.L.Link.sent c.args.link.now) (g.L.Link.sent c.send_all.new.link) sent sends)
    (core_going core grounds head whole s.out (g.E.Entropy.draw c.piece-end.new.entropy) (g.H.Hub.stands c.piece-end.new.hub) (g.J.JobSink.told c.piece-end.new.jobs) c.piece-end.new.out.items u made).tells.out_is in
    let stays : NotHeld core → new ≡ old = λ not. (c.frame_link.ensures.unheld not).2 ∙ c.in-Ok.ensures.keeps in
    frames_by (is_framed head text) (is_framed head whole) c.frame_link.result (drop head.size raw) (length (first ++ u.out)) old new
    (λ before. stays (c.piece-end.ensures.once (framed_past c.args.core.now grounds head text s.out draws hub jobs [] s stands free before)))
    (λ before after. stays (unframed_free core grounds head whole s.out (g.E.Entropy.draw c.piece-end.new.entropy) (g.H.Hub.stands c.piece-end.new.hub) (g.J.JobSink.told c.piece-end.new.jobs) c.piece-end.new.out.items u made after))
    (λ before after.
    let due = framed_due (IsHeld core) c.args.core.now grounds head text c.args.piece.now s.out draws hub jobs [] s stands free behind is before after c.in-None.ensures.framing in
    let ends = head_ends head text c.args.piece.now before after in
    frames_held c.frame_link.result core head raw whole (first ++ u.out) (g.L.Link.sent c.send_all.new.link) (SetsFramed core c.frame_link.new.core) (c.frame_link.new.core ≡ core) old new due (ap length ends.counts ∙ ends.size)
    (c.piece-end.ensures.unread draw head text s.out s is free (rw c.new-out.ensures.items stands)) is_sent (c.frame_link.ensures.held due)
    (λ none. rw c.in-Ok.ensures.keeps at (c.frame_link.ensures.payload none)) c.frame_link.ensures.handed (rw c.in-Ok.ensures.keeps at c.frame_link.ensures.unframed))

pub returns-in-Err-clause-known : goal.returns-in-Err-clause-known
returns-in-Err-clause-known g c =
    rw c.broken.ensures.value
    (on_no_head c.args.core.now (λ unread. KnowsHead (outcome_of c.piece-end.result) (unread ++ c.args.piece.now)) (λ unread. OnNotShort (link_outcome (broken_end c.piece-end.result)) (HasHead (unread ++ c.args.piece.now)))
    (λ unread known. knows_broken c.piece-end.result (unread ++ c.args.piece.now) known) c.piece-end.ensures.known)

pub returns-in-Some-clause-known : goal.returns-in-Some-clause-known
returns-in-Some-clause-known g c =
    rw c.link_end.ensures.value
    (on_no_head c.args.core.now (λ unread. KnowsHead (outcome_of (Some c.in-Some.end)) (unread ++ c.args.piece.now)) (λ unread. OnNotShort (link_outcome (link_end c.in-Some.end)) (HasHead (unread ++ c.args.piece.now)))
    (λ unread known. knows_ended c.in-Some.end (unread ++ c.args.piece.now) known) c.in-Some.ensures.known)

pub returns-clause-known : goal.returns-clause-known
returns-clause-known g c =
    on_no_head c.args.core.now (λ unread. HasHead (unread ++ c.args.piece.now)) (λ unread. LinkKnows c.frame_link.result (unread ++ c.args.piece.now))
    (λ unread known. knows_framed c.frame_link.result (unread ++ c.args.piece.now) known) c.in-None.ensures.known
