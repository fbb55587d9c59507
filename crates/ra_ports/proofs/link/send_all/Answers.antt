use Rattle.ra_ports.proofs.Sending.{sends_more}
use Rattle.ra_ports.proofs.link.send_all.Goals as goal

pub loop-at-preserved : goal.loop-at-preserved
loop-at-preserved g c =
    let sent = c.in_ok-at.ensures in
    sends_more (g.L.Link.sent c.args.link.now) (g.L.Link.sent c.loop-at.link) (g.L.Link.sent c.send.new.self)
    (g.L.Link.incoming c.args.link.now) (g.L.Link.incoming c.loop-at.link) (g.L.Link.incoming c.send.new.self)
    _ _ _ c.args.bytes.now c.loop-at.at c.in_ok-at.field-0
    c.loop-at.invariant sent.bound sent.ok c.send.ensures.keeps c.send.ensures.cause.later
