use Rattle.std.proofs.Common.{◌-◌, length}
use Rattle.ra_ports.proofs.Sending.{HasSent}
use Rattle.ra_ports.proofs.link.send_all.Given as goal

abbrev pub invariant-loop-at : goal.invariant-loop-at
invariant-loop-at g l = HasSent (g.L.Link.sent l.fn.link) (g.L.Link.sent l.link) (g.L.Link.incoming l.fn.link) (g.L.Link.incoming l.link)
    (g.L.Link.faults l.fn.link) (g.L.Link.faults l.link) l.bytes l.at

abbrev pub decreases-loop-at : goal.decreases-loop-at
decreases-loop-at g l = length l.bytes - l.at
