use Rattle.std.proofs.Common.{length, ap, arith}
use Rattle.ra_endpoint_commands.proofs.Listening.{first_known}
use Rattle.ra_endpoint_commands.proofs.receiver.Receiver.new.Goals as goal

pub returns-clause-ready : goal.returns-clause-ready
returns-clause-ready c =
    let k = first_known c.new-end.result c.begin_link.new.self _ c.start-now.ensures c.new-end.ensures c.in-Ok.ensures.stands in
    record {
      listening = record { linked = c.in-Ok.ensures.linked; sent = k.sent; queue = k.queue };
      within = record { unread = omega (arith, ap length c.new.ensures); fed = omega arith };
    }

pub returns-clause-end : goal.returns-clause-end
returns-clause-end c = (first_known c.new-end.result c.begin_link.new.self _ c.start-now.ensures c.new-end.ensures c.in-Ok.ensures.stands).same
