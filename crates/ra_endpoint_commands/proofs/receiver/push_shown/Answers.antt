use Rattle.std.proofs.Common.{length, ap}
use Rattle.ra_endpoint_commands.proofs.Listening.{shown_known}
use Rattle.ra_endpoint_commands.proofs.receiver.push_shown.Goals as goal

pub returns-clause-end : goal.returns-clause-end
returns-clause-end c = (shown_known c.args.end.now c.wrote.new.self _ c.requires (ap length c.out-out.ensures) c.wrote.ensures.stands).0.same

pub returns-clause-listening : goal.returns-clause-listening
returns-clause-listening c = (shown_known c.args.end.now c.wrote.new.self _ c.requires (ap length c.out-out.ensures) c.wrote.ensures.stands).1
