use Rattle.ra_grand_clients.proofs.TakingDown.{dropped_down, fed_down, more_behind, none_behind}
use Rattle.ra_grand_clients.proofs.client.Client.take_down.Goals as goal

pub returns-then-link_count-at-gt1-clause-taken : goal.returns-then-link_count-at-gt1-clause-taken
returns-then-link_count-at-gt1-clause-taken c =
    let turns = rw c.len.ensures at c.read_on.ensures in
    dropped_down c.args.at c.args.bytes.now c.args.now c.args.self.now _ (more_behind _ _ c.args.at c.link_count.ensures c.if-link_count-at-gt1.true) turns

pub returns-clause-taken : goal.returns-clause-taken
returns-clause-taken c =
    let turns = rw c.len-2.ensures at c.read_on-2.ensures in
    fed_down c.args.at c.args.bytes.now c.args.now c.args.self.now _ _ (none_behind _ _ c.args.at c.link_count.ensures c.if-link_count-at-gt1.false) c.in_ok-feed.ensures.becomes turns
