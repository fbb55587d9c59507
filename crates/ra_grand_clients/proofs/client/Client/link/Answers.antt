use Rattle.std.proofs.Common.{◌∙◌}
use Rattle.ra_grand_clients.proofs.LinkMaking.{link_made, not_pushed, popped, on_err}
use Rattle.ra_grand_clients.proofs.client.Client.link.Goals as goal

pub returns-in_err-push-clause-stays : goal.returns-in_err-push-clause-stays
returns-in_err-push-clause-stays c =
    on_err c.from_residual-in_err-push.result _ (not_pushed c.args.self.now _ _ _ c.self.view_is c.in_ok-flush.ensures.stays c.in_err-push.ensures.items)

pub returns-in-Ok-clause-linked : goal.returns-in-Ok-clause-linked
returns-in-Ok-clause-linked c =
    link_made c.args.self.now _ _ _ c.new.result _ c.args.now c.self.view_is c.in_ok-flush.ensures.done c.in_ok-flush.ensures.empty c.new.ensures c.in_ok-push.ensures.items c.in-Ok.ensures.becomes

pub returns-in-Err-clause-stays : goal.returns-in-Err-clause-stays
returns-in-Err-clause-stays c =
    popped c.args.self.now _ _ _ c.new.result _ _ c.link_count-count.result c.self.view_is c.in_ok-flush.ensures.stays c.in_ok-push.ensures.items (c.self-2.view_is ∙ c.in-Err.ensures.same) c.link_count-count.ensures
    c.truncate.ensures.items
