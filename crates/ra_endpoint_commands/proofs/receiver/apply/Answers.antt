use Rattle.std.proofs.Common.{◌≡◌, ◌++◌, [], subst}
use Rattle.std.specs.Prelude.{OnOk}
use Rattle.ra_model.specs.declared.session.Up.{Up}
use Rattle.ra_endpoint_commands.specs.Receive.{delivery_line}
use Rattle.ra_endpoint_commands.specs.Progress.{endpoint_of}
use Rattle.ra_endpoint_commands.proofs.Listening.{on_ok, applied_known, stands_alone}
use Rattle.ra_endpoint_commands.proofs.receiver.apply.Goals as goal

pub returns-clause-end : goal.returns-clause-end
returns-clause-end c = on_ok _ _ (applied_known c.args.frame c.args.end.now c.apply.new.self _ c.requires c.start.ensures c.in-Ok.ensures.stands).same

pub returns-clause-said : goal.returns-clause-said
returns-clause-said c =
    let k = applied_known c.args.frame c.args.end.now c.apply.new.self _ c.requires c.start.ensures c.in-Ok.ensures.stands in
    let said : (c.apply.new.self.sent ≡ 0) × (c.apply.new.self.queue ≡ []) = (k.sent, k.queue) in
    on_ok _ _ said

pub returns-clause-text : goal.returns-clause-text
returns-clause-text c =
    subst (λ (up : Up). OnOk c.push_delivery.result (c.push_delivery.new.text.items ≡ c.args.text.now.items ++ delivery_line up))
    (c.in-Ok.ensures.handed (endpoint_of c.args.end.now) (stands_alone c.args.end.now c.requires)) c.push_delivery.ensures
