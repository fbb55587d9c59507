use Rattle.ra_values.specs.View.{tree}
use Rattle.ra_session.specs.SessionCalls as calls
use Rattle.ra_session.specs.SessionRefusals as refusals
use Rattle.ra_grand_clients.proofs.AskSteps.{asks, next_id}
use Rattle.ra_grand_clients.proofs.client.Client.call.Goals as goal

pub returns-in-Err-clause-asks : goal.returns-in-Err-clause-asks
returns-in-Err-clause-asks c = λ client stands. (tt, c.flush.ensures.stays client stands)

pub returns-in-Ok-clause-asks : goal.returns-in-Ok-clause-asks
returns-in-Ok-clause-asks c =
    asks c.call.result c.args.self.now _ _ _ (calls.call c.args.channel c.args.name (tree c.args.arg) c.args.now) (refusals.call_refusal c.args.channel c.args.name (tree c.args.arg)) c.self.view_is c.in-Ok.ensures.stays c.in-Ok.ensures.done c.call.ensures.stands c.call.ensures.refused c.call.ensures.same

pub returns-in-Ok-clause-id : goal.returns-in-Ok-clause-id
returns-in-Ok-clause-id c = next_id c.call.result c.args.self.now _ _ c.self.view_is c.in-Ok.ensures.done c.call.ensures.id
