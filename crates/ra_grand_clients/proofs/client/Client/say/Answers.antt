use Rattle.ra_session.specs.SessionCalls as calls
use Rattle.ra_session.specs.SessionRefusals as refusals
use Rattle.ra_grand_clients.proofs.AskSteps.{asks}
use Rattle.ra_grand_clients.proofs.client.Client.say.Goals as goal

pub returns-in-Err : goal.returns-in-Err
returns-in-Err c = λ client stands. (tt, c.flush.ensures.stays client stands)

pub returns-in-Ok : goal.returns-in-Ok
returns-in-Ok c =
    asks c.say.result c.args.self.now _ _ _ (calls.say_body c.args.body c.args.now) (refusals.say_refusal c.args.body) c.self.view_is c.in-Ok.ensures.stays c.in-Ok.ensures.done c.say.ensures.stands c.say.ensures.refused c.say.ensures.same
