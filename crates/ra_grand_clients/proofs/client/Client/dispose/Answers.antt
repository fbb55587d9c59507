use Rattle.std.proofs.Common.{w32}
use Rattle.std.proofs.lemmas.Int.{to_z-of_z}
use Rattle.ra_ipc.specs.View.{id_of}
use Rattle.ra_session.specs.SessionCalls as calls
use Rattle.ra_session.specs.SessionRefusals as refusals
use Rattle.ra_grand_clients.proofs.AskSteps.{asks}
use Rattle.ra_grand_clients.proofs.client.Client.dispose.Goals as goal

pub returns-in-Err : goal.returns-in-Err
returns-in-Err c = λ client stands. (tt, c.flush.ensures.stays client stands)

pub returns-in-Ok : goal.returns-in-Ok
returns-in-Ok c =
    let same = to_z-of_z w32 c.args.id c.ranges.id in
    asks c.dispose.result c.args.self.now _ _ _ (calls.dispose (id_of c.args.id) c.args.now) (refusals.dispose_refusal (id_of c.args.id)) c.self.view_is c.in-Ok.ensures.stays c.in-Ok.ensures.done
    (rw same at c.dispose.ensures.stands) (rw same at c.dispose.ensures.refused) c.dispose.ensures.same
