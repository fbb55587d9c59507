use Rattle.std.proofs.Common.{w32}
use Rattle.std.proofs.lemmas.Int.{to_z-of_z}
use Rattle.ra_ipc.specs.View.{id_of}
use Rattle.ra_session.specs.SessionCalls as calls
use Rattle.ra_session.specs.SessionRefusals as refusals
use Rattle.ra_grand_clients.proofs.CrowdLemmas.{asks_in}
use Rattle.ra_grand_clients.proofs.clients.Clients.cancel.Goals as goal

pub returns-clause-asks : goal.returns-clause-asks
returns-clause-asks c =
    let same = to_z-of_z w32 c.args.id c.ranges.id in
    let made = rw c.index_mut.ensures.value at c.cancel.ensures.asks in
    rw (← c.self.view_is) (asks_in c.cancel.result _ _ _ _ (calls.cancel (id_of c.args.id) c.args.now) (refusals.cancel_refusal (id_of c.args.id)) (rw same at made))
