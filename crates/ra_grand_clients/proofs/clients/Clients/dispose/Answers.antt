use Rattle.std.proofs.Common.{w32}
use Rattle.std.proofs.lemmas.Int.{to_z-of_z}
use Rattle.ra_ipc.specs.View.{id_of}
use Rattle.ra_session.specs.SessionCalls as calls
use Rattle.ra_session.specs.SessionRefusals as refusals
use Rattle.ra_grand_clients.proofs.CrowdLemmas.{asks_in}
use Rattle.ra_grand_clients.proofs.clients.Clients.dispose.Goals as goal

pub returns : goal.returns
returns c =
    let same = to_z-of_z w32 c.args.id c.ranges.id in
    let made = rw c.index_mut.ensures.value at c.dispose.ensures in
    rw (← c.self.view_is) (asks_in c.dispose.result _ _ _ _ (calls.dispose (id_of c.args.id) c.args.now) (refusals.dispose_refusal (id_of c.args.id)) (rw same at made))
