use Rattle.ra_grand_clients.proofs.DialSteps.{stays_then}
use Rattle.ra_grand_clients.proofs.client.Client.dial.Goals as goal

pub returns-clause-stays : goal.returns-clause-stays
returns-clause-stays c = stays_then _ _ _ _ c.in_ok-flush.ensures.stays c.step.ensures.same
