use Rattle.ra_grand_clients.proofs.DialSteps.{acts, becomes}
use Rattle.ra_grand_clients.proofs.client.Client.step.Goals as goal

pub returns-in-Ok-clause-acts : goal.returns-in-Ok-clause-acts
returns-in-Ok-clause-acts c = rw (← c.self.view_is) (acts c.one_answer.ensures.answer _ _ _ _ _ c.in-Ok.ensures.steps)

pub returns-in-Ok-clause-becomes : goal.returns-in-Ok-clause-becomes
returns-in-Ok-clause-becomes c = rw (← c.self.view_is) (becomes c.one_answer.ensures.answer _ _ _ _ _ _ c.in-Ok.ensures.steps c.in-Ok.ensures.drawn)
