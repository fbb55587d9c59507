use Rattle.ra_grand_clients.proofs.client.Client.flush.Goals as goal

pub returns-then-branch-clause-done : goal.returns-then-branch-clause-done
returns-then-branch-clause-done c = λ client stands. c.in_ok-hand_over.ensures.done c.if-branch.true client (c.loop-turn.invariant.stays client stands)
