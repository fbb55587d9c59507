use Rattle.ra_model.specs.Refusals.{refusal}
use Rattle.ra_model.specs.Events.{effect, happens}
use Rattle.ra_world.specs.EndEvents.{end_refusal, end_effect, end_happens}
use Rattle.ra_world.proofs.world.World.step.Goals as goal

pub returns-in-Finish-clause-does : goal.returns-in-Finish-clause-does
unfolding refusal effect happens end_refusal end_effect end_happens
returns-in-Finish-clause-does c = rw c.in-Finish.is (rw c.in-Finish.is at c.at_end.ensures.does)

pub returns-in-Say-clause-does : goal.returns-in-Say-clause-does
unfolding refusal effect happens end_refusal end_effect end_happens
returns-in-Say-clause-does c = rw c.in-Say.is (rw c.in-Say.is at c.at_end-in-Say.ensures.does)

pub returns-in-Control-clause-does : goal.returns-in-Control-clause-does
unfolding refusal effect happens end_refusal end_effect end_happens
returns-in-Control-clause-does c = rw c.in-Control.is (rw c.in-Control.is at c.at_end-in-Control.ensures.does)

pub returns-in-Pause-clause-does : goal.returns-in-Pause-clause-does
unfolding refusal effect happens end_refusal end_effect end_happens
returns-in-Pause-clause-does c = rw c.in-Pause.is (rw c.in-Pause.is at c.at_end-in-Pause.ensures.does)

pub returns-in-Resume-clause-does : goal.returns-in-Resume-clause-does
unfolding refusal effect happens end_refusal end_effect end_happens
returns-in-Resume-clause-does c = rw c.in-Resume.is (rw c.in-Resume.is at c.at_end-in-Resume.ensures.does)

pub returns-in-Leave-clause-does : goal.returns-in-Leave-clause-does
unfolding refusal effect happens end_refusal end_effect end_happens
returns-in-Leave-clause-does c = rw c.in-Leave.is (rw c.in-Leave.is at c.at_end-in-Leave.ensures.does)

pub returns-in-Take-clause-does : goal.returns-in-Take-clause-does
unfolding refusal effect happens end_refusal end_effect end_happens
returns-in-Take-clause-does c = rw c.in-Take.is (rw c.in-Take.is at c.at_end-in-Take.ensures.does)

pub returns-in-Tick-clause-does : goal.returns-in-Tick-clause-does
unfolding refusal effect happens end_refusal end_effect end_happens
returns-in-Tick-clause-does c = rw c.in-Tick.is (rw c.in-Tick.is at c.at_end-in-Tick.ensures.does)

pub returns-in-Lose-clause-does : goal.returns-in-Lose-clause-does
unfolding refusal effect happens end_refusal end_effect end_happens
returns-in-Lose-clause-does c = rw c.in-Lose.is (rw c.in-Lose.is at c.at_end-in-Lose.ensures.does)
