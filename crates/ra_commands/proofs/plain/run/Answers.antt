use Rattle.ra_commands.proofs.ProgramLemmas.{receive_done, replay_done, grand_done, soak_front}
use Rattle.ra_commands.proofs.plain.run.Goals as goal

pub returns-in-Receive-clause-done : goal.returns-in-Receive-clause-done
returns-in-Receive-clause-done g c = rw c.in-Receive.is (receive_done c.receive.result _ _ _ _ c.receive.ensures.done)

pub returns-in-Replay-clause-done : goal.returns-in-Replay-clause-done
returns-in-Replay-clause-done g c = rw c.in-Replay.is (replay_done c.replay.result _ _ _ _ c.replay.ensures.done)

pub returns-in-Grand-clause-done : goal.returns-in-Grand-clause-done
returns-in-Grand-clause-done g c = rw c.in-Grand.is (grand_done c.grand.result _ _ _ _ c.grand.ensures.done)

pub returns-in-Soak-clause-front : goal.returns-in-Soak-clause-front
returns-in-Soak-clause-front g c = rw c.in-Soak.is (soak_front c.soak.result c.in-Soak.start c.in-Soak.steps _ _ _ c.soak.ensures.err)
