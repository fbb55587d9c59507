use Rattle.ra_commands.proofs.GrandRunning.{steps_do, steps_drain}
use Rattle.ra_commands.proofs.grand.step_line.Goals as goal

pub returns-in-Do : goal.returns-in-Do
returns-in-Do c = λ w stands.
    rw c.in-Do.is (steps_do c.step_event.result c.in-Do.event c.step_event.new.world c.args.text.now.items c.step_event.new.text.items w (c.step_event.ensures w stands))

pub returns-in-Drain : goal.returns-in-Drain
returns-in-Drain c = λ w stands.
    rw c.in-Drain.is (steps_drain c.drain.result c.in-Drain.client c.drain.new.world c.args.text.now.items c.drain.new.text.items w (c.drain.ensures w stands))
