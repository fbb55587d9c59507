use Rattle.std.proofs.Common.{sym}
use Rattle.ra_endpoint_commands.proofs.StepLemmas.{line_of_base, line_of_event, line_of_drain}
use Rattle.ra_endpoint_commands.proofs.replay.step_line.Goals as goal

pub returns-in_ok-push_base-in-Base : goal.returns-in_ok-push_base-in-Base
returns-in_ok-push_base-in-Base c = λ w stands. rw c.in-Base.is (line_of_base c.in-Base.base w _ _ _ stands c.in_ok-push_base-in-Base.ensures)

pub returns-in-Do : goal.returns-in-Do
returns-in-Do c = λ w stands. rw (c.in-Do.is, sym (line_of_event c.in-Do.event w)) (c.step_event.ensures w stands)

pub returns-in-Drain : goal.returns-in-Drain
returns-in-Drain c = λ w stands. rw (c.in-Drain.is, sym (line_of_drain c.in-Drain.side w)) (c.drain.ensures w stands)
