use Rattle.ra_commands.proofs.GrandRunning.{frame_taken}
use Rattle.ra_commands.proofs.grand.take_frame.Goals as goal

pub returns-in-Ok : goal.returns-in-Ok
returns-in-Ok c = λ w stands.
    rw c.goes_on.ensures
    (frame_taken c.args.client c.in_ok-effect.effect w c.apply.new.self c.args.text.now.items c.push_line.new.text.items (c.in_ok-effect.ensures w stands) c.in-Ok.ensures)
