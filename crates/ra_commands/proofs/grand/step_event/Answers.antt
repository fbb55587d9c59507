use Rattle.std.proofs.lemmas.Result.{err_from_is_err_and}
use Rattle.ra_commands.proofs.GrandRunning.{event_done, event_refused}
use Rattle.ra_commands.proofs.grand.step_event.Goals as goal

pub returns-in_err-effect : goal.returns-in_err-effect
returns-in_err-effect c = λ w stands.
    let p = err_from_is_err_and c.from_residual.result c.from_residual.ensures.1 in
    rw (p.1, p.2) (λ other. event_refused c.args.event.now c.in_err-effect.field-0.0 w c.apply.new.self c.args.text.now.items (c.in_err-effect.ensures w stands) other)

pub returns-in-Ok : goal.returns-in-Ok
returns-in-Ok c = λ w stands.
    event_done c.args.event.now c.in_ok-effect.effect w c.apply.new.self c.args.text.now.items c.push_line.new.text.items (c.in_ok-effect.ensures w stands) c.in-Ok.ensures
