use Rattle.std.proofs.Common.{rules}
use Rattle.std.specs.Prelude.{Some, None}
use Rattle.ra_router.specs.declared.window.Window.{Window}
use Rattle.ra_router.specs.Standing.{calls_of, hops_of}
use Rattle.ra_router.proofs.Windows.{kept}
use Rattle.ra_router.proofs.window.add_window.Goals as goal

pub returns-clause-calls : goal.returns-clause-calls
returns-clause-calls c =
    let after : Window = record { calls = c.new.result; hops = c.new-2.result } in
    kept calls_of c.args.windows.now c.insert.new.self c.args.window.now None (Some after)
    (search rules) (search rules) (search rules)

pub returns-clause-hops : goal.returns-clause-hops
returns-clause-hops c =
    let after : Window = record { calls = c.new.result; hops = c.new-2.result } in
    kept hops_of c.args.windows.now c.insert.new.self c.args.window.now None (Some after)
    (search rules) (search rules) (search rules)
