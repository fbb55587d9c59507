use Rattle.std.proofs.Common.{rules, refl}
use Rattle.std.specs.Prelude.{Some, drop}
use Rattle.ra_router.specs.declared.window.Window.{Window}
use Rattle.ra_router.specs.Standing.{calls_of, hops_of}
use Rattle.ra_router.proofs.Windows.{changed, kept}
use Rattle.ra_router.proofs.window.take_call.Goals as goal

pub returns-in-Some-clause-calls : goal.returns-in-Some-clause-calls
returns-in-Some-clause-calls c =
    let after : Window = record { calls = c.pop_front.new.self; hops = c.in-Some.queues.now.hops } in
    let written = c.get_mut.follows.holds after in
    changed calls_of (drop 1) c.args.windows.now (c.get_mut.follows.lender after) c.args.window.now (Some c.in-Some.queues.now) (Some after)
    (search rules) (written.3 (search rules)).0 c.pop_front.ensures.rest

pub returns-in-Some-clause-hops : goal.returns-in-Some-clause-hops
returns-in-Some-clause-hops c =
    let after : Window = record { calls = c.pop_front.new.self; hops = c.in-Some.queues.now.hops } in
    let written = c.get_mut.follows.holds after in
    kept hops_of c.args.windows.now (c.get_mut.follows.lender after) c.args.window.now (Some c.in-Some.queues.now) (Some after)
    (search rules) (written.3 (search rules)).0 refl
