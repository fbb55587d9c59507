use Rattle.std.proofs.Common.{rules, refl, ap, ◌∙◌, cond, []}
use Rattle.std.specs.Prelude.{Some, ◌++◌, ◌∷◌, bytes_eq}
use Rattle.ra_router.specs.declared.window.Window.{Window}
use Rattle.ra_router.specs.Standing.{calls_of, hops_of}
use Rattle.ra_router.proofs.Windows.{changed, kept, on_err}
use Rattle.ra_router.proofs.window.hold_hop.Goals as goal

pub returns-in_err-push_back-in-Some-clause-calls : goal.returns-in_err-push_back-in-Some-clause-calls
returns-in_err-push_back-in-Some-clause-calls c =
    let after : Window = record { calls = c.in-Some.queues.now.calls; hops = c.push_back.new.self } in
    let written = c.get_mut.follows.holds after in
    λ w. kept calls_of c.add_window.new.windows (c.get_mut.follows.lender after) c.args.window.now (Some c.in-Some.queues.now) (Some after)
    (search rules) (written.3 (search rules)).0 refl w ∙ c.add_window.ensures.calls w

pub returns-in_err-push_back-in-Some-clause-same : goal.returns-in_err-push_back-in-Some-clause-same
returns-in_err-push_back-in-Some-clause-same c =
    let after : Window = record { calls = c.in-Some.queues.now.calls; hops = c.push_back.new.self } in
    let written = c.get_mut.follows.holds after in
    on_err c.from_residual-in_err-push_back-in-Some.result (λ w. kept hops_of c.add_window.new.windows (c.get_mut.follows.lender after) c.args.window.now (Some c.in-Some.queues.now) (Some after)
    (search rules) (written.3 (search rules)).0 (search rules) w ∙ c.add_window.ensures.hops w)

pub returns-in_ok-push_back-in-Some-clause-hops : goal.returns-in_ok-push_back-in-Some-clause-hops
returns-in_ok-push_back-in-Some-clause-hops c =
    let after : Window = record { calls = c.in-Some.queues.now.calls; hops = c.push_back.new.self } in
    let written = c.get_mut.follows.holds after in
    λ w. changed hops_of (λ l. l ++ c.args.hop ∷ []) c.add_window.new.windows (c.get_mut.follows.lender after) c.args.window.now (Some c.in-Some.queues.now) (Some after)
    (search rules) (written.3 (search rules)).0 (search rules) w ∙ ap (λ l. cond (bytes_eq c.args.window.now w) (l ++ c.args.hop ∷ []) l) (c.add_window.ensures.hops w)

pub returns-in_ok-push_back-in-Some-clause-calls : goal.returns-in_ok-push_back-in-Some-clause-calls
returns-in_ok-push_back-in-Some-clause-calls c =
    let after : Window = record { calls = c.in-Some.queues.now.calls; hops = c.push_back.new.self } in
    let written = c.get_mut.follows.holds after in
    λ w. kept calls_of c.add_window.new.windows (c.get_mut.follows.lender after) c.args.window.now (Some c.in-Some.queues.now) (Some after)
    (search rules) (written.3 (search rules)).0 refl w ∙ c.add_window.ensures.calls w
