use Rattle.std.proofs.Common.{w32, to_z, of_z, ap}
use Rattle.std.proofs.lemmas.Int.{to_z-of_z}
use Rattle.ra_router.proofs.Called.{holds}
use Rattle.ra_router.proofs.Windows.{held_with}
use Rattle.ra_router.proofs.router.hold.Goals as goal

pub returns-clause-ok : goal.returns-clause-ok
unfolding Rattle.ra_router.specs.Hops.hop_limit
returns-clause-ok c = λ past out s first.
    holds c.args.made.now c.args.windows.now c.hold_hop.new.windows out past c.args.caller c.args.window c.args.id c.args.arg
    (held_with c.args.made.now c.args.caller (to_z w32 (of_z w32 c.args.id)) c.args.arg)
    c.requires s first (ap (λ z. held_with c.args.made.now c.args.caller z c.args.arg) (to_z-of_z w32 c.args.id c.ranges.id))
    c.in_ok-hold_hop.ensures.hops c.hold_hop.ensures.calls
