use Rattle.std.proofs.Common.{sym}
use Rattle.ra_model.specs.Timing.{alarms_cleared}
use Rattle.ra_model.proofs.Stands.{lose_stands, lose_other_stands}
use Rattle.ra_proto.proofs.endpoint.Endpoint.lose_link.Goals as goal

pub invariant_of-self : goal.invariant_of-self
unfolding alarms_cleared
invariant_of-self c =
    let k = c.self.invariant.0 in
    (record { all = k.all; id = k.id; fits = k.fits; told = k.told }, rw (c.alarms_cleared-self-inside.ensures) c.self.invariant.1, rw (c.alarms_cleared-self-inside.ensures) c.self.invariant.2)

pub returns-then-is_present-clause-stands : goal.returns-then-is_present-clause-stands
returns-then-is_present-clause-stands c =
    let is = rw (← c.self.view_is) at c.if-is_present.ensures in
    rw (c.alarms_cleared-self-inside.ensures, c.clear-then-is_present.ensures, c.clear.ensures, ← c.self.view_is) (lose_stands c.args.epoch _ (sym is))

pub returns-else-is_present-clause-stands : goal.returns-else-is_present-clause-stands
returns-else-is_present-clause-stands c = lose_other_stands c.args.epoch c.args.self.now (sym c.if-is_present.ensures)
