use Rattle.std.proofs.Common.{w32}
use Rattle.std.proofs.lemmas.Int.{to_z-of_z}
use Rattle.ra_dial.proofs.CallRows.{used}
use Rattle.ra_dial.proofs.dialer.Dialer.dispose.Goals as goal

pub returns-clause-stands : goal.returns-clause-stands
returns-clause-stands c =
    let same = to_z-of_z w32 c.args.id c.ranges.id in
    rw (← c.self.view_is) (used _ _ _ _ (rw same at c.dispose.ensures.stands))
