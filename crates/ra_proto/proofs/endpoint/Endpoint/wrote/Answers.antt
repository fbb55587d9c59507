use Rattle.std.proofs.Common.{length, if◌then◌else◌, [], ◌≤◌}
use Rattle.std.proofs.lemmas.Bool.{le-leb}
use Rattle.ra_model.proofs.Stands.{wrote_stands}
use Rattle.ra_proto.proofs.endpoint.Endpoint.wrote.Goals as goal

pub returns-clause-stands : goal.returns-clause-stands
returns-clause-stands c =
    let shown : c.args.n ≤ length (if c.self.inside.paused then [] else c.self.inside.unwritten) = rw (← c.self.view_is) at c.requires in
    rw (c.advance.ensures, ← c.self.view_is) (wrote_stands c.args.n _ (le-leb c.args.n (length (if c.self.inside.paused then [] else c.self.inside.unwritten)) shown))
