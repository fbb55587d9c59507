use Rattle.std.proofs.Common.{sym, ◌≤◌, length, arith}
use Rattle.std.proofs.lemmas.Bool.{and_from, le-leb}
use Rattle.ra_model.specs.Frames.{body_limit}
use Rattle.ra_model.proofs.Stands.{control_stands}
use Rattle.ra_proto.proofs.endpoint.Endpoint.control.Goals as goal

pub returns-clause-stands : goal.returns-clause-stands
returns-clause-stands c =
    let fits : length c.args.body.now ≤ body_limit = omega (arith, c.if-body-gt-BODY_LIMIT.false) in
    rw (c.in_ok-append.ensures.ok, ← c.self.view_is) (control_stands c.args.body.now _ (and_from _ _ (sym c.if-not-is_linked.ensures) (le-leb (length c.args.body.now) body_limit fits)))
