use Rattle.ra_values.specs.View.{tree}
use Rattle.ra_session.proofs.Beginning.{dialled}
use Rattle.ra_session.proofs.session.Session.dialling.Goals as goal

pub returns : goal.returns
returns c = rw (c.new.ensures, c.new-2.ensures) (dialled _ c.args.kind (tree c.args.context.now) c.args.now c.in_ok-endpoint.ensures.stands)
