use Rattle.std.proofs.Common.{sym}
use Rattle.ra_model.proofs.Stands.{leave_stands}
use Rattle.ra_proto.proofs.endpoint.Endpoint.disconnect.Goals as goal

pub returns-clause-stands : goal.returns-clause-stands
returns-clause-stands c = rw (c.in_ok-append_if.ensures.ok, c.is_linked-is_linked.ensures, ← c.self.view_is) (leave_stands _ (sym c.if-is_ended.ensures))
