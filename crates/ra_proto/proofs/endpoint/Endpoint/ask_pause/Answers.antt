use Rattle.std.proofs.Common.{sym}
use Rattle.ra_model.proofs.Stands.{pause_stands}
use Rattle.ra_proto.proofs.endpoint.Endpoint.ask_pause.Goals as goal

pub returns-clause-stands : goal.returns-clause-stands
returns-clause-stands c = rw (c.in_ok-append.ensures.ok, ← c.self.view_is) (pause_stands _ (sym c.if-not-is_linked.ensures))
