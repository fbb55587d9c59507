use Rattle.std.proofs.Common.{Bool, ◌||◌, ◌&&◌, ◌≡◌, true, ap, sym, ◌∙◌}
use Rattle.std.specs.Prelude.{is_some}
use Rattle.ra_model.specs.FirstFrame.{first_frame, is_too_long}
use Rattle.ra_model.specs.Endpoints.{is_linked}
use Rattle.ra_proto.proofs.Ready.{ready_is}
use Rattle.ra_proto.proofs.endpoint.Endpoint.ready.Goals as goal

pub returns-then-is_linked : goal.returns-then-is_linked
returns-then-is_linked c =
    let linked : is_linked c.self.inside.phase ≡ true = sym c.if-is_linked.ensures in
    rw (← c.self.view_is)
    (ready_is c.self.inside.unread c.ready.result c.ready.ensures.partial c.ready.ensures.none
    ∙ sym (ap (λ (b : Bool). b && (is_too_long c.self.inside.unread || is_some (first_frame c.self.inside.unread))) linked))
