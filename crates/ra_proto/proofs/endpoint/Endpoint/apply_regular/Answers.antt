use Rattle.std.proofs.Common.{sym}
use Rattle.std.proofs.lemmas.Bool.{eqb-false}
use Rattle.ra_proto.proofs.Applied.{applied_dropped, handed_quiet}
use Rattle.ra_proto.proofs.endpoint.Endpoint.apply_regular.Goals as goal

pub returns-then-is_gap-clause-handed : goal.returns-then-is_gap-clause-handed
returns-then-is_gap-clause-handed c =
    rw (← c.self.view_is) (handed_quiet c.args.frame _ c.requires.kind (eqb-false _ _ (sym c.if-is_next.ensures)))

pub returns-clause-stands : goal.returns-clause-stands
returns-clause-stands c =
    let asked = rw (c.later-moment.ensures.value) at c.if-is_gap.ensures in
    rw (c.pass.ensures.passed, ← c.self.view_is)
    (applied_dropped c.args.frame c.args.now _ c.requires.kind (eqb-false _ _ (sym c.if-is_next.ensures)) (sym asked) c.self.invariant.0)

pub returns-clause-handed : goal.returns-clause-handed
returns-clause-handed c =
    rw (← c.self.view_is) (handed_quiet c.args.frame _ c.requires.kind (eqb-false _ _ (sym c.if-is_next.ensures)))
