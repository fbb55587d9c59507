use Rattle.std.proofs.Common.{w32, sym, ap, subst, ◌∙◌}
use Rattle.std.specs.Prelude.{IfOk}
use Rattle.std.proofs.lemmas.Int.{to_z-of_z}
use Rattle.ra_router.specs.declared.acts.Acts.{Acts}
use Rattle.ra_router.specs.declared.ask.Ask.TheVariants.{To}
use Rattle.ra_router.specs.declared.ask.Said.TheVariants.{Full}
use Rattle.ra_router.specs.Stepping.{Did, alone, call}
use Rattle.ra_router.proofs.Quiet.{full}
use Rattle.ra_router.proofs.router.call_to.Goals as goal

pub returns-then-made-ge-HOP_LIMIT-clause-ok : goal.returns-then-made-ge-HOP_LIMIT-clause-ok
unfolding Rattle.ra_router.specs.Hops.hop_limit
returns-then-made-ge-HOP_LIMIT-clause-ok c = λ past s.
    subst (λ (acts : Acts). Did acts c.args.made.now c.args.windows.now c.args.out.now past (call c.args.caller c.args.id (To c.args.window c.args.arg)))
    (sym (c.answer.ensures ∙ ap (λ z. alone c.args.caller z Full) (to_z-of_z w32 c.args.id c.ranges.id)))
    (full c.args.made.now c.args.windows.now c.args.out.now past c.args.caller c.args.window c.args.id c.args.arg c.if-made-ge-HOP_LIMIT.true s)

pub returns-in-None-clause-ok : goal.returns-in-None-clause-ok
returns-in-None-clause-ok c = λ past s.
    subst (λ z. IfOk c.hold.result (λ (acts : Acts). Did acts c.hold.new.made c.hold.new.windows c.args.out.now past (call c.args.caller z (To c.args.window c.args.arg))))
    (to_z-of_z w32 c.args.id c.ranges.id)
    (c.hold.ensures.ok past c.args.out.now s (sym c.first_call.ensures ∙ c.in-None.is))
