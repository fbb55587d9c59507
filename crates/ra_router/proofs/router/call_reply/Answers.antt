use Rattle.std.proofs.Common.{rules, w32, sym, ap, subst, ◌∙◌}
use mir.Val.{SFits}
use Rattle.std.proofs.lemmas.Int.{to_z-of_z}
use Rattle.ra_router.specs.declared.acts.Acts.{Acts}
use Rattle.ra_router.specs.declared.acts.Acts.TheVariants.{Two}
use Rattle.ra_router.specs.declared.ask.Ask.TheVariants.{Reply}
use Rattle.ra_router.specs.declared.ask.Told.{Told}
use Rattle.ra_router.specs.declared.ask.Said.TheVariants.{Replied, Done, NoSuchCall}
use Rattle.ra_router.specs.Stepping.{Did, alone, call, tells}
use Rattle.ra_router.proofs.Settling.{no_such, replied}
use Rattle.ra_router.proofs.router.call_reply.Goals as goal

pub returns-in-None : goal.returns-in-None
returns-in-None c = λ made windows past s.
    subst (λ (acts : Acts). Did acts made windows c.take_out.new.out past (call c.args.from c.args.id (Reply c.args.number c.args.good c.args.value)))
    (sym (c.answer.ensures ∙ ap (λ z. alone c.args.from z NoSuchCall) (to_z-of_z w32 c.args.id c.ranges.id)))
    (no_such made windows c.args.out.now c.take_out.new.out past c.args.from c.args.id c.args.number c.args.good c.args.value s (sym c.in-None.is ∙ c.take_out.ensures.taken) c.take_out.ensures.out)

pub returns-in-Some : goal.returns-in-Some
returns-in-Some c = λ made windows past s.
    let fits : SFits w32 c.in-Some.field-0.id = search rules in
    let first : Told = tells c.in-Some.field-0.caller c.in-Some.field-0.id (Replied c.args.good c.args.value) in
    subst (λ (t : Told). Did (Two t c.tell-in-Some.result) made windows c.take_out.new.out past (call c.args.from c.args.id (Reply c.args.number c.args.good c.args.value)))
    (sym (c.tell.ensures ∙ ap (λ z. tells c.in-Some.field-0.caller z (Replied c.args.good c.args.value)) (to_z-of_z w32 c.in-Some.field-0.id fits)))
    (subst (λ (t : Told). Did (Two first t) made windows c.take_out.new.out past (call c.args.from c.args.id (Reply c.args.number c.args.good c.args.value)))
    (sym (c.tell-in-Some.ensures ∙ ap (λ z. tells c.args.from z Done) (to_z-of_z w32 c.args.id c.ranges.id)))
    (replied made windows c.args.out.now c.take_out.new.out past c.args.from c.args.id c.args.number c.args.good c.args.value c.in-Some.field-0 s (sym c.in-Some.is ∙ c.take_out.ensures.taken) c.take_out.ensures.out))
