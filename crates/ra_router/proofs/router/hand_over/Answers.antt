use Rattle.std.proofs.Common.{◌+◌, w32, to_z, of_z, sym, ap, subst, ◌∙◌}
use Rattle.std.specs.Prelude.{Some}
use Rattle.std.proofs.lemmas.Int.{to_z-of_z}
use Rattle.ra_router.specs.declared.acts.Acts.{Acts}
use Rattle.ra_router.specs.declared.ask.Ask.TheVariants.{To}
use Rattle.ra_router.specs.declared.ask.Said.TheVariants.{Hop}
use Rattle.ra_router.specs.declared.window.Out.{Out}
use Rattle.ra_router.specs.Stepping.{Did, alone, call}
use Rattle.ra_router.proofs.Called.{hands_over}
use Rattle.ra_router.proofs.Windows.{set_number, out_with}
use Rattle.ra_router.proofs.router.hand_over.Goals as goal

pub returns-clause-ok : goal.returns-clause-ok
unfolding Rattle.ra_router.specs.Hops.hop_limit
returns-clause-ok c = λ past s first.
    let kept : Out = out_with c.same.result c.args.caller (to_z w32 (of_z w32 c.args.id)) in
    subst (λ (acts : Acts). Did acts (c.args.made.now + 1) c.take_call.new.windows c.insert.new.self past (call c.args.caller c.args.id (To c.args.window c.args.arg)))
    (sym (c.answer.ensures ∙ ap (λ z. alone c.args.window z (Hop c.args.made.now c.args.arg)) (to_z-of_z w32 c.args.waiting c.ranges.waiting)))
    (hands_over c.args.made.now c.args.windows.now c.take_call.new.windows c.args.out.now c.insert.new.self past c.args.caller c.args.window c.args.id c.args.waiting c.args.arg kept
    c.requires s first
    (ap (λ w. out_with w c.args.caller (to_z w32 (of_z w32 c.args.id))) c.same.ensures ∙ ap (out_with c.args.window c.args.caller) (to_z-of_z w32 c.args.id c.ranges.id))
    c.take_call.ensures.calls c.take_call.ensures.hops
    (set_number c.args.out.now c.insert.new.self c.args.made.now (Some kept) c.in_ok-insert.ensures.updates.0))
