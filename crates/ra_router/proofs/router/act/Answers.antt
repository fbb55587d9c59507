use Rattle.std.proofs.Common.{w32, sym, ap, subst, ◌∙◌}
use Rattle.std.specs.Prelude.{ℤ, IfOk}
use Rattle.std.proofs.lemmas.Int.{to_z-of_z}
use Rattle.ra_router.specs.declared.acts.Acts.{Acts}
use Rattle.ra_router.specs.declared.ask.Ask.{Ask}
use Rattle.ra_router.specs.declared.ask.Ask.TheVariants.{BadTo, Next, Reply, BadReply}
use Rattle.ra_router.specs.declared.ask.Said.TheVariants.{BadWindow, NoSuchCall}
use Rattle.ra_router.specs.Stepping.{Did, alone, call}
use Rattle.ra_router.proofs.Quiet.{bad_to, bad_reply}
use Rattle.ra_router.proofs.router.act.Goals as goal

pub returns-in-BadTo-clause-ok : goal.returns-in-BadTo-clause-ok
returns-in-BadTo-clause-ok c = λ past s.
    subst (λ (ask : Ask). Did c.answer.result c.args.made.now c.args.windows.now c.args.out.now past (call c.args.from c.args.id ask)) (sym c.in-BadTo.is)
    (subst (λ (acts : Acts). Did acts c.args.made.now c.args.windows.now c.args.out.now past (call c.args.from c.args.id BadTo))
    (sym (c.answer.ensures ∙ ap (λ z. alone c.args.from z BadWindow) (to_z-of_z w32 c.args.id c.ranges.id)))
    (bad_to c.args.made.now c.args.windows.now c.args.out.now past c.args.from c.args.id s))

pub returns-in-BadReply-clause-ok : goal.returns-in-BadReply-clause-ok
returns-in-BadReply-clause-ok c = λ past s.
    subst (λ (ask : Ask). Did c.answer-in-BadReply.result c.args.made.now c.args.windows.now c.args.out.now past (call c.args.from c.args.id ask)) (sym c.in-BadReply.is)
    (subst (λ (acts : Acts). Did acts c.args.made.now c.args.windows.now c.args.out.now past (call c.args.from c.args.id BadReply))
    (sym (c.answer-in-BadReply.ensures ∙ ap (λ z. alone c.args.from z NoSuchCall) (to_z-of_z w32 c.args.id c.ranges.id)))
    (bad_reply c.args.made.now c.args.windows.now c.args.out.now past c.args.from c.args.id s))

pub returns-in-Next-clause-ok : goal.returns-in-Next-clause-ok
returns-in-Next-clause-ok c = λ past s.
    subst (λ (ask : Ask). IfOk c.call_next.result (λ (acts : Acts). Did acts c.args.made.now c.call_next.new.windows c.call_next.new.out past (call c.args.from c.args.id ask))) (sym c.in-Next.is)
    (subst (λ (z : ℤ). IfOk c.call_next.result (λ (acts : Acts). Did acts c.args.made.now c.call_next.new.windows c.call_next.new.out past (call c.args.from z Next)))
    (to_z-of_z w32 c.args.id c.ranges.id) (c.call_next.ensures.ok c.args.made.now past s))

pub returns-in-Reply-clause-ok : goal.returns-in-Reply-clause-ok
returns-in-Reply-clause-ok c = λ past s.
    subst (λ (ask : Ask). Did c.call_reply.result c.args.made.now c.args.windows.now c.call_reply.new.out past (call c.args.from c.args.id ask)) (sym c.in-Reply.is)
    (subst (λ (z : ℤ). Did c.call_reply.result c.args.made.now c.args.windows.now c.call_reply.new.out past (call c.args.from z (Reply c.in-Reply.hop c.in-Reply.good c.in-Reply.value)))
    (to_z-of_z w32 c.args.id c.ranges.id) (c.call_reply.ensures c.args.made.now c.args.windows.now past s))
