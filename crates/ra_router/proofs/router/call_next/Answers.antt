use Rattle.std.proofs.Common.{w32, sym, ap, subst, cond, ◌++◌, ◌∷◌, [], ◌∙◌}
use Rattle.std.specs.Prelude.{Some, bytes_eq, slice_get}
use Rattle.std.proofs.lemmas.Int.{to_z-of_z}
use Rattle.ra_router.specs.declared.acts.Acts.{Acts}
use Rattle.ra_router.specs.declared.ask.Ask.TheVariants.{Next}
use Rattle.ra_router.specs.declared.ask.Said.TheVariants.{Hop}
use Rattle.ra_router.specs.Standing.{calls_at, hops_at}
use Rattle.ra_router.specs.Stepping.{Did, alone, call}
use Rattle.ra_router.proofs.Asked.{waits, takes_next, not_looked}
use Rattle.ra_router.proofs.Windows.{set_number}
use Rattle.ra_router.proofs.router.call_next.Goals as goal

pub returns-in_ok-hold_call-in-None-clause-ok : goal.returns-in_ok-hold_call-in-None-clause-ok
returns-in_ok-hold_call-in-None-clause-ok c = λ made past s.
    waits made c.args.windows.now c.hold_call.new.windows c.args.out.now past c.args.from c.args.id s
    (not_looked (slice_get (hops_at c.args.windows.now c.args.from) 0) c.args.from (sym c.in-None.is ∙ c.first_hop.ensures))
    (λ w. c.in_ok-hold_call-in-None.ensures.calls w ∙ ap (λ z. cond (bytes_eq c.args.from w) (calls_at c.args.windows.now w ++ z ∷ []) (calls_at c.args.windows.now w)) (to_z-of_z w32 c.args.id c.ranges.id))
    c.hold_call.ensures.hops

pub returns-in-Some-take_hop-clause-ok : goal.returns-in-Some-take_hop-clause-ok
returns-in-Some-take_hop-clause-ok c = λ made past s.
    subst (λ (acts : Acts). Did acts made c.take_hop.new.windows c.insert.new.self past (call c.args.from c.args.id Next))
    (sym (c.answer.ensures ∙ ap (λ z. alone c.args.from z (Hop c.in-Some.number c.in-Some-take_hop.hop.arg)) (to_z-of_z w32 c.args.id c.ranges.id)))
    (takes_next made c.args.windows.now c.take_hop.new.windows c.args.out.now c.insert.new.self past c.args.from c.args.id c.in-Some.number c.in-Some.kept c.in-Some-take_hop.hop s
    (sym c.in-Some.is ∙ c.first_hop.ensures) (sym c.take_hop.ensures.taken ∙ c.in-Some-take_hop.is)
    c.take_hop.ensures.hops c.take_hop.ensures.calls
    (set_number c.args.out.now c.insert.new.self c.in-Some.number (Some c.in-Some.kept) c.in_ok-insert-in-Some.ensures.updates.0))
