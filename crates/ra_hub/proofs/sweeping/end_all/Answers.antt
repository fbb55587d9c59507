use Rattle.std.proofs.Common.{arith, subst}
use Rattle.std.proofs.lemmas.List.{take_all}
use Rattle.ra_registry.specs.declared.past.Past.{Past}
use Rattle.std.specs.Prelude.{List}
use Rattle.ra_hub.specs.Sweeping.{EndsAll}
use Rattle.ra_hub.proofs.SweepLemmas.{ends_more, ends_none}
use Rattle.ra_hub.proofs.sweeping.end_all.Goals as goal

pub loop-entry-init : goal.loop-entry-init
loop-entry-init c = ends_none c.args.sessions.now

pub loop-entry-preserved : goal.loop-entry-preserved
loop-entry-preserved c =
    ends_more c.args.entries.now c.loop-entry.entry-index c.entry-item.result c.args.sessions.now c.loop-entry.sessions c.end_at.new.sessions
    c.loop-entry-test.true c.entry-item.is c.loop-entry.invariant c.end_at.ensures

pub returns : goal.returns
returns c =
    subst (λ (entries : List Past). EndsAll entries c.args.sessions.now c.loop-entry.sessions)
    (take_all c.loop-entry.entry-index c.args.entries.now (omega (arith, c.loop-entry-test.false)))
    c.loop-entry.invariant
