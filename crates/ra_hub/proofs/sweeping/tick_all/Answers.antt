use Rattle.std.proofs.Common.{arith, subst, not}
use Rattle.std.specs.Prelude.{List}
use Rattle.std.proofs.lemmas.List.{take_all}
use Rattle.ra_base.specs.declared.key.Key.{Key}
use Rattle.ra_hub.specs.Sweeping.{TicksAll}
use Rattle.ra_hub.proofs.SweepLemmas.{ticks_more, one_at_most}
use Rattle.ra_hub.proofs.sweeping.tick_all.Goals as goal

pub loop-key-preserved : goal.loop-key-preserved
loop-key-preserved c = record {
  ticked = λ distinct.
      rw (c.one_unless-short.ensures) (ticks_more c.args.keys.now c.loop-key.key-index c.args.now c.loop-key.short c.key-item.result c.tick_at-ticked.result c.args.sessions.now c.loop-key.sessions c.tick_at-ticked.new.sessions
      distinct c.loop-key-test.true c.key-item.is (c.loop-key.invariant.ticked distinct) c.tick_at-ticked.ensures);
  bound = omega (arith, c.loop-key.invariant.bound, c.one_unless-short.ensures, one_at_most (not c.tick_at-ticked.result));
}

pub returns : goal.returns
returns c = λ distinct.
    subst (λ (keys : List Key). TicksAll keys c.args.now c.loop-key.short c.args.sessions.now c.loop-key.sessions)
    (take_all c.loop-key.key-index c.args.keys.now (omega (arith, c.loop-key-test.false)))
    (c.loop-key.invariant.ticked distinct)
