use Rattle.std.proofs.Common.{◌%◌, ◌+◌, arith}
use Rattle.ra_script.specs.Generated.{generated}
use Rattle.ra_script.proofs.Draws.{stepped, stepped_link, stepped_moment, closed, length-generated}
use Rattle.ra_script.proofs.generating.generate.Goals as goal

pub loop-preserved : goal.loop-preserved
loop-preserved c =
    let after = c.in_ok-push_step.ensures in
    let link = stepped_link c.loop.generator c.push_step.new.generator (c.draw-kind.result % 12) c.draw-kind.new.state (1 + c.loop.counter) after.generator c.loop.invariant.link in
    record {
      lines = stepped c.loop.lines.items c.push_step.new.lines.items (generated c.args.start c.args.steps) c.args.steps c.loop.counter c.loop.generator c.push_step.new.generator
          c.draw-kind.result c.draw-kind.new.state c.loop-test.true c.draw-kind.ensures.drawn c.draw-kind.ensures.state after.lines after.generator c.loop.invariant.lines;
      link = omega arith;
      moment = stepped_moment c.loop.generator c.push_step.new.generator (c.draw-kind.result % 12) c.draw-kind.new.state c.loop.counter after.generator c.loop.invariant.moment;
    }

pub returns-clause-lines : goal.returns-clause-lines
returns-clause-lines c =
    closed c.loop.lines.items c.push_transfer.new.lines.items c.push_transfer-2.new.lines.items (generated c.args.start c.args.steps) c.args.steps c.loop.counter c.loop.generator
    c.loop-test.false c.in_ok-push_transfer.ensures c.in_ok-push_transfer-2.ensures c.loop.invariant.lines

pub returns-clause-few : goal.returns-clause-few
returns-clause-few c = rw (returns-clause-lines c) (length-generated c.args.start c.args.steps)
