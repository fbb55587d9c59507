use Rattle.ra_opening.proofs.BudgetLemmas.{skipped_shorter, passes_skipped}
use Rattle.ra_opening.proofs.shaking.pass_over.Goals as goal

pub frames-smaller : goal.frames-smaller
frames-smaller c = rw c.skip.ensures (skipped_shorter c.frames.reader.unread c.in-Some.kind c.in-Some.size c.in-Some.ensures)

pub frames-preserved : goal.frames-preserved
frames-preserved c =
    passes_skipped c.args.reader.now c.frames.reader c.skip.new.self c.in-Some.kind c.in-Some.size c.frames.invariant c.in-Some.ensures c.skip.ensures
    c.if-kind-eq-CONTROL.false c.if-kind-eq-DISCONNECT.false
