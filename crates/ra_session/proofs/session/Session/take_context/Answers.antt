use Rattle.ra_ipc.specs.ReadMessage.{context_at}
use Rattle.ra_values.specs.View.{tree}
use Rattle.ra_session.proofs.Meanings.{no_context_is}
use Rattle.ra_session.proofs.TurnSteps.{no_reading}
use Rattle.ra_session.proofs.session.Session.take_context.Goals as goal

pub answer_context-requires-clause-reading : goal.answer_context-requires-clause-reading
answer_context-requires-clause-reading c = (tree c.in-Ok.field-0, rw c.as_slice.ensures at c.in-Ok.ensures.answer)

pub spoil-requires : goal.spoil-requires
spoil-requires c =
    let reads = rw c.as_slice.ensures at c.in-Err.ensures.answer in
    let bad = no_reading _ _ (context_at c.args.next.body) c.in-Some.ensures reads in
    record {
      comes = c.requires.comes;
      bad = rw bad.1 (no_context_is _ _ _ _ c.args.next.id c.args.next.body c.args.now _ c.requires.kind c.requires.context bad.0);
    }
