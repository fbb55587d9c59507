use Rattle.std.proofs.Common.{◌≡◌, ◌+◌, ◌≤◌, ◌++◌, length}
use Rattle.std.specs.Vec.Iter.{into_iter_items}
use Rattle.ra_model.specs.Frames.{last_id}
use Rattle.ra_proto.specs.SayAll.{said_entries}
use Rattle.ra_proto.proofs.saying_all.push_all.Given as goal

abbrev pub invariant-loop-body : goal.invariant-loop-body
invariant-loop-body l = record {
  rest : l.queue.entries ++ said_entries l.id l.ack l.written (into_iter_items l.body-iterator)
      ≡ l.fn.queue.entries ++ said_entries l.last l.ack l.written (into_iter_items l.initial.body-iterator);
  room : length (into_iter_items l.body-iterator) ≤ l.queue.spare;
  ids : l.id + length (into_iter_items l.body-iterator) ≤ last_id;
}
