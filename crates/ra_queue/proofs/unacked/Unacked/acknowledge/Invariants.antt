use Rattle.std.proofs.Common.{◌≡◌, ◌+◌, ◌-◌, ◌≤◌, length}
use Rattle.std.specs.VecDeque.{deque_len, deque_capacity}
use Rattle.ra_model.specs.EndpointStates.{behind}
use Rattle.ra_queue.proofs.unacked.Unacked.acknowledge.Given as goal

abbrev pub invariant-loop-self : goal.invariant-loop-self
invariant-loop-self l = record {
  rest : behind l.upto l.self-inside.entries.items ≡ behind l.upto l.fn.self.entries;
  count : l.count + length l.self-inside.entries.items ≡ length l.fn.self.entries;
  spare : l.fn.self.spare ≤ deque_capacity l.self-inside.entries - deque_len l.self-inside.entries;
}

abbrev pub decreases-loop-self : goal.decreases-loop-self
decreases-loop-self l = deque_len l.self-inside.entries
