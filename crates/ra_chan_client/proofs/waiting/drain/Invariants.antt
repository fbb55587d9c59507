use Rattle.std.proofs.Common.{◌≡◌, ◌≤◌, ◌+◌, ◌++◌, vec_len, vec_capacity}
use Rattle.std.specs.Map.{values_of}
use Rattle.std.specs.BTreeMap.{btree_map_len}
use Rattle.ra_chan_client.proofs.waiting.drain.Given as goal

abbrev pub invariant-loop-packet : goal.invariant-loop-packet
invariant-loop-packet l = record {
  items : l.packets.items ++ values_of l.waiting.entries ≡ values_of l.fn.waiting.entries;
  room : vec_len l.packets + btree_map_len l.waiting ≤ vec_capacity l.packets;
}

abbrev pub decreases-loop-packet : goal.decreases-loop-packet
decreases-loop-packet l = btree_map_len l.waiting
