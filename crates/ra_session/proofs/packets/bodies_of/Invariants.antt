use Rattle.std.proofs.Common.{◌≡◌, map, take, drop}
use Rattle.std.specs.List.{AllByRecursion}
use Rattle.ra_ipc.specs.Packets.{message_bytes, MessageFits}
use Rattle.ra_ipc.specs.View.{message}
use Rattle.ra_session.proofs.packets.bodies_of.Given as goal

abbrev pub invariant-loop-packet : goal.invariant-loop-packet
invariant-loop-packet l = record {
  done : l.bodies.items ≡ map message_bytes (map message (take l.packet-index l.packets));
  fit : AllByRecursion MessageFits (map message (drop l.packet-index l.packets));
}
