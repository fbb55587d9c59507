use Rattle.std.proofs.Common.{◌≡◌, length}
use Rattle.ra_grand_clients.specs.ClientStates.{StaysClient}
use Rattle.ra_grand_clients.proofs.client.Client.flush.Given as goal

abbrev pub invariant-loop-turn : goal.invariant-loop-turn
invariant-loop-turn l = record {
  stays : StaysClient l.fn.self l.self;
  count : length l.self.links ≡ length l.fn.self.links;
}
