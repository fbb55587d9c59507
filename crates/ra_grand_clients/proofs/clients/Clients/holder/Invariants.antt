use Rattle.std.proofs.Common.{◌≡◌, ◌+◌, drop}
use Rattle.ra_grand_clients.proofs.Holders.{held_by}
use Rattle.ra_grand_clients.proofs.clients.Clients.holder.Given as goal

abbrev pub invariant-loop-n : goal.invariant-loop-n
invariant-loop-n l = held_by (l.n + 1) l.fn.key (drop l.n l.fn.self) ≡ held_by 1 l.fn.key l.fn.self
