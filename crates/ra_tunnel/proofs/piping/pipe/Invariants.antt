use Rattle.std.proofs.Common.{◌≡◌, ◌≤◌}
use Rattle.std.specs.Prelude.{⊤}
use Rattle.ra_tunnel.specs.Pipes.{Piped, side}
use Rattle.ra_tunnel.specs.Turns.{AreAsked}
use Rattle.ra_tunnel.proofs.piping.pipe.Given as goal

-- so many turns were made, nothing was lost, and no side has ended
abbrev pub invariant-loop-turn : goal.invariant-loop-turn
invariant-loop-turn g l = record {
  piped : Piped (side (g.N.Link.incoming l.fn.client) (g.N.Link.sent l.fn.client) (g.N.Link.faults l.fn.client))
      (side (g.N.Link.incoming l.client) (g.N.Link.sent l.client) (g.N.Link.faults l.client))
      (side (g.T.Link.incoming l.fn.target) (g.T.Link.sent l.fn.target) (g.T.Link.faults l.fn.target))
      (side (g.T.Link.incoming l.target) (g.T.Link.sent l.target) (g.T.Link.faults l.target)) ⊤;
  asked : AreAsked l.turn (g.N.Link.incoming l.fn.client).receives (g.N.Link.incoming l.client).receives
      (g.T.Link.incoming l.fn.target).receives (g.T.Link.incoming l.target).receives;
  client_goes : (g.N.Link.incoming l.client).ended ≡ (g.N.Link.incoming l.fn.client).ended;
  target_goes : (g.T.Link.incoming l.target).ended ≡ (g.T.Link.incoming l.fn.target).ended;
  client_later : g.N.Link.faults l.fn.client ≤ g.N.Link.faults l.client;
  target_later : g.T.Link.faults l.fn.target ≤ g.T.Link.faults l.target;
}
