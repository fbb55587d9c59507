use Rattle.ra_link_core.proofs.TurnLemmas.{short_at, turn_refuses, turn_going, turn_serves}
use Rattle.ra_link_core.proofs.GrowLemmas.{grows_served, happens_does}
use Rattle.ra_link_core.specs.HubEvents.HubEvent.{Turn}
use Rattle.ra_link_core.specs.LinkRuns.{does, served}
use Rattle.std.proofs.Common.{refl, sym}
use Rattle.ra_link_core.proofs.turns.turn_once.Goals as goal

pub returns-then-is_err-clause-made : goal.returns-then-is_err-clause-made
returns-then-is_err-clause-made g c = λ n base s v going grows.
    rw c.no_memory.ensures (short_at _ (g.H.Hub.stands c.args.hub.now) _ _ base _ _ s v (served n c.args.seat c.args.piece.now c.args.now v) going c.reserve.ensures.same refl grows (grows_served n c.args.seat c.args.piece.now c.args.now v))

pub returns-in-Err-clause-made : goal.returns-in-Err-clause-made
returns-in-Err-clause-made g c = λ n base s v going grows.
    turn_refuses c.in-Err.fault c.refuse_turn.result n c.args.seat c.args.piece.now c.args.now (g.H.Hub.stands c.args.hub.now) _ _ _ _ base _ s v c.in-Err.ensures.told (rw c.hub_end.ensures.value at c.refuse_turn.ensures.made) c.reserve.ensures.same going grows

pub returns-in-Ok-clause-made : goal.returns-in-Ok-clause-made
returns-in-Ok-clause-made g c = λ n base s v going grows.
    let w = does (Turn c.args.seat c.args.piece.now c.args.now) v in
    let going' = turn_going c.in-Ok.turn c.args.seat c.args.piece.now c.args.now (g.H.Hub.stands c.args.hub.now) (g.H.Hub.stands c.turn.new.self) _ _ base _ v c.in-Ok.ensures.told c.reserve.ensures.same going in
    let is = turn_serves n c.in-Ok.turn c.args.seat c.args.piece.now c.args.now (g.H.Hub.stands c.args.hub.now) (g.H.Hub.stands c.turn.new.self) _ base _ v c.in-Ok.ensures.told going in
    rw (sym is) (c.take_turn.ensures.made n base s w going' (happens_does s v (Turn c.args.seat c.args.piece.now c.args.now) v.seat grows refl))
