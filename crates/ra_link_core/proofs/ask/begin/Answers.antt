use Rattle.std.proofs.Common.{refl}
use Rattle.ra_link_core.specs.HubEvents.HubEvent.{Attach}
use Rattle.ra_link_core.specs.LinkRuns.{does}
use Rattle.ra_link_core.proofs.GrowLemmas.{happens_does}
use Rattle.ra_link_core.proofs.AskLemmas.{attach_refuses, attach_going, attach_serves}
use Rattle.ra_link_core.proofs.ask.begin.Goals as goal

pub returns-in-Err-clause-made : goal.returns-in-Err-clause-made
returns-in-Err-clause-made g c = λ base s v going grows.
    rw c.hub_end.ensures.value (attach_refuses c.in-Err.fault c.args.seat c.args.chunk.now c.args.now (g.H.Hub.stands c.args.hub.now) (g.H.Hub.stands c.attach.new.self) _ base _ s v c.in-Err.ensures.told going grows)

pub returns-in-Ok-clause-made : goal.returns-in-Ok-clause-made
returns-in-Ok-clause-made g c = λ base s v going grows.
    let w = does (Attach c.args.seat c.args.chunk.now c.args.now) v in
    let going' = attach_going c.args.seat c.args.chunk.now c.args.now (g.H.Hub.stands c.args.hub.now) (g.H.Hub.stands c.attach.new.self) _ base _ v c.in-Ok.ensures.told going in
    let is = attach_serves c.args.seat c.args.chunk.now c.args.now (g.H.Hub.stands c.args.hub.now) (g.H.Hub.stands c.attach.new.self) _ base _ v c.in-Ok.ensures.told going in
    rw is (c.serve_turns.ensures.made base s w going' (happens_does s v (Attach c.args.seat c.args.chunk.now c.args.now) v.seat grows refl))
