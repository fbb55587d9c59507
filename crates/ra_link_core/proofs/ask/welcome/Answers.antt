use Rattle.std.proofs.Common.{Some}
use Rattle.ra_link_core.specs.LinkRuns.{welcomed, writes}
use Rattle.ra_opening.specs.Verdicts.{acceptance_bytes}
use Rattle.ra_link_core.proofs.GrowLemmas.{happens_more}
use Rattle.ra_link_core.proofs.AskLemmas.{welcomes, unwelcomed, grows_welcomed}
use Rattle.ra_link_core.proofs.ask.welcome.Goals as goal

pub returns-in-Err-clause-made : goal.returns-in-Err-clause-made
returns-in-Err-clause-made g c = λ place base s v is going grows.
    unwelcomed c.args.seat place c.args.chunk.now c.args.now (g.H.Hub.stands c.args.hub.now) _ base _ _ s v c.in-Err.ensures.err going grows

pub returns-in-Ok-clause-made : goal.returns-in-Ok-clause-made
returns-in-Ok-clause-made g c = λ place base s v is going grows.
    let w = welcomed c.args.seat place (writes (acceptance_bytes c.args.seat.key.kind) v) in
    let going' = welcomes c.args.kind c.args.seat place (g.H.Hub.stands c.args.hub.now) _ base _ _ v is c.in-Ok.ensures.ok going in
    c.begin.ensures.made base s w going' (happens_more s (record v { seat = Some c.args.seat }) w grows (grows_welcomed c.args.seat place v))
