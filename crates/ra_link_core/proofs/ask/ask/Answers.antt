use Rattle.std.proofs.Common.{Some, sym}
use Rattle.ra_link_core.specs.HubEvents.HubEvent.{Admit}
use Rattle.ra_link_core.specs.LinkRuns.{does}
use Rattle.ra_link_core.proofs.GrowLemmas.{happens_does}
use Rattle.ra_link_core.proofs.AskLemmas.{given_seat, request_refuses, admit_going, admit_serves, admit_seat, seat_kind}
use Rattle.ra_link_core.proofs.ask.ask.Goals as goal

pub welcome-requires-clause-seat : goal.welcome-requires-clause-seat
welcome-requires-clause-seat g c = given_seat c.in-Ok.seat (g.H.Hub.seats c.args.hub.now) (g.H.Hub.seats c.admit.new.self) c.in-Ok.ensures.given

pub returns-in-Err-clause-made : goal.returns-in-Err-clause-made
returns-in-Err-clause-made g c = λ place base s v going grows.
    request_refuses c.in-Err.fault c.args.request place c.args.chunk.now c.args.now (g.H.Hub.stands c.args.hub.now) (g.H.Hub.stands c.admit.new.self) _ base _ _ s v c.refuse.result c.in-Err.ensures.told c.refuse.ensures.answers going grows

pub returns-in-Ok-clause-made : goal.returns-in-Ok-clause-made
returns-in-Ok-clause-made g c = λ place base s v going grows.
    let w = does (Admit c.args.request c.args.now) v in
    let kind = seat_kind c.args.request c.in-Ok.seat c.args.now c.kind_of-kind.result (g.H.Hub.stands c.args.hub.now) (g.H.Hub.stands c.admit.new.self) _ base _ v c.in-Ok.ensures.told going c.kind_of-kind.ensures.value in
    let going' = admit_going c.args.request c.in-Ok.seat c.args.now (g.H.Hub.stands c.args.hub.now) (g.H.Hub.stands c.admit.new.self) _ base _ v c.in-Ok.ensures.told going in
    let is = admit_serves c.args.request c.in-Ok.seat place c.args.chunk.now c.args.now (g.H.Hub.stands c.args.hub.now) (g.H.Hub.stands c.admit.new.self) _ base _ v c.in-Ok.ensures.told going in
    let seat = admit_seat c.args.request c.in-Ok.seat c.args.now (g.H.Hub.stands c.args.hub.now) (g.H.Hub.stands c.admit.new.self) _ base _ v c.in-Ok.ensures.told going in
    let given = happens_does s v (Admit c.args.request c.args.now) (Some c.in-Ok.seat) grows seat in
    rw (sym is) (c.welcome.ensures.made place base s w kind going' given)
