use Rattle.std.proofs.Common.{arith}
use Rattle.ra_grand.proofs.SpotLemmas.{PlaceAt, not_client, not_link, found_there, spot_there}
use Rattle.ra_grand.proofs.world.GrandWorld.find.Goals as goal

pub returns-in_err-client-clause-found : goal.returns-in_err-client-clause-found
returns-in_err-client-clause-found c =
    let place : PlaceAt c.args.self.now c.args.link c.in_ok-served.served _ = record { number = c.in_ok-served.ensures.0; less = omega (arith, c.in_ok-served.ensures.1, c.link_count.ensures); at = c.place-client.ensures } in
    rw c.from_residual-in_err-client.ensures (not_client c.args.self.now c.args.link c.in_ok-served.served c.len.result _ place c.len.ensures c.in_err-client.ensures)

pub returns-in_err-link-clause-found : goal.returns-in_err-link-clause-found
returns-in_err-link-clause-found c =
    let place : PlaceAt c.args.self.now c.args.link c.in_ok-served.served _ = record { number = c.in_ok-served.ensures.0; less = omega (arith, c.in_ok-served.ensures.1, c.link_count.ensures); at = c.place-client.ensures } in
    rw c.from_residual-in_err-link.ensures
    (not_link c.args.self.now c.args.link c.in_ok-served.served c.in_ok-client.client c.link_count-2.result _ place c.in_ok-client.ensures.0 (omega (arith, c.in_ok-client.ensures.1, c.len.ensures))
    c.link_count-2.ensures c.in_err-link.ensures)

pub returns-clause-found : goal.returns-clause-found
returns-clause-found c =
    let place : PlaceAt c.args.self.now c.args.link c.in_ok-served.served _ = record { number = c.in_ok-served.ensures.0; less = omega (arith, c.in_ok-served.ensures.1, c.link_count.ensures); at = c.place-client.ensures } in
    found_there c.args.self.now c.args.link c.in_ok-served.served c.in_ok-client.client c.in_ok-link.link c.link_count-2.result _ place c.in_ok-client.ensures.0
    (omega (arith, c.in_ok-client.ensures.1, c.len.ensures)) c.link_count-2.ensures c.in_ok-link.ensures.0 c.in_ok-link.ensures.1

pub returns-clause-there : goal.returns-clause-there
returns-clause-there c =
    let place : PlaceAt c.args.self.now c.args.link c.in_ok-served.served _ = record { number = c.in_ok-served.ensures.0; less = omega (arith, c.in_ok-served.ensures.1, c.link_count.ensures); at = c.place-client.ensures } in
    spot_there c.args.self.now c.args.link c.in_ok-served.served c.in_ok-client.client c.in_ok-link.link c.link_count-2.result _ place (omega (arith, c.in_ok-client.ensures.1, c.len.ensures))
    c.link_count-2.ensures c.in_ok-link.ensures.1
