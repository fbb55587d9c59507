use Rattle.ra_hub.proofs.HubCalls.{closes_it}
use Rattle.ra_hub.proofs.SeatLemmas.{close_spends}
use Rattle.ra_hub.proofs.plain.PlainHubHub.close.Goals as goal

pub returns-clause-told : goal.returns-clause-told
returns-clause-told g c = λ h stands.
    let hub = c.args.self.now in
    closes_it hub.registry c.close.new.self hub.sessions c.end_closed.new.sessions hub.keys.items h c.args.seat c.args.cause c.args.now stands c.requires
    c.end_closed.ensures.closed c.end_closed.ensures.open c.close.ensures.closed

pub returns-clause-spent : goal.returns-clause-spent
returns-clause-spent g c = close_spends c.args.self.now.registry c.close.new.self c.args.seat c.args.cause c.args.now c.requires c.close.ensures.closed
