use Rattle.ra_hub.proofs.HubCalls.{loses}
use Rattle.ra_hub.proofs.SeatLemmas.{loss_spends}
use Rattle.ra_hub.proofs.plain.PlainHubHub.lost.Goals as goal

pub returns-clause-told : goal.returns-clause-told
returns-clause-told g c = λ h stands.
    let hub = c.args.self.now in
    loses hub.registry c.lost.new.self hub.sessions c.lose_at.new.sessions hub.keys.items h c.args.seat c.args.now stands c.requires c.lose_at.ensures c.lost.ensures.lost

pub returns-clause-spent : goal.returns-clause-spent
returns-clause-spent g c = loss_spends c.args.self.now.registry c.lost.new.self c.args.seat c.args.now c.requires c.lost.ensures.lost
