use Rattle.std.proofs.lemmas.Result.{err_from_is_err_and}
use Rattle.ra_hub.proofs.HubCalls.{turned_ok, turned_err}
use Rattle.ra_hub.proofs.plain.PlainHubHub.turn.Goals as goal

pub returns-clause-told : goal.returns-clause-told
returns-clause-told g c = λ h stands.
    let hub = c.args.self.now in
    turned_ok hub.registry hub.sessions c.turn_at.new.sessions hub.keys.items h c.args.seat.now c.args.piece.now c.args.now _ stands c.requires c.in_ok-turn.ensures.turned

pub returns-in_err-turn-clause-told : goal.returns-in_err-turn-clause-told
returns-in_err-turn-clause-told g c = λ h stands.
    let hub = c.args.self.now in
    let p = err_from_is_err_and c.from_residual.result c.from_residual.ensures.1 in
    rw (p.1, p.2)
    (turned_err hub.registry hub.sessions c.turn_at.new.sessions hub.keys.items h c.args.seat.now c.args.piece.now c.args.now _ stands c.requires c.in_err-turn.ensures.turned)
