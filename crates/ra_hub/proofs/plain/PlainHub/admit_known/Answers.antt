use Rattle.std.proofs.lemmas.Result.{err_from_is_err_and}
use Rattle.ra_hub.proofs.AdmittedHubs.{known_admitted, not_admitted}
use Rattle.ra_hub.proofs.SeatLemmas.{admit_gives}
use Rattle.ra_registry.proofs.CountLemmas.{some_unspent}
use Rattle.ra_hub.proofs.plain.PlainHub.admit_known.Goals as goal

pub returns-clause-told : goal.returns-clause-told
returns-clause-told g c = λ h stands.
    let hub = c.args.self.now in
    known_admitted hub.registry c.admit.new.self hub.sessions hub.keys.items h c.args.ask c.args.now _ stands c.in_ok-seat.ensures.was_legal c.requires.known c.in_ok-seat.ensures.answered

pub returns-clause-given : goal.returns-clause-given
returns-clause-given g c = admit_gives c.args.self.now.registry c.admit.new.self c.args.ask c.args.now _ c.in_ok-seat.ensures.answered c.in_ok-seat.ensures.was_legal

pub returns-in_err-seat-clause-told : goal.returns-in_err-seat-clause-told
returns-in_err-seat-clause-told g c = λ h stands.
    let hub = c.args.self.now in
    let p = err_from_is_err_and c.from_residual.result c.from_residual.ensures.1 in
    rw (p.1, p.2) (not_admitted hub.registry c.admit.new.self hub.sessions hub.keys.items h c.args.ask c.args.now _ stands c.in_err-seat.ensures.answered)

pub returns-clause-seated : goal.returns-clause-seated
returns-clause-seated g c = some_unspent c.admit.new.self.history _ c.in_ok-seat.ensures.seat
