use Rattle.std.proofs.Common.{rules}
use Rattle.ra_hub.proofs.AdmittedHubs.{new_admits, new_refused}
use Rattle.ra_hub.proofs.SeatLemmas.{admit_gives}
use Rattle.ra_registry.proofs.CountLemmas.{some_unspent}
use Rattle.ra_hub.proofs.plain.PlainHub.admit_new.Goals as goal

pub returns-in-Ok-clause-told : goal.returns-in-Ok-clause-told
returns-in-Ok-clause-told g c = λ h stands.
    let hub = c.args.self.now in
    new_admits hub.registry c.admit.new.self hub.sessions c.add_session.new.sessions hub.keys.items c.push.new.self.items h c.args.ask c.args.key c.args.now _ stands
    c.requires.new c.requires.key c.requires.unknown c.in_ok-add_session.ensures.added (search rules) c.in-Ok.ensures.answered

pub returns-in-Ok-clause-given : goal.returns-in-Ok-clause-given
returns-in-Ok-clause-given g c = admit_gives c.args.self.now.registry c.admit.new.self c.args.ask c.args.now _ c.in-Ok.ensures.answered c.in-Ok.ensures.was_legal

pub returns-in-Err-clause-told : goal.returns-in-Err-clause-told
returns-in-Err-clause-told g c = λ h stands.
    let hub = c.args.self.now in
    rw (c.from.ensures)
    (new_refused hub.registry c.admit.new.self hub.sessions c.add_session.new.sessions c.remove_session.new.sessions hub.keys.items c.reserve.new.self.items h c.args.ask c.args.key c.args.now _ stands
    c.requires.unknown c.in_ok-add_session.ensures.added c.remove_session.ensures c.reserve.ensures.items c.in-Err.ensures.answered)

pub returns-in-Ok-clause-seated : goal.returns-in-Ok-clause-seated
returns-in-Ok-clause-seated g c = some_unspent c.admit.new.self.history _ c.in-Ok.ensures.seat
