use Rattle.std.proofs.Common.{sym}
use Rattle.std.proofs.lemmas.Result.{err_from_is_err_and}
use Rattle.ra_hub.proofs.HubCalls.{told_ok, told_err, nobody_told, nobody_there}
use Rattle.ra_hub.proofs.plain.PlainHubHub.tell.Goals as goal

pub returns-clause-told : goal.returns-clause-told
returns-clause-told g c = λ h stands.
    let hub = c.args.self.now in
    told_ok {X = Unit {0}} {Y = Unit {0}} hub.registry hub.sessions c.tell_at.new.sessions hub.keys.items h c.args.key.now c.args.tell c.args.now tt tt stands (sym c.if-not-contains_key.ensures) c.in_ok-tell_at.ensures

pub returns-in_err-tell_at-clause-told : goal.returns-in_err-tell_at-clause-told
returns-in_err-tell_at-clause-told g c = λ h stands.
    let hub = c.args.self.now in
    let p = err_from_is_err_and c.from_residual.result c.from_residual.ensures.1 in
    rw (p.1, p.2)
    (told_err (Unit {0}) (Unit {0}) hub.registry hub.sessions c.tell_at.new.sessions hub.keys.items h c.args.key.now c.args.tell c.args.now _ stands (sym c.if-not-contains_key.ensures) c.in_err-tell_at.ensures)

pub returns-then-not-contains_key-clause-told : goal.returns-then-not-contains_key-clause-told
returns-then-not-contains_key-clause-told g c = λ h stands.
    let hub = c.args.self.now in
    nobody_told (Unit {0}) hub.registry c.tell_nobody.new.registry hub.sessions hub.keys.items h c.args.key.now c.args.tell c.args.now c.tell_nobody.result stands (nobody_there hub.sessions h.session c.args.key.now stands.sessions_stand (sym c.if-not-contains_key.ensures)) c.tell_nobody.ensures
