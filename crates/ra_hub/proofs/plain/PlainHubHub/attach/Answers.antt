use Rattle.std.proofs.lemmas.Result.{err_from_is_err_and}
use Rattle.ra_session.specs.SessionCalls.{attach}
use Rattle.ra_session.specs.SessionRefusals.{attach_refusal}
use Rattle.ra_hub.proofs.Endings.{attach_back}
use Rattle.ra_hub.proofs.HubCalls.{called_ok, called_err}
use Rattle.ra_hub.proofs.HubLemmas.{seat_has}
use Rattle.ra_hub.proofs.plain.PlainHubHub.attach.Goals as goal

pub returns-clause-told : goal.returns-clause-told
returns-clause-told g c = λ h stands.
    let hub = c.args.self.now in
    let seat = c.args.seat.now in
    let has = seat_has hub.registry hub.sessions hub.keys.items h seat stands c.requires in (
      has.0,
      has.1,
      called_ok {X = Unit {0}} {Y = Unit {0}} hub.registry hub.sessions c.attach_at.new.sessions hub.keys.items h seat.key has.0 (attach_refusal seat.epoch) (attach seat.epoch c.args.chunk.now c.args.now)
          tt tt stands has.1 c.in_ok-attach_at.ensures.attached (attach_back seat.epoch c.args.chunk.now c.args.now),
    )

pub returns-in_err-attach_at-clause-told : goal.returns-in_err-attach_at-clause-told
returns-in_err-attach_at-clause-told g c = λ h stands.
    let hub = c.args.self.now in
    let seat = c.args.seat.now in
    let has = seat_has hub.registry hub.sessions hub.keys.items h seat stands c.requires in
    let p = err_from_is_err_and c.from_residual.result c.from_residual.ensures.1 in (
      has.0,
      has.1,
      rw (p.1, p.2)
          (called_err (Unit {0}) (Unit {0}) hub.registry hub.sessions c.attach_at.new.sessions hub.keys.items h seat.key has.0 (attach_refusal seat.epoch) (attach seat.epoch c.args.chunk.now c.args.now)
          _ stands has.1 c.in_err-attach_at.ensures.attached),
    )
