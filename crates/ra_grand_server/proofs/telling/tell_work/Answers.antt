use Rattle.std.proofs.Common.{Err, ◌∙◌, sym}
use Rattle.ra_hub.specs.Hubs.{row}
use Rattle.ra_hub.specs.Keeping.{Stands}
use Rattle.ra_grand_server.specs.Tellings.{ToldAt, telling_of}
use Rattle.ra_grand_server.proofs.TellSteps.{told_err, told_large, told_again, was_large, one_telling}
use Rattle.ra_grand_server.proofs.telling.tell_work.Goals as goal

pub returns-then-not-is_too_large-clause-told : goal.returns-then-not-is_too_large-clause-told
returns-then-not-is_too_large-clause-told c = λ h t stands is.
    one_telling t c.in-Ok.tell is c.in-Ok.ensures.value (λ x. ToldAt {X = Unit {0}} h c.args.key.now x c.args.now (Err c.in-Err.fault) (Stands c.tell.new.self))
    (told_err h c.args.key.now c.in-Ok.tell c.args.now (row h c.args.key.now) (h.session c.args.key.now) c.in-Err.fault (Stands c.tell.new.self)
    (sym c.is_too_large.ensures ∙ c.if-not-is_too_large.true) (c.in-Err.ensures.told h stands))

pub returns-in-Ok-None-clause-told : goal.returns-in-Ok-None-clause-told
returns-in-Ok-None-clause-told c = λ h t stands is.
    let large = sym c.is_too_large.ensures ∙ c.if-not-is_too_large.false in
    let none = rw c.in-Ok-None.field-0-is at c.in-Ok-None.ensures.value (telling_of c.in-Ok.tell) c.in-Ok.ensures.value in
    one_telling t c.in-Ok.tell is c.in-Ok.ensures.value (λ x. ToldAt {X = Unit {0}} h c.args.key.now x c.args.now (Err c.in-Err.fault) (Stands c.tell.new.self))
    (told_large h c.args.key.now c.in-Ok.tell c.args.now (row h c.args.key.now) (h.session c.args.key.now) c.in-Err.fault (Stands c.tell.new.self)
    none large (c.in-Err.ensures.told h stands))

pub returns-in-Ok-Some-clause-told : goal.returns-in-Ok-Some-clause-told
returns-in-Ok-Some-clause-told c = λ h t stands is.
    let large = sym c.is_too_large.ensures ∙ c.if-not-is_too_large.false in
    let was = was_large h c.args.key.now c.in-Ok.tell c.args.now (row h c.args.key.now) (h.session c.args.key.now) c.in-Err.fault (Stands c.tell.new.self)
    large (c.in-Err.ensures.told h stands) in
    let again = rw c.in-Ok-Some.field-0-is at c.in-Ok-Some.ensures.value (telling_of c.in-Ok.tell) c.in-Ok.ensures.value in
    one_telling t c.in-Ok.tell is c.in-Ok.ensures.value (λ x. ToldAt h c.args.key.now x c.args.now c.tell-in-Ok-Some.result (Stands c.tell-in-Ok-Some.new.self))
    (told_again h c.args.key.now (telling_of c.in-Ok.tell) c.in-Ok-Some.tell c.args.now (row h c.args.key.now) (h.session c.args.key.now)
    c.tell-in-Ok-Some.result (Stands c.tell.new.self) (Stands c.tell-in-Ok-Some.new.self) was
    again (c.tell-in-Ok-Some.ensures.told h was.same))

pub returns-in-Ok-Some-clause-seats : goal.returns-in-Ok-Some-clause-seats
returns-in-Ok-Some-clause-seats c = λ other. c.tell-in-Ok-Some.ensures.seats other ∙ c.tell.ensures.seats other
