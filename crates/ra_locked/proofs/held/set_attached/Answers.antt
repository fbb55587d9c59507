use Rattle.std.proofs.Common.{◌≡◌, ◌∙◌, ◌&&◌, true, sym, ap, arith}
use Rattle.std.proofs.lemmas.List.Quantifiers.{position-Some}
use Rattle.ra_locked.specs.SeatLists.{same_seat}
use Rattle.ra_locked.proofs.Places.{none_there, any_set}
use Rattle.ra_locked.proofs.held.set_attached.Goals as goal

pub unreachable-requires : goal.unreachable-requires
unreachable-requires g c =
    let none = none_there (λ h. same_seat c.args.seat.now h.seat) c.args.held.now (sym c.find.ensures ∙ c.in-None.is) in
    absurd (omega (arith, none, c.requires))

pub returns-clause-attached : goal.returns-clause-attached
returns-clause-attached g c =
    let there = position-Some (λ h. same_seat c.args.seat.now h.seat) c.args.held.now c.in-Some.at c.index-held-at.result (sym c.find.ensures ∙ c.in-Some.is) in
    any_set (λ h. same_seat c.args.seat.now h.seat && h.attached) c.args.held.now c.in-Some.at _ there.0 (ap (λ b. b && true) there.1)
