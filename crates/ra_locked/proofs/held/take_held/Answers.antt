use Rattle.std.proofs.Common.{◌∙◌, sym, arith}
use Rattle.ra_locked.specs.SeatLists.{same_seat}
use Rattle.ra_locked.proofs.Places.{none_there, held_less}
use Rattle.ra_locked.proofs.held.take_held.Goals as goal

pub returns-in_err-at-clause-there : goal.returns-in_err-at-clause-there
returns-in_err-at-clause-there g c some =
    let e = rw c.as_slice.ensures.value at c.find.ensures in
    let none = none_there (λ h. same_seat c.args.seat.now h.seat) c.args.held.now.items (sym e ∙ c.in_err-at.was) in
    absurd (omega (arith, none, some))

pub returns-clause-less : goal.returns-clause-less
returns-clause-less g c is =
    let e = rw c.as_slice.ensures.value at c.find.ensures in
    rw c.remove.ensures.items (held_less c.args.held.now.items c.args.seat.now c.in_ok-at.at c.remove.result (sym e ∙ c.in_ok-at.was))
