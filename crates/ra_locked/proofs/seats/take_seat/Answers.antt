use Rattle.std.proofs.Common.{◌∙◌, sym}
use Rattle.ra_base.specs.declared.key.Seat.{Seat}
use Rattle.ra_locked.specs.SeatLists.{same_seat}
use Rattle.ra_locked.proofs.Places.{none_there, some_there, takes_one}
use Rattle.ra_locked.proofs.seats.take_seat.Goals as goal

pub returns-in_default-clause-none : goal.returns-in_default-clause-none
returns-in_default-clause-none c is =
    let e = rw c.as_slice.ensures.value at c.find_seat.ensures in
    none_there (λ (o : Seat). same_seat c.args.seat.now o) c.args.seats.now.items (sym e ∙ c.in_default.is)

pub returns-clause-left : goal.returns-clause-left
returns-clause-left c is =
    let e = rw c.as_slice.ensures.value at c.find_seat.ensures in
    rw c.remove.ensures.items (takes_one c.args.seats.now.items c.args.seat.now c.in-Some.at (sym e ∙ c.in-Some.is))

pub returns-clause-there : goal.returns-clause-there
returns-clause-there c is =
    let e = rw c.as_slice.ensures.value at c.find_seat.ensures in
    some_there (λ (o : Seat). same_seat c.args.seat.now o) c.args.seats.now.items c.in-Some.at c.remove.result (sym e ∙ c.in-Some.is)
