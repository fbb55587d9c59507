use Rattle.std.proofs.Common.{◌≡◌, ◌∙◌, sym, arith}
use Rattle.ra_locked.specs.SeatLists.{same_seat}
use Rattle.ra_locked.proofs.Places.{none_there}
use Rattle.ra_locked.proofs.held.place_of.Goals as goal

pub unreachable-requires : goal.unreachable-requires
unreachable-requires g c =
    let none = none_there (λ h. same_seat c.args.seat.now h.seat) c.args.held.now (sym c.find.ensures ∙ c.in-None.is) in
    absurd (omega (arith, none, c.requires))
