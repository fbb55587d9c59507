-- Worked rows of the definitions, with grace times of 10,800,000 and 300,000 milliseconds.
use Rattle.std.proofs.Common.{◌≡◌, ℕ, true, false, List, [], ◌∷◌, Some, None, refl}
use Rattle.std.specs.Prelude.{codes}
use Rattle.ra_base.specs.declared.handshake.Reason.TheVariants.{UnknownKind, NeverSeen, SeenBefore, Duplicate}
use Rattle.ra_base.specs.declared.handshake.Request.{Request}
use Rattle.ra_base.specs.declared.kind.Kind.TheVariants.{Management}
use Rattle.ra_base.specs.declared.key.Cause.TheVariants.{Disconnected, Stopped}
use Rattle.ra_base.specs.declared.key.Key.{Key}
use Rattle.ra_base.specs.declared.key.Seat.{Seat}
use Rattle.ra_keep.specs.declared.record.Record.{Record}
use Rattle.ra_registry.specs.declared.past.Did.{Did}
use Rattle.ra_registry.specs.declared.past.Did.TheVariants.{Admitted, Refused, Lost, Closed}
use Rattle.ra_registry.specs.declared.past.Past.{Past}
use Rattle.ra_registry.specs.declared.row.RowState.TheVariants as states
use Rattle.ra_registry.specs.RegistryStates.{RegistryState}
use Rattle.ra_registry.specs.Rows.{change, start_row, row_of}
use Rattle.ra_registry.specs.Admission.{admission_refusal, seat_for}
use Rattle.ra_registry.specs.Legal.{is_over}
use Rattle.ra_registry.specs.Seats.{unspent}
use Rattle.ra_registry.specs.KeptRecords.{records_of}

abbrev registry : List Past → RegistryState
registry history = record { long_grace = 10800000; short_grace = 300000; start = []; history = history }

abbrev key : List ℕ → Key
key token = record { kind = Management; token = token }

abbrev entry : ℕ → List ℕ → Did → Past
entry at token did = record { at = at; key = key token; did = did }

abbrev fresh : List ℕ → Request
fresh token = record { kind = Some Management; token = token; reconnection = false }

abbrev again : List ℕ → Request
again token = record { kind = Some Management; token = token; reconnection = true }

-- closed with Disconnected at 5
abbrev closed : RegistryState
closed = registry (entry 0 (codes "t1") (Admitted 1 false) ∷ entry 5 (codes "t1") (Closed 1 Disconnected) ∷ [])

first : admission_refusal (registry []) (fresh (codes "t1")) 0 ≡ None
unfolding admission_refusal row_of start_row
first = refl

closed_was_seen : admission_refusal closed (again (codes "t1")) 10 ≡ Some SeenBefore
unfolding admission_refusal row_of start_row change
closed_was_seen = refl

closed_is_there : admission_refusal closed (fresh (codes "t1")) 20 ≡ Some Duplicate
unfolding admission_refusal row_of start_row change
closed_is_there = refl

other_was_not_seen : admission_refusal closed (again (codes "t2")) 30 ≡ Some NeverSeen
unfolding admission_refusal row_of start_row change
other_was_not_seen = refl

unknown_kind : admission_refusal closed (record { kind = None; token = codes "t1"; reconnection = true }) 40 ≡ Some UnknownKind
unfolding admission_refusal row_of start_row change
unknown_kind = refl

-- lost at 0, and another's request at 1,000
abbrev shortened : RegistryState
shortened =
    registry (entry 0 (codes "t1") (Admitted 1 false) ∷ entry 0 (codes "t1") (Lost 1) ∷ entry 1000 (codes "t2") (Admitted 1 false) ∷ [])

shortened_row : row_of shortened (key (codes "t1")) ≡ Some (record { epoch = 1; state = states.Lost 0 (Some 1000); changed = 1000 })
unfolding row_of start_row change
shortened_row = refl

before_deadline : admission_refusal shortened (again (codes "t1")) 300999 ≡ None
unfolding admission_refusal row_of start_row change
before_deadline = refl

next_seat : seat_for shortened (again (codes "t1")) ≡ record { key = key (codes "t1"); epoch = 2 }
unfolding row_of start_row change
next_seat = refl

at_deadline : admission_refusal shortened (again (codes "t1")) 301000 ≡ Some SeenBefore
unfolding admission_refusal row_of start_row change
at_deadline = refl

not_over : is_over shortened (row_of shortened (key (codes "t1"))) 300999 ≡ false
unfolding row_of start_row change
not_over = refl

over : is_over shortened (row_of shortened (key (codes "t1"))) 301000 ≡ true
unfolding row_of start_row change
over = refl

-- a refusal shortens too, and once
refused_twice : row_of (registry (entry 0 (codes "t1") (Admitted 1 false) ∷ entry 0 (codes "t1") (Lost 1)
    ∷ entry 1000 (codes "t9") (Refused (Some Management) true NeverSeen) ∷ entry 2000 (codes "t9") (Refused (Some Management) true NeverSeen) ∷ []))
    (key (codes "t1"))
    ≡ Some (record { epoch = 1; state = states.Lost 0 (Some 1000); changed = 1000 })
unfolding row_of start_row change
refused_twice = refl

-- reconnected at 50; the first link is lost at 60, and the second at 70
older_loss : row_of (registry (entry 0 (codes "t1") (Admitted 1 false) ∷ entry 50 (codes "t1") (Admitted 2 true) ∷ entry 60 (codes "t1") (Lost 1) ∷ []))
    (key (codes "t1"))
    ≡ Some (record { epoch = 2; state = states.Up; changed = 50 })
unfolding row_of start_row change
older_loss = refl

later_loss : row_of (registry (entry 0 (codes "t1") (Admitted 1 false) ∷ entry 50 (codes "t1") (Admitted 2 true) ∷ entry 60 (codes "t1") (Lost 1)
    ∷ entry 70 (codes "t1") (Lost 2) ∷ []))
    (key (codes "t1"))
    ≡ Some (record { epoch = 2; state = states.Lost 70 None; changed = 70 })
unfolding row_of start_row change
later_loss = refl

abbrev kept : List Record
kept = record { key = key (codes "t1"); epoch = 1; at = 0 } ∷ record { key = key (codes "t2"); epoch = 1; at = 6 } ∷ record { key = key (codes "t1"); epoch = 3; at = 9 } ∷ []

-- the greatest epoch that was kept
started : start_row kept (key (codes "t1")) ≡ Some (record { epoch = 3; state = states.Closed Stopped; changed = 0 })
unfolding start_row
started = refl

not_started : start_row kept (key (codes "t3")) ≡ None
unfolding start_row
not_started = refl

recorded : records_of (entry 0 (codes "t1") (Admitted 1 false) ∷ entry 5 (codes "t1") (Lost 1) ∷ entry 6 (codes "t2") (Admitted 1 false) ∷ [])
    ≡ record { key = key (codes "t1"); epoch = 1; at = 0 } ∷ record { key = key (codes "t2"); epoch = 1; at = 6 } ∷ []
recorded = refl

-- a seat that was given, and then one that was lost
abbrev seat : ℕ → Seat
seat epoch = record { key = key (codes "t1"); epoch = epoch }

one_unspent : unspent (seat 1) (entry 0 (codes "t1") (Admitted 1 false) ∷ []) ≡ 1
one_unspent = refl

first_spent : unspent (seat 1) (entry 0 (codes "t1") (Admitted 1 false) ∷ entry 0 (codes "t1") (Lost 1) ∷ entry 50 (codes "t1") (Admitted 2 true) ∷ []) ≡ 0
first_spent = refl

second_unspent : unspent (seat 2) (entry 0 (codes "t1") (Admitted 1 false) ∷ entry 0 (codes "t1") (Lost 1) ∷ entry 50 (codes "t1") (Admitted 2 true) ∷ []) ≡ 1
second_unspent = refl

of_no_other : unspent (seat 2) (entry 0 (codes "t1") (Admitted 1 false) ∷ entry 7 (codes "t2") (Admitted 2 true) ∷ []) ≡ 0
of_no_other = refl
