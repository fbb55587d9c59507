-- Worked rows of the definitions, with grace times of 10,800,000 and 300,000 milliseconds.
use Rattle.std.proofs.Common.{◌≡◌, ℕ, true, false, List, [], ◌∷◌, Some, None, refl}
use Rattle.std.specs.Prelude.{codes}
use Rattle.ra_base.specs.declared.handshake.Reason.TheVariants.{NeverSeen, SeenBefore, Duplicate}
use Rattle.ra_base.specs.declared.handshake.Request.{Request}
use Rattle.ra_base.specs.declared.kind.Kind.TheVariants.{Management}
use Rattle.ra_base.specs.declared.key.Cause.TheVariants.{Disconnected, GraceOver}
use Rattle.ra_base.specs.declared.key.Key.{Key}
use Rattle.ra_base.specs.declared.key.Seat.{Seat}
use Rattle.ra_keep.specs.declared.record.Record.{Record}
use Rattle.ra_registry.specs.declared.row.RowState.TheVariants as states
use Rattle.ra_registry.specs.Rows.{change, start_row, row_of}
use Rattle.ra_registry.specs.Admission.{admission_refusal}
use Rattle.ra_session.specs.Saying.{serving}
use Rattle.ra_session.specs.Sessions.{Session}
use Rattle.ra_session.specs.SessionCalls.{lose_session, end_session}
use Rattle.ra_hub.specs.Hubs.{Hub, row, started, admitted, missed, seat_lost, seat_closed}
use Rattle.ra_hub.specs.Sweeps.{grace_is_over, swept}

abbrev key : List ℕ → Key
key token = record { kind = Management; token = token }

abbrev fresh : List ℕ → Request
fresh token = record { kind = Some Management; token = token; reconnection = false }

abbrev again : List ℕ → Request
again token = record { kind = Some Management; token = token; reconnection = true }

abbrev seat : ℕ → Seat
seat epoch = record { key = key (codes "t1"); epoch = epoch }

abbrev nothing : Hub
nothing = started 10800000 300000 []

abbrev served : Session
served = serving Management 0

-- ---- a new session, and its link

abbrev one : Hub
one = admitted (fresh (codes "t1")) 0 nothing

its_row : row one (key (codes "t1")) ≡ Some (record { epoch = 1; state = states.Up; changed = 0 })
unfolding admitted row_of start_row change
its_row = refl

its_session : one.session (key (codes "t1")) ≡ Some served
unfolding admitted
its_session = refl

no_other : one.session (key (codes "t2")) ≡ None
unfolding admitted
no_other = refl

abbrev two : Hub
two = admitted (again (codes "t1")) 5 one

-- the session stays, and its row has the next number
reconnected : row two (key (codes "t1")) ≡ Some (record { epoch = 2; state = states.Up; changed = 5 })
unfolding admitted row_of start_row change
reconnected = refl

same_session : two.session (key (codes "t1")) ≡ Some served
unfolding admitted
same_session = refl

-- ---- ends of links

lost_row : row (seat_lost (seat 1) 7 served one) (key (codes "t1")) ≡ Some (record { epoch = 1; state = states.Lost 7 None; changed = 7 })
unfolding admitted seat_lost row_of start_row change
lost_row = refl

lost_session : (seat_lost (seat 1) 7 served one).session (key (codes "t1")) ≡ Some (lose_session 1 served)
unfolding admitted seat_lost
lost_session = refl

closed_session : (seat_closed (seat 1) Disconnected 7 served one).session (key (codes "t1")) ≡ Some (end_session Disconnected served)
unfolding admitted seat_closed row_of start_row change
closed_session = refl

-- a close of the first link, once the second is there, closes nothing
old_close : (seat_closed (seat 1) Disconnected 7 served two).session (key (codes "t1")) ≡ Some served
unfolding admitted seat_closed row_of start_row change
old_close = refl

old_close_row : row (seat_closed (seat 1) Disconnected 7 served two) (key (codes "t1")) ≡ Some (record { epoch = 2; state = states.Up; changed = 5 })
unfolding admitted seat_closed row_of start_row change
old_close_row = refl

-- ---- ticks

not_over : grace_is_over (seat_lost (seat 1) 7 served one) 10800006 (key (codes "t1")) ≡ false
unfolding admitted seat_lost row_of start_row change
not_over = refl

over : grace_is_over (seat_lost (seat 1) 7 served one) 10800007 (key (codes "t1")) ≡ true
unfolding admitted seat_lost row_of start_row change
over = refl

ends : (swept true false 10800007 served).cause ≡ Some GraceOver
unfolding end_session
ends = refl

-- ---- start records

abbrev kept : List Record
kept = record { key = key (codes "t1"); epoch = 1; at = 0 } ∷ record { key = key (codes "t2"); epoch = 1; at = 6 } ∷ []

was_seen : admission_refusal (started 10800000 300000 kept).registry (again (codes "t1")) 10 ≡ Some SeenBefore
unfolding admission_refusal row_of start_row
was_seen = refl

is_there : admission_refusal (started 10800000 300000 kept).registry (fresh (codes "t1")) 11 ≡ Some Duplicate
unfolding admission_refusal row_of start_row
is_there = refl

never_seen : admission_refusal (started 10800000 300000 kept).registry (again (codes "t3")) 12 ≡ Some NeverSeen
unfolding admission_refusal row_of start_row
never_seen = refl

-- a key without a row gets none by a miss
still_none : row (missed (key (codes "t8")) 3 one) (key (codes "t8")) ≡ None
unfolding admitted missed row_of start_row change
still_none = refl
