-- How many links hold a seat, with one link changed.
use Rattle.std.proofs.Common.{◌≡◌, ℕ, sym, subst, zero, suc, ◌+◌, ◌<◌, ◌≤◌, Option, Some, None, List, [], ◌∷◌, ◌++◌, length, ap, arith}
use Rattle.std.specs.Prelude.{slice_set, slice_index_or}
use Rattle.ra_base.specs.declared.key.Seat.{Seat}
use Rattle.ra_hub.specs.HubSeats.{Stay}
use Rattle.ra_hub.specs.Keeping.{seats_of}
use Rattle.ra_hub.specs.MemHubs.{MemHub}
use Rattle.ra_link_core.specs.Cores.{seat_in}
use Rattle.ra_link_core.specs.Makes.{Balance, Holds, owned}
use Rattle.ra_link_core.proofs.AskLemmas.{given_seat}
use Rattle.ra_grand_server.specs.Pieces.{left_state}
use Rattle.ra_grand_server.specs.ServerStates.{ServedState, seats_held, HoldsSeats}

held_there : (ls : List ServedState) (n : ℕ) (d : ServedState) (seat : Seat) → n < length ls → owned (seat_in (slice_index_or ls n d).core) seat ≤ seats_held ls seat
held_there [] n d seat less = absurd (omega (arith, less))
held_there (l ∷ ls) zero d seat less = omega arith
held_there (l ∷ ls) (suc n) d seat less = let rest = held_there ls n d seat (omega (arith, less)) in omega (arith, rest)

held_set : (ls : List ServedState) (n : ℕ) (d l : ServedState) (seat : Seat) → n < length ls
    → seats_held (slice_set ls n l) seat + owned (seat_in (slice_index_or ls n d).core) seat ≡ seats_held ls seat + owned (seat_in l.core) seat
held_set [] n d l seat less = absurd (omega (arith, less))
held_set (x ∷ ls) zero d l seat less = omega arith
held_set (x ∷ ls) (suc n) d l seat less = let rest = held_set ls n d l seat (omega (arith, less)) in omega (arith, rest)

one_seat : (own : Option Seat) (seats : Seat → ℕ) → ((seat : Seat) → owned own seat ≤ seats seat) → Holds seats own
one_seat None seats all = tt {0}
one_seat (Some seat) seats all =
    let own = given_seat seat (λ s. 0) (λ s. owned (Some seat) s) (λ s. omega arith) in
    omega (arith, own, all seat)

-- the seat of each link is one of the hub
pub seat_there : (hub : MemHub) (ls : List ServedState) (n : ℕ) (d : ServedState) → n < length ls → HoldsSeats hub ls → Holds (seats_of hub) (seat_in (slice_index_or ls n d).core)
seat_there hub ls n d less holds =
    one_seat (seat_in (slice_index_or ls n d).core) (seats_of hub) (λ seat. omega (arith, held_there ls n d seat less, holds seat))

pub seats_set : (hub hub' : MemHub) (ls : List ServedState) (n : ℕ) (d l : ServedState) → n < length ls → HoldsSeats hub ls
    → Balance (seat_in (slice_index_or ls n d).core) (seats_of hub) (seat_in l.core) (seats_of hub') → HoldsSeats hub' (slice_set ls n l)
seats_set hub hub' ls n d l less holds balance = λ seat. omega (arith, held_set ls n d l seat less, holds seat, balance seat)

pub left_set : (hub hub' : MemHub) (ls : List ServedState) (n : ℕ) (d l : ServedState) → n < length ls → HoldsSeats hub ls → l ≡ left_state (slice_index_or ls n d)
    → Balance (seat_in (slice_index_or ls n d).core) (seats_of hub) None (seats_of hub') → HoldsSeats hub' (slice_set ls n l)
left_set hub hub' ls n d l less holds is balance =
    subst (λ (x : ServedState). HoldsSeats hub' (slice_set ls n x)) (sym is) (seats_set hub hub' ls n d (left_state (slice_index_or ls n d)) less holds balance)

-- ---- other changes

-- those of two lists
held_both : (ls ms : List ServedState) (seat : Seat) → seats_held (ls ++ ms) seat ≡ seats_held ls seat + seats_held ms seat
held_both [] ms seat = omega arith
held_both (l ∷ ls) ms seat = let rest = held_both ls ms seat in omega (arith, rest)

-- a link without a seat comes
pub seats_more : (hub : MemHub) (ls : List ServedState) (l : ServedState) → seat_in l.core ≡ None → HoldsSeats hub ls → HoldsSeats hub (ls ++ l ∷ [])
seats_more hub ls l none holds = λ seat.
    let own : owned (seat_in l.core) seat ≡ 0 = ap (λ (o : Option Seat). owned o seat) none in omega (arith, held_both ls (l ∷ []) seat, own, holds seat)

-- links are taken out
pub seats_front : (hub : MemHub) (ls front rest : List ServedState) → ls ≡ front ++ rest → HoldsSeats hub ls → HoldsSeats hub front
seats_front hub ls front rest is holds = λ seat.
    let all : seats_held ls seat ≡ seats_held (front ++ rest) seat = ap (λ (xs : List ServedState). seats_held xs seat) is in omega (arith, held_both front rest seat, all, holds seat)

-- the hub gave and took no seat
pub seats_stay : (hub hub' : MemHub) (ls : List ServedState) → Stay (seats_of hub) (seats_of hub') → HoldsSeats hub ls → HoldsSeats hub' ls
seats_stay hub hub' ls stay holds = λ seat. omega (arith, stay seat, holds seat)
