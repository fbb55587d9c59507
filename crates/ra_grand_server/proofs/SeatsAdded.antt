-- The seats of the server's links, with one link more and with the first of them.
use Rattle.std.proofs.Common.{◌≡◌, ℕ, zero, suc, ◌+◌, ◌≤◌, false, List, [], ◌∷◌, ◌++◌, take, refl, ap, ◌∙◌, arith}
use Rattle.ra_base.specs.declared.key.Seat.{Seat}
use Rattle.ra_hub.specs.MemHubs.{MemHub}
use Rattle.ra_link_core.specs.Cores.{seat_in}
use Rattle.ra_link_core.specs.Makes.{owned}
use Rattle.ra_link_core.specs.declared.phase.Phase.{Phase}
use Rattle.ra_link_core.specs.declared.phase.Phase.TheVariants as phases
use Rattle.ra_opening.specs.Stands.{new_opening}
use Rattle.ra_grand_runs.specs.GrandRuns.{links}
use Rattle.ra_grand_server.specs.ServerStates.{ServedState, HoldsSeats, seats_held}

-- the server's end of a new link
abbrev pub new_served : ℕ → ℕ → ServedState
new_served client link = record { client = client; link = link; core = phases.Opening new_opening; is_over = false }

-- ---- seats

held_more : (ls : List ServedState) (client link : ℕ) (seat : Seat) → seats_held (ls ++ new_served client link ∷ []) seat ≡ seats_held ls seat
held_more [] client link seat = refl
held_more (l ∷ ls) client link seat = ap (λ (n : ℕ). owned (seat_in l.core) seat + n) (held_more ls client link seat)

pub seats_more : (hub : MemHub) (ls more : List ServedState) (client link : ℕ) → more ≡ ls ++ new_served client link ∷ [] → HoldsSeats hub ls → HoldsSeats hub more
seats_more hub ls more client link is holds seat = omega (arith, ap (λ (xs : List ServedState). seats_held xs seat) is, held_more ls client link seat, holds seat)

pub seats_added : (hub : MemHub) (ls more : List ServedState) (client link : ℕ) (core : Phase) → core ≡ phases.Opening new_opening
    → more ≡ ls ++ record { client = client; link = link; core = core; is_over = false } ∷ [] → HoldsSeats hub ls → HoldsSeats hub more
seats_added hub ls more client link core new is =
    seats_more hub ls more client link (is ∙ ap (λ (p : Phase). ls ++ record { client = client; link = link; core = p; is_over = false } ∷ []) new)

held_front : (n : ℕ) (ls : List ServedState) (seat : Seat) → seats_held (take n ls) seat ≤ seats_held ls seat
held_front zero ls seat = omega arith
held_front (suc n) [] seat = omega arith
held_front (suc n) (l ∷ ls) seat = omega (arith, held_front n ls seat)

pub seats_front : (hub : MemHub) (n : ℕ) (ls few : List ServedState) → few ≡ take n ls → HoldsSeats hub ls → HoldsSeats hub few
seats_front hub n ls few is holds seat = omega (arith, ap (λ (xs : List ServedState). seats_held xs seat) is, held_front n ls seat, holds seat)
