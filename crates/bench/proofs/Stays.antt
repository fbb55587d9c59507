-- Seats that are not spent stay so over calls that spend none.
use Rattle.std.proofs.Common.{◌≡◌, ℕ, ◌+◌, ◌<◌, List, [], ◌∷◌, ◌++◌, All, get_or, arith, subst, ◌∙◌, sym, refl}
use Rattle.std.proofs.lemmas.List.Elements.{All-push}
use Rattle.ra_base.specs.declared.key.Seat.{Seat}
use Rattle.ra_hub.specs.HubSeats.{Gives, Stay}
use Rattle.ra_hub.proofs.SeatLemmas.{seat_stays, seat_left}

pub then_still : (a b c : Seat → ℕ) → Stay a b → Stay b c → Stay a c
then_still a b c first second other = second other ∙ first other

pub all_stay : (old new : Seat → ℕ) (seats : List Seat) → Stay old new → All (λ (s : Seat). 0 < old s) seats → All (λ (s : Seat). 0 < new s) seats
all_stay old new seats stay all i d small = seat_stays old new (get_or seats i d) stay (all i d small)

-- one seat more, where those before stay
pub all_more : (old new : Seat → ℕ) (seats more : List Seat) (seat : Seat) → ((s : Seat) → 0 < old s → 0 < new s) → more ≡ seats ++ seat ∷ [] → 0 < new seat
    → All (λ (s : Seat). 0 < old s) seats → All (λ (s : Seat). 0 < new s) more
all_more old new seats more seat others is some all =
    subst (λ (list : List Seat). All (λ (s : Seat). 0 < new s) list) (sym is)
    (All-push (λ (s : Seat). 0 < new s) seats seat (λ i d small. others (get_or seats i d) (all i d small)) some)
