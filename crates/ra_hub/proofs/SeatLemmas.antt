-- How many seats are not spent, after each call of the registry.
use Rattle.std.proofs.Common.{◌≡◌, ℕ, ◌+◌, ◌<◌, Ok, Err, arith, refl, sym, ap, ◌∙◌}
use Rattle.ra_base.specs.declared.handshake.Request.{Request}
use Rattle.ra_base.specs.declared.key.Cause.{Cause}
use Rattle.ra_base.specs.declared.key.Seat.{Seat}
use Rattle.ra_registry.specs.declared.fault.AdmitFault.{AdmitFault}
use Rattle.ra_registry.specs.declared.fault.AdmitFault.TheVariants as faults
use Rattle.ra_registry.specs.declared.past.Did.TheVariants.{Lost, Closed}
use Rattle.ra_registry.specs.Admission.{Admits, admission_entry, refusal_entry}
use Rattle.ra_registry.specs.Legal.{IsLegal}
use Rattle.ra_registry.specs.RegistryStates.{RegistryState, with_entry}
use Rattle.ra_registry.specs.Seats.{unspent}
use Rattle.ra_registry.proofs.CountLemmas.{admission_counts, end_counts, other_counts, is_unspent}
use Rattle.ra_hub.specs.Hubs.{entry_of}
use Rattle.ra_hub.specs.HubSeats.{Gives, Spends, Stay, same_seat, one_if}

pub admit_gives : (registry after : RegistryState) (ask : Request) (now : ℕ) (seat : Seat) → Admits registry ask now (Ok seat) after → IsLegal registry
    → Gives seat (λ (s : Seat). unspent s registry.history) (λ (s : Seat). unspent s after.history)
admit_gives registry after ask now seat admits legal other =
    ap (λ (r : RegistryState). unspent other r.history) admits.2
    ∙ admission_counts registry (admission_entry registry ask now) other legal refl
    ∙ ap (λ (s : Seat). unspent other registry.history + one_if (same_seat other s)) (sym admits.1)

pub admit_stays : (registry after : RegistryState) (ask : Request) (now : ℕ) (fault : AdmitFault) → Admits registry ask now (Err fault) after
    → Stay (λ (s : Seat). unspent s registry.history) (λ (s : Seat). unspent s after.history)
admit_stays registry after ask now (faults.Refused reason) admits other =
    ap (λ (r : RegistryState). unspent other r.history) admits.1 ∙ other_counts registry.history (refusal_entry ask now reason) other refl refl
admit_stays registry after ask now faults.KeepFault admits other = ap (λ (r : RegistryState). unspent other r.history) admits
admit_stays registry after ask now faults.NoMemory admits other = ap (λ (r : RegistryState). unspent other r.history) admits

pub loss_spends : (registry after : RegistryState) (seat : Seat) (now : ℕ) → 0 < unspent seat registry.history
    → after ≡ with_entry registry (entry_of seat.key now (Lost seat.epoch))
    → Spends seat (λ (s : Seat). unspent s registry.history) (λ (s : Seat). unspent s after.history)
loss_spends registry after seat now some is other =
    ap (λ (r : RegistryState). unspent other r.history + one_if (same_seat other seat)) is
    ∙ end_counts registry.history (entry_of seat.key now (Lost seat.epoch)) other refl (is_unspent registry.history seat some)

pub close_spends : (registry after : RegistryState) (seat : Seat) (cause : Cause) (now : ℕ) → 0 < unspent seat registry.history
    → after ≡ with_entry registry (entry_of seat.key now (Closed seat.epoch cause))
    → Spends seat (λ (s : Seat). unspent s registry.history) (λ (s : Seat). unspent s after.history)
close_spends registry after seat cause now some is other =
    ap (λ (r : RegistryState). unspent other r.history + one_if (same_seat other seat)) is
    ∙ end_counts registry.history (entry_of seat.key now (Closed seat.epoch cause)) other refl (is_unspent registry.history seat some)

-- a seat that is not spent stays so where no seat is spent
pub seat_stays : (old new : Seat → ℕ) (seat : Seat) → Stay old new → 0 < old seat → 0 < new seat
seat_stays old new seat stay some = rw (stay seat) some

-- and where one more is given
pub seat_left : (old new : Seat → ℕ) (given seat : Seat) → Gives given old new → 0 < old seat → 0 < new seat
seat_left old new given seat gives some = omega (arith, gives seat, some)
