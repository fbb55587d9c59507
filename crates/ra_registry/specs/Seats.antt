-- Which seats a history gives, and which are spent.
use Rattle.std.specs.Prelude.{ℕ, ◌<◌, ◌-◌, Bool, true, false, ◌&&◌, ◌==◌, List, count_by}
use Rattle.ra_base.specs.declared.key.Key.{Key}
use Rattle.ra_base.specs.declared.key.Seat.{Seat}
use Rattle.ra_registry.specs.declared.past.Did.{Did}
use Rattle.ra_registry.specs.declared.past.Did.TheVariants.{Admitted, Refused, Lost, Closed, Expired, Missed}
use Rattle.ra_registry.specs.declared.past.Past.{Past}
use Rattle.ra_registry.specs.Rows.{same_key}

abbrev pub admits : Did → Bool
admits (Admitted epoch reconnection) = true
admits (Refused kind reconnection reason) = false
admits (Lost epoch) = false
admits (Closed epoch cause) = false
admits Expired = false
admits Missed = false

abbrev pub ends : Did → Bool
ends (Admitted epoch reconnection) = false
ends (Refused kind reconnection reason) = false
ends (Lost epoch) = true
ends (Closed epoch cause) = true
ends Expired = false
ends Missed = false

-- the epoch that an entry speaks of, and 0 where it speaks of none
abbrev pub epoch_in : Did → ℕ
epoch_in (Admitted epoch reconnection) = epoch
epoch_in (Refused kind reconnection reason) = 0
epoch_in (Lost epoch) = epoch
epoch_in (Closed epoch cause) = epoch
epoch_in Expired = 0
epoch_in Missed = 0

-- the seat that an entry speaks of
abbrev pub seat_of : Past → Seat
seat_of entry = record { key = entry.key; epoch = epoch_in entry.did }

-- the entry is of that key and epoch
abbrev pub is_of : Seat → Past → Bool
is_of seat entry = same_key seat.key entry.key && (seat.epoch == epoch_in entry.did)

-- how many Admitted entries there are, and how many Lost and Closed ones
abbrev pub admissions : List Past → ℕ
admissions history = count_by (λ entry. admits entry.did) history

abbrev pub endings : List Past → ℕ
endings history = count_by (λ entry. ends entry.did) history

-- how often a seat was given, and how often spent
abbrev pub given : Seat → List Past → ℕ
given seat history = count_by (λ entry. admits entry.did && is_of seat entry) history

abbrev pub spent : Seat → List Past → ℕ
spent seat history = count_by (λ entry. ends entry.did && is_of seat entry) history

-- how many seats of that key and epoch were given and are not spent
abbrev pub unspent : Seat → List Past → ℕ
unspent seat history = given seat history - spent seat history

-- the seat was given and is not spent
abbrev pub IsUnspent : Seat → List Past → Type 0
IsUnspent seat history = spent seat history < given seat history

-- how many Admitted entries a key has
abbrev pub admissions_of : Key → List Past → ℕ
admissions_of key history = count_by (λ entry. admits entry.did && same_key entry.key key) history
