-- One order of all that the seats put.
use Rattle.std.specs.Prelude.{◌≡◌, ℕ, List}
use Rattle.ra_hub.specs.Jobs.{JobState}
use Rattle.ra_jobs.specs.declared.protocol.SeatLog.{SeatLog}
use Rattle.ra_jobs.specs.Logs.{weigh, EachWithin, Orders, put_weight}

-- the jobs put, seat by seat, are these, each as often, and there is one order of them in which each seat's stand in its own
abbrev pub InOneOrder : List (List JobState) → List JobState → Type 0
InOneOrder puts all =
    ((h : JobState → ℕ) → weigh (weigh h) puts ≡ weigh h all)
    × ((log : List JobState) × ((h : JobState → ℕ) → weigh h log ≡ weigh h all) × EachWithin puts log)

abbrev pub WholeOrder : SeatLog → List JobState → Type 0
WholeOrder v all =
    ((h : JobState → ℕ) → put_weight h v ≡ weigh h all)
    × ((log : List JobState) × ((h : JobState → ℕ) → weigh h log ≡ weigh h all) × Orders log v)
