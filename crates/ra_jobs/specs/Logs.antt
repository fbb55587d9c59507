-- What the seats of a queue have put and taken, and what it holds.
use Rattle.std.specs.Prelude.{◌≡◌, ℕ, ◌+◌, ◌^◌, List, [], ◌∷◌, ◌⊎◌}
use mathlib.Core.Option.{some}
use lib.ListN.{get_elem?}
use Rattle.ra_jobs.specs.declared.protocol.SeatLog.{SeatLog}
use Rattle.ra_hub.specs.Jobs.{JobState}

-- the weights of the items, added up
abbrev pub weigh : {A : Type 0} → (A → ℕ) → List A → ℕ
weigh h [] = 0
weigh h (x ∷ xs) = h x + weigh h xs

-- the same jobs, each as often: they weigh the same, however jobs are weighed
abbrev pub SameJobs : List JobState → List JobState → Type 0
SameJobs xs ys = (h : JobState → ℕ) → weigh h xs ≡ weigh h ys

abbrev pub seat_log : ℕ → List JobState → List (List JobState) → List JobState → SeatLog
seat_log parts put joined taken = record { parts = parts; put = put; joined = joined; taken = taken }

-- the jobs xs stand among ys, in this order
abbrev pub Within : List JobState → List JobState → Type 0
Within [] ys = Unit {0}
Within (x ∷ xs) [] = ⊥
Within (x ∷ xs) (y ∷ ys) = ((x ≡ y) × Within xs ys) ⊎ Within (x ∷ xs) ys

abbrev pub EachWithin : List (List JobState) → List JobState → Type 0
EachWithin [] log = Unit {0}
EachWithin (l ∷ ls) log = Within l log × EachWithin ls log

-- what a pass has put stands in the order, and so does what each pass put that it took in
abbrev pub Orders : List JobState → SeatLog → Type 0
Orders log v = Within v.put log × EachWithin v.joined log

abbrev pub put_weight : (JobState → ℕ) → SeatLog → ℕ
put_weight h v = weigh h v.put + weigh (weigh h) v.joined

-- a pass with no part has put and taken nothing
abbrev pub IsIdle : SeatLog → Type 0
IsIdle v = (v.put ≡ []) × (v.joined ≡ []) × (v.taken ≡ [])

abbrev pub IdleIsEmpty : List SeatLog → Type 0
IdleIsEmpty views = (port : ℕ) (v : SeatLog) → get_elem? views port ≡ some v → v.parts ≡ 0 → IsIdle v

abbrev pub AllOrder : List JobState → List SeatLog → Type 0
AllOrder log views = (port : ℕ) (v : SeatLog) → get_elem? views port ≡ some v → Orders log v

-- There is one order of all that was put. It is what was taken and what the queue holds
abbrev pub Ordered : List JobState → List SeatLog → Type 0
Ordered items views =
    (log : List JobState) × ((h : JobState → ℕ) → weigh h log ≡ weigh (λ v. weigh h v.taken) views + weigh h items) × AllOrder log views

abbrev pub Balanced : List JobState → List SeatLog → Type 0
Balanced items views =
    (weigh (λ v. v.parts) views ≡ 2 ^ 62)
    × ((h : JobState → ℕ) → weigh (put_weight h) views ≡ weigh (λ v. weigh h v.taken) views + weigh h items)
    × IdleIsEmpty views × Ordered items views

-- what one who knows the whole learns
abbrev pub Whole : SeatLog → List JobState → Type 0
Whole v items =
    ((h : JobState → ℕ) → put_weight h v ≡ weigh h v.taken + weigh h items)
    × ((log : List JobState) × ((h : JobState → ℕ) → weigh h log ≡ weigh h v.taken + weigh h items) × Orders log v)
