-- What several seats have put and taken.
use Rattle.std.specs.Prelude.{List, [], ◌∷◌, ◌++◌}
use Rattle.crossbeam_queue.specs.Passes.{Pass, view}
use Rattle.ra_hub.specs.Jobs.{JobState}
use Rattle.ra_jobs.specs.declared.protocol.SeatLog.{SeatLog}

abbrev pub log_of : Pass JobState SeatLog → SeatLog
log_of pass = view pass

-- what a seat has put, and what it has taken, in order
abbrev pub put_by : Pass JobState SeatLog → List JobState
put_by pass = (view pass).put

abbrev pub taken_by : Pass JobState SeatLog → List JobState
taken_by pass = (view pass).taken

-- what all of them have taken, seat by seat
abbrev pub all_taken : List SeatLog → List JobState
all_taken [] = []
all_taken (v ∷ more) = v.taken ++ all_taken more
