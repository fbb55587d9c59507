use Rattle.std.proofs.Common.{◌≡◌}
use Rattle.ra_jobs.specs.Seats.{put_by, taken_by}
use Rattle.ra_jobs.proofs.sink.put_waiting.Given as goal

abbrev pub invariant-loop : goal.invariant-loop
invariant-loop g l =
    (l.next ≡ l.fn.job) × (put_by l.seat.pass ≡ put_by l.fn.seat.pass) × (taken_by l.seat.pass ≡ taken_by l.fn.seat.pass)
