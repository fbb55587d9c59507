use Rattle.std.proofs.Common.{◌≡◌, ◌∙◌, ap, refl, arith, map, length, List, [], ◌∷◌, ◌++◌, ◌+◌, length-append}
use Rattle.std.proofs.lemmas.List.{map-append}
use Rattle.ra_jobs.specs.Logs.{seat_log}
use Rattle.crossbeam_queue.specs.Passes.{view}
use Rattle.ra_jobs.specs.declared.protocol.SeatLog.{SeatLog}
use Rattle.ra_hub.specs.Jobs.{JobState}
use Rattle.ra_jobs.specs.Seats.{log_of, all_taken, put_by}
use Rattle.ra_jobs.proofs.Moves.{merges, log_more}
use Rattle.ra_jobs.proofs.queue.gather.Goals as goal

pub absorb-requires-clause-rule : goal.absorb-requires-clause-rule
absorb-requires-clause-rule g c =
    let p = ap (λ (v : SeatLog). v.parts) c.loop-seat.invariant.2 in
    merges c.loop-seat.pass.id (view c.loop-seat.pass) c.in-Some.seat.pass.id (view c.in-Some.seat.pass) (omega arith)

pub loop-seat-preserved : goal.loop-seat-preserved
loop-seat-preserved g c =
    let was = c.loop-seat.invariant in
    let s = c.in-Some.seat in
    let vs : List SeatLog = map (λ s. log_of s.pass) c.loop-seat.yielded in
    let ps : List (List JobState) = map (λ s. put_by s.pass) c.loop-seat.yielded in
    let v : SeatLog = view c.args.pass in
    let w : SeatLog = view s.pass in
    let one : w.parts ≡ 1 = s.one_part in
    let alone : w.joined ≡ [] = s.alone in
    let more : map (λ s. log_of s.pass) (c.loop-seat.yielded ++ s ∷ []) ≡ vs ++ w ∷ [] = map-append _ c.loop-seat.yielded (s ∷ []) in
    let more2 : map (λ s. put_by s.pass) (c.loop-seat.yielded ++ s ∷ []) ≡ ps ++ w.put ∷ [] = map-append _ c.loop-seat.yielded (s ∷ []) in
    let n : length (c.loop-seat.yielded ++ s ∷ []) ≡ length c.loop-seat.yielded + 1 = length-append c.loop-seat.yielded (s ∷ []) in
    let both : view c.absorb.new.pass ≡ seat_log ((v.parts + length c.loop-seat.yielded) + w.parts) v.put ((v.joined ++ ps) ++ w.put ∷ w.joined) ((v.taken ++ all_taken vs) ++ w.taken) =
    c.absorb.ensures.rule ∙ ap (λ (u : SeatLog). seat_log (u.parts + w.parts) u.put (u.joined ++ w.put ∷ w.joined) (u.taken ++ w.taken)) was.2 in (
      c.absorb.ensures.queue.0 ∙ was.0,
      c.absorb.ensures.queue.2 ∙ was.1,
      both ∙ (log_more v (length c.loop-seat.yielded) ps vs w one alone ∙ rw (more, more2, n) refl),
    )
