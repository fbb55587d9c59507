use Rattle.std.proofs.Common.{◌≡◌, ◌∙◌, ◌^◌, Vec, Global, true≢false, ap, sym, arith}
use Rattle.crossbeam_queue.specs.Passes.{view}
use Rattle.ra_hub.specs.Jobs.{JobState}
use Rattle.ra_jobs.specs.declared.protocol.SeatLog.{SeatLog}
use Rattle.ra_jobs.proofs.Moves.{takes, learns, settles}
use Rattle.ra_jobs.proofs.queue.drain.Goals as goal
use Rattle.ra_jobs.proofs.queue.drain.Goals.{in-None, in-Some+else-is_err+in-None-pop_as}

pub pop_as-requires-clause-rule : goal.pop_as-requires-clause-rule
pop_as-requires-clause-rule g c =
    let p : (view c.loop.pass).parts ≡ 2 ^ 62 = ap (λ (v : SeatLog). v.parts) c.loop.invariant.1 ∙ c.requires.whole in
    (takes c.loop.pass.id (view c.loop.pass) (omega arith), learns c.loop.pass.id (view c.loop.pass) p)

pub returns-clause-ok : goal.returns-clause-ok
returns-clause-ok g c =
    elim c.match-next.branch [
      | in-None w ↦ absurd (true≢false (sym w.in-None.ensures.steps))
      | in-Some+else-is_err+in-None-pop_as w ↦
          let held = w.in-None-pop_as.ensures.rule.1 in
          let rest : c.match-next.rest.items ≡ c.loop.rest.items = ap (λ (v : Vec JobState Global). v.items) w.rest-is ∙ w.reserve.ensures.items in
          rw rest (settles (view c.loop.pass) (view c.args.pass.now) c.loop.rest.items held.0 c.loop.invariant.1 held.1 held.2)
    ]
