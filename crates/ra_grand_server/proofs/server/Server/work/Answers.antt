use Rattle.std.proofs.Common.{◌∙◌, sym}
use Rattle.std.proofs.lemmas.Result.{err_from_is_err_and}
use Rattle.ra_grand_server.proofs.SeatCounts.{seats_stay}
use Rattle.ra_grand_server.specs.ServerStates.{ServerState}
use Rattle.ra_grand_server.proofs.WorkSteps.{is_there, work_done, work_stays}
use Rattle.ra_grand_server.proofs.server.Server.work.Goals as goal

pub invariant_of-self : goal.invariant_of-self
invariant_of-self c = seats_stay c.self.inside.hub c.tell_job-told.new.hub c.self.inside.links.items c.tell_job-told.ensures.seats c.self.invariant

pub invariant_of-self-2 : goal.invariant_of-self-2
invariant_of-self-2 c = seats_stay c.self.inside.hub c.tell_job-told.new.hub c.self.inside.links.items c.tell_job-told.ensures.seats c.self.invariant

pub returns-in_err-settle : goal.returns-in_err-settle
returns-in_err-settle c =
    let p = err_from_is_err_and c.from_residual.result c.from_residual.ensures.1 in
    let look = rw c.jobs.ensures at c.in-Some.ensures.lookup in
    let here = is_there _ c.args.at c.in-Some.job.now c.in-Some.job.now look.3.0 look.1 in
    let old : ServerState = record { hub = c.self.inside.hub; drawn = c.self.inside.entropy; jobs = c.self.inside.jobs; links = c.self.inside.links.items } in
    rw (p.1, p.2, ← c.self.view_is)
    (work_stays old c.tell_job-told.new.hub c.args.at c.args.now c.tell_job-told.result c.in_err-settle.field-0.0 (sym c.settle.ensures ∙ c.in_err-settle.was)
    c.in-Some.job.now here c.tell_job-told.ensures.told)

pub returns : goal.returns
returns c =
    let look = rw c.jobs.ensures at c.in-Some.ensures.lookup in
    let here = is_there _ c.args.at c.in-Some.job.now c.in-Some.job.now look.3.0 look.1 in
    let old : ServerState = record { hub = c.self.inside.hub; drawn = c.self.inside.entropy; jobs = c.self.inside.jobs; links = c.self.inside.links.items } in
    rw (← c.self.view_is)
    (work_done old c.tell_job-told.new.hub c.remove.new.self c.args.at c.args.now c.tell_job-told.result (sym c.settle.ensures ∙ c.in_ok-settle.was)
    c.remove.ensures.left c.in-Some.job.now here c.tell_job-told.ensures.told)
