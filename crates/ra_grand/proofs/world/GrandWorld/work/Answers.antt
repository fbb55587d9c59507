use Rattle.ra_grand.proofs.JobSteps.{no_job, worked_one, not_worked}
use Rattle.ra_grand.proofs.world.GrandWorld.work.Goals as goal

pub returns-in-None : goal.returns-in-None
returns-in-None c = no_job c.args.self.now c.args.job _ c.job_count-there.ensures c.in-None.ensures

pub returns-in-Ok : goal.returns-in-Ok
returns-in-Ok c =
    worked_one c.args.self.now c.work.new.self c.args.job c.in-Some.at c.in-Some.ensures.0 (rw c.job_count-there.ensures at c.in-Some.ensures.1) c.in-Ok.ensures

pub returns-in-Err : goal.returns-in-Err
returns-in-Err c =
    not_worked c.args.self.now c.work.new.self c.args.job c.in-Some.at c.in-Err.fault c.session_fault.result c.in-Some.ensures.0
    (rw c.job_count-there.ensures at c.in-Some.ensures.1) c.in-Err.ensures c.session_fault.ensures
