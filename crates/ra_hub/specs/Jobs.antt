-- How a contract sees a job: its session, and what is asked for.
use Rattle.std.specs.Prelude.{List, [], ◌∷◌, ◌++◌, Option, option_map}
use Rattle.ra_base.specs.declared.key.Key.{Key}
use Rattle.ra_session.specs.Hearing.{Happening}
use Rattle.ra_session.specs.View.{work_of}
use Rattle.ra_session.specs.declared.values.Work.{Work}

-- what a job keeps
pub record JobState : Type 0 where
  pub key : Key
  pub work : Work

pub record SeenJob : Type 0 where
  pub key : Key
  pub work : Happening

abbrev pub seen : JobState → SeenJob
seen job = record { key = job.key; work = work_of job.work }

-- one job more, where the jobs are told
abbrev pub with_job : Option (List SeenJob) → JobState → Option (List SeenJob)
with_job jobs job = option_map (λ list. list ++ seen job ∷ []) jobs
