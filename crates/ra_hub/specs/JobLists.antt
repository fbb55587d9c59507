-- What a list of jobs in memory holds.
use Rattle.std.specs.Prelude.{List}
use Rattle.ra_hub.specs.Jobs.{JobState}
use Rattle.ra_hub.specs.declared.jobs.JobList.{JobList}

abbrev pub jobs_in : JobList → List JobState
jobs_in list = list.jobs.items
