use Rattle.ra_grand_laws.proofs.Reaching.{reached, hear, nothing}
use Rattle.ra_grand_laws.proofs.laws.both_ends.Goals as goal
use Rattle.ra_grand_runs.specs.GrandRuns.{run}
use Rattle.ra_grand_runs.specs.Grands.{new_grand}

pub returns : goal.returns
returns c = record {
  hear = λ entries n c s is_run is session. hear (run entries new_grand) n c s (reached entries is_run) is session;
  nothing = λ entries n c is_run is session. nothing (run entries new_grand) n c (reached entries is_run) is session;
}
