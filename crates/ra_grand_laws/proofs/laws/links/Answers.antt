use Rattle.ra_grand_laws.proofs.Reaching.{reached, honest, attached, seated}
use Rattle.ra_grand_laws.proofs.laws.links.Goals as goal
use Rattle.ra_grand_runs.specs.GrandRuns.{run}
use Rattle.ra_grand_runs.specs.Grands.{new_grand}

pub returns : goal.returns
returns c = record {
  honest = λ entries n m c s l w is_run is session there welcome. honest (run entries new_grand) n m c s l w (reached entries is_run) is session there welcome;
  client = λ entries n c s l is_run is session stage last running. attached (run entries new_grand) n c s l (reached entries is_run) is session stage last running;
  server = λ entries n m c s l seat is_run is session there over seat_is present. seated (run entries new_grand) n m c s l seat (reached entries is_run) is session there over seat_is present;
}
