use Rattle.ra_grand_runs.specs.GrandRuns.{run}
use Rattle.ra_grand_runs.specs.Grands.{new_grand}
use Rattle.ra_grand_laws.specs.Outcomes.{settled, fired}
use Rattle.ra_grand_laws.proofs.Reached.{channels_reached, no_tunnel}
use Rattle.ra_grand_laws.proofs.Reaching.{reached}
use Rattle.ra_grand_laws.proofs.Settled.{settles_once, settles_own, settles_with, client_well, server_well}
use Rattle.ra_grand_laws.proofs.laws.settling.Goals as goal

pub returns : goal.returns
returns c = record {
  once = λ entries n c is_run is kind i.
      settles_once (run entries new_grand) (λ n. settled n entries new_grand) (λ n. fired n entries new_grand) n c (channels_reached entries is_run) is kind i;
  own = λ entries n c is_run is kind i.
      settles_own (run entries new_grand) (λ n. settled n entries new_grand) (λ n. fired n entries new_grand) n c (channels_reached entries is_run) is kind i;
  settles = λ entries n c s is_run is kind session.
      settles_with (run entries new_grand) (λ n. settled n entries new_grand) (λ n. fired n entries new_grand) n c s (channels_reached entries is_run) is kind session;
  client = λ entries n c is_run is.
      client_well (run entries new_grand) (λ n. settled n entries new_grand) (λ n. fired n entries new_grand) n c (channels_reached entries is_run) is
      (no_tunnel (run entries new_grand) n c (reached entries is_run) is);
  server = λ entries n c s is_run is session.
      server_well (run entries new_grand) (λ n. settled n entries new_grand) (λ n. fired n entries new_grand) n c s (channels_reached entries is_run) is
      (no_tunnel (run entries new_grand) n c (reached entries is_run) is) session;
}
