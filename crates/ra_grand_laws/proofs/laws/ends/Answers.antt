use Rattle.ra_grand_runs.specs.GrandRuns.{run}
use Rattle.ra_grand_runs.specs.Grands.{new_grand}
use Rattle.ra_grand_laws.specs.Outcomes.{settled, fired}
use Rattle.ra_grand_laws.proofs.GoodEnds.{good_end}
use Rattle.ra_grand_laws.proofs.Reached.{channels_reached}
use Rattle.ra_grand_laws.proofs.Reaching.{reached}
use Rattle.ra_grand_laws.proofs.laws.ends.Goals as goal

pub returns : goal.returns
returns c = λ entries entry bytes end is_run none is.
    good_end entry (run entries new_grand) (λ n. settled n entries new_grand) (λ n. fired n entries new_grand) bytes end none (reached entries is_run)
    (channels_reached entries is_run) is
