use Rattle.ra_model.proofs.LinkMoves.{view_skips}
use Rattle.ra_model.proofs.CutShort.{view_ahead}
use Rattle.ra_model.proofs.CallMoves.{honest_control, honest_pause, honest_resume}
use Rattle.ra_model.proofs.moves.other_links.Goals as goal

pub returns : goal.returns
returns c = record {
  ahead = λ start s i j p o links v n l frames later at all. view_ahead start s i j p o links n l frames v later at all;
  skips = λ start s i j p o links v n k l low lost at fits. view_skips start s i j p o links n k l v low lost at fits;
  control = honest_control;
  pause = honest_pause;
  resume = honest_resume;
}
