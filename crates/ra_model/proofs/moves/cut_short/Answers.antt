use Rattle.ra_model.proofs.CutShort.{view_broken}
use Rattle.ra_model.proofs.moves.cut_short.Goals as goal

pub returns : goal.returns
returns c = λ start s i j p o links v k fits. view_broken start s i j p o links k v fits
