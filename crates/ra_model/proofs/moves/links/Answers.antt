use Rattle.ra_model.proofs.LinkMoves.{view_begin, view_feed, view_write, view_linked, view_cut}
use Rattle.ra_model.proofs.moves.links.Goals as goal

pub returns : goal.returns
returns c = record {
  made = view_linked;
  cut = λ start s i j p o links v n l at. view_cut start s i j p o links n l v at;
  begins = λ start s i j p o links v n k epoch l now later at fits can. view_begin start s i j p o links n k epoch l now v later at fits can;
  feeds = λ start s i j p o links v k epoch l now at fits can. view_feed start s i j p o links k epoch l now v at fits can;
  writes = λ start s i j p o links v k fits. view_write start s i j p o links k v fits;
}
