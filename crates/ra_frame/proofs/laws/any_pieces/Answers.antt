use Rattle.ra_frame.proofs.FrontLemmas.{too_long_more}
use Rattle.ra_frame.proofs.ReadingLemmas.{kept}
use Rattle.ra_frame.proofs.laws.any_pieces.Goals as goal

pub returns : goal.returns
returns c = record {
  kept = λ text frames unread r. kept r;
  cut = λ text frames unread r none. record { whole = (kept r).whole; each = (kept r).each; partial = none };
  too_long = too_long_more;
}
