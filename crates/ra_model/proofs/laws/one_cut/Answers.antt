use Rattle.std.proofs.Common.{◌++◌}
use Rattle.ra_model.proofs.Framing as f
use Rattle.ra_model.proofs.Reading as reading
use Rattle.ra_model.proofs.Cuts as cuts
use Rattle.ra_model.proofs.laws.one_cut.Goals as goal

pub returns : goal.returns
returns c = record {
  front = f.first_frames_equal;
  unique = λ text fs gs r s a b. f.cut_unique fs gs text r s a b;
  whole = cuts.has_cut;
  next_piece = cuts.cut_more;
  first = reading.first_frame-some;
  none = f.first_frame-none;
  too_long = λ text more is. cuts.too_long-none (text ++ more) (cuts.too_long-more text more is);
}
