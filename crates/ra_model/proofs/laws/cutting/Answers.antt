use Rattle.ra_model.proofs.CuttingLemmas.{is_cut, frames_step, frames_none, frames_more, rest_none, rest_left, places_more, found_parts}
use Rattle.ra_model.proofs.Framing.{first_frame_more}
use Rattle.ra_model.proofs.laws.cutting.Goals as goal

pub returns : goal.returns
returns c = record {
  is_cut = is_cut;
  step = frames_step;
  none = frames_none;
  more = frames_more;
  rest = rest_none;
  left = rest_left;
  places = places_more;
  found = found_parts;
  later = first_frame_more;
}
