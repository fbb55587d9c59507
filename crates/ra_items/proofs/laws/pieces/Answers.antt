use Rattle.ra_items.proofs.ItemLemmas.{items_grow, fresh_all, fresh_frames, fresh_refused, fresh_over}
use Rattle.ra_items.proofs.laws.pieces.Goals as goal

pub returns : goal.returns
returns g c = record { grow = items_grow; all = fresh_all; behind = fresh_frames; refused = fresh_refused; over = fresh_over }
