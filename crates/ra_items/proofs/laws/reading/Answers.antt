use Rattle.ra_items.proofs.ReaderLemmas.{read_nothing, read_piece, read_head, read_frame, read_front, read_items, read_fresh}
use Rattle.ra_items.proofs.laws.reading.Goals as goal

pub returns : goal.returns
returns g c = record { nothing = read_nothing; piece = read_piece; head = read_head; frame = read_frame; front = read_front; items = read_items; fresh = read_fresh }
