use Rattle.ra_model.proofs.Queue as q
use Rattle.ra_model.proofs.laws.queue.Goals as goal

pub returns : goal.returns
returns c = record { ordered = q.ordered; said = q.said; acknowledged = q.acknowledged; rewritten = q.written_again }
