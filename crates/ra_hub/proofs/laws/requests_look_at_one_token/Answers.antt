use Rattle.ra_hub.proofs.OthersLemmas.{same_refusal, same_seat_for}
use Rattle.ra_hub.proofs.laws.requests_look_at_one_token.Goals as goal

pub returns : goal.returns
returns c = record { refusal = same_refusal; seat = same_seat_for }
