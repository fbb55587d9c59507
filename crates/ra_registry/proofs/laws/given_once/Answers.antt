use Rattle.ra_registry.proofs.CountLemmas.{given_at_most_once, unspent_at_most_once}
use Rattle.ra_registry.proofs.laws.given_once.Goals as goal

pub returns : goal.returns
returns c = record { given = given_at_most_once; unspent = unspent_at_most_once }
