use Rattle.ra_registry.proofs.CountLemmas.{admission_counts, end_counts, other_counts, expiries_count, some_unspent, is_unspent}
use Rattle.ra_registry.proofs.laws.counts.Goals as goal

pub returns : goal.returns
returns c = record {
  admitted = admission_counts;
  ended = end_counts;
  other = other_counts;
  expired = expiries_count;
  some = some_unspent;
  left = is_unspent;
}
