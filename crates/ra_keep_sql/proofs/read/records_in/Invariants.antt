use Rattle.std.proofs.Common.{◌≡◌, ◌+◌, ◌++◌, length, drop, option_map}
use Rattle.ra_keep_sql.specs.KeptRows.{records_from, bad_from}
use Rattle.ra_keep_sql.proofs.read.records_in.Given as goal

abbrev pub invariant-loop-row : goal.invariant-loop-row
invariant-loop-row l = record {
  read : records_from 1 l.rows ≡ option_map (λ rs. l.records.items ++ rs) (records_from (length l.records.items + 1) (drop l.row-index l.rows));
  bad : bad_from 1 l.rows ≡ bad_from (length l.records.items + 1) (drop l.row-index l.rows);
}
