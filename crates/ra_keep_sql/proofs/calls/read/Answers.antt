use Rattle.std.proofs.lemmas.Result.{IfOk-weaker}
use Rattle.ra_keep_sql.proofs.RowLemmas.{kinds_kept}
use Rattle.ra_keep_sql.proofs.calls.read.Goals as goal

pub returns-in-Ok-clause-kinds : goal.returns-in-Ok-clause-kinds
returns-in-Ok-clause-kinds g c = IfOk-weaker c.records_in.result _ _ (λ records read. kinds_kept 1 c.as_slice.result.now records.items read) c.records_in.ensures.records
