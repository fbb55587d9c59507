use Rattle.std.proofs.Common.{refl}
use Rattle.sqlite.specs.Held.{state}
use Rattle.sqlite.specs.Steps.{over_memory}
use Rattle.sqlite.proofs.Callers.{memory_is_clean}
use Rattle.ra_keep_sql.proofs.OpeningLemmas.{adopts_blank, memory_refused}
use Rattle.ra_keep_sql.proofs.sql_keeper.SqlKeeper+MemStore.in_memory.Goals as goal

pub returns-in-Ok-adopt-clause-told : goal.returns-in-Ok-adopt-clause-told
returns-in-Ok-adopt-clause-told c =
    adopts_blank (state over_memory c.in-Ok.connection) (state over_memory c.in-Ok-adopt.keeper.connection) (c.in-Ok-adopt.ensures.adopted (memory_is_clean c.in-Ok-adopt.keeper.connection)) c.in-Ok.ensures.empty.2

pub returns-in-Err-clause-cause : goal.returns-in-Err-clause-cause
returns-in-Err-clause-cause c =
    memory_refused (state over_memory c.in-Ok.connection) (state over_memory c.in-Err.refused.connection) c.in-Err.refused.fault c.in-Ok.ensures.empty.0 c.in-Ok.ensures.empty.2 refl refl
    (c.in-Err.ensures.refused (memory_is_clean c.in-Err.refused.connection))
