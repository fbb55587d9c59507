-- Rows that have the same epoch, and are both there or both not.
use Rattle.std.specs.Prelude.{◌≡◌, Option}
use Rattle.std.specs.Option.{is_some}
use Rattle.ra_registry.specs.declared.row.Row.{Row}
use Rattle.ra_registry.specs.Rows.{epoch_of}

pub record RowsAgree (old new : Option Row) : Type 0 where
  pub epoch : epoch_of new ≡ epoch_of old
  pub there : is_some new ≡ is_some old
