-- Entries of a run: events, with how much of each was done.
use Rattle.std.specs.Prelude.{ℕ, List}
use Rattle.ra_base.specs.declared.key.Key.{Key}
use Rattle.ra_script.specs.declared.grand_line.GrandEvent.{GrandEvent}

-- An event was applied whole. Where memory ran out at the server's end of a link, so many draws and calls of the hub were made, and so many
-- bytes were put out. Where it ran out in a sweep, these sessions were not ticked.
pub data Mark : Type 0 where
  whole : Mark
  short : (draws calls bytes : ℕ) → Mark
  unticked : List Key → Mark

pub record Entry : Type 0 where
  pub event : GrandEvent
  pub mark : Mark
