-- A hub over a keeper in memory.
use Rattle.std.specs.Prelude.{Some}
use Rattle.ra_keep.specs.declared.keeper.Keeper.{Ghosts}
use Rattle.ra_keep.specs.declared.mem_keeper.MemKeeper.{MemKeeper}
use Rattle.ra_hub.specs.declared.plain.PlainHub.{PlainHub}

-- what a keeper in memory tells
abbrev pub mem_keeping : Ghosts MemKeeper
mem_keeping = record { told = λ k. Some k.records; faults = λ k. k.faults; calls = λ k. Some k.calls }

abbrev pub MemHub : Type 0
MemHub = PlainHub MemKeeper mem_keeping
