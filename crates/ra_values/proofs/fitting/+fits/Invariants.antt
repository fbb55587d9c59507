use Rattle.std.proofs.Common.{◌↔◌, drop}
use Rattle.ra_values.specs.View.{trees}
use Rattle.ra_values.specs.Spelling.{AllFit}
use Rattle.ra_values.proofs.fitting.+fits.Given as goal

-- what is left decides
abbrev pub invariant-all_fit-loop-item : goal.invariant-all_fit-loop-item
invariant-all_fit-loop-item l = AllFit l.left (trees (drop l.item-index l.items)) ↔ AllFit l.left (trees l.items)
