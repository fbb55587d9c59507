use Rattle.std.proofs.Common.{◌≡◌, take}
use Rattle.ra_registry.proofs.start.copies.Given as goal

abbrev pub invariant-loop-kept : goal.invariant-loop-kept
invariant-loop-kept l = l.copied.items ≡ take l.kept-index l.records
