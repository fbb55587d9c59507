use Rattle.std.proofs.Common.{◌≡◌, ◌++◌, take, map}
use Rattle.ra_model.specs.Frames.{joined}
use Rattle.ra_model.specs.Endpoints.{entry_frame}
use Rattle.ra_proto.proofs.writing.append_entries.Given as goal

abbrev pub invariant-loop-entry : goal.invariant-loop-entry
invariant-loop-entry l = l.out ≡ l.fn.out ++ joined (map entry_frame (take l.entry-index l.entries))
