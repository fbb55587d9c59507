use Rattle.std.proofs.Common.{refl, append_assoc}
use Rattle.ra_audit.proofs.lines.push_end.Goals as goal

pub returns : goal.returns
returns c = simp (c.in_ok-push.ensures.items, c.in_ok-push_decimal.ensures, c.in_ok-extend_from_slice.ensures.items, append_assoc) refl
