use Rattle.std.proofs.Common.{append_assoc}
use Rattle.ra_endpoint_commands.proofs.lines.push_too_long.Goals as goal

pub returns : goal.returns
returns c = rw (c.in_ok-push_place.ensures, c.in_ok-push_decimal.ensures, c.in_ok-extend_from_slice.ensures.items) (simp append_assoc)
