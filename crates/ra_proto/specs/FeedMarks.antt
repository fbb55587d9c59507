-- What taking a piece back goes back to.
use Rattle.std.specs.Prelude.{◌<◌, ◌^◌, length}
use Rattle.ra_model.specs.declared.timing.Timing.{Timing}
use Rattle.ra_model.specs.EndpointStates.{EndpointState}
use Rattle.ra_proto.specs.declared.links.FeedMark.{FeedMark}

abbrev pub mark_of : EndpointState → FeedMark
mark_of s = record { unread = length s.unread; timing = s.timing }

-- its moments are as those of calls are
pub record IsTimed (t : Timing) : Type 0 where
  pub latest : t.latest < 2 ^ 53
  pub heard : t.heard < 2 ^ 53
