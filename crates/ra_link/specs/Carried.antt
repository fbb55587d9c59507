-- What the end of a connection carries.
use Rattle.std.specs.Prelude.{◌<◌, ⊤}
use Rattle.ra_model.specs.Frames.{body_limit}
use Rattle.ra_session.specs.Carried.{HasFault}
use Rattle.ra_session.specs.SessionRefusals.{bad_message}
use Rattle.ra_link.specs.declared.ends.LinkEnd.{LinkEnd}
use Rattle.ra_link.specs.declared.ends.LinkEnd.TheVariants as ends

-- a bad message has its fault, and a length that is too long is above the limit of a frame
abbrev pub LinkCarries : LinkEnd → Type 0
LinkCarries (ends.TooLong n) = body_limit < n
LinkCarries (ends.BadIpc fault message) = HasFault (bad_message fault) message
LinkCarries _ = ⊤
