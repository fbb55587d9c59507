-- What the end of a link carries.
use Rattle.std.specs.Prelude.{◌<◌, Option, Some, None, ⊤}
use Rattle.ra_model.specs.Frames.{body_limit}
use Rattle.ra_session.specs.Carried.{HasFault}
use Rattle.ra_session.specs.SessionRefusals.{bad_message}
use Rattle.ra_link_core.specs.declared.ends.CoreEnd.{CoreEnd}
use Rattle.ra_link_core.specs.declared.ends.CoreEnd.TheVariants as ends

-- a bad message has its fault, and a length that is too long is above the limit of a frame
abbrev pub EndCarries : CoreEnd → Type 0
EndCarries (ends.BadHead fault) = ⊤
EndCarries (ends.Refused reason) = ⊤
EndCarries (ends.TooLong n) = body_limit < n
EndCarries (ends.BadIpc fault message) = HasFault (bad_message fault) message
EndCarries (ends.Stale current) = ⊤
EndCarries ends.NoLink = ⊤
EndCarries (ends.Ended cause) = ⊤
EndCarries ends.IdsSpent = ⊤
EndCarries ends.KeepFault = ⊤
EndCarries ends.NoMemory = ⊤

abbrev pub Carries : Option CoreEnd → Type 0
Carries None = ⊤
Carries (Some end) = EndCarries end
