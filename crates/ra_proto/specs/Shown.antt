-- What an endpoint in memory shows, and what is left once it is taken; and whether it has something to hand up.
use Rattle.std.specs.Prelude.{ℕ, if◌then◌else◌, List, [], Bool, ◌&&◌, ◌||◌, is_some}
use Rattle.ra_model.specs.FirstFrame.{first_frame, is_too_long}
use Rattle.ra_model.specs.Endpoints.{is_linked}
use Rattle.ra_model.specs.EndpointStates.{EndpointState}

-- none while paused
abbrev pub shown_of : EndpointState → List ℕ
shown_of s = if s.paused then [] else s.unwritten

abbrev pub emptied : EndpointState → EndpointState
emptied s = record s { unwritten = if s.paused then s.unwritten else [] }

-- a whole frame is unread, or a header that states too long a body
abbrev pub is_ready : EndpointState → Bool
is_ready s = is_linked s.phase && (is_too_long s.unread || is_some (first_frame s.unread))
