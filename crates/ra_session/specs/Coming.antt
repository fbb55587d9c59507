-- A message that comes next to a session, and what it means there.
use Rattle.std.specs.Prelude.{◌≡◌, ℕ, false, Some, None}
use Rattle.ra_model.specs.declared.session.Up.TheVariants.{Message as HandedUp}
use Rattle.ra_model.specs.FirstFrame.{is_too_long}
use Rattle.ra_model.specs.Endpoints.{Endpoint}
use Rattle.ra_model.specs.EndpointStates.{StandsFor}
use Rattle.ra_model.specs.Taking.{delivery}
use Rattle.ra_proto.specs.Coming.{IsNextMessage}
use Rattle.ra_proto.specs.declared.coming.NextMessage.{NextMessage}
use Rattle.ra_session.specs.Hearing.{Heard, heard}
use Rattle.ra_session.specs.SessionStates.{SessionState}

-- a running session hears this message next
pub record ComesTo (m : NextMessage) (h : SessionState) : Type 0 where
  pub going : h.cause ≡ None
  pub next : IsNextMessage m.id m.ack m.len h.endpoint
  pub fits : is_too_long h.endpoint.unread ≡ false
  pub handed : (e : Endpoint) → StandsFor h.endpoint e → delivery e ≡ Some (HandedUp m.id m.body)

abbrev pub heard_by : SessionState → NextMessage → ℕ → Heard
heard_by h m now = heard h.kind h.serves h.server h.client m.id m.body now
