-- Why a management dialer that is not over refuses a request.
use Rattle.std.specs.Prelude.{◌≡◌, ◌<◌, true, false}
use Rattle.ra_model.specs.Frames.{body_limit}
use Rattle.ra_session.specs.SessionRefusals.{Refusal, ended, stale, no_link, too_long, bad_ipc, too_large, ids_spent, no_such_call, wrong_kind}
use Rattle.ra_session.specs.Sessions.{is_management}
use Rattle.ra_dial.specs.Dialers.{Dialer}
use Rattle.ra_dial.specs.Runs.{is_over, HasSession}

-- a dialer of a management session, which is not over
pub record MayRequest (d : Dialer) : Type 0 where
  pub session : HasSession d
  pub going : is_over d.stage ≡ false
  pub management : is_management d.session.kind ≡ true

-- the request is above the limit of a message, or no id is left for it
abbrev pub IsTooMuch : Refusal → Type 0
IsTooMuch (ended cause) = ⊥
IsTooMuch (stale current) = ⊥
IsTooMuch no_link = ⊥
IsTooMuch (too_long stated) = ⊥
IsTooMuch (bad_ipc bad message) = ⊥
IsTooMuch (too_large len) = body_limit < len
IsTooMuch ids_spent = Unit {0}
IsTooMuch (no_such_call id) = ⊥
IsTooMuch wrong_kind = ⊥
