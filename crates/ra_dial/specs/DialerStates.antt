-- What a dialer in memory keeps, and the dialers that it stands for.
use Rattle.std.specs.Prelude.{◌≡◌, ℕ, Bool, true, List}
use Rattle.ra_session.specs.Sessions.{Session}
use Rattle.ra_session.specs.SessionStates.{SessionState, StandsForSession}
use Rattle.ra_dial.specs.declared.stage.Stage.{Stage}
use Rattle.ra_dial.specs.Clients.{Settings}
use Rattle.ra_dial.specs.Handshakes.{Head, IsHeadOf}
use Rattle.ra_dial.specs.Dialers.{Dialer}
use Rattle.ra_dial.specs.Acts.{Act}
use Rattle.ra_dial.specs.Attempts.{Step}

pub record DialerState : Type 0 where
  pub settings : Settings
  pub stage : Stage
  pub attempt : ℕ
  pub lost : ℕ
  pub pending : List ℕ
  pub session : SessionState

-- the dialer with this session, whose last handshake read so many bytes, that is otherwise in this state
abbrev pub dialer_of : Session → ℕ → DialerState → Dialer
dialer_of session read h = record {
  settings = h.settings;
  stage = h.stage;
  attempt = h.attempt;
  lost = h.lost;
  pending = h.pending;
  session = session;
  read = read;
}

-- all is equal, but that the session is one that the kept one stands for
pub record StandsForDialer (h : DialerState) (d : Dialer) : Type 0 where
  pub same : d ≡ dialer_of d.session d.read h
  pub session : StandsForSession h.session d.session

abbrev pub OfEachDialer : DialerState → (Dialer → Type 0) → Type 0
OfEachDialer h P = (d : Dialer) → StandsForDialer h d → P d

-- the new state stands for what the call makes of each dialer that the old one stands for
abbrev pub DialerBecomes : DialerState → DialerState → (Dialer → Dialer) → Type 0
DialerBecomes old new call = OfEachDialer old (λ d. StandsForDialer new (call d))

-- the act and the state after it are the row's, for each dialer that the old state stands for
pub record Steps (old new : DialerState) (act : Act) (row : Dialer → Step) : Type 0 where
  pub acts : OfEachDialer old (λ d. (row d).0 ≡ act)
  pub stands : OfEachDialer old (λ d. StandsForDialer new (row d).1)

-- the same, by the answer that the unread bytes of a handshake have
pub record StepsByHead (old new : DialerState) (act : Act) (row : Head → Dialer → Step) : Type 0 where
  pub head : Head
  pub is_head : IsHeadOf old.stage head
  pub steps : Steps old new act (row head)

-- the same, where the answer is told only if it is looked at
pub record FollowsTable (looks : Bool) (old new : DialerState) (act : Act) (row : Head → Dialer → Step) : Type 0 where
  pub head : Head
  pub is_head : looks ≡ true → IsHeadOf old.stage head
  pub steps : Steps old new act (row head)
