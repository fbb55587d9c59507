-- The calls of a session keep its kind and which end it is.
use Rattle.std.proofs.Common.{◌≡◌, ℕ, Option, Some, None, List, refl, ap}
use Rattle.std.proofs.lemmas.Bool.{cond_both}
use Rattle.std.specs.Option.{is_some}
use Rattle.ra_base.specs.declared.key.Cause.{Cause}
use Rattle.ra_model.specs.declared.session.Up.{Up as Delivery}
use Rattle.ra_model.specs.declared.session.Up.TheVariants.{Message as HandedUp, Control, Quiet, Ended as Closed}
use Rattle.ra_model.specs.Taking.{delivery}
use Rattle.ra_values.specs.Tree.{Tree}
use Rattle.ra_session.specs.Sessions.{Session, KeepsRole}
use Rattle.ra_session.specs.Hearing.{Heard, spoils, hears}
use Rattle.ra_session.specs.SessionCalls.{attach, feed_session, take_out, lose_session, answer, say_body, call, listen, cancel, dispose, tick_session, leave_session, end_session}
use Rattle.ra_session.specs.SessionStates.{SessionState, StandsForSession}
use Rattle.ra_session.specs.Turns.{heard_at, on_heard, on_delivery, take_in, take_turn, turn}
use Rattle.ra_session.specs.View.{told}
use Rattle.ra_session.specs.declared.values.Tell.{Tell}
use Rattle.ra_session.specs.declared.values.Tell.TheVariants as tells

-- the same kind, and the same end
abbrev SameRole : Session → Session → Type 0
SameRole after before = (after.kind ≡ before.kind) × (after.serves ≡ before.serves)

pub role_of_state : (h : SessionState) (s : Session) → StandsForSession h s → (s.kind ≡ h.kind) × (s.serves ≡ h.serves)
role_of_state h s stands = (ap (λ (x : Session). x.kind) stands.same, ap (λ (x : Session). x.serves) stands.same)

pub role_attach : (epoch : ℕ) (chunk : List ℕ) (now : ℕ) → KeepsRole (attach epoch chunk now)
unfolding attach
role_attach epoch chunk now s = (refl, refl)

pub role_feed : (epoch : ℕ) (piece : List ℕ) (now : ℕ) → KeepsRole (feed_session epoch piece now)
unfolding feed_session
role_feed epoch piece now s = (refl, refl)

pub role_out : KeepsRole take_out
unfolding take_out
role_out s = (refl, refl)

role_heard : (means : Heard) (now : ℕ) (s : Session) → SameRole (on_heard means now s) s
role_heard (spoils bad) now s = (refl, refl)
role_heard (hears h) now s = (refl, refl)

role_delivery : (up : Option Delivery) (now : ℕ) (s : Session) → SameRole (on_delivery up now s) s
role_delivery None now s = (refl, refl)
role_delivery (Some (HandedUp id body)) now s = role_heard (heard_at s id body now) now s
role_delivery (Some (Control body)) now s = (refl, refl)
role_delivery (Some Quiet) now s = (refl, refl)
role_delivery (Some Closed) now s = (refl, refl)

role_in : (now : ℕ) (s : Session) → SameRole (take_in now s) s
unfolding take_in
role_in now s = role_delivery (delivery s.peer.endpoint) now _

pub role_turn : (epoch : ℕ) (piece : List ℕ) (now : ℕ) → KeepsRole (turn epoch piece now)
unfolding turn take_turn take_out feed_session
role_turn epoch piece now s = role_in now _

pub role_tell : (tell : Tell) (now : ℕ) → KeepsRole (told tell now)
unfolding answer say_body
role_tell (tells.Answer id given fire) now s = (refl, refl)
role_tell (tells.Say body) now s = (refl, refl)

pub role_call : (channel name : List ℕ) (arg : Tree) (now : ℕ) → KeepsRole (call channel name arg now)
unfolding call
role_call channel name arg now s = (refl, refl)

pub role_listen : (channel event : List ℕ) (arg : Tree) (now : ℕ) → KeepsRole (listen channel event arg now)
unfolding listen
role_listen channel event arg now s = (refl, refl)

pub role_cancel : (id now : ℕ) → KeepsRole (cancel id now)
unfolding cancel
role_cancel id now s = (refl, refl)

pub role_dispose : (id now : ℕ) → KeepsRole (dispose id now)
unfolding dispose
role_dispose id now s = (refl, refl)

pub role_tick : (now : ℕ) → KeepsRole (tick_session now)
unfolding tick_session
role_tick now s = cond_both (is_some s.cause) s _ (λ (x : Session). SameRole x s) (λ yes. (refl, refl)) (λ no. (refl, refl))

pub role_lose : (epoch : ℕ) → KeepsRole (lose_session epoch)
unfolding lose_session
role_lose epoch s = (refl, refl)

pub role_leave : KeepsRole leave_session
unfolding leave_session
role_leave s = (refl, refl)

pub role_end : (cause : Cause) → KeepsRole (end_session cause)
unfolding end_session
role_end cause s = (refl, refl)
