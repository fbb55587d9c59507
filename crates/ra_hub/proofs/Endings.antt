-- A session that has ended stays so.
use Rattle.std.proofs.Common.{◌≡◌, ℕ, Bool, true, false, cond, List, Option, None, Some, is_some, refl}
use Rattle.ra_base.specs.declared.key.Cause.{Cause}
use Rattle.ra_model.specs.declared.session.Up.{Up as Delivery}
use Rattle.ra_model.specs.declared.session.Up.TheVariants.{Message as HandedUp, Control, Quiet, Ended}
use Rattle.ra_model.specs.Taking.{delivery}
use Rattle.ra_session.specs.Hearing.{Heard, spoils, hears}
use Rattle.ra_session.specs.Sessions.{Session}
use Rattle.ra_session.specs.SessionCalls.{attach, lose_session, end_session, tick_session, answer, say_body, feed_session, take_out}
use Rattle.ra_session.specs.SessionRefusals.{tick_refusal}
use Rattle.ra_session.specs.Turns.{on_heard, on_delivery, heard_at, take_in, take_turn, turn}
use Rattle.ra_session.specs.View.{told}
use Rattle.ra_session.specs.declared.values.Tell.{Tell}
use Rattle.ra_session.specs.declared.values.Tell.TheVariants as tells
use Rattle.ra_hub.specs.Sweeps.{tick_one}
use Rattle.ra_hub.specs.Sweeping.{ended_if, reached}

-- the call ends sessions, and makes none go on
abbrev pub GoesBack : (Session → Session) → Type 0
GoesBack step = (s : Session) → (step s).cause ≡ None → s.cause ≡ None

first_cause : (c later : Option Cause) → cond (is_some c) c later ≡ None → c ≡ None
first_cause None later going = refl
first_cause (Some cause) later going = going

pub attach_back : (epoch : ℕ) (chunk : List ℕ) (now : ℕ) → GoesBack (attach epoch chunk now)
unfolding attach
attach_back epoch chunk now s going = going

pub lose_back : (epoch : ℕ) → GoesBack (lose_session epoch)
unfolding lose_session
lose_back epoch s going = going

pub end_back : (cause : Cause) → GoesBack (end_session cause)
unfolding end_session
end_back cause s going = first_cause s.cause (Some cause) going

pub told_back : (tell : Tell) (now : ℕ) → GoesBack (told tell now)
unfolding answer say_body
told_back (tells.Answer id given fire) now s going = going
told_back (tells.Say body) now s going = going

heard_back : (means : Heard) (now : ℕ) (s : Session) → (on_heard means now s).cause ≡ None → s.cause ≡ None
heard_back (spoils bad) now s going = first_cause s.cause _ going
heard_back (hears h) now s going = going

delivery_back : (up : Option Delivery) (now : ℕ) (s : Session) → (on_delivery up now s).cause ≡ None → s.cause ≡ None
delivery_back None now s going = going
delivery_back (Some (HandedUp id body)) now s going = heard_back (heard_at s id body now) now s going
delivery_back (Some (Control body)) now s going = going
delivery_back (Some Quiet) now s going = going
delivery_back (Some Ended) now s going = first_cause s.cause _ going

pub turn_back : (epoch : ℕ) (piece : List ℕ) (now : ℕ) → GoesBack (turn epoch piece now)
unfolding turn take_turn take_in take_out feed_session
turn_back epoch piece now s going = delivery_back (delivery (feed_session epoch piece now s).peer.endpoint) now _ going

cond_back : (b : Bool) (s t : Session) → (t.cause ≡ None → s.cause ≡ None) → (cond b s t).cause ≡ None → s.cause ≡ None
cond_back true s t back going = going
cond_back false s t back going = back going

pub tick_back : (now : ℕ) → GoesBack (tick_one now)
unfolding tick_session
tick_back now s going =
    cond_back (is_some (tick_refusal now s)) s (tick_session now s) (λ ticked. cond_back (is_some s.cause) s _ (λ same. same) ticked) going

pub ended_back : (over : Bool) → GoesBack (ended_if over)
ended_back true s going = end_back _ s going
ended_back false s going = going

pub reached_back : (come left : Bool) (now : ℕ) → GoesBack (reached come left now)
reached_back true true now s going = going
reached_back true false now s going = tick_back now s going
reached_back false left now s going = going
