-- What an event makes does not depend on an answer head that is not looked at, and a head that is looked at is the one of the answer.
use Rattle.std.proofs.Common.{◌≡◌, ℕ, ◌+◌, Bool, true, false, not, cond, Option, Some, None, List, refl, ap}
use Rattle.ra_upgrade.specs.AnswerHeads.{AnswerIs}
use Rattle.ra_dial.specs.declared.stage.Stage.{Stage}
use Rattle.ra_dial.specs.declared.stage.Stage.TheVariants as stages
use Rattle.ra_dial.specs.declared.values.DialEnd.TheVariants as dial_ends
use Rattle.ra_dial.specs.declared.values.DialEvent.{DialEvent}
use Rattle.ra_dial.specs.declared.values.DialEvent.TheVariants as events
use Rattle.ra_dial.specs.Attempts.{Step, finishes}
use Rattle.ra_dial.specs.Clients.{Settings}
use Rattle.ra_dial.specs.Dialers.{Dialer}
use Rattle.ra_dial.specs.Handshakes.{Head, HasHead, IsHeadOf, Looked, on_shaking, taken_by}
use Rattle.ra_dial.specs.Links.{shakes, after_look}
use Rattle.ra_dial.specs.ShakingStates.{ShakingState}
use Rattle.ra_dial.specs.Table.{step, on_event, on_frame, is_late, looks_by, unless_over}

-- a text has one answer
abbrev pub OneAnswer : Type 0
OneAnswer = (key bytes : List ℕ) (one other : Head) → AnswerIs key bytes one → AnswerIs key bytes other → one ≡ other

shaking_alike : OneAnswer → (settings : Settings) (key : Option (List ℕ)) (s : ShakingState) (head other : Head) → HasHead key s.unread head → HasHead key s.unread other
    → on_shaking settings key head s ≡ on_shaking settings key other s
shaking_alike one settings None s head other is that = refl
shaking_alike one settings (Some key) s head other is that = ap (λ (h : Head). on_shaking settings (Some key) h s) (one key s.unread head other is that)

frame_alike : OneAnswer → (stage : Stage) (head other : Head) (now : ℕ) (d : Dialer) → IsHeadOf stage head → IsHeadOf stage other
    → on_frame stage head now d ≡ on_frame stage other now d
unfolding shakes
frame_alike one (stages.Resting until) head other now d is that = refl
frame_alike one (stages.Calling since) head other now d is that = refl
frame_alike one (stages.Shaking since s) head other now d is that =
    ap (λ (l : Looked). after_look since l.0 l.1 now (record d { read = d.read + taken_by s l.1 })) (shaking_alike one d.settings s.key s head other is that)
frame_alike one stages.Attached head other now d is that = refl
frame_alike one (stages.Over end) head other now d is that = refl

late_alike : OneAnswer → (late : Bool) (gone : Step) (stage : Stage) (head other : Head) (now : ℕ) (d : Dialer) → (not late ≡ true → IsHeadOf stage head) → (not late ≡ true → IsHeadOf stage other)
    → cond late gone (on_frame stage head now d) ≡ cond late gone (on_frame stage other now d)
late_alike one true gone stage head other now d is that = refl
late_alike one false gone stage head other now d is that = frame_alike one stage head other now d (is refl) (that refl)

event_alike : OneAnswer → (event : DialEvent) (head other : Head) (draw : ℕ → List ℕ) (now : ℕ) (d : Dialer)
    → (looks_by event now d.stage d.lost ≡ true → IsHeadOf d.stage head) → (looks_by event now d.stage d.lost ≡ true → IsHeadOf d.stage other) → on_event head draw event now d ≡ on_event other draw event now d
unfolding on_event
event_alike one events.Tick head other draw now d is that = refl
event_alike one events.Linked head other draw now d is that = refl
event_alike one events.NoLink head other draw now d is that = refl
event_alike one (events.Piece piece) head other draw now d is that = refl
event_alike one events.Frame head other draw now d is that =
    late_alike one (is_late events.Frame d.stage d.lost now) (finishes (dial_ends.GraceOver d.lost now) d) d.stage head other now d is that
event_alike one events.LinkLost head other draw now d is that = refl
event_alike one events.Stop head other draw now d is that = refl

pub step_alike : OneAnswer → (event : DialEvent) (head other : Head) (draw : ℕ → List ℕ) (now : ℕ) (d : Dialer)
    → (looks_by event now d.stage d.lost ≡ true → IsHeadOf d.stage head) → (looks_by event now d.stage d.lost ≡ true → IsHeadOf d.stage other) → step head draw event now d ≡ step other draw event now d
unfolding step
step_alike one event head other draw now d is that = ap (λ (s : Step). unless_over d.stage s d) (event_alike one event head other draw now d is that)
