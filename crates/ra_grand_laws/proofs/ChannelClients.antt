-- What a client does at an event of its dialer, in the run of its channels.
use Rattle.std.proofs.Common.{◌≡◌, ◌≢◌, ℕ, ◌+◌, ◌-◌, Bool, true, false, true≢false, cond, Option, Some, None, List, [], ◌++◌, refl, ap, sym, subst}
use Rattle.std.specs.Prelude.{nat_le}
use Rattle.std.proofs.lemmas.List.{append-nil}
use Rattle.ra_base.specs.declared.key.Cause.{Cause}
use Rattle.ra_base.specs.declared.kind.Kind.{Kind}
use Rattle.ra_base.specs.declared.kind.Kind.TheVariants.{Tunnel}
use Rattle.ra_values.specs.Tree.{Tree}
use Rattle.ra_ipc.specs.ChannelPairs.{Outcome}
use Rattle.ra_session.specs.Hearing.{Happening, work, host, call_settled, event_fired}
use Rattle.ra_session.specs.Moments.{timeout_of}
use Rattle.ra_session.specs.SessionCalls.{attach, feed_session, take_out, lose_session, leave_session, tick_session}
use Rattle.ra_session.specs.SessionRefusals.{Refusal, ended, stale, no_link, too_long, bad_ipc, too_large, ids_spent, no_such_call, wrong_kind, attach_refusal, feed_refusal, tick_refusal, leave_refusal}
use Rattle.ra_session.specs.Sessions.{Session}
use Rattle.ra_session.specs.TurnRefusals.{turn_refusal}
use Rattle.ra_session.specs.Turns.{TurnAnswer, turn, turn_answer}
use Rattle.ra_channel_laws.specs.Channels.{settled_in, fired_in}
use Rattle.ra_channel_laws.proofs.Silence.{silent_attach, silent_feed, silent_out, silent_lose, silent_leave}
use Rattle.ra_dial.specs.declared.stage.Stage.{Stage}
use Rattle.ra_dial.specs.declared.stage.Stage.TheVariants as stages
use Rattle.ra_dial.specs.declared.values.DialEvent.{DialEvent}
use Rattle.ra_dial.specs.declared.values.DialEvent.TheVariants as events
use Rattle.ra_dial.specs.declared.values.DialEnd.{DialEnd}
use Rattle.ra_dial.specs.declared.values.DialEnd.TheVariants as dial_ends
use Rattle.ra_dial.specs.Acts.{nothing, ends}
use Rattle.ra_dial.specs.Attempts.{Step, finishes, rest_or_drop, fails, patience, waits_until, waits_since, begins}
use Rattle.ra_dial.specs.Dialers.{Dialer, epoch}
use Rattle.ra_dial.specs.Handshakes.{Head, Look, is_open, goes_on, fails as spoils, refuses, accepts, looked_at, taken_by}
use Rattle.ra_dial.specs.Links.{loses, next_epoch, attaches_unless, attaches, after_look, shakes, feeds_unless, feeds_attached, act_after, after_turn, turns_unless, turns, ticks_unless, ticks, leaves_unless, leaves}
use Rattle.ra_dial.specs.ShakingStates.{ShakingState}
use Rattle.ra_dial.specs.Table.{by_event, is_late, is_frame, on_event, step, session_after}
use Rattle.ra_grand_runs.specs.Draws.{draws_after}
use Rattle.ra_grand_runs.specs.GrandClients.{Client, dials, dialled, asked}
use Rattle.ra_grand_runs.specs.SetUps.{answer_at}
use Rattle.ra_grand_laws.specs.ChannelParts.{ChannelsOf}
use Rattle.ra_grand_laws.specs.Outcomes.{happening_of}
use Rattle.ra_grand_laws.proofs.ChannelSides.{Stays, stays_itself, stays_on, stays_silent, stays_ticked}
use Rattle.ra_grand_laws.proofs.ChannelTurns.{HearsFrom, turn_channels, turn_good, end_nothing}

-- ---- steps of a dialer

-- what a step makes of a session
abbrev StaysBy : Kind → Option Session → Session → Step → Type 0
StaysBy kind o d step = Stays kind o d step.1.session

stays_if : (kind : Kind) (o : Option Session) (d : Session) (b : Bool) (x y : Step) → StaysBy kind o d x → StaysBy kind o d y → StaysBy kind o d (cond b x y)
stays_if kind o d true x y one other = one
stays_if kind o d false x y one other = other

loses_stays : (kind : Kind) (o : Option Session) (drops : Bool) (now : ℕ) (d : Dialer) → StaysBy kind o d.session (loses drops now d)
unfolding loses
loses_stays kind o drops now d = stays_silent kind o (lose_session (epoch d)) d.session (silent_lose (epoch d) d.session)

fails_stays : (kind : Kind) (o : Option Session) (drops : Bool) (now : ℕ) (d : Dialer) → StaysBy kind o d.session (fails drops now d)
unfolding fails
fails_stays kind o drops now d = stays_itself kind o d.session

waits_stays : (kind : Kind) (o : Option Session) (drops : Bool) (since now : ℕ) (d : Dialer) → StaysBy kind o d.session (waits_since drops since now d)
unfolding waits_since
waits_stays kind o drops since now d =
    stays_if kind o d.session (nat_le patience (now - since)) _ _ (fails_stays kind o drops now d) (stays_itself kind o d.session)

rests_stays : (kind : Kind) (o : Option Session) (until now : ℕ) (d : Dialer) → StaysBy kind o d.session (waits_until until now d)
unfolding waits_until
rests_stays kind o until now d = stays_if kind o d.session (nat_le until now) _ _ (stays_itself kind o d.session) (stays_itself kind o d.session)

feeds_stays : (kind : Kind) (o : Option Session) (piece : List ℕ) (now : ℕ) (d : Dialer) → StaysBy kind o d.session (feeds_attached piece now d)
unfolding feeds_attached
feeds_stays kind o piece now d = by (feed_refusal (epoch d) d.session)
  where
    by : (refused : Option Refusal) → StaysBy kind o d.session (feeds_unless refused piece now d)
    by None = stays_silent kind o (feed_session (epoch d) piece now) d.session (silent_feed (epoch d) piece now d.session)
    by (Some r) = stays_itself kind o d.session

leaves_stays : (kind : Kind) (o : Option Session) (d : Dialer) → StaysBy kind o d.session (leaves d)
unfolding leaves
leaves_stays kind o d = by (leave_refusal d.session)
  where
    by : (refused : Option Refusal) → StaysBy kind o d.session (leaves_unless refused d)
    by None = stays_silent kind o leave_session d.session (silent_leave d.session)
    by (Some r) = stays_itself kind o d.session

ticks_stays : (kind : Kind) (o : Option Session) (now : ℕ) (d : Dialer) → StaysBy kind o d.session (ticks now d)
unfolding ticks
ticks_stays kind o now d = by (tick_refusal now d.session)
  where
    ticked : Dialer
    ticked = record d { session = tick_session now d.session }

    by : (refused : Option Refusal) → StaysBy kind o d.session (ticks_unless refused now d)
    by (Some r) = stays_itself kind o d.session
    by None =
        stays_if kind o d.session (timeout_of now d.session) _ _
        (stays_on kind o d.session ticked.session (loses true now ticked).1.session (stays_ticked kind o now d.session) (loses_stays kind o true now ticked))
        (stays_ticked kind o now d.session)

begins_stays : (kind : Kind) (o : Option Session) (since : ℕ) (key drawn : List ℕ) (d : Dialer) → StaysBy kind o d.session (begins since key drawn d)
unfolding begins
begins_stays kind o since key drawn d = stays_itself kind o d.session

-- ---- an event that is no frame

event_stays : (kind : Kind) (o : Option Session) (stage : Stage) (event : DialEvent) (head : Head) (draw : ℕ → List ℕ) (now : ℕ) (d : Dialer) → is_frame event ≡ false
    → StaysBy kind o d.session (by_event head draw event now (record d { stage = stage }))
event_stays kind o stage events.Frame head draw now d other = absurd (true≢false other)
event_stays kind o (stages.Resting until) events.Tick head draw now d other = rests_stays kind o until now (record d { stage = stages.Resting until })
event_stays kind o (stages.Resting until) events.Linked head draw now d other = stays_itself kind o d.session
event_stays kind o (stages.Resting until) events.NoLink head draw now d other = stays_itself kind o d.session
event_stays kind o (stages.Resting until) (events.Piece piece) head draw now d other = stays_itself kind o d.session
event_stays kind o (stages.Resting until) events.LinkLost head draw now d other = stays_itself kind o d.session
event_stays kind o (stages.Resting until) events.Stop head draw now d other = stays_itself kind o d.session
event_stays kind o (stages.Calling since) events.Tick head draw now d other = waits_stays kind o false since now (record d { stage = stages.Calling since })
event_stays kind o (stages.Calling since) events.Linked head draw now d other = begins_stays kind o since (draw 0) (draw 1) (record d { stage = stages.Calling since })
event_stays kind o (stages.Calling since) events.NoLink head draw now d other = fails_stays kind o false now (record d { stage = stages.Calling since })
event_stays kind o (stages.Calling since) (events.Piece piece) head draw now d other = stays_itself kind o d.session
event_stays kind o (stages.Calling since) events.LinkLost head draw now d other = stays_itself kind o d.session
event_stays kind o (stages.Calling since) events.Stop head draw now d other = stays_itself kind o d.session
event_stays kind o (stages.Shaking since s) events.Tick head draw now d other = waits_stays kind o true since now (record d { stage = stages.Shaking since s })
event_stays kind o (stages.Shaking since s) events.Linked head draw now d other = stays_itself kind o d.session
event_stays kind o (stages.Shaking since s) events.NoLink head draw now d other = stays_itself kind o d.session
event_stays kind o (stages.Shaking since s) (events.Piece piece) head draw now d other = stays_itself kind o d.session
event_stays kind o (stages.Shaking since s) events.LinkLost head draw now d other = fails_stays kind o false now (record d { stage = stages.Shaking since s })
event_stays kind o (stages.Shaking since s) events.Stop head draw now d other = stays_itself kind o d.session
event_stays kind o stages.Attached events.Tick head draw now d other = ticks_stays kind o now (record d { stage = stages.Attached })
event_stays kind o stages.Attached events.Linked head draw now d other = stays_itself kind o d.session
event_stays kind o stages.Attached events.NoLink head draw now d other = stays_itself kind o d.session
event_stays kind o stages.Attached (events.Piece piece) head draw now d other = feeds_stays kind o piece now (record d { stage = stages.Attached })
event_stays kind o stages.Attached events.LinkLost head draw now d other = loses_stays kind o false now (record d { stage = stages.Attached })
event_stays kind o stages.Attached events.Stop head draw now d other = leaves_stays kind o (record d { stage = stages.Attached })
event_stays kind o (stages.Over end) events.Tick head draw now d other = stays_itself kind o d.session
event_stays kind o (stages.Over end) events.Linked head draw now d other = stays_itself kind o d.session
event_stays kind o (stages.Over end) events.NoLink head draw now d other = stays_itself kind o d.session
event_stays kind o (stages.Over end) (events.Piece piece) head draw now d other = stays_itself kind o d.session
event_stays kind o (stages.Over end) events.LinkLost head draw now d other = stays_itself kind o d.session
event_stays kind o (stages.Over end) events.Stop head draw now d other = stays_itself kind o d.session

step_stays : (kind : Kind) (o : Option Session) (stage : Stage) (event : DialEvent) (head : Head) (draw : ℕ → List ℕ) (now : ℕ) (d : Dialer) → is_frame event ≡ false
    → StaysBy kind o d.session (step head draw event now (record d { stage = stage }))
unfolding step on_event
step_stays kind o (stages.Resting until) event head draw now d other =
    stays_if kind o d.session (is_late event (stages.Resting until) d.lost now) _ _ (stays_itself kind o d.session) (event_stays kind o (stages.Resting until) event head draw now d other)
step_stays kind o (stages.Calling since) event head draw now d other =
    stays_if kind o d.session (is_late event (stages.Calling since) d.lost now) _ _ (stays_itself kind o d.session) (event_stays kind o (stages.Calling since) event head draw now d other)
step_stays kind o (stages.Shaking since s) event head draw now d other =
    stays_if kind o d.session (is_late event (stages.Shaking since s) d.lost now) _ _ (stays_itself kind o d.session) (event_stays kind o (stages.Shaking since s) event head draw now d other)
step_stays kind o stages.Attached event head draw now d other =
    stays_if kind o d.session (is_late event stages.Attached d.lost now) _ _ (stays_itself kind o d.session) (event_stays kind o stages.Attached event head draw now d other)
step_stays kind o (stages.Over end) event head draw now d other = stays_itself kind o d.session

-- ---- what it writes goes out

sent_stays : (kind : Kind) (o : Option Session) (stage : Stage) (d : Session) → Stays kind o d (session_after stage d)
sent_stays kind o (stages.Resting until) d = stays_itself kind o d
sent_stays kind o (stages.Calling since) d = stays_itself kind o d
sent_stays kind o (stages.Shaking since s) d = stays_itself kind o d
sent_stays kind o stages.Attached d = stays_silent kind o take_out d (silent_out d)
sent_stays kind o (stages.Over end) d = stays_itself kind o d

pub dialled_stays : (kind : Kind) (o : Option Session) (event : DialEvent) (now : ℕ) (c : Client) → is_frame event ≡ false
    → Stays kind o c.dialer.session (dialled event now c).dialer.session
unfolding dialled
dialled_stays kind o event now c other =
    let after : Dialer = (dials event now c).1 in
    stays_on kind o c.dialer.session after.session (session_after after.stage after.session)
    (step_stays kind o c.dialer.stage event (answer_at c.dialer.stage) (draws_after c.drawn) now c.dialer other) (sent_stays kind o after.stage after.session)

-- ---- a frame

-- what a step hands up besides
abbrev Gives : Kind → Option Session → Session → List (ℕ × Outcome) → List (ℕ × Tree) → Step → Type 0
Gives kind o d settled fired step =
    ChannelsOf kind o d settled fired → ChannelsOf kind o step.1.session (settled ++ settled_in (happening_of step.0)) (fired ++ fired_in (happening_of step.0))

gives_if : (kind : Kind) (o : Option Session) (d : Session) (settled : List (ℕ × Outcome)) (fired : List (ℕ × Tree)) (b : Bool) (x y : Step)
    → Gives kind o d settled fired x → Gives kind o d settled fired y → Gives kind o d settled fired (cond b x y)
gives_if kind o d settled fired true x y one other = one
gives_if kind o d settled fired false x y one other = other

handed : (kind : Kind) (o : Option Session) (d : Session) (settled : List (ℕ × Outcome)) (fired : List (ℕ × Tree)) (h k : Option Happening)
    → settled_in h ≡ settled_in k → fired_in h ≡ fired_in k → ChannelsOf kind o d (settled ++ settled_in k) (fired ++ fired_in k)
    → ChannelsOf kind o d (settled ++ settled_in h) (fired ++ fired_in h)
handed kind o d settled fired h k same also held =
    subst (λ (xs : List (ℕ × Outcome)). ChannelsOf kind o d (settled ++ xs) (fired ++ fired_in h)) (sym same)
    (subst (λ (ys : List (ℕ × Tree)). ChannelsOf kind o d (settled ++ settled_in k) (fired ++ ys)) (sym also) held)

-- nothing is handed up
gives_nothing : (kind : Kind) (o : Option Session) (d : Session) (settled : List (ℕ × Outcome)) (fired : List (ℕ × Tree)) (step : Step) → happening_of step.0 ≡ None
    → Stays kind o d step.1.session → Gives kind o d settled fired step
gives_nothing kind o d settled fired step none stays h =
    subst (λ (x : Option Happening). ChannelsOf kind o step.1.session (settled ++ settled_in x) (fired ++ fired_in x)) (sym none)
    (subst (λ (xs : List (ℕ × Outcome)). ChannelsOf kind o step.1.session xs (fired ++ [])) (sym (append-nil settled))
    (subst (λ (ys : List (ℕ × Tree)). ChannelsOf kind o step.1.session settled ys) (sym (append-nil fired)) (stays settled fired h)))

still_gives : (kind : Kind) (o : Option Session) (settled : List (ℕ × Outcome)) (fired : List (ℕ × Tree)) (d : Dialer) → Gives kind o d.session settled fired (nothing, d)
still_gives kind o settled fired d = gives_nothing kind o d.session settled fired (nothing, d) refl (stays_itself kind o d.session)

finishes_gives : (kind : Kind) (o : Option Session) (settled : List (ℕ × Outcome)) (fired : List (ℕ × Tree)) (end : DialEnd) (d : Dialer)
    → Gives kind o d.session settled fired (finishes end d)
finishes_gives kind o settled fired end d = gives_nothing kind o d.session settled fired (finishes end d) refl (stays_itself kind o d.session)

drops_nothing : (drops : Bool) (until : ℕ) → happening_of (rest_or_drop drops until) ≡ None
drops_nothing true until = refl
drops_nothing false until = refl

loses_gives : (kind : Kind) (o : Option Session) (settled : List (ℕ × Outcome)) (fired : List (ℕ × Tree)) (drops : Bool) (now : ℕ) (d : Dialer)
    → Gives kind o d.session settled fired (loses drops now d)
unfolding loses
loses_gives kind o settled fired drops now d =
    gives_nothing kind o d.session settled fired (loses drops now d) (drops_nothing drops now) (loses_stays kind o drops now d)

fails_gives : (kind : Kind) (o : Option Session) (settled : List (ℕ × Outcome)) (fired : List (ℕ × Tree)) (drops : Bool) (now : ℕ) (d : Dialer)
    → Gives kind o d.session settled fired (fails drops now d)
unfolding fails
fails_gives kind o settled fired drops now d =
    gives_nothing kind o d.session settled fired (fails drops now d) (drops_nothing drops _) (stays_itself kind o d.session)

attaches_gives : (kind : Kind) (o : Option Session) (settled : List (ℕ × Outcome)) (fired : List (ℕ × Tree)) (chunk : List ℕ) (now : ℕ) (d : Dialer)
    → Gives kind o d.session settled fired (attaches chunk now d)
unfolding attaches
attaches_gives kind o settled fired chunk now d = by (attach_refusal (next_epoch (epoch d)) d.session)
  where
    by : (refused : Option Refusal) → Gives kind o d.session settled fired (attaches_unless refused chunk now d)
    by None =
        gives_nothing kind o d.session settled fired (attaches_unless None chunk now d) refl
        (stays_silent kind o (attach (next_epoch (epoch d)) chunk now) d.session (silent_attach (next_epoch (epoch d)) chunk now d.session))
    by (Some r) = fails_gives kind o settled fired true now d

looks_give : (kind : Kind) (o : Option Session) (settled : List (ℕ × Outcome)) (fired : List (ℕ × Tree)) (since : ℕ) (look : Look) (s : ShakingState) (now : ℕ) (d : Dialer)
    → Gives kind o d.session settled fired (after_look since look s now d)
looks_give kind o settled fired since is_open s now d = still_gives kind o settled fired d
looks_give kind o settled fired since (goes_on written) s now d =
    gives_nothing kind o d.session settled fired (after_look since (goes_on written) s now d) refl (stays_itself kind o d.session)
looks_give kind o settled fired since spoils s now d = fails_gives kind o settled fired true now d
looks_give kind o settled fired since (refuses reason) s now d = finishes_gives kind o settled fired (dial_ends.Permanent reason) d
looks_give kind o settled fired since (accepts chunk) s now d = attaches_gives kind o settled fired chunk now d

shakes_give : (kind : Kind) (o : Option Session) (settled : List (ℕ × Outcome)) (fired : List (ℕ × Tree)) (since : ℕ) (s : ShakingState) (head : Head) (now : ℕ) (d : Dialer)
    → Gives kind o d.session settled fired (shakes since s head now d)
unfolding shakes
shakes_give kind o settled fired since s head now d =
    let looked = looked_at d.settings head s in
    looks_give kind o settled fired since looked.0 looked.1 now (record d { read = d.read + taken_by s looked.1 })

-- what an act hands up is what happened
act_settles : (took : Bool) (h : Option Happening) → (settled_in (happening_of (act_after took h)) ≡ settled_in h) × (fired_in (happening_of (act_after took h)) ≡ fired_in h)
act_settles true None = (refl, refl)
act_settles false None = (refl, refl)
act_settles took (Some (work call)) = (refl, refl)
act_settles took (Some (host body)) = (refl, refl)
act_settles took (Some (call_settled id outcome)) = (refl, refl)
act_settles took (Some (event_fired id body)) = (refl, refl)

turned_gives : (kind : Kind) (o : Option Session) (settled : List (ℕ × Outcome)) (fired : List (ℕ × Tree)) (now : ℕ) (d : Dialer) → HearsFrom o d.session
    → turn_refusal (epoch d) [] now d.session ≡ None → Gives kind o d.session settled fired (turns_unless None now d)
turned_gives kind o settled fired now d from none h = by answer.ended refl
  where
    answer : TurnAnswer
    answer = turn_answer (epoch d) [] now d.session

    after : Dialer
    after = record d { pending = d.pending ++ answer.out; session = turn (epoch d) [] now d.session }

    held : ChannelsOf kind o after.session (settled ++ settled_in answer.happening) (fired ++ fired_in answer.happening)
    held = turn_channels kind o now d.session settled fired from none h

    by : (cause : Option Cause) → answer.ended ≡ cause
        → ChannelsOf kind o (after_turn answer cause after).1.session (settled ++ settled_in (happening_of (after_turn answer cause after).0)) (fired ++ fired_in (happening_of (after_turn answer cause after).0))
    by None is =
        let same = act_settles answer.took answer.happening in
        handed kind o after.session settled fired (happening_of (act_after answer.took answer.happening)) answer.happening same.0 same.1 held
    by (Some cause) is =
        let none = end_nothing (epoch d) now d.session cause is in
        handed kind o after.session settled fired None answer.happening (sym (ap (λ (x : Option Happening). settled_in x) none)) (sym (ap (λ (x : Option Happening). fired_in x) none)) held

refused_gives : (kind : Kind) (o : Option Session) (settled : List (ℕ × Outcome)) (fired : List (ℕ × Tree)) (now : ℕ) (d : Dialer) → kind ≢ Tunnel → HearsFrom o d.session
    → (r : Refusal) → turn_refusal (epoch d) [] now d.session ≡ Some r → Gives kind o d.session settled fired (turns_unless (Some r) now d)
refused_gives kind o settled fired now d known from (bad_ipc bad message) is = λ h. absurd (turn_good kind o now d.session settled fired bad message known from h is)
refused_gives kind o settled fired now d known from (too_long stated) is = loses_gives kind o settled fired true now d
refused_gives kind o settled fired now d known from ids_spent is = finishes_gives kind o settled fired dial_ends.IdsSpent d
refused_gives kind o settled fired now d known from (ended cause) is = still_gives kind o settled fired d
refused_gives kind o settled fired now d known from (stale current) is = still_gives kind o settled fired d
refused_gives kind o settled fired now d known from no_link is = still_gives kind o settled fired d
refused_gives kind o settled fired now d known from (too_large len) is = still_gives kind o settled fired d
refused_gives kind o settled fired now d known from (no_such_call id) is = still_gives kind o settled fired d
refused_gives kind o settled fired now d known from wrong_kind is = still_gives kind o settled fired d

turns_give : (kind : Kind) (o : Option Session) (settled : List (ℕ × Outcome)) (fired : List (ℕ × Tree)) (now : ℕ) (d : Dialer) → kind ≢ Tunnel → HearsFrom o d.session
    → Gives kind o d.session settled fired (turns now d)
unfolding turns
turns_give kind o settled fired now d known from = by (turn_refusal (epoch d) [] now d.session) refl
  where
    by : (refused : Option Refusal) → turn_refusal (epoch d) [] now d.session ≡ refused → Gives kind o d.session settled fired (turns_unless refused now d)
    by None is = turned_gives kind o settled fired now d from is
    by (Some r) is = refused_gives kind o settled fired now d known from r is

frame_gives : (kind : Kind) (o : Option Session) (settled : List (ℕ × Outcome)) (fired : List (ℕ × Tree)) (stage : Stage) (head : Head) (draw : ℕ → List ℕ) (now : ℕ) (d : Dialer)
    → kind ≢ Tunnel → (stage ≡ stages.Attached → HearsFrom o d.session) → Gives kind o d.session settled fired (step head draw events.Frame now (record d { stage = stage }))
unfolding step on_event
frame_gives kind o settled fired (stages.Resting until) head draw now d known from =
    gives_if kind o d.session settled fired (is_late events.Frame (stages.Resting until) d.lost now) _ _
    (finishes_gives kind o settled fired (dial_ends.GraceOver d.lost now) (record d { stage = stages.Resting until })) (still_gives kind o settled fired (record d { stage = stages.Resting until }))
frame_gives kind o settled fired (stages.Calling since) head draw now d known from =
    gives_if kind o d.session settled fired (is_late events.Frame (stages.Calling since) d.lost now) _ _
    (finishes_gives kind o settled fired (dial_ends.GraceOver d.lost now) (record d { stage = stages.Calling since })) (still_gives kind o settled fired (record d { stage = stages.Calling since }))
frame_gives kind o settled fired (stages.Shaking since s) head draw now d known from =
    gives_if kind o d.session settled fired (is_late events.Frame (stages.Shaking since s) d.lost now) _ _
    (finishes_gives kind o settled fired (dial_ends.GraceOver d.lost now) (record d { stage = stages.Shaking since s }))
    (shakes_give kind o settled fired since s head now (record d { stage = stages.Shaking since s }))
frame_gives kind o settled fired stages.Attached head draw now d known from = turns_give kind o settled fired now (record d { stage = stages.Attached }) known (from refl)
frame_gives kind o settled fired (stages.Over end) head draw now d known from =
    gives_nothing kind o d.session settled fired (ends end, record d { stage = stages.Over end }) refl (stays_itself kind o d.session)

pub dialled_gives : (kind : Kind) (o : Option Session) (settled : List (ℕ × Outcome)) (fired : List (ℕ × Tree)) (now : ℕ) (c : Client) → kind ≢ Tunnel
    → (c.dialer.stage ≡ stages.Attached → HearsFrom o c.dialer.session) → ChannelsOf kind o c.dialer.session settled fired
    → ChannelsOf kind o (dialled events.Frame now c).dialer.session (settled ++ settled_in (happening_of (dials events.Frame now c).0))
    (fired ++ fired_in (happening_of (dials events.Frame now c).0))
unfolding dialled
dialled_gives kind o settled fired now c known from h =
    let happened = (dials events.Frame now c).0 in
    let after : Dialer = (dials events.Frame now c).1 in
    sent_stays kind o after.stage after.session (settled ++ settled_in (happening_of happened)) (fired ++ fired_in (happening_of happened))
    (frame_gives kind o settled fired c.dialer.stage (answer_at c.dialer.stage) (draws_after c.drawn) now c.dialer known from h)

-- ---- a call of its session

pub asked_stays : (kind : Kind) (o : Option Session) (call : Session → Session) (c : Client) → Stays kind o (call c.dialer.session) (asked call c).dialer.session
unfolding asked
asked_stays kind o call c = sent_stays kind o c.dialer.stage (call c.dialer.session)
