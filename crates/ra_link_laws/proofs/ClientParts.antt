-- Events of a client's dialer that bring nothing, and calls of its session, keep the client's part.
use Rattle.std.proofs.Common.{ℕ, ◌+◌, ◌-◌, Bool, true, false, Option, [], refl}
use Rattle.std.specs.Prelude.{nat_le}
use Rattle.ra_base.specs.declared.event.Side.TheVariants.{A}
use Rattle.ra_registry.specs.declared.row.Row.{Row}
use Rattle.ra_session.specs.Sessions.{Session}
use Rattle.ra_views.specs.SessionLinks.{KeepsLink}
use Rattle.ra_views.specs.SessionViews.{KeepsSessionViews}
use Rattle.ra_views.proofs.SessionLinks.{number_link}
use Rattle.ra_dial.specs.declared.stage.Stage.{Stage}
use Rattle.ra_dial.specs.declared.stage.Stage.TheVariants as stages
use Rattle.ra_dial.specs.declared.values.DialEnd.{DialEnd}
use Rattle.ra_dial.specs.declared.values.DialEnd.TheVariants as dial_ends
use Rattle.ra_dial.specs.declared.values.DialEvent.{DialEvent}
use Rattle.ra_dial.specs.declared.values.DialEvent.TheVariants as events
use Rattle.ra_dial.specs.Acts.{Act, nothing, rest_until, connect, ends}
use Rattle.ra_dial.specs.Attempts.{rest_or_drop, fails, wait_before, next_attempt, patience, waits_until, waits_since}
use Rattle.ra_dial.specs.Table.{step, on_event, by_event, is_late, draws_by}
use Rattle.ra_dial.specs.ShakingStates.{ShakingState}
use Rattle.ra_grand_runs.specs.Draws.{draws_after}
use Rattle.ra_grand_runs.specs.GrandClients.{Client, dialled, asked}
use Rattle.ra_grand_runs.specs.Reached.{BringsNothing}
use Rattle.ra_grand_runs.specs.SetUps.{answer_at}
use Rattle.ra_link_laws.specs.Parts.{PartHolds}
use Rattle.ra_link_laws.proofs.ClientAttached.{live_of, called_on, same_on, loses_on, ticks_on, leaves_on, turns_on, after_if}
use Rattle.ra_link_laws.proofs.ClientGrounds.{After, with_stage, ground_of}
use Rattle.ra_link_laws.proofs.ClientLooks.{frame_shakes}
use Rattle.ra_link_laws.proofs.ClientSends.{IsApart, rests}

-- ---- a client whose session is not attached

-- its session may change; else nothing happens
called_at : (s : Option Session) (o : Option Row) (c : Client) (stage : Stage) → IsApart stage → PartHolds s o (with_stage stage c) → (drawn : ℕ) (act : Act) (call : Session → Session)
    → KeepsSessionViews call → KeepsLink call → After s o (with_stage stage c) drawn (act, record c.dialer { stage = stage; session = call c.dialer.session })
unfolding ground_of
called_at s o c stage apart p drawn act call views keeps =
    rests s o (with_stage stage c) (ground_of s o (with_stage stage c) p) drawn act (record c.dialer { session = call c.dialer.session }) stage apart refl p.pending
    ((number_link call keeps c.dialer.session).1 p.runs) (views 0 A p.number p.present c.dialer.session p.peer p.session_links p.view) p.stage

same_at : (s : Option Session) (o : Option Row) (c : Client) (stage : Stage) → IsApart stage → PartHolds s o (with_stage stage c) → (drawn : ℕ) (act : Act)
    → After s o (with_stage stage c) drawn (act, record c.dialer { stage = stage })
same_at s o c stage apart p drawn act = called_at s o c stage apart p drawn act (λ x. x) (λ start side i j x q links v. v) (λ x. (refl, refl, refl))

over_at : (s : Option Session) (o : Option Row) (c : Client) (stage : Stage) → PartHolds s o (with_stage stage c) → (drawn : ℕ) (act : Act) (end : DialEnd)
    → After s o (with_stage stage c) drawn (act, record c.dialer { stage = stages.Over end })
over_at s o c stage p drawn act end =
    let g = ground_of s o (with_stage stage c) p in
    rests s o (with_stage stage c) g drawn act c.dialer (stages.Over end) tt refl p.pending g.runs g.view g.within

calls_at : (s : Option Session) (o : Option Row) (c : Client) (stage : Stage) → PartHolds s o (with_stage stage c) → (drawn : ℕ) (act : Act) (since : ℕ)
    → After s o (with_stage stage c) drawn (act, record c.dialer { stage = stages.Calling since })
calls_at s o c stage p drawn act since =
    let g = ground_of s o (with_stage stage c) p in
    rests s o (with_stage stage c) g drawn act c.dialer (stages.Calling since) tt refl p.pending g.runs g.view g.within

fails_at : (s : Option Session) (o : Option Row) (c : Client) (stage : Stage) → PartHolds s o (with_stage stage c) → (drawn : ℕ) (drops : Bool) (now : ℕ)
    → After s o (with_stage stage c) drawn (fails drops now (record c.dialer { stage = stage }))
unfolding fails
fails_at s o c stage p drawn drops now =
    let g = ground_of s o (with_stage stage c) p in
    let until = now + wait_before (next_attempt c.dialer.attempt) in
    rests s o (with_stage stage c) g drawn (rest_or_drop drops until) (record c.dialer { attempt = next_attempt c.dialer.attempt; pending = [] }) (stages.Resting until) tt
    refl refl g.runs g.view g.within

waits_at : (s : Option Session) (o : Option Row) (c : Client) (stage : Stage) → IsApart stage → PartHolds s o (with_stage stage c) → (drawn : ℕ) (drops : Bool) (since now : ℕ)
    → After s o (with_stage stage c) drawn (waits_since drops since now (record c.dialer { stage = stage }))
unfolding waits_since
waits_at s o c stage apart p drawn drops since now =
    after_if s o (with_stage stage c) drawn (nat_le patience (now - since)) _ _ (fails_at s o c stage p drawn drops now)
    (same_at s o c stage apart p drawn (rest_until (since + patience)))

-- ---- an event, by how far the dialer is

resting_event : (s : Option Session) (o : Option Row) (c : Client) (until : ℕ) → PartHolds s o (with_stage (stages.Resting until) c) → (drawn : ℕ) (event : DialEvent) (now : ℕ)
    → BringsNothing event
    → After s o (with_stage (stages.Resting until) c) drawn
    (by_event (answer_at (stages.Resting until)) (draws_after c.drawn) event now (record c.dialer { stage = stages.Resting until }))
unfolding waits_until
resting_event s o c until p drawn events.Tick now plain =
    let stage = stages.Resting until in
    after_if s o (with_stage stage c) drawn (nat_le until now) _ _ (calls_at s o c stage p drawn connect now) (same_at s o c stage tt p drawn (rest_until until))
resting_event s o c until p drawn events.Linked now plain = absurd plain
resting_event s o c until p drawn events.NoLink now plain = same_at s o c (stages.Resting until) tt p drawn nothing
resting_event s o c until p drawn (events.Piece piece) now plain = absurd plain
resting_event s o c until p drawn events.Frame now plain = same_at s o c (stages.Resting until) tt p drawn nothing
resting_event s o c until p drawn events.LinkLost now plain = same_at s o c (stages.Resting until) tt p drawn nothing
resting_event s o c until p drawn events.Stop now plain = over_at s o c (stages.Resting until) p drawn (ends dial_ends.Stopped) dial_ends.Stopped

calling_event : (s : Option Session) (o : Option Row) (c : Client) (since : ℕ) → PartHolds s o (with_stage (stages.Calling since) c) → (drawn : ℕ) (event : DialEvent) (now : ℕ)
    → BringsNothing event
    → After s o (with_stage (stages.Calling since) c) drawn
    (by_event (answer_at (stages.Calling since)) (draws_after c.drawn) event now (record c.dialer { stage = stages.Calling since }))
calling_event s o c since p drawn events.Tick now plain = waits_at s o c (stages.Calling since) tt p drawn false since now
calling_event s o c since p drawn events.Linked now plain = absurd plain
calling_event s o c since p drawn events.NoLink now plain = fails_at s o c (stages.Calling since) p drawn false now
calling_event s o c since p drawn (events.Piece piece) now plain = absurd plain
calling_event s o c since p drawn events.Frame now plain = same_at s o c (stages.Calling since) tt p drawn nothing
calling_event s o c since p drawn events.LinkLost now plain = same_at s o c (stages.Calling since) tt p drawn nothing
calling_event s o c since p drawn events.Stop now plain = over_at s o c (stages.Calling since) p drawn (ends dial_ends.Stopped) dial_ends.Stopped

shaking_event : (s : Option Session) (o : Option Row) (c : Client) (since : ℕ) (t : ShakingState) → PartHolds s o (with_stage (stages.Shaking since t) c) → (drawn : ℕ) (event : DialEvent)
    (now : ℕ) → BringsNothing event
    → After s o (with_stage (stages.Shaking since t) c) drawn
    (by_event (answer_at (stages.Shaking since t)) (draws_after c.drawn) event now (record c.dialer { stage = stages.Shaking since t }))
unfolding ground_of
shaking_event s o c since t p drawn events.Tick now plain = waits_at s o c (stages.Shaking since t) tt p drawn true since now
shaking_event s o c since t p drawn events.Linked now plain = absurd plain
shaking_event s o c since t p drawn events.NoLink now plain = same_at s o c (stages.Shaking since t) tt p drawn nothing
shaking_event s o c since t p drawn (events.Piece piece) now plain = absurd plain
shaking_event s o c since t p drawn events.Frame now plain =
    let stage = stages.Shaking since t in
    let last = p.stage.1 in
    frame_shakes s o (with_stage stage c) (ground_of s o (with_stage stage c) p) last.0 last.1 last.2 last.3 p.stage.0 drawn since now t p.pending last.4
shaking_event s o c since t p drawn events.LinkLost now plain = fails_at s o c (stages.Shaking since t) p drawn false now
shaking_event s o c since t p drawn events.Stop now plain = over_at s o c (stages.Shaking since t) p drawn (ends dial_ends.Stopped) dial_ends.Stopped

attached_event : (s : Option Session) (o : Option Row) (c : Client) → PartHolds s o (with_stage stages.Attached c) → (drawn : ℕ) (event : DialEvent) (now : ℕ) → BringsNothing event
    → After s o (with_stage stages.Attached c) drawn (by_event (answer_at stages.Attached) (draws_after c.drawn) event now (record c.dialer { stage = stages.Attached }))
attached_event s o c p drawn events.Tick now plain = ticks_on s o c (ground_of s o (with_stage stages.Attached c) p) (live_of s o c p) drawn now
attached_event s o c p drawn events.Linked now plain = absurd plain
attached_event s o c p drawn events.NoLink now plain = same_on s o c (ground_of s o (with_stage stages.Attached c) p) (live_of s o c p) drawn nothing
attached_event s o c p drawn (events.Piece piece) now plain = absurd plain
attached_event s o c p drawn events.Frame now plain = turns_on s o c (ground_of s o (with_stage stages.Attached c) p) (live_of s o c p) drawn now
attached_event s o c p drawn events.LinkLost now plain = loses_on s o c (ground_of s o (with_stage stages.Attached c) p) drawn false now
attached_event s o c p drawn events.Stop now plain = leaves_on s o c (ground_of s o (with_stage stages.Attached c) p) (live_of s o c p) drawn

dialled_at : (s : Option Session) (o : Option Row) (c : Client) (stage : Stage) (event : DialEvent) (now : ℕ) → BringsNothing event → PartHolds s o (with_stage stage c)
    → PartHolds s o (dialled event now (with_stage stage c))
unfolding dialled step on_event
dialled_at s o c (stages.Resting until) event now plain p =
    let stage = stages.Resting until in
    let drawn = c.drawn + draws_by event now stage c.dialer.lost in
    let end = dial_ends.GraceOver c.dialer.lost now in
    after_if s o (with_stage stage c) drawn (is_late event stage c.dialer.lost now) _ _ (over_at s o c stage p drawn (ends end) end) (resting_event s o c until p drawn event now plain)
dialled_at s o c (stages.Calling since) event now plain p =
    let stage = stages.Calling since in
    let drawn = c.drawn + draws_by event now stage c.dialer.lost in
    let end = dial_ends.GraceOver c.dialer.lost now in
    after_if s o (with_stage stage c) drawn (is_late event stage c.dialer.lost now) _ _ (over_at s o c stage p drawn (ends end) end) (calling_event s o c since p drawn event now plain)
dialled_at s o c (stages.Shaking since t) event now plain p =
    let stage = stages.Shaking since t in
    let drawn = c.drawn + draws_by event now stage c.dialer.lost in
    let end = dial_ends.GraceOver c.dialer.lost now in
    after_if s o (with_stage stage c) drawn (is_late event stage c.dialer.lost now) _ _ (over_at s o c stage p drawn (ends end) end) (shaking_event s o c since t p drawn event now plain)
dialled_at s o c stages.Attached event now plain p =
    let stage = stages.Attached in
    let drawn = c.drawn + draws_by event now stage c.dialer.lost in
    let end = dial_ends.GraceOver c.dialer.lost now in
    after_if s o (with_stage stage c) drawn (is_late event stage c.dialer.lost now) _ _ (over_at s o c stage p drawn (ends end) end) (attached_event s o c p drawn event now plain)
dialled_at s o c (stages.Over end) event now plain p =
    let stage = stages.Over end in same_at s o c stage tt p (c.drawn + draws_by event now stage c.dialer.lost) (ends end)

-- ---- any client

-- an event that brings no link and no bytes
pub part_dialled : (s : Option Session) (o : Option Row) (c : Client) (event : DialEvent) (now : ℕ) → BringsNothing event → PartHolds s o c → PartHolds s o (dialled event now c)
part_dialled s o c event now plain p = dialled_at s o c c.dialer.stage event now plain p

asked_at : (s : Option Session) (o : Option Row) (c : Client) (stage : Stage) (call : Session → Session) → KeepsSessionViews call → KeepsLink call → PartHolds s o (with_stage stage c)
    → PartHolds s o (asked call (with_stage stage c))
unfolding asked
asked_at s o c (stages.Resting until) call views keeps p = called_at s o c (stages.Resting until) tt p c.drawn nothing call views keeps
asked_at s o c (stages.Calling since) call views keeps p = called_at s o c (stages.Calling since) tt p c.drawn nothing call views keeps
asked_at s o c (stages.Shaking since t) call views keeps p = called_at s o c (stages.Shaking since t) tt p c.drawn nothing call views keeps
asked_at s o c stages.Attached call views keeps p =
    called_on s o c (ground_of s o (with_stage stages.Attached c) p) (live_of s o c p) c.drawn nothing call views keeps
asked_at s o c (stages.Over end) call views keeps p = called_at s o c (stages.Over end) tt p c.drawn nothing call views keeps

-- a call of its session
pub part_asked : (s : Option Session) (o : Option Row) (c : Client) (call : Session → Session) → KeepsSessionViews call → KeepsLink call → PartHolds s o c → PartHolds s o (asked call c)
part_asked s o c call views keeps p = asked_at s o c c.dialer.stage call views keeps p
