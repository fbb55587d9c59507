-- An event of a dialer keeps its settings, and what its handshake has read.
use Rattle.std.proofs.Common.{◌≡◌, ℕ, ◌+◌, ◌-◌, Bool, true, false, cond, Option, Some, None, Ok, Err, List, [], ◌++◌, refl, sym, subst}
use Rattle.std.specs.Prelude.{nat_le, ⊤}
use Rattle.ra_base.specs.declared.key.Cause.{Cause}
use Rattle.ra_base.specs.declared.key.Key.{Key}
use Rattle.ra_model.specs.declared.frame.Frame.{Frame}
use Rattle.ra_model.specs.FirstFrame.{first_frame, is_too_long}
use Rattle.ra_model.specs.FrameKinds.{FrameKind, Regular, Control, Disconnect, ReplayRequest, Pause, Resume, Other, frame_kind}
use Rattle.ra_shake.specs.declared.client.ClientStep.{ClientStep}
use Rattle.ra_shake.specs.declared.client.ClientStep.TheVariants as steps
use Rattle.ra_shake.specs.Client.{client_step}
use Rattle.ra_sign.specs.Signature.{signature_text}
use Rattle.ra_session.specs.Moments.{timeout_of}
use Rattle.ra_session.specs.SessionRefusals.{Refusal, ended, stale, no_link, too_long, bad_ipc, too_large, ids_spent, no_such_call, wrong_kind, attach_refusal, feed_refusal, tick_refusal, leave_refusal}
use Rattle.ra_session.specs.TurnRefusals.{turn_refusal}
use Rattle.ra_session.specs.Turns.{TurnAnswer, turn, turn_answer}
use Rattle.ra_dial.specs.declared.stage.Stage.{Stage}
use Rattle.ra_dial.specs.declared.stage.Stage.TheVariants as stages
use Rattle.ra_dial.specs.declared.values.DialEvent.{DialEvent}
use Rattle.ra_dial.specs.declared.values.DialEvent.TheVariants as events
use Rattle.ra_dial.specs.Acts.{rest_until}
use Rattle.ra_dial.specs.Attempts.{Step, fails, waits_until, waits_since, begins, patience}
use Rattle.ra_dial.specs.Clients.{Settings}
use Rattle.ra_dial.specs.Dialers.{Dialer, epoch}
use Rattle.ra_dial.specs.Handshakes.{Head, Look, is_open, goes_on, fails as spoils, refuses, accepts, fed, on_answer, on_step, on_frame as on_one_frame, on_first, on_frames, on_unread, on_shaking, looked_at, taken_by}
use Rattle.ra_dial.specs.Links.{loses, attaches, attaches_unless, next_epoch, after_look, shakes, feeds_attached, feeds_unless, after_turn, refused_turn, after_refusal, turns_unless, turns, ticks_unless, ticks, leaves_unless, leaves}
use Rattle.ra_dial.specs.ShakingStates.{ShakingState}
use Rattle.ra_dial.specs.Table.{step, on_event, by_event, on_tick, on_linked, on_no_link, on_piece, on_frame, on_link_lost, on_stop, is_late, unless_over}
use Rattle.ra_grand_runs.specs.GrandClients.{GrandLink}
use Rattle.ra_dial.specs.Calling.{is_calling}
use Rattle.ra_grand_runs.specs.Lasts.{OnLast}
use Rattle.ra_grand_runs.specs.Reached.{BringsNothing, ReadsLink, HandshakeReads, StageReads}

-- the settings stay, and what a handshake has read is what was read of the last of these links
pub record Keeps (owner : Key) (links : List GrandLink) (d : Dialer) (s : Step) : Type 0 where
  pub settings : s.1.settings ≡ d.settings
  pub reads : StageReads owner s.1.stage links

keeps_if : (owner : Key) (links : List GrandLink) (d : Dialer) (b : Bool) (s t : Step) → Keeps owner links d s → Keeps owner links d t → Keeps owner links d (cond b s t)
keeps_if owner links d true s t so other = so
keeps_if owner links d false s t so other = other

keeps_fail : (owner : Key) (links : List GrandLink) (drops : Bool) (now : ℕ) (d : Dialer) → Keeps owner links d (fails drops now d)
unfolding fails
keeps_fail owner links drops now d = record { settings = refl; reads = tt }

-- ---- time

keeps_until : (owner : Key) (links : List GrandLink) (until now : ℕ) (d : Dialer) → StageReads owner d.stage links → Keeps owner links d (waits_until until now d)
unfolding waits_until
keeps_until owner links until now d reads = keeps_if owner links d (nat_le until now) _ _ (record { settings = refl; reads = tt }) (record { settings = refl; reads = reads })

keeps_since : (owner : Key) (links : List GrandLink) (drops : Bool) (since now : ℕ) (d : Dialer) → StageReads owner d.stage links → Keeps owner links d (waits_since drops since now d)
unfolding waits_since
keeps_since owner links drops since now d reads = keeps_if owner links d (nat_le patience (now - since)) _ (rest_until (since + patience), d) (keeps_fail owner links drops now d) (record { settings = refl; reads = reads })

keeps_loss : (owner : Key) (links : List GrandLink) (drops : Bool) (now : ℕ) (d : Dialer) → Keeps owner links d (loses drops now d)
unfolding loses
keeps_loss owner links drops now d = record { settings = refl; reads = tt }

keeps_ticked : (owner : Key) (links : List GrandLink) (refusal : Option Refusal) (now : ℕ) (d : Dialer) → StageReads owner d.stage links
    → Keeps owner links d (ticks_unless refusal now d)
unfolding loses
keeps_ticked owner links (Some refusal) now d reads = record { settings = refl; reads = tt }
keeps_ticked owner links None now d reads =
    keeps_if owner links d (timeout_of now d.session) _ _ (record { settings = refl; reads = tt }) (record { settings = refl; reads = reads })

keeps_ticks : (owner : Key) (links : List GrandLink) (now : ℕ) (d : Dialer) → StageReads owner d.stage links → Keeps owner links d (ticks now d)
unfolding ticks
keeps_ticks owner links now d reads = keeps_ticked owner links (tick_refusal now d.session) now d reads

keeps_tick : (owner : Key) (links : List GrandLink) (stage : Stage) (now : ℕ) (d : Dialer) → StageReads owner d.stage links → Keeps owner links d (on_tick stage now d)
keeps_tick owner links (stages.Resting until) now d reads = keeps_until owner links until now d reads
keeps_tick owner links (stages.Calling since) now d reads = keeps_since owner links false since now d reads
keeps_tick owner links (stages.Shaking since s) now d reads = keeps_since owner links true since now d reads
keeps_tick owner links stages.Attached now d reads = keeps_ticks owner links now d reads
keeps_tick owner links (stages.Over end) now d reads = record { settings = refl; reads = reads }

-- ---- frames of a handshake

-- a handshake that goes on still reads the last link
abbrev Goes : Key → List GrandLink → Look → ShakingState → Type 0
Goes owner links is_open s = ⊤
Goes owner links (goes_on written) s = HandshakeReads owner s s.key links
Goes owner links spoils s = ⊤
Goes owner links (refuses reason) s = ⊤
Goes owner links (accepts chunk) s = ⊤

goes_answered : (owner : Key) (links : List GrandLink) (skip : Bool) (head : Head) (s : ShakingState) → Goes owner links (on_answer skip head s).0 (on_answer skip head s).1
goes_answered owner links skip (Ok None) s = tt
goes_answered owner links true (Ok (Some n)) s = tt
goes_answered owner links false (Ok (Some n)) s = tt
goes_answered owner links skip (Err fault) s = tt

-- the answer to the request was read already
goes_behind : (owner : Key) (links : List GrandLink) (s : ShakingState) → s.key ≡ None → HandshakeReads owner s s.key links
goes_behind owner links s none = subst (λ (key : Option (List ℕ)). HandshakeReads owner s key links) (sym none) tt

goes_stepped : (owner : Key) (links : List GrandLink) (step : ClientStep) (rest : List ℕ) (s : ShakingState) → s.key ≡ None → Goes owner links (on_step step rest s).0 (on_step step rest s).1
goes_stepped owner links (steps.Say text) rest s none = subst (λ (key : Option (List ℕ)). HandshakeReads owner (on_step (steps.Say text) rest s).1 key links) (sym none) tt
goes_stepped owner links steps.Done rest s none = tt
goes_stepped owner links (steps.Refused reason) rest s none = tt
goes_stepped owner links steps.Unexpected rest s none = tt

goes_framed : (owner : Key) (links : List GrandLink) (signature : List ℕ → List ℕ) (kind : FrameKind) (f : Frame) (rest : List ℕ) (s : ShakingState) → s.key ≡ None
    → Goes owner links (on_one_frame signature kind f rest s).0 (on_one_frame signature kind f rest s).1
goes_framed owner links signature Regular f rest s none = subst (λ (key : Option (List ℕ)). HandshakeReads owner (on_one_frame signature Regular f rest s).1 key links) (sym none) tt
goes_framed owner links signature Control f rest s none = goes_stepped owner links (client_step signature s.shake f.body) rest s none
goes_framed owner links signature Disconnect f rest s none = tt
goes_framed owner links signature ReplayRequest f rest s none = subst (λ (key : Option (List ℕ)). HandshakeReads owner (on_one_frame signature ReplayRequest f rest s).1 key links) (sym none) tt
goes_framed owner links signature Pause f rest s none = subst (λ (key : Option (List ℕ)). HandshakeReads owner (on_one_frame signature Pause f rest s).1 key links) (sym none) tt
goes_framed owner links signature Resume f rest s none = subst (λ (key : Option (List ℕ)). HandshakeReads owner (on_one_frame signature Resume f rest s).1 key links) (sym none) tt
goes_framed owner links signature Other f rest s none = subst (λ (key : Option (List ℕ)). HandshakeReads owner (on_one_frame signature Other f rest s).1 key links) (sym none) tt

goes_first : (owner : Key) (links : List GrandLink) (signature : List ℕ → List ℕ) (first : Option (Frame × List ℕ)) (s : ShakingState) → s.key ≡ None
    → Goes owner links (on_first signature first s).0 (on_first signature first s).1
goes_first owner links signature None s none = tt
goes_first owner links signature (Some p) s none = goes_framed owner links signature (frame_kind p.0.kind) p.0 p.1 s none

goes_frames : (owner : Key) (links : List GrandLink) (signature : List ℕ → List ℕ) (s : ShakingState) → s.key ≡ None
    → Goes owner links (on_frames signature s).0 (on_frames signature s).1
unfolding on_frames
goes_frames owner links signature s none = by (is_too_long s.unread)
  where
    by : (b : Bool) → Goes owner links (cond b (spoils, s) (on_first signature (first_frame s.unread) s)).0 (cond b (spoils, s) (on_first signature (first_frame s.unread) s)).1
    by true = tt
    by false = goes_first owner links signature (first_frame s.unread) s none

goes_unread : (owner : Key) (links : List GrandLink) (signature : List ℕ → List ℕ) (rest : Option (List ℕ)) (s : ShakingState) → s.key ≡ None
    → Goes owner links (on_unread signature rest s).0 (on_unread signature rest s).1
goes_unread owner links signature None s none = goes_frames owner links signature s none
goes_unread owner links signature (Some rest) s none = tt

goes_look : (owner : Key) (links : List GrandLink) (settings : Settings) (key : Option (List ℕ)) (head : Head) (s : ShakingState) → s.key ≡ key
    → Goes owner links (on_shaking settings key head s).0 (on_shaking settings key head s).1
goes_look owner links settings None head s is = goes_unread owner links (signature_text settings.sign_key) s.rest s is
goes_look owner links settings (Some key) head s is = goes_answered owner links settings.skip_frames head s

keeps_attached : (owner : Key) (links : List GrandLink) (refusal : Option Refusal) (chunk : List ℕ) (now : ℕ) (d : Dialer) → Keeps owner links d (attaches_unless refusal chunk now d)
keeps_attached owner links None chunk now d = record { settings = refl; reads = tt }
keeps_attached owner links (Some refusal) chunk now d = keeps_fail owner links true now d

keeps_attaching : (owner : Key) (links : List GrandLink) (chunk : List ℕ) (now : ℕ) (d : Dialer) → Keeps owner links d (attaches chunk now d)
unfolding attaches
keeps_attaching owner links chunk now d = keeps_attached owner links (attach_refusal (next_epoch (epoch d)) d.session) chunk now d

keeps_looked : (owner : Key) (links : List GrandLink) (since : ℕ) (look : Look) (s : ShakingState) (now : ℕ) (d : Dialer) → StageReads owner d.stage links → Goes owner links look s
    → Keeps owner links d (after_look since look s now d)
keeps_looked owner links since is_open s now d reads goes = record { settings = refl; reads = reads }
keeps_looked owner links since (goes_on written) s now d reads goes = record { settings = refl; reads = goes }
keeps_looked owner links since spoils s now d reads goes = keeps_fail owner links true now d
keeps_looked owner links since (refuses reason) s now d reads goes = record { settings = refl; reads = tt }
keeps_looked owner links since (accepts chunk) s now d reads goes = keeps_attaching owner links chunk now d

keeps_shaking : (owner : Key) (links : List GrandLink) (since : ℕ) (s : ShakingState) (head : Head) (now : ℕ) (d : Dialer) → StageReads owner d.stage links
    → Keeps owner links d (shakes since s head now d)
unfolding shakes
keeps_shaking owner links since s head now d reads =
    let looked = looked_at d.settings head s in
    let kept = keeps_looked owner links since looked.0 looked.1 now (record d { read = d.read + taken_by s looked.1 }) reads (goes_look owner links d.settings s.key head s refl) in
    record { settings = kept.settings; reads = kept.reads }

-- ---- an attached session

keeps_refused : (owner : Key) (links : List GrandLink) (refusal : Refusal) (now : ℕ) (d : Dialer) → StageReads owner d.stage links
    → Keeps owner links d (after_refusal refusal now (refused_turn refusal now d))
keeps_refused owner links (bad_ipc bad message) now d reads = record { settings = refl; reads = tt }
keeps_refused owner links (too_long stated) now d reads = keeps_loss owner links true now d
keeps_refused owner links ids_spent now d reads = record { settings = refl; reads = tt }
keeps_refused owner links (ended cause) now d reads = record { settings = refl; reads = reads }
keeps_refused owner links (stale current) now d reads = record { settings = refl; reads = reads }
keeps_refused owner links no_link now d reads = record { settings = refl; reads = reads }
keeps_refused owner links (too_large len) now d reads = record { settings = refl; reads = reads }
keeps_refused owner links (no_such_call id) now d reads = record { settings = refl; reads = reads }
keeps_refused owner links wrong_kind now d reads = record { settings = refl; reads = reads }

keeps_after : (owner : Key) (links : List GrandLink) (answer : TurnAnswer) (cause : Option Cause) (d : Dialer) → StageReads owner d.stage links
    → Keeps owner links d (after_turn answer cause d)
keeps_after owner links answer None d reads = record { settings = refl; reads = reads }
keeps_after owner links answer (Some cause) d reads = record { settings = refl; reads = tt }

keeps_turned : (owner : Key) (links : List GrandLink) (refusal : Option Refusal) (now : ℕ) (d : Dialer) → StageReads owner d.stage links
    → Keeps owner links d (turns_unless refusal now d)
keeps_turned owner links (Some refusal) now d reads = keeps_refused owner links refusal now d reads
keeps_turned owner links None now d reads =
    let answer = turn_answer (epoch d) [] now d.session in
    let kept = keeps_after owner links answer answer.ended (record d { pending = d.pending ++ answer.out; session = turn (epoch d) [] now d.session }) reads in
    record { settings = kept.settings; reads = kept.reads }

keeps_turn : (owner : Key) (links : List GrandLink) (now : ℕ) (d : Dialer) → StageReads owner d.stage links → Keeps owner links d (turns now d)
unfolding turns
keeps_turn owner links now d reads = keeps_turned owner links (turn_refusal (epoch d) [] now d.session) now d reads

keeps_frame : (owner : Key) (links : List GrandLink) (stage : Stage) (head : Head) (now : ℕ) (d : Dialer) → StageReads owner d.stage links
    → Keeps owner links d (on_frame stage head now d)
keeps_frame owner links (stages.Resting until) head now d reads = record { settings = refl; reads = reads }
keeps_frame owner links (stages.Calling since) head now d reads = record { settings = refl; reads = reads }
keeps_frame owner links (stages.Shaking since s) head now d reads = keeps_shaking owner links since s head now d reads
keeps_frame owner links stages.Attached head now d reads = keeps_turn owner links now d reads
keeps_frame owner links (stages.Over end) head now d reads = record { settings = refl; reads = reads }

-- ---- no link, and the end

keeps_no_link : (owner : Key) (links : List GrandLink) (stage : Stage) (now : ℕ) (d : Dialer) → StageReads owner d.stage links → Keeps owner links d (on_no_link stage now d)
keeps_no_link owner links (stages.Resting until) now d reads = record { settings = refl; reads = reads }
keeps_no_link owner links (stages.Calling since) now d reads = keeps_fail owner links false now d
keeps_no_link owner links (stages.Shaking since s) now d reads = record { settings = refl; reads = reads }
keeps_no_link owner links stages.Attached now d reads = record { settings = refl; reads = reads }
keeps_no_link owner links (stages.Over end) now d reads = record { settings = refl; reads = reads }

keeps_lost : (owner : Key) (links : List GrandLink) (stage : Stage) (now : ℕ) (d : Dialer) → StageReads owner d.stage links → Keeps owner links d (on_link_lost stage now d)
keeps_lost owner links (stages.Resting until) now d reads = record { settings = refl; reads = reads }
keeps_lost owner links (stages.Calling since) now d reads = record { settings = refl; reads = reads }
keeps_lost owner links (stages.Shaking since s) now d reads = keeps_fail owner links false now d
keeps_lost owner links stages.Attached now d reads = keeps_loss owner links false now d
keeps_lost owner links (stages.Over end) now d reads = record { settings = refl; reads = reads }

keeps_left : (owner : Key) (links : List GrandLink) (refusal : Option Refusal) (d : Dialer) → Keeps owner links d (leaves_unless refusal d)
keeps_left owner links None d = record { settings = refl; reads = tt }
keeps_left owner links (Some refusal) d = record { settings = refl; reads = tt }

keeps_leaving : (owner : Key) (links : List GrandLink) (d : Dialer) → Keeps owner links d (leaves d)
unfolding leaves
keeps_leaving owner links d = keeps_left owner links (leave_refusal d.session) d

keeps_stop : (owner : Key) (links : List GrandLink) (stage : Stage) (d : Dialer) → StageReads owner d.stage links → Keeps owner links d (on_stop stage d)
keeps_stop owner links (stages.Resting until) d reads = record { settings = refl; reads = tt }
keeps_stop owner links (stages.Calling since) d reads = record { settings = refl; reads = tt }
keeps_stop owner links (stages.Shaking since s) d reads = record { settings = refl; reads = tt }
keeps_stop owner links stages.Attached d reads = keeps_leaving owner links d
keeps_stop owner links (stages.Over end) d reads = record { settings = refl; reads = reads }

-- ---- any plain event

keeps_by : (owner : Key) (links : List GrandLink) (head : Head) (draw : ℕ → List ℕ) (event : DialEvent) (now : ℕ) (d : Dialer) → BringsNothing event → StageReads owner d.stage links
    → Keeps owner links d (by_event head draw event now d)
keeps_by owner links head draw events.Tick now d plain reads = keeps_tick owner links d.stage now d reads
keeps_by owner links head draw events.Linked now d plain reads = absurd plain
keeps_by owner links head draw events.NoLink now d plain reads = keeps_no_link owner links d.stage now d reads
keeps_by owner links head draw (events.Piece piece) now d plain reads = absurd plain
keeps_by owner links head draw events.Frame now d plain reads = keeps_frame owner links d.stage head now d reads
keeps_by owner links head draw events.LinkLost now d plain reads = keeps_lost owner links d.stage now d reads
keeps_by owner links head draw events.Stop now d plain reads = keeps_stop owner links d.stage d reads

-- an event that comes in time, or too late
pub keeps_event : (owner : Key) (links : List GrandLink) (head : Head) (draw : ℕ → List ℕ) (event : DialEvent) (now : ℕ) (d : Dialer)
    → Keeps owner links d (by_event head draw event now d) → Keeps owner links d (on_event head draw event now d)
unfolding on_event
keeps_event owner links head draw event now d kept = keeps_if owner links d (is_late event d.stage d.lost now) _ _ (record { settings = refl; reads = tt }) kept

-- a dialer that is over stays as it is
keeps_unless : (owner : Key) (links : List GrandLink) (stage : Stage) (s : Step) (d : Dialer) → d.stage ≡ stage → Keeps owner links d s → Keeps owner links d (unless_over stage s d)
keeps_unless owner links (stages.Resting until) s d is kept = kept
keeps_unless owner links (stages.Calling since) s d is kept = kept
keeps_unless owner links (stages.Shaking since shaking) s d is kept = kept
keeps_unless owner links stages.Attached s d is kept = kept
keeps_unless owner links (stages.Over end) s d is kept = record { settings = refl; reads = subst (λ (x : Stage). StageReads owner x links) (sym is) tt }

pub keeps_step : (owner : Key) (links : List GrandLink) (head : Head) (draw : ℕ → List ℕ) (event : DialEvent) (now : ℕ) (d : Dialer)
    → Keeps owner links d (by_event head draw event now d) → Keeps owner links d (step head draw event now d)
unfolding step
keeps_step owner links head draw event now d kept =
    keeps_unless owner links d.stage (on_event head draw event now d) d refl (keeps_event owner links head draw event now d kept)

pub keeps_plain : (owner : Key) (links : List GrandLink) (head : Head) (draw : ℕ → List ℕ) (event : DialEvent) (now : ℕ) (d : Dialer) → BringsNothing event → StageReads owner d.stage links
    → Keeps owner links d (step head draw event now d)
keeps_plain owner links head draw event now d plain reads = keeps_step owner links head draw event now d (keeps_by owner links head draw event now d plain reads)

-- ---- bytes that come

-- how far the dialer is once its handshake has taken them
abbrev pub fed_stage : List ℕ → Stage → Stage
fed_stage piece (stages.Resting until) = stages.Resting until
fed_stage piece (stages.Calling since) = stages.Calling since
fed_stage piece (stages.Shaking since s) = stages.Shaking since (fed piece s)
fed_stage piece stages.Attached = stages.Attached
fed_stage piece (stages.Over end) = stages.Over end

keeps_fed : (owner : Key) (links : List GrandLink) (refusal : Option Refusal) (piece : List ℕ) (now : ℕ) (d : Dialer) → StageReads owner d.stage links
    → Keeps owner links d (feeds_unless refusal piece now d)
keeps_fed owner links None piece now d reads = record { settings = refl; reads = reads }
keeps_fed owner links (Some refusal) piece now d reads = record { settings = refl; reads = reads }

keeps_feeding : (owner : Key) (links : List GrandLink) (piece : List ℕ) (now : ℕ) (d : Dialer) → StageReads owner d.stage links → Keeps owner links d (feeds_attached piece now d)
unfolding feeds_attached
keeps_feeding owner links piece now d reads = keeps_fed owner links (feed_refusal (epoch d) d.session) piece now d reads

keeps_piece : (owner : Key) (links : List GrandLink) (stage : Stage) (piece : List ℕ) (now : ℕ) (d : Dialer) → d.stage ≡ stage → StageReads owner (fed_stage piece stage) links
    → Keeps owner links d (on_piece stage piece now d)
keeps_piece owner links (stages.Resting until) piece now d is reads = record { settings = refl; reads = subst (λ (x : Stage). StageReads owner x links) (sym is) tt }
keeps_piece owner links (stages.Calling since) piece now d is reads = record { settings = refl; reads = subst (λ (x : Stage). StageReads owner x links) (sym is) tt }
keeps_piece owner links (stages.Shaking since s) piece now d is reads = record { settings = refl; reads = reads }
keeps_piece owner links stages.Attached piece now d is reads = keeps_feeding owner links piece now d (subst (λ (x : Stage). StageReads owner x links) (sym is) tt)
keeps_piece owner links (stages.Over end) piece now d is reads = record { settings = refl; reads = subst (λ (x : Stage). StageReads owner x links) (sym is) tt }

pub keeps_bytes : (owner : Key) (links : List GrandLink) (head : Head) (draw : ℕ → List ℕ) (piece : List ℕ) (now : ℕ) (d : Dialer) → StageReads owner (fed_stage piece d.stage) links
    → Keeps owner links d (step head draw (events.Piece piece) now d)
keeps_bytes owner links head draw piece now d reads = keeps_step owner links head draw (events.Piece piece) now d (keeps_piece owner links d.stage piece now d refl reads)

-- ---- a link that is there

keeps_begin : (owner : Key) (links : List GrandLink) (since : ℕ) (key drawn : List ℕ) (d : Dialer) → OnLast (ReadsLink owner key []) links
    → Keeps owner links d (begins since key drawn d)
unfolding begins
keeps_begin owner links since key drawn d reads = record { settings = refl; reads = (refl, reads) }

keeps_linked : (owner : Key) (links : List GrandLink) (stage : Stage) (draw : ℕ → List ℕ) (d : Dialer) → is_calling stage ≡ true → OnLast (ReadsLink owner (draw 0) []) links
    → Keeps owner links d (on_linked stage draw d)
keeps_linked owner links (stages.Resting until) draw d calling reads = absurd cc
keeps_linked owner links (stages.Calling since) draw d calling reads = keeps_begin owner links since (draw 0) (draw 1) d reads
keeps_linked owner links (stages.Shaking since s) draw d calling reads = absurd cc
keeps_linked owner links stages.Attached draw d calling reads = absurd cc
keeps_linked owner links (stages.Over end) draw d calling reads = absurd cc

pub keeps_link : (owner : Key) (links : List GrandLink) (head : Head) (draw : ℕ → List ℕ) (now : ℕ) (d : Dialer) → is_calling d.stage ≡ true → OnLast (ReadsLink owner (draw 0) []) links
    → Keeps owner links d (step head draw events.Linked now d)
keeps_link owner links head draw now d calling reads = keeps_step owner links head draw events.Linked now d (keeps_linked owner links d.stage draw d calling reads)
