-- Small runs and texts, computed.
use Rattle.std.proofs.Common.{◌≡◌, ℕ, zero, suc, true, false, Option, Some, None, List, [], ◌∷◌, length, take, refl, arith}
use Rattle.ra_model.proofs.Framing.{first_frame-none, first_frame-nil}
use Rattle.ra_model.specs.Frames.{IsCut, frame_bytes, last_id}
use Rattle.ra_model.specs.FirstFrame.{first_frame, split_frame, has_frame, number_at, is_too_long}
use Rattle.ra_model.specs.FrameKinds.{written_frame}
use Rattle.ra_model.specs.Timing.{watched, timeout_served, acknowledge_served, keep_alive_served, message_heard, link_begun, link_up, alarms_cleared}
use Rattle.ra_model.specs.Endpoints.{Endpoint, new_endpoint, owed, shown, sent}
use Rattle.ra_model.specs.Calls.{rewritten, say, control, ask_pause, ask_resume, begin, finish, feed, tick, times_out, lose, leave, wrote}
use Rattle.ra_model.specs.Taking.{take_frame, delivery}
use Rattle.ra_model.specs.declared.session.Up.{Up as Delivery}
use Rattle.ra_model.specs.declared.session.Entry.{Entry}
use Rattle.ra_model.specs.declared.session.Up.TheVariants.{Message, Control as ControlBody, Quiet, Ended as Closed}
use Rattle.ra_model.specs.Worlds.{new_world}
use Rattle.ra_model.specs.Events.{run, effects, is_accepted, happens, effect}
use Rattle.ra_model.specs.Refusals.{refusal, leave_refusal}
use Rattle.ra_model.specs.Cutting.{cut_within, frames_of, rest_of}
use Rattle.ra_base.specs.declared.event.Event.{Event}
use Rattle.ra_base.specs.declared.event.Side.TheVariants.{A, B}
use Rattle.ra_base.specs.declared.event.Count.TheVariants.{All, Exact}
use Rattle.ra_model.specs.declared.fault.EndFault.TheVariants.{Ended as HasEnded, IdsSpent}
use Rattle.ra_model.specs.declared.fault.EventFault.TheVariants.{End as AtEnd}
use Rattle.ra_base.specs.declared.event.Event.TheVariants.{Link as LinkMade, At, Begin, Finish, Say, Write, Read, Take, Tick, Lose, Cut}
use Rattle.ra_model.specs.declared.effect.Effect.TheVariants.{Link as Linked, Done, Said as SaidId, Wrote, Read as ReadBytes, Up as HandedUp, Nothing, Ticked}

-- what each frame of the input hands up, and what it makes ready to write
received : ℕ → Endpoint → List (Option Delivery × List ℕ)
received zero e = []
received (suc n) e = let e' = take_frame 0 e in (delivery e, shown e') ∷ received n (wrote (length (shown e')) e')

-- an endpoint on its first link
linked_end : List ℕ → Endpoint
linked_end chunk = begin 1 chunk 0 (new_endpoint 0 0 false)

-- what it has to write once it has taken the piece, and then what is behind it
after_piece : List ℕ → Endpoint → Endpoint
after_piece piece e = take_frame 0 (feed 1 piece 0 e)

flushed : Endpoint → Endpoint
flushed e = wrote (length (shown e)) e

-- one message over one link, and its answer
answered : List Event
answered = (LinkMade ∷ Begin A 1 (Exact 0) ∷ Begin B 1 (Exact 0) ∷ Say A (104 ∷ 105 ∷ []) ∷ Write A All ∷ Read B 1 All ∷ Take B ∷ Take B ∷ Say B (97 ∷ []) ∷ Write B All ∷ Read A 1 All ∷ Take A ∷ Take A ∷ [])

answered-effects : effects answered (new_world 0) ≡ (Linked 1 ∷ Done ∷ Done ∷ SaidId 1 ∷ Wrote (1 ∷ 0 ∷ 0 ∷ 0 ∷ 1 ∷ 0 ∷ 0 ∷ 0 ∷ 0 ∷ 0 ∷ 0 ∷ 0 ∷ 2 ∷ 104 ∷ 105 ∷ []) ∷ ReadBytes 15 ∷ HandedUp (Message 1 (104 ∷ 105 ∷ [])) ∷ Nothing ∷ SaidId 1 ∷ Wrote (1 ∷ 0 ∷ 0 ∷ 0 ∷ 1 ∷ 0 ∷ 0 ∷ 0 ∷ 1 ∷ 0 ∷ 0 ∷ 0 ∷ 1 ∷ 97 ∷ []) ∷ ReadBytes 14 ∷ HandedUp (Message 1 (97 ∷ [])) ∷ Nothing ∷ [])
unfolding received linked_end after_piece flushed frame_bytes first_frame is_too_long watched timeout_served acknowledge_served keep_alive_served message_heard link_begun link_up alarms_cleared owed rewritten say control ask_pause ask_resume begin finish feed take_frame delivery tick times_out lose leave wrote refusal happens effect split_frame has_frame number_at written_frame answered
answered-effects = refl

answered-accepted : is_accepted answered (new_world 0) ≡ true
unfolding received linked_end after_piece flushed frame_bytes first_frame is_too_long watched timeout_served acknowledge_served keep_alive_served message_heard link_begun link_up alarms_cleared owed rewritten say control ask_pause ask_resume begin finish feed take_frame delivery tick times_out lose leave wrote refusal happens effect split_frame has_frame number_at written_frame answered
answered-accepted = refl

answered-ends : let w = run answered (new_world 0) in ◌≡◌ {A = ℕ × ℕ × ℕ × ℕ × ℕ × ℕ} (sent w.a.endpoint, length w.a.heard, length (owed w.a.endpoint), sent w.b.endpoint, length w.b.heard, length (owed w.b.endpoint)) (1, 1, 0, 1, 1, 1)
unfolding received linked_end after_piece flushed frame_bytes first_frame is_too_long watched timeout_served acknowledge_served keep_alive_served message_heard link_begun link_up alarms_cleared owed rewritten say control ask_pause ask_resume begin finish feed take_frame delivery tick times_out lose leave wrote refusal happens effect split_frame has_frame number_at written_frame answered
answered-ends = refl

-- a link is cut within a frame, and the message comes once over the next
cut_in_a_body : List Event
cut_in_a_body = (LinkMade ∷ Begin A 1 (Exact 0) ∷ Begin B 1 (Exact 0) ∷ Say A (104 ∷ 105 ∷ []) ∷ Write A (Exact 14) ∷ Read B 1 (Exact 14) ∷ Take B ∷ Cut 1 ∷ Lose A ∷ Lose B ∷ LinkMade ∷ Begin A 2 (Exact 0) ∷ Begin B 2 (Exact 0) ∷ Finish A ∷ Finish B ∷ Write A All ∷ Read B 2 All ∷ Take B ∷ Take B ∷ Take B ∷ [])

cut_in_a_body-effects : effects cut_in_a_body (new_world 0) ≡ (Linked 1 ∷ Done ∷ Done ∷ SaidId 1 ∷ Wrote (1 ∷ 0 ∷ 0 ∷ 0 ∷ 1 ∷ 0 ∷ 0 ∷ 0 ∷ 0 ∷ 0 ∷ 0 ∷ 0 ∷ 2 ∷ 104 ∷ []) ∷ ReadBytes 14 ∷ Nothing ∷ Done ∷ Done ∷ Done ∷ Linked 2 ∷ Done ∷ Done ∷ Done ∷ Done ∷ Wrote (3 ∷ 0 ∷ 0 ∷ 0 ∷ 0 ∷ 0 ∷ 0 ∷ 0 ∷ 0 ∷ 0 ∷ 0 ∷ 0 ∷ 0 ∷ 1 ∷ 0 ∷ 0 ∷ 0 ∷ 1 ∷ 0 ∷ 0 ∷ 0 ∷ 0 ∷ 0 ∷ 0 ∷ 0 ∷ 2 ∷ 104 ∷ 105 ∷ []) ∷ ReadBytes 28 ∷ HandedUp Quiet ∷ HandedUp (Message 1 (104 ∷ 105 ∷ [])) ∷ Nothing ∷ [])
unfolding received linked_end after_piece flushed frame_bytes first_frame is_too_long watched timeout_served acknowledge_served keep_alive_served message_heard link_begun link_up alarms_cleared owed rewritten say control ask_pause ask_resume begin finish feed take_frame delivery tick times_out lose leave wrote refusal happens effect split_frame has_frame number_at written_frame cut_in_a_body
cut_in_a_body-effects = refl

cut_in_a_body-accepted : is_accepted cut_in_a_body (new_world 0) ≡ true
unfolding received linked_end after_piece flushed frame_bytes first_frame is_too_long watched timeout_served acknowledge_served keep_alive_served message_heard link_begun link_up alarms_cleared owed rewritten say control ask_pause ask_resume begin finish feed take_frame delivery tick times_out lose leave wrote refusal happens effect split_frame has_frame number_at written_frame cut_in_a_body
cut_in_a_body-accepted = refl

cut_in_a_body-ends : let w = run cut_in_a_body (new_world 0) in ◌≡◌ {A = ℕ × ℕ × ℕ × ℕ × ℕ × ℕ} (sent w.a.endpoint, length w.a.heard, length (owed w.a.endpoint), sent w.b.endpoint, length w.b.heard, length (owed w.b.endpoint)) (1, 0, 1, 0, 1, 0)
unfolding received linked_end after_piece flushed frame_bytes first_frame is_too_long watched timeout_served acknowledge_served keep_alive_served message_heard link_begun link_up alarms_cleared owed rewritten say control ask_pause ask_resume begin finish feed take_frame delivery tick times_out lose leave wrote refusal happens effect split_frame has_frame number_at written_frame cut_in_a_body
cut_in_a_body-ends = refl

-- a link is cut within a header
cut_in_a_header : List Event
cut_in_a_header = (LinkMade ∷ Begin A 1 (Exact 0) ∷ Begin B 1 (Exact 0) ∷ Say A (97 ∷ []) ∷ Write A (Exact 10) ∷ Read B 1 (Exact 10) ∷ Cut 1 ∷ Lose A ∷ Lose B ∷ LinkMade ∷ Begin A 2 (Exact 0) ∷ Begin B 2 (Exact 0) ∷ Finish A ∷ Finish B ∷ Write A All ∷ Read B 2 All ∷ Take B ∷ Take B ∷ Take B ∷ [])

cut_in_a_header-effects : effects cut_in_a_header (new_world 0) ≡ (Linked 1 ∷ Done ∷ Done ∷ SaidId 1 ∷ Wrote (1 ∷ 0 ∷ 0 ∷ 0 ∷ 1 ∷ 0 ∷ 0 ∷ 0 ∷ 0 ∷ 0 ∷ []) ∷ ReadBytes 10 ∷ Done ∷ Done ∷ Done ∷ Linked 2 ∷ Done ∷ Done ∷ Done ∷ Done ∷ Wrote (3 ∷ 0 ∷ 0 ∷ 0 ∷ 0 ∷ 0 ∷ 0 ∷ 0 ∷ 0 ∷ 0 ∷ 0 ∷ 0 ∷ 0 ∷ 1 ∷ 0 ∷ 0 ∷ 0 ∷ 1 ∷ 0 ∷ 0 ∷ 0 ∷ 0 ∷ 0 ∷ 0 ∷ 0 ∷ 1 ∷ 97 ∷ []) ∷ ReadBytes 27 ∷ HandedUp Quiet ∷ HandedUp (Message 1 (97 ∷ [])) ∷ Nothing ∷ [])
unfolding received linked_end after_piece flushed frame_bytes first_frame is_too_long watched timeout_served acknowledge_served keep_alive_served message_heard link_begun link_up alarms_cleared owed rewritten say control ask_pause ask_resume begin finish feed take_frame delivery tick times_out lose leave wrote refusal happens effect split_frame has_frame number_at written_frame cut_in_a_header
cut_in_a_header-effects = refl

cut_in_a_header-accepted : is_accepted cut_in_a_header (new_world 0) ≡ true
unfolding received linked_end after_piece flushed frame_bytes first_frame is_too_long watched timeout_served acknowledge_served keep_alive_served message_heard link_begun link_up alarms_cleared owed rewritten say control ask_pause ask_resume begin finish feed take_frame delivery tick times_out lose leave wrote refusal happens effect split_frame has_frame number_at written_frame cut_in_a_header
cut_in_a_header-accepted = refl

cut_in_a_header-ends : let w = run cut_in_a_header (new_world 0) in ◌≡◌ {A = ℕ × ℕ × ℕ × ℕ × ℕ × ℕ} (sent w.a.endpoint, length w.a.heard, length (owed w.a.endpoint), sent w.b.endpoint, length w.b.heard, length (owed w.b.endpoint)) (1, 0, 1, 0, 1, 0)
unfolding received linked_end after_piece flushed frame_bytes first_frame is_too_long watched timeout_served acknowledge_served keep_alive_served message_heard link_begun link_up alarms_cleared owed rewritten say control ask_pause ask_resume begin finish feed take_frame delivery tick times_out lose leave wrote refusal happens effect split_frame has_frame number_at written_frame cut_in_a_header
cut_in_a_header-ends = refl

-- a message is acknowledged when nothing came for 2 s
late_ack : List Event
late_ack = (LinkMade ∷ Begin A 1 (Exact 0) ∷ Begin B 1 (Exact 0) ∷ Say A (97 ∷ []) ∷ Write A All ∷ Read B 1 All ∷ Take B ∷ Take B ∷ At 2004 ∷ Tick B ∷ Write B All ∷ At 2005 ∷ Tick B ∷ Write B All ∷ [])

late_ack-effects : effects late_ack (new_world 0) ≡ (Linked 1 ∷ Done ∷ Done ∷ SaidId 1 ∷ Wrote (1 ∷ 0 ∷ 0 ∷ 0 ∷ 1 ∷ 0 ∷ 0 ∷ 0 ∷ 0 ∷ 0 ∷ 0 ∷ 0 ∷ 1 ∷ 97 ∷ []) ∷ ReadBytes 14 ∷ HandedUp (Message 1 (97 ∷ [])) ∷ Nothing ∷ Done ∷ Ticked false ∷ Wrote [] ∷ Done ∷ Ticked false ∷ Wrote (3 ∷ 0 ∷ 0 ∷ 0 ∷ 0 ∷ 0 ∷ 0 ∷ 0 ∷ 1 ∷ 0 ∷ 0 ∷ 0 ∷ 0 ∷ []) ∷ [])
unfolding received linked_end after_piece flushed frame_bytes first_frame is_too_long watched timeout_served acknowledge_served keep_alive_served message_heard link_begun link_up alarms_cleared owed rewritten say control ask_pause ask_resume begin finish feed take_frame delivery tick times_out lose leave wrote refusal happens effect split_frame has_frame number_at written_frame late_ack
late_ack-effects = refl

late_ack-accepted : is_accepted late_ack (new_world 0) ≡ true
unfolding received linked_end after_piece flushed frame_bytes first_frame is_too_long watched timeout_served acknowledge_served keep_alive_served message_heard link_begun link_up alarms_cleared owed rewritten say control ask_pause ask_resume begin finish feed take_frame delivery tick times_out lose leave wrote refusal happens effect split_frame has_frame number_at written_frame late_ack
late_ack-accepted = refl

late_ack-ends : let w = run late_ack (new_world 0) in ◌≡◌ {A = ℕ × ℕ × ℕ × ℕ × ℕ × ℕ} (sent w.a.endpoint, length w.a.heard, length (owed w.a.endpoint), sent w.b.endpoint, length w.b.heard, length (owed w.b.endpoint)) (1, 0, 1, 0, 1, 0)
unfolding received linked_end after_piece flushed frame_bytes first_frame is_too_long watched timeout_served acknowledge_served keep_alive_served message_heard link_begun link_up alarms_cleared owed rewritten say control ask_pause ask_resume begin finish feed take_frame delivery tick times_out lose leave wrote refusal happens effect split_frame has_frame number_at written_frame late_ack
late_ack-ends = refl

-- the timeout fires after 20 s
silent_peer : List Event
silent_peer = (LinkMade ∷ Begin A 1 (Exact 0) ∷ Say A (97 ∷ []) ∷ At 19999 ∷ Tick A ∷ At 20000 ∷ Tick A ∷ [])

silent_peer-effects : effects silent_peer (new_world 0) ≡ (Linked 1 ∷ Done ∷ SaidId 1 ∷ Done ∷ Ticked false ∷ Done ∷ Ticked true ∷ [])
unfolding received linked_end after_piece flushed frame_bytes first_frame is_too_long watched timeout_served acknowledge_served keep_alive_served message_heard link_begun link_up alarms_cleared owed rewritten say control ask_pause ask_resume begin finish feed take_frame delivery tick times_out lose leave wrote refusal happens effect split_frame has_frame number_at written_frame silent_peer
silent_peer-effects = refl

silent_peer-accepted : is_accepted silent_peer (new_world 0) ≡ true
unfolding received linked_end after_piece flushed frame_bytes first_frame is_too_long watched timeout_served acknowledge_served keep_alive_served message_heard link_begun link_up alarms_cleared owed rewritten say control ask_pause ask_resume begin finish feed take_frame delivery tick times_out lose leave wrote refusal happens effect split_frame has_frame number_at written_frame silent_peer
silent_peer-accepted = refl

silent_peer-ends : let w = run silent_peer (new_world 0) in ◌≡◌ {A = ℕ × ℕ × ℕ × ℕ × ℕ × ℕ} (sent w.a.endpoint, length w.a.heard, length (owed w.a.endpoint), sent w.b.endpoint, length w.b.heard, length (owed w.b.endpoint)) (1, 0, 1, 0, 0, 0)
unfolding received linked_end after_piece flushed frame_bytes first_frame is_too_long watched timeout_served acknowledge_served keep_alive_served message_heard link_begun link_up alarms_cleared owed rewritten say control ask_pause ask_resume begin finish feed take_frame delivery tick times_out lose leave wrote refusal happens effect split_frame has_frame number_at written_frame silent_peer
silent_peer-ends = refl

-- ids are skipped: one replay is asked for
skipped_ids : received 3 (linked_end (1 ∷ 0 ∷ 0 ∷ 0 ∷ 1 ∷ 0 ∷ 0 ∷ 0 ∷ 0 ∷ 0 ∷ 0 ∷ 0 ∷ 1 ∷ 97 ∷ 1 ∷ 0 ∷ 0 ∷ 0 ∷ 3 ∷ 0 ∷ 0 ∷ 0 ∷ 0 ∷ 0 ∷ 0 ∷ 0 ∷ 1 ∷ 99 ∷ 1 ∷ 0 ∷ 0 ∷ 0 ∷ 4 ∷ 0 ∷ 0 ∷ 0 ∷ 0 ∷ 0 ∷ 0 ∷ 0 ∷ 1 ∷ 100 ∷ [])) ≡ ((Some (Message 1 (97 ∷ [])), []) ∷ (Some Quiet, (6 ∷ 0 ∷ 0 ∷ 0 ∷ 0 ∷ 0 ∷ 0 ∷ 0 ∷ 0 ∷ 0 ∷ 0 ∷ 0 ∷ 0 ∷ [])) ∷ (Some Quiet, []) ∷ [])
unfolding received linked_end after_piece flushed frame_bytes first_frame is_too_long watched timeout_served acknowledge_served keep_alive_served message_heard link_begun link_up alarms_cleared owed rewritten say control ask_pause ask_resume begin finish feed take_frame delivery tick times_out lose leave wrote refusal happens effect split_frame has_frame number_at written_frame
skipped_ids = refl

-- a pause, a later id, a resume, a control frame, a disconnect and one byte more
paused_input : received 6 (linked_end (7 ∷ 0 ∷ 0 ∷ 0 ∷ 0 ∷ 0 ∷ 0 ∷ 0 ∷ 0 ∷ 0 ∷ 0 ∷ 0 ∷ 0 ∷ 1 ∷ 0 ∷ 0 ∷ 0 ∷ 2 ∷ 0 ∷ 0 ∷ 0 ∷ 0 ∷ 0 ∷ 0 ∷ 0 ∷ 1 ∷ 97 ∷ 8 ∷ 0 ∷ 0 ∷ 0 ∷ 0 ∷ 0 ∷ 0 ∷ 0 ∷ 0 ∷ 0 ∷ 0 ∷ 0 ∷ 0 ∷ 2 ∷ 0 ∷ 0 ∷ 0 ∷ 0 ∷ 0 ∷ 0 ∷ 0 ∷ 0 ∷ 0 ∷ 0 ∷ 0 ∷ 0 ∷ 5 ∷ 0 ∷ 0 ∷ 0 ∷ 0 ∷ 0 ∷ 0 ∷ 0 ∷ 0 ∷ 0 ∷ 0 ∷ 0 ∷ 0 ∷ 255 ∷ [])) ≡ ((Some Quiet, []) ∷ (Some Quiet, []) ∷ (Some Quiet, (6 ∷ 0 ∷ 0 ∷ 0 ∷ 0 ∷ 0 ∷ 0 ∷ 0 ∷ 0 ∷ 0 ∷ 0 ∷ 0 ∷ 0 ∷ [])) ∷ (Some (ControlBody []), []) ∷ (Some Closed, []) ∷ (None, []) ∷ [])
unfolding received linked_end after_piece flushed frame_bytes first_frame is_too_long watched timeout_served acknowledge_served keep_alive_served message_heard link_begun link_up alarms_cleared owed rewritten say control ask_pause ask_resume begin finish feed take_frame delivery tick times_out lose leave wrote refusal happens effect split_frame has_frame number_at written_frame
paused_input = refl

-- what the endpoint writes by itself
by_calls : shown (leave (control [] (ask_resume (ask_pause (linked_end []))))) ≡ (7 ∷ 0 ∷ 0 ∷ 0 ∷ 0 ∷ 0 ∷ 0 ∷ 0 ∷ 0 ∷ 0 ∷ 0 ∷ 0 ∷ 0 ∷ 8 ∷ 0 ∷ 0 ∷ 0 ∷ 0 ∷ 0 ∷ 0 ∷ 0 ∷ 0 ∷ 0 ∷ 0 ∷ 0 ∷ 0 ∷ 2 ∷ 0 ∷ 0 ∷ 0 ∷ 0 ∷ 0 ∷ 0 ∷ 0 ∷ 0 ∷ 0 ∷ 0 ∷ 0 ∷ 0 ∷ 5 ∷ 0 ∷ 0 ∷ 0 ∷ 0 ∷ 0 ∷ 0 ∷ 0 ∷ 0 ∷ 0 ∷ 0 ∷ 0 ∷ 0 ∷ [])
unfolding received linked_end after_piece flushed frame_bytes first_frame is_too_long watched timeout_served acknowledge_served keep_alive_served message_heard link_begun link_up alarms_cleared owed rewritten say control ask_pause ask_resume begin finish feed take_frame delivery tick times_out lose leave wrote refusal happens effect split_frame has_frame number_at written_frame
by_calls = refl

-- an ack above the last id counts as the last id
two_said : Endpoint
two_said = say (98 ∷ []) 0 (say (97 ∷ []) 0 (linked_end []))

acked_beyond : Endpoint
acked_beyond = after_piece (3 ∷ 0 ∷ 0 ∷ 0 ∷ 0 ∷ 0 ∷ 0 ∷ 0 ∷ 9 ∷ 0 ∷ 0 ∷ 0 ∷ 0 ∷ []) two_said

acked_beyond-owed : ◌≡◌ {A = List Entry × ℕ} (owed acked_beyond, acked_beyond.acknowledged) ([], 2)
unfolding received linked_end after_piece flushed frame_bytes first_frame is_too_long watched timeout_served acknowledge_served keep_alive_served message_heard link_begun link_up alarms_cleared owed rewritten say control ask_pause ask_resume begin finish feed take_frame delivery tick times_out lose leave wrote refusal happens effect split_frame has_frame number_at written_frame two_said acked_beyond
acked_beyond-owed = refl

acked_beyond-next : owed (say (99 ∷ []) 0 acked_beyond) ≡ (record { id = 3; ack = 0; body = (99 ∷ []); written = Some 0 } ∷ [])
unfolding received linked_end after_piece flushed frame_bytes first_frame is_too_long watched timeout_served acknowledge_served keep_alive_served message_heard link_begun link_up alarms_cleared owed rewritten say control ask_pause ask_resume begin finish feed take_frame delivery tick times_out lose leave wrote refusal happens effect split_frame has_frame number_at written_frame two_said acked_beyond
acked_beyond-next = refl

-- the same later id at three moments
later_id : List ℕ
later_id = (1 ∷ 0 ∷ 0 ∷ 0 ∷ 5 ∷ 0 ∷ 0 ∷ 0 ∷ 0 ∷ 0 ∷ 0 ∷ 0 ∷ 1 ∷ 97 ∷ [])

at_0 : Endpoint
at_0 = flushed (take_frame 0 (feed 1 later_id 0 (linked_end [])))

at_10000 : Endpoint
at_10000 = flushed (take_frame 10000 (feed 1 later_id 10000 at_0))

asked_again : ◌≡◌ {A = List ℕ × List ℕ × List ℕ}
    (shown (take_frame 0 (feed 1 later_id 0 (linked_end []))), shown (take_frame 10000 (feed 1 later_id 10000 at_0)), shown (take_frame 10001 (feed 1 later_id 10001 at_10000)))
    ((6 ∷ 0 ∷ 0 ∷ 0 ∷ 0 ∷ 0 ∷ 0 ∷ 0 ∷ 0 ∷ 0 ∷ 0 ∷ 0 ∷ 0 ∷ []), [], (6 ∷ 0 ∷ 0 ∷ 0 ∷ 0 ∷ 0 ∷ 0 ∷ 0 ∷ 0 ∷ 0 ∷ 0 ∷ 0 ∷ 0 ∷ []))
unfolding received linked_end after_piece flushed frame_bytes first_frame is_too_long watched timeout_served acknowledge_served keep_alive_served message_heard link_begun link_up alarms_cleared owed rewritten say control ask_pause ask_resume begin finish feed take_frame delivery tick times_out lose leave wrote refusal happens effect split_frame has_frame number_at written_frame later_id at_0 at_10000
asked_again = refl

-- a replay is asked for, then a pause, then a resume
written_out : Endpoint
written_out = flushed two_said

replay_asked : shown (after_piece (6 ∷ 0 ∷ 0 ∷ 0 ∷ 0 ∷ 0 ∷ 0 ∷ 0 ∷ 0 ∷ 0 ∷ 0 ∷ 0 ∷ 0 ∷ []) written_out) ≡ (1 ∷ 0 ∷ 0 ∷ 0 ∷ 1 ∷ 0 ∷ 0 ∷ 0 ∷ 0 ∷ 0 ∷ 0 ∷ 0 ∷ 1 ∷ 97 ∷ 1 ∷ 0 ∷ 0 ∷ 0 ∷ 2 ∷ 0 ∷ 0 ∷ 0 ∷ 0 ∷ 0 ∷ 0 ∷ 0 ∷ 1 ∷ 98 ∷ [])
unfolding received linked_end after_piece flushed frame_bytes first_frame is_too_long watched timeout_served acknowledge_served keep_alive_served message_heard link_begun link_up alarms_cleared owed rewritten say control ask_pause ask_resume begin finish feed take_frame delivery tick times_out lose leave wrote refusal happens effect split_frame has_frame number_at written_frame two_said written_out
replay_asked = refl

paused : Endpoint
paused = after_piece (7 ∷ 0 ∷ 0 ∷ 0 ∷ 0 ∷ 0 ∷ 0 ∷ 0 ∷ 0 ∷ 0 ∷ 0 ∷ 0 ∷ 0 ∷ []) (flushed (after_piece (6 ∷ 0 ∷ 0 ∷ 0 ∷ 0 ∷ 0 ∷ 0 ∷ 0 ∷ 0 ∷ 0 ∷ 0 ∷ 0 ∷ 0 ∷ []) written_out))

paused-shown : ◌≡◌ {A = List ℕ × List ℕ × List ℕ} (shown paused, shown (say (99 ∷ []) 0 paused), shown (after_piece (8 ∷ 0 ∷ 0 ∷ 0 ∷ 0 ∷ 0 ∷ 0 ∷ 0 ∷ 0 ∷ 0 ∷ 0 ∷ 0 ∷ 0 ∷ []) (say (99 ∷ []) 0 paused))) ([], [], (1 ∷ 0 ∷ 0 ∷ 0 ∷ 3 ∷ 0 ∷ 0 ∷ 0 ∷ 0 ∷ 0 ∷ 0 ∷ 0 ∷ 1 ∷ 99 ∷ []))
unfolding received linked_end after_piece flushed frame_bytes first_frame is_too_long watched timeout_served acknowledge_served keep_alive_served message_heard link_begun link_up alarms_cleared owed rewritten say control ask_pause ask_resume begin finish feed take_frame delivery tick times_out lose leave wrote refusal happens effect split_frame has_frame number_at written_frame two_said written_out paused
paused-shown = refl

-- the second id needs a wide header
wide_id : List Event
wide_id = (LinkMade ∷ Begin A 1 (Exact 0) ∷ Begin B 1 (Exact 0) ∷ Say A (97 ∷ []) ∷ Say A (98 ∷ []) ∷ Write A All ∷ Read B 1 All ∷ Take B ∷ Take B ∷ Take B ∷ [])

wide_id-effects : effects wide_id (new_world 4294967294) ≡ (Linked 1 ∷ Done ∷ Done ∷ SaidId 4294967295 ∷ SaidId 4294967296 ∷ Wrote (1 ∷ 255 ∷ 255 ∷ 255 ∷ 255 ∷ 255 ∷ 255 ∷ 255 ∷ 254 ∷ 0 ∷ 0 ∷ 0 ∷ 1 ∷ 97 ∷ 129 ∷ 0 ∷ 0 ∷ 0 ∷ 1 ∷ 0 ∷ 0 ∷ 0 ∷ 0 ∷ 0 ∷ 0 ∷ 0 ∷ 0 ∷ 255 ∷ 255 ∷ 255 ∷ 254 ∷ 0 ∷ 0 ∷ 0 ∷ 1 ∷ 98 ∷ []) ∷ ReadBytes 36 ∷ HandedUp (Message 4294967295 (97 ∷ [])) ∷ HandedUp (Message 4294967296 (98 ∷ [])) ∷ Nothing ∷ [])
unfolding received linked_end after_piece flushed frame_bytes first_frame is_too_long watched timeout_served acknowledge_served keep_alive_served message_heard link_begun link_up alarms_cleared owed rewritten say control ask_pause ask_resume begin finish feed take_frame delivery tick times_out lose leave wrote refusal happens effect split_frame has_frame number_at written_frame wide_id
wide_id-effects = refl

wide_id-accepted : is_accepted wide_id (new_world 4294967294) ≡ true
unfolding received linked_end after_piece flushed frame_bytes first_frame is_too_long watched timeout_served acknowledge_served keep_alive_served message_heard link_begun link_up alarms_cleared owed rewritten say control ask_pause ask_resume begin finish feed take_frame delivery tick times_out lose leave wrote refusal happens effect split_frame has_frame number_at written_frame wide_id
wide_id-accepted = refl

wide_id-ends : let w = run wide_id (new_world 4294967294) in ◌≡◌ {A = ℕ × ℕ × ℕ × ℕ × ℕ × ℕ} (sent w.a.endpoint, length w.a.heard, length (owed w.a.endpoint), sent w.b.endpoint, length w.b.heard, length (owed w.b.endpoint)) (4294967296, 0, 2, 4294967294, 2, 0)
unfolding received linked_end after_piece flushed frame_bytes first_frame is_too_long watched timeout_served acknowledge_served keep_alive_served message_heard link_begun link_up alarms_cleared owed rewritten say control ask_pause ask_resume begin finish feed take_frame delivery tick times_out lose leave wrote refusal happens effect split_frame has_frame number_at written_frame wide_id
wide_id-ends = refl

-- a small id in a wide header
wide_header : received 1 (linked_end (129 ∷ 0 ∷ 0 ∷ 0 ∷ 0 ∷ 0 ∷ 0 ∷ 0 ∷ 1 ∷ 0 ∷ 0 ∷ 0 ∷ 0 ∷ 0 ∷ 0 ∷ 0 ∷ 0 ∷ 0 ∷ 0 ∷ 0 ∷ 2 ∷ 104 ∷ 105 ∷ [])) ≡ ((Some (Message 1 (104 ∷ 105 ∷ [])), []) ∷ [])
unfolding received linked_end after_piece flushed frame_bytes first_frame is_too_long watched timeout_served acknowledge_served keep_alive_served message_heard link_begun link_up alarms_cleared owed rewritten say control ask_pause ask_resume begin finish feed take_frame delivery tick times_out lose leave wrote refusal happens effect split_frame has_frame number_at written_frame
wide_header = refl

-- a wide header that lacks a byte
short_wide_header : received 1 (linked_end (129 ∷ 0 ∷ 0 ∷ 0 ∷ 0 ∷ 0 ∷ 0 ∷ 0 ∷ 1 ∷ 0 ∷ 0 ∷ 0 ∷ 0 ∷ 0 ∷ 0 ∷ 0 ∷ 0 ∷ 0 ∷ 0 ∷ 0 ∷ [])) ≡ ((None, []) ∷ [])
unfolding received linked_end after_piece flushed frame_bytes first_frame is_too_long watched timeout_served acknowledge_served keep_alive_served message_heard link_begun link_up alarms_cleared owed rewritten say control ask_pause ask_resume begin finish feed take_frame delivery tick times_out lose leave wrote refusal happens effect split_frame has_frame number_at written_frame
short_wide_header = refl

-- one message in a header, and in a wide header, and the front of that
short_text : List ℕ
short_text = (1 ∷ 0 ∷ 0 ∷ 0 ∷ 1 ∷ 0 ∷ 0 ∷ 0 ∷ 0 ∷ 0 ∷ 0 ∷ 0 ∷ 2 ∷ 104 ∷ 105 ∷ [])

short_text-cut : IsCut short_text (record { kind = 1; wide = false; id = 1; ack = 0; body = 104 ∷ 105 ∷ [] } ∷ []) []
unfolding received linked_end after_piece flushed frame_bytes first_frame is_too_long watched timeout_served acknowledge_served keep_alive_served message_heard link_begun link_up alarms_cleared owed rewritten say control ask_pause ask_resume begin finish feed take_frame delivery tick times_out lose leave wrote refusal happens effect split_frame has_frame number_at written_frame short_text
short_text-cut = record {
  whole = refl;
  each = (record { kind = omega arith; id = omega arith; ack = omega arith; body = omega arith }, tt);
  partial = first_frame-none [] first_frame-nil;
}

wide_text : List ℕ
wide_text = (129 ∷ 0 ∷ 0 ∷ 0 ∷ 0 ∷ 0 ∷ 0 ∷ 0 ∷ 1 ∷ 0 ∷ 0 ∷ 0 ∷ 0 ∷ 0 ∷ 0 ∷ 0 ∷ 0 ∷ 0 ∷ 0 ∷ 0 ∷ 2 ∷ 104 ∷ 105 ∷ [])

wide_text-cut : IsCut wide_text (record { kind = 1; wide = true; id = 1; ack = 0; body = 104 ∷ 105 ∷ [] } ∷ []) []
unfolding received linked_end after_piece flushed frame_bytes first_frame is_too_long watched timeout_served acknowledge_served keep_alive_served message_heard link_begun link_up alarms_cleared owed rewritten say control ask_pause ask_resume begin finish feed take_frame delivery tick times_out lose leave wrote refusal happens effect split_frame has_frame number_at written_frame wide_text
wide_text-cut = record {
  whole = refl;
  each = (record { kind = omega arith; id = omega arith; ack = omega arith; body = omega arith }, tt);
  partial = first_frame-none [] first_frame-nil;
}

partial_text : List ℕ
partial_text = take 20 wide_text

partial_text-cut : IsCut partial_text [] partial_text
unfolding received linked_end after_piece flushed frame_bytes first_frame is_too_long watched timeout_served acknowledge_served keep_alive_served message_heard link_begun link_up alarms_cleared owed rewritten say control ask_pause ask_resume begin finish feed take_frame delivery tick times_out lose leave wrote refusal happens effect split_frame has_frame number_at written_frame wide_text partial_text
partial_text-cut = record { whole = refl; each = tt; partial = first_frame-none partial_text refl }

-- no id follows the last one
ids_spent : refusal (new_world last_id) (Say A (97 ∷ [])) ≡ Some (AtEnd IdsSpent)
unfolding received linked_end after_piece flushed frame_bytes first_frame is_too_long watched timeout_served acknowledge_served keep_alive_served message_heard link_begun link_up alarms_cleared owed rewritten say control ask_pause ask_resume begin finish feed take_frame delivery tick times_out lose leave wrote refusal happens effect split_frame has_frame number_at written_frame
ids_spent = refl

-- the last id is given, and no other
last_said : List Event
last_said = (LinkMade ∷ Begin A 1 (Exact 0) ∷ Say A (97 ∷ []) ∷ Write A All ∷ [])

last_said-effects : effects last_said (new_world 18446744073709551614) ≡ (Linked 1 ∷ Done ∷ SaidId 18446744073709551615 ∷ Wrote (129 ∷ 255 ∷ 255 ∷ 255 ∷ 255 ∷ 255 ∷ 255 ∷ 255 ∷ 255 ∷ 255 ∷ 255 ∷ 255 ∷ 255 ∷ 255 ∷ 255 ∷ 255 ∷ 254 ∷ 0 ∷ 0 ∷ 0 ∷ 1 ∷ 97 ∷ []) ∷ [])
unfolding received linked_end after_piece flushed frame_bytes first_frame is_too_long watched timeout_served acknowledge_served keep_alive_served message_heard link_begun link_up alarms_cleared owed rewritten say control ask_pause ask_resume begin finish feed take_frame delivery tick times_out lose leave wrote refusal happens effect split_frame has_frame number_at written_frame last_said
last_said-effects = refl

last_said-refusal : refusal (run last_said (new_world 18446744073709551614)) (Say A (98 ∷ [])) ≡ Some (AtEnd IdsSpent)
unfolding received linked_end after_piece flushed frame_bytes first_frame is_too_long watched timeout_served acknowledge_served keep_alive_served message_heard link_begun link_up alarms_cleared owed rewritten say control ask_pause ask_resume begin finish feed take_frame delivery tick times_out lose leave wrote refusal happens effect split_frame has_frame number_at written_frame last_said
last_said-refusal = refl

-- an ack that needs a wide header
wide_ack : List Event
wide_ack = (LinkMade ∷ Begin A 1 (Exact 0) ∷ Begin B 1 (Exact 0) ∷ Say A (97 ∷ []) ∷ Write A All ∷ Read B 1 All ∷ Take B ∷ At 2005 ∷ Tick B ∷ Write B All ∷ Read A 1 All ∷ Take A ∷ [])

wide_ack-effects : effects wide_ack (new_world 4294967295) ≡ (Linked 1 ∷ Done ∷ Done ∷ SaidId 4294967296 ∷ Wrote (129 ∷ 0 ∷ 0 ∷ 0 ∷ 1 ∷ 0 ∷ 0 ∷ 0 ∷ 0 ∷ 0 ∷ 0 ∷ 0 ∷ 0 ∷ 255 ∷ 255 ∷ 255 ∷ 255 ∷ 0 ∷ 0 ∷ 0 ∷ 1 ∷ 97 ∷ []) ∷ ReadBytes 22 ∷ HandedUp (Message 4294967296 (97 ∷ [])) ∷ Done ∷ Ticked false ∷ Wrote (131 ∷ 0 ∷ 0 ∷ 0 ∷ 0 ∷ 0 ∷ 0 ∷ 0 ∷ 0 ∷ 0 ∷ 0 ∷ 0 ∷ 1 ∷ 0 ∷ 0 ∷ 0 ∷ 0 ∷ 0 ∷ 0 ∷ 0 ∷ 0 ∷ []) ∷ ReadBytes 21 ∷ HandedUp Quiet ∷ [])
unfolding received linked_end after_piece flushed frame_bytes first_frame is_too_long watched timeout_served acknowledge_served keep_alive_served message_heard link_begun link_up alarms_cleared owed rewritten say control ask_pause ask_resume begin finish feed take_frame delivery tick times_out lose leave wrote refusal happens effect split_frame has_frame number_at written_frame wide_ack
wide_ack-effects = refl

wide_ack-owed : owed (run wide_ack (new_world 4294967295)).a.endpoint ≡ []
unfolding received linked_end after_piece flushed frame_bytes first_frame is_too_long watched timeout_served acknowledge_served keep_alive_served message_heard link_begun link_up alarms_cleared owed rewritten say control ask_pause ask_resume begin finish feed take_frame delivery tick times_out lose leave wrote refusal happens effect split_frame has_frame number_at written_frame wide_ack
wide_ack-owed = refl

-- a frame that comes twice
same_frame_twice : received 2 (linked_end (1 ∷ 0 ∷ 0 ∷ 0 ∷ 1 ∷ 0 ∷ 0 ∷ 0 ∷ 0 ∷ 0 ∷ 0 ∷ 0 ∷ 2 ∷ 104 ∷ 105 ∷ 1 ∷ 0 ∷ 0 ∷ 0 ∷ 1 ∷ 0 ∷ 0 ∷ 0 ∷ 0 ∷ 0 ∷ 0 ∷ 0 ∷ 2 ∷ 104 ∷ 105 ∷ [])) ≡ ((Some (Message 1 (104 ∷ 105 ∷ [])), []) ∷ (Some Quiet, []) ∷ [])
unfolding received linked_end after_piece flushed frame_bytes first_frame is_too_long watched timeout_served acknowledge_served keep_alive_served message_heard link_begun link_up alarms_cleared owed rewritten say control ask_pause ask_resume begin finish feed take_frame delivery tick times_out lose leave wrote refusal happens effect split_frame has_frame number_at written_frame
same_frame_twice = refl

-- a header that lacks a byte
short_header : received 1 (linked_end (1 ∷ 0 ∷ 0 ∷ 0 ∷ 1 ∷ 0 ∷ 0 ∷ 0 ∷ 0 ∷ 0 ∷ 0 ∷ 0 ∷ [])) ≡ ((None, []) ∷ [])
unfolding received linked_end after_piece flushed frame_bytes first_frame is_too_long watched timeout_served acknowledge_served keep_alive_served message_heard link_begun link_up alarms_cleared owed rewritten say control ask_pause ask_resume begin finish feed take_frame delivery tick times_out lose leave wrote refusal happens effect split_frame has_frame number_at written_frame
short_header = refl

-- the longest body, and one byte more
longest_body : is_too_long (1 ∷ 0 ∷ 0 ∷ 0 ∷ 1 ∷ 0 ∷ 0 ∷ 0 ∷ 0 ∷ 16 ∷ 0 ∷ 0 ∷ 0 ∷ []) ≡ false
unfolding received linked_end after_piece flushed frame_bytes first_frame is_too_long watched timeout_served acknowledge_served keep_alive_served message_heard link_begun link_up alarms_cleared owed rewritten say control ask_pause ask_resume begin finish feed take_frame delivery tick times_out lose leave wrote refusal happens effect split_frame has_frame number_at written_frame
longest_body = refl

too_long_body : is_too_long (1 ∷ 0 ∷ 0 ∷ 0 ∷ 1 ∷ 0 ∷ 0 ∷ 0 ∷ 0 ∷ 16 ∷ 0 ∷ 0 ∷ 1 ∷ []) ≡ true
unfolding received linked_end after_piece flushed frame_bytes first_frame is_too_long watched timeout_served acknowledge_served keep_alive_served message_heard link_begun link_up alarms_cleared owed rewritten say control ask_pause ask_resume begin finish feed take_frame delivery tick times_out lose leave wrote refusal happens effect split_frame has_frame number_at written_frame
too_long_body = refl

-- a wide header says so only once it is there
partial_wide_header : is_too_long (129 ∷ 0 ∷ 0 ∷ 0 ∷ 0 ∷ 0 ∷ 0 ∷ 0 ∷ 1 ∷ 0 ∷ 0 ∷ 0 ∷ 0 ∷ 16 ∷ 0 ∷ 0 ∷ 1 ∷ []) ≡ false
unfolding received linked_end after_piece flushed frame_bytes first_frame is_too_long watched timeout_served acknowledge_served keep_alive_served message_heard link_begun link_up alarms_cleared owed rewritten say control ask_pause ask_resume begin finish feed take_frame delivery tick times_out lose leave wrote refusal happens effect split_frame has_frame number_at written_frame
partial_wide_header = refl

too_long_wide_body : is_too_long (129 ∷ 0 ∷ 0 ∷ 0 ∷ 0 ∷ 0 ∷ 0 ∷ 0 ∷ 1 ∷ 0 ∷ 0 ∷ 0 ∷ 0 ∷ 0 ∷ 0 ∷ 0 ∷ 0 ∷ 16 ∷ 0 ∷ 0 ∷ 1 ∷ []) ≡ true
unfolding received linked_end after_piece flushed frame_bytes first_frame is_too_long watched timeout_served acknowledge_served keep_alive_served message_heard link_begun link_up alarms_cleared owed rewritten say control ask_pause ask_resume begin finish feed take_frame delivery tick times_out lose leave wrote refusal happens effect split_frame has_frame number_at written_frame
too_long_wide_body = refl

-- one message comes, and nothing is left
one_message : received 1 (linked_end (1 ∷ 0 ∷ 0 ∷ 0 ∷ 1 ∷ 0 ∷ 0 ∷ 0 ∷ 0 ∷ 0 ∷ 0 ∷ 0 ∷ 2 ∷ 104 ∷ 105 ∷ [])) ≡ ((Some (Message 1 (104 ∷ 105 ∷ [])), []) ∷ [])
unfolding received linked_end first_frame is_too_long watched link_begun link_up owed rewritten begin take_frame delivery wrote split_frame has_frame number_at written_frame
one_message = refl

one_message-rest : (take_frame 0 (linked_end (1 ∷ 0 ∷ 0 ∷ 0 ∷ 1 ∷ 0 ∷ 0 ∷ 0 ∷ 0 ∷ 0 ∷ 0 ∷ 0 ∷ 2 ∷ 104 ∷ 105 ∷ []))).unread ≡ []
unfolding received linked_end first_frame is_too_long watched link_begun link_up owed rewritten begin take_frame delivery wrote split_frame has_frame number_at written_frame
one_message-rest = refl

-- nothing comes
no_message : received 1 (linked_end []) ≡ ((None, []) ∷ [])
unfolding received linked_end first_frame is_too_long watched link_begun link_up owed rewritten begin take_frame delivery wrote split_frame has_frame number_at written_frame
no_message = refl

no_message-rest : (take_frame 0 (linked_end [])).unread ≡ []
unfolding received linked_end first_frame is_too_long watched link_begun link_up owed rewritten begin take_frame delivery wrote split_frame has_frame number_at written_frame
no_message-rest = refl

-- a header that lacks a byte stays unread
short_header-rest : length (take_frame 0 (linked_end (1 ∷ 0 ∷ 0 ∷ 0 ∷ 1 ∷ 0 ∷ 0 ∷ 0 ∷ 0 ∷ 0 ∷ 0 ∷ 0 ∷ []))).unread ≡ 12
unfolding received linked_end first_frame is_too_long watched link_begun link_up owed rewritten begin take_frame delivery wrote split_frame has_frame number_at written_frame
short_header-rest = refl

-- an endpoint is left once
left_twice : leave_refusal (leave (control [] (ask_resume (ask_pause (linked_end []))))) ≡ Some HasEnded
unfolding received linked_end first_frame is_too_long watched link_begun link_up owed rewritten begin take_frame delivery wrote split_frame has_frame number_at written_frame control ask_pause ask_resume leave
left_twice = refl

-- the cut of two frames and a byte more
two_and_a_byte : List ℕ
two_and_a_byte = (1 ∷ 0 ∷ 0 ∷ 0 ∷ 1 ∷ 0 ∷ 0 ∷ 0 ∷ 0 ∷ 0 ∷ 0 ∷ 0 ∷ 1 ∷ 97 ∷ 129 ∷ 0 ∷ 0 ∷ 0 ∷ 0 ∷ 0 ∷ 0 ∷ 0 ∷ 2 ∷ 0 ∷ 0 ∷ 0 ∷ 0 ∷ 0 ∷ 0 ∷ 0 ∷ 0 ∷ 0 ∷ 0 ∷ 0 ∷ 1 ∷ 98 ∷ 7 ∷ [])

two_and_a_byte-frames : frames_of two_and_a_byte ≡ (record { kind = 1; wide = false; id = 1; ack = 0; body = 97 ∷ [] } ∷ record { kind = 1; wide = true; id = 2; ack = 0; body = 98 ∷ [] } ∷ [])
unfolding frames_of cut_within first_frame split_frame has_frame number_at two_and_a_byte
two_and_a_byte-frames = refl

two_and_a_byte-rest : rest_of two_and_a_byte ≡ (7 ∷ [])
unfolding rest_of cut_within first_frame split_frame has_frame number_at two_and_a_byte
two_and_a_byte-rest = refl
