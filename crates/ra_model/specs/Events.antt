-- What an event changes in a world, and what it answers. An event that is refused changes nothing.
use Rattle.std.specs.Prelude.{ℕ, ◌+◌, max, Bool, true, ◌&&◌, is_none, Option, Some, None, List, [], ◌∷◌, ◌++◌, length, take}
use Rattle.ra_base.specs.declared.event.Side.{Side}
use Rattle.ra_base.specs.declared.event.Count.{Count}
use Rattle.ra_base.specs.declared.event.Event.{Event}
use Rattle.ra_base.specs.declared.event.Event.TheVariants.{Link as LinkMade, At, Begin, Finish, Say, Control, Pause, Resume, Leave, Write, Read, Take, Tick, Lose, Cut}
use Rattle.ra_model.specs.declared.frame.Frame.{Frame}
use Rattle.ra_model.specs.declared.session.Up.{Up as Delivery}
use Rattle.ra_model.specs.declared.session.Up.TheVariants.{Message, Control as ControlBody, Quiet, Ended as Closed}
use Rattle.ra_model.specs.declared.effect.Effect.{Effect}
use Rattle.ra_model.specs.declared.effect.Effect.TheVariants.{Link as Linked, Done, Said as SaidId, Wrote, Read as ReadBytes, Up as HandedUp, Nothing, Ticked}
use Rattle.ra_model.specs.declared.fault.EventFault.{EventFault}
use Rattle.ra_model.specs.Endpoints.{Endpoint, sent, shown}
use Rattle.ra_model.specs.Calls.{say, control, ask_pause, ask_resume, begin, finish, feed, tick, times_out, lose, leave, wrote}
use Rattle.ra_model.specs.Taking.{delivery, next_frame, take_frame}
use Rattle.ra_model.specs.Links.{Link, new_link, other, at_number, put_number, amount, readable, read_on, written_to, cut_off}
use Rattle.ra_model.specs.Worlds.{Peer, World, with_endpoint, peer, with_peer, with_links}
use Rattle.ra_model.specs.Refusals.{refusal}

-- a call of the endpoint of a side
abbrev pub on_endpoint : Side → (Endpoint → Endpoint) → World → World
on_endpoint side call w = with_peer side (with_endpoint (call (peer side w).endpoint) (peer side w)) w

-- a link has begun with these bytes: no frame was applied on it
abbrev pub begun : ℕ → List ℕ → ℕ → Peer → Peer
begun link chunk now p = record { endpoint = begin link chunk now p.endpoint; heard = p.heard; applied = [] }

-- a side begins a link, with the bytes that it reads of it
abbrev pub begins : Side → ℕ → Count → Option Link → World → World
begins side link count None w = w
begins side link count (Some l) w =
    let n = amount count (length (readable side l)) in
    with_peer side (begun link (take n (readable side l)) w.now (peer side w))
    (with_links (put_number w.links link (read_on side n l)) w)

-- a side reads of a link
abbrev pub reads : Side → ℕ → Count → Option Link → World → World
reads side link count None w = w
reads side link count (Some l) w =
    let n = amount count (length (readable side l)) in
    on_endpoint side (feed link (take n (readable side l)) w.now)
    (with_links (put_number w.links link (read_on side n l)) w)

-- bytes are written on this link, by this side
abbrev pub links_written : Side → List ℕ → ℕ → Option Link → List Link → List Link
links_written side bytes link None links = links
links_written side bytes link (Some l) links = put_number links link (written_to (other side) bytes l)

-- a side writes n bytes on its present link
abbrev pub writes : Side → ℕ → World → World
writes side n w =
    let e = (peer side w).endpoint in
    on_endpoint side (wrote n)
    (with_links (links_written side (take n (shown e)) e.epoch (at_number w.links e.epoch) w.links) w)

-- what is heard, with what is handed up
abbrev pub heard_with : Option Delivery → List (List ℕ) → List (List ℕ)
heard_with None heard = heard
heard_with (Some (Message id body)) heard = heard ++ body ∷ []
heard_with (Some (ControlBody body)) heard = heard
heard_with (Some Quiet) heard = heard
heard_with (Some Closed) heard = heard

-- the frames that were applied, with the next one
abbrev pub applied_with : Option (Frame × List ℕ) → List Frame → List Frame
applied_with None applied = applied
applied_with (Some next) applied = applied ++ next.0 ∷ []

-- a frame is applied, where there is one
abbrev pub taken : ℕ → Peer → Peer
taken now p = record {
  endpoint = take_frame now p.endpoint;
  heard = heard_with (delivery p.endpoint) p.heard;
  applied = applied_with (next_frame p.endpoint) p.applied;
}

-- both directions of a link are cut
abbrev pub cuts : ℕ → Option Link → World → World
cuts link None w = w
cuts link (Some l) w = with_links (put_number w.links link (cut_off l)) w

-- what an event changes that is not refused
unfoldable pub happens : Event → World → World
happens LinkMade w = with_links (w.links ++ new_link ∷ []) w
happens (At now) w = record { now = max w.now now; a = w.a; b = w.b; links = w.links }
happens (Begin side link count) w = begins side link count (at_number w.links link) w
happens (Finish side) w = on_endpoint side (finish w.now) w
happens (Say side body) w = on_endpoint side (say body w.now) w
happens (Control side body) w = on_endpoint side (control body) w
happens (Pause side) w = on_endpoint side ask_pause w
happens (Resume side) w = on_endpoint side ask_resume w
happens (Leave side) w = on_endpoint side leave w
happens (Write side count) w = writes side (amount count (length (shown (peer side w).endpoint))) w
happens (Read side link count) w = reads side link count (at_number w.links link) w
happens (Take side) w = with_peer side (taken w.now (peer side w)) w
happens (Tick side) w = on_endpoint side (tick w.now) w
happens (Lose side) w = on_endpoint side (lose (peer side w).endpoint.epoch) w
happens (Cut link) w = cuts link (at_number w.links link) w

abbrev pub unless : Option EventFault → World → World → World
unless None new old = new
unless (Some fault) new old = old

-- a refused event changes nothing
abbrev pub after : Event → World → World
after event w = unless (refusal w event) (happens event w) w

-- a whole run
abbrev pub run : List Event → World → World
run [] w = w
run (event ∷ events) w = run events (after event w)

-- no event of the run is refused
abbrev pub is_accepted : List Event → World → Bool
is_accepted [] w = true
is_accepted (event ∷ events) w = is_none (refusal w event) && is_accepted events (after event w)

-- Answers

abbrev pub handed_up : Option Delivery → Effect
handed_up None = Nothing
handed_up (Some delivery) = HandedUp delivery

abbrev pub read_count : Side → Count → Option Link → ℕ
read_count side count None = 0
read_count side count (Some l) = amount count (length (readable side l))

-- the answer of an event that is not refused
unfoldable pub effect : World → Event → Effect
effect w LinkMade = Linked (length w.links + 1)
effect w (At now) = Done
effect w (Begin side link count) = Done
effect w (Finish side) = Done
effect w (Say side body) = SaidId (sent (peer side w).endpoint + 1)
effect w (Control side body) = Done
effect w (Pause side) = Done
effect w (Resume side) = Done
effect w (Leave side) = Done
effect w (Write side count) =
    let e = (peer side w).endpoint in Wrote (take (amount count (length (shown e))) (shown e))
effect w (Read side link count) = ReadBytes (read_count side count (at_number w.links link))
effect w (Take side) = handed_up (delivery (peer side w).endpoint)
effect w (Tick side) = Ticked (times_out w.now (peer side w).endpoint)
effect w (Lose side) = Done
effect w (Cut link) = Done

-- the answers of a run in which no event is refused
abbrev pub effects : List Event → World → List Effect
effects [] w = []
effects (event ∷ events) w = effect w event ∷ effects events (after event w)
