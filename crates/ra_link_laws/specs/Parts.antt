-- What holds between a client and the session of its key at the server: which texts their links have, and that the two are the ends of a
-- view. Its links are the parts of the client's links that come after the handshakes, in the order of the server's epochs.
use Rattle.std.specs.Prelude.{◌≡◌, ◌≢◌, ℕ, suc, ◌+◌, ◌<◌, ◌≤◌, Bool, true, false, Option, Some, None, List, [], ◌++◌, length, drop, slice_get, All, ⊤}
use Rattle.std.specs.Option.{is_some}
use Rattle.ra_base.specs.TokenGrammar.{IsToken}
use Rattle.ra_base.specs.declared.event.Side.TheVariants.{A}
use Rattle.ra_base.specs.declared.key.Key.{Key}
use Rattle.ra_base.specs.declared.key.Seat.{Seat}
use Rattle.ra_base.specs.declared.kind.Kind.TheVariants.{Tunnel}
use Rattle.ra_model.specs.Endpoints.{is_linked, shown}
use Rattle.ra_model.specs.Links.{Link, at_number}
use Rattle.ra_model.specs.Pairs.{messages, IsJoining}
use Rattle.ra_model.specs.Views.{View, new_peer}
use Rattle.ra_model.specs.Worlds.{Peer}
use Rattle.ra_registry.specs.declared.row.Row.{Row}
use Rattle.ra_registry.specs.Rows.{epoch_of, same_key}
use Rattle.ra_hub.specs.Hubs.{row}
use Rattle.ra_opening.specs.Openings.{Opened, opened, Stage as OpeningStage}
use Rattle.ra_opening.specs.Openings.Stage.{Heading, Shaking, Asked, Over}
use Rattle.ra_session.specs.OnLinks.{IsOnLink, IsRunning}
use Rattle.ra_session.specs.Sessions.{Session}
use Rattle.ra_link_core.specs.LinkRuns.{Welcome}
use Rattle.ra_dial.specs.declared.stage.Stage.{Stage}
use Rattle.ra_dial.specs.declared.stage.Stage.TheVariants as stages
use Rattle.ra_dial.specs.Dialers.{epoch}
use Rattle.ra_dial.specs.ShakingStates.{ShakingState}
use Rattle.ra_grand_runs.specs.Draws.{first_draws}
use Rattle.ra_grand_runs.specs.GrandClients.{ServerEnd, GrandLink, Client}
use Rattle.ra_grand_runs.specs.Grands.{Grand}
use Rattle.ra_grand_runs.specs.Reached.{Begins, read_of}
use Rattle.ra_grand_runs.specs.SetUps.{settings_for, request_head, grounds}
use Rattle.ra_handshake_laws.specs.Handshakes.{client_text, Speaks, ReadsHandshake, HasSaid}

-- ---- one link

-- what the client drew for a link: the key of its request and the bytes of its challenge; and whether it claims a reconnection
pub record Drawn : Type 0 where
  pub key : List ℕ
  pub own : List ℕ
  pub reconnection : Bool

-- the second is the part of the first behind the handshake, where the client's Pause comes first
pub record Carries (w : Welcome) (l x : Link) : Type 0 where
  pub up : x.to_b.written ≡ drop w.up l.to_b.written
  pub down : x.to_a.written ≡ w.pause ++ drop w.down l.to_a.written
  pub cut : x.is_cut ≡ l.is_cut

-- a welcome stands behind all that the client wrote of its handshake, and the link of its epoch is this one
pub record IsWelcome (owner : Key) (d : Drawn) (session_links : List Link) (l : GrandLink) (w : Welcome) : Type 0 where
  pub theirs : List ℕ
  pub place : w.up ≡ length (client_text owner d.reconnection d.key d.own theirs)
  pub there : w.up ≤ length l.link.to_b.written
  pub session_link : Link
  pub is_at : at_number session_links w.epoch ≡ Some session_link
  pub carries : Carries w l.link session_link

abbrev pub HasWelcome : Key → Drawn → List Link → GrandLink → Option Welcome → Type 0
HasWelcome owner d session_links l None =
    (theirs rest : List ℕ) × (l.link.to_b.written ++ rest ≡ client_text owner d.reconnection d.key d.own theirs)
HasWelcome owner d session_links l (Some w) = IsWelcome owner d session_links l w

-- an opening that waits for more
abbrev pub IsWaiting : OpeningStage → Type 0
IsWaiting Heading = ⊤
IsWaiting (Shaking s) = ⊤
IsWaiting (Asked request place) = ⊥
IsWaiting (Over end) = ⊥

-- the server's opening of the link, with one draw for all
abbrev pub opening_of : List ℕ → ServerEnd → Opened
opening_of draw end = opened (grounds (λ n. draw)) end.head end.seen

-- An end that is not over and has no seat stands where its opening does.
pub record IsOpening (end : ServerEnd) : Type 0 where
  pub draw : List ℕ
  pub welcome : end.welcome ≡ None
  pub waits : IsWaiting (opening_of draw end).stage
  pub out : end.out ≡ (opening_of draw end).out
  pub drawn : end.drawn ≡ first_draws (opening_of draw end).drawn (λ n. draw)

-- One that has a seat has the seat of its welcome. On the session's present link all that was read behind the welcome is the session's.
pub record IsSeated (owner : Key) (session_links : List Link) (present : ℕ) (l : GrandLink) (seat : Seat) : Type 0 where
  pub welcome : Welcome
  pub is_there : l.server.welcome ≡ Some welcome
  pub key : seat.key ≡ owner
  pub number : seat.epoch ≡ welcome.epoch
  pub said : welcome.down ≤ length l.server.out
  pub read : seat.epoch ≡ present → (x : Link) → at_number session_links present ≡ Some x → x.to_b.read + welcome.up ≡ l.link.to_b.read

abbrev pub EndStands : Key → List Link → ℕ → GrandLink → Bool → Option Seat → Type 0
EndStands owner session_links present l true seat = seat ≡ None
EndStands owner session_links present l false None = IsOpening l.server
EndStands owner session_links present l false (Some seat) = IsSeated owner session_links present l seat

pub record LinkKeeps (owner : Key) (d : Drawn) (session_links : List Link) (present : ℕ) (l : GrandLink) : Type 0 where
  pub key_len : length d.key ≡ 16
  pub key_bytes : All (λ b. b < 256) d.key
  pub head : l.server.head ≡ request_head (settings_for owner) d.reconnection d.key
  pub up : l.link.to_b.read ≤ length l.link.to_b.written
  pub down : l.link.to_a.read ≤ length l.link.to_a.written
  pub seen : l.server.seen ≡ read_of l.link.to_b
  -- all that the server wrote was put on the link, up to a cut
  pub put : Begins l.server.out l.link.to_a.written
  pub put_all : l.link.is_cut ≡ false → l.link.to_a.written ≡ l.server.out
  pub speaks : Speaks owner.kind d.key l.server.welcome l.server.out
  pub welcome : HasWelcome owner d session_links l l.server.welcome
  pub end : EndStands owner session_links present l l.server.is_over l.server.seat

-- ---- the client

-- A handshake on a link: it has read what was read of it, and what it has said is what was written, up to a cut.
pub record Shakes (owner : Key) (d : Drawn) (s : ShakingState) (l : GrandLink) : Type 0 where
  pub reads : ReadsHandshake owner d.key d.own (read_of l.link.to_a) s
  pub text : List ℕ
  pub said : HasSaid owner d.reconnection d.key d.own text s.key s.shake.has_answered
  pub put : Begins text l.link.to_b.written
  pub put_all : l.link.is_cut ≡ false → l.link.to_b.written ≡ text

-- The present link of an attached client is the one with this number. All that it read behind the welcome is its session's.
pub record IsAttached (c : Client) (session_links : List Link) (number : ℕ) (l : GrandLink) : Type 0 where
  pub welcome : Welcome
  pub is_there : l.server.welcome ≡ Some welcome
  pub is_number : welcome.epoch ≡ number
  pub on_link : IsOnLink (epoch c.dialer) c.dialer.session
  -- all of the handshake was read before it was attached
  pub behind : welcome.down ≤ l.link.to_a.read
  -- nothing is left to be put on the link
  pub quiet : shown c.dialer.session.peer.endpoint ≡ []
  pub read : c.dialer.session.cause ≡ None → (x : Link) → at_number session_links number ≡ Some x
      → x.to_a.read + welcome.down ≡ length welcome.pause + l.link.to_a.read

-- what holds of the last link, which is there
abbrev pub HasLast : List GrandLink → (ℕ → GrandLink → Type 0) → Type 0
HasLast links P = (n : ℕ) × (l : GrandLink) × (length links ≡ suc n) × (slice_get links n ≡ Some l) × P n l

-- It was attached on some of its first links, the last time on the one with this number. One that shakes hands does so on a later link.
abbrev pub StageKeeps : Client → (ℕ → Drawn) → List Link → (number attached : ℕ) → Stage → Type 0
StageKeeps c draws session_links number attached (stages.Resting until) = attached ≤ length c.links
StageKeeps c draws session_links number attached (stages.Calling since) = attached ≤ length c.links
StageKeeps c draws session_links number attached (stages.Shaking since s) = (attached < length c.links) × HasLast c.links (λ n l. Shakes c.key (draws n) s l)
StageKeeps c draws session_links number attached stages.Attached = (attached ≡ length c.links) × HasLast c.links (λ n l. IsAttached c session_links number l)
StageKeeps c draws session_links number attached (stages.Over end) = attached ≤ length c.links

-- ---- both ends

-- the server's end of the view, which has this number; before the first admission it is a new one
abbrev pub IsServer : Option Session → Peer → ℕ → Type 0
IsServer None o number = (now : ℕ) × (o ≡ new_peer 0 now false) × (number ≡ 0)
IsServer (Some s) o number = (o ≡ s.peer) × (s.peer.endpoint.epoch ≡ number) × IsRunning s

-- while a link is kept, all that a peer wrote on it is whole frames
abbrev pub WritesWhole : Peer → Link → Type 0
WritesWhole o x = x.is_cut ≡ false → is_linked o.endpoint.phase ≡ true → IsJoining 0 (messages o.endpoint) o.endpoint.received x.to_a.written

-- a client, and the session and the row of its key
pub record PartHolds (session : Option Session) (kept : Option Row) (c : Client) : Type 0 where
  pub token : IsToken c.key.token
  pub kind : c.key.kind ≢ Tunnel
  pub settings : c.dialer.settings ≡ settings_for c.key
  pub pending : c.dialer.pending ≡ []
  pub runs : IsRunning c.dialer.session
  -- the links of the session, their numbers at both ends, and the peer at the server
  pub session_links : List Link
  pub number : ℕ
  pub present : ℕ
  pub peer : Peer
  pub view : View 0 A number present c.dialer.session.peer peer session_links
  pub server : IsServer session peer present
  pub whole : (x : Link) → at_number session_links present ≡ Some x → WritesWhole peer x
  pub count : length session_links ≡ epoch_of kept
  pub both : is_some session ≡ is_some kept
  -- the client's links
  pub draws : ℕ → Drawn
  pub links : (n : ℕ) (l : GrandLink) → slice_get c.links n ≡ Some l → LinkKeeps c.key (draws n) session_links present l
  pub apart : (n m : ℕ) (k l : GrandLink) (v w : Welcome) → slice_get c.links n ≡ Some k → slice_get c.links m ≡ Some l
      → k.server.welcome ≡ Some v → l.server.welcome ≡ Some w → v.epoch ≡ w.epoch → n ≡ m
  pub attached : ℕ
  pub later : (n : ℕ) (l : GrandLink) (w : Welcome) → slice_get c.links n ≡ Some l → attached ≤ n → l.server.welcome ≡ Some w → number < w.epoch
  pub stage : StageKeeps c draws session_links number attached c.dialer.stage

-- ---- a world

pub record WorldKeeps (w : Grand) : Type 0 where
  pub parts : (n : ℕ) (c : Client) → slice_get w.clients n ≡ Some c → PartHolds (w.hub.session c.key) (row w.hub c.key) c
  -- two clients have different keys, and what no client dials for is unknown to the server
  pub keys : (n m : ℕ) (c d : Client) → slice_get w.clients n ≡ Some c → slice_get w.clients m ≡ Some d → same_key c.key d.key ≡ true → n ≡ m
  pub unknown : (key : Key) → ((n : ℕ) (c : Client) → slice_get w.clients n ≡ Some c → same_key c.key key ≡ false)
      → (w.hub.session key ≡ None) × (row w.hub key ≡ None)
