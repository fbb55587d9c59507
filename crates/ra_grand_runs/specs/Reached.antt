-- What holds of every world that is reached: what was read is a front of what was written, and each link begins with its own request and
-- with the answer to it, as far as they were written.
use Rattle.std.specs.Prelude.{◌≡◌, ◌≢◌, ◌⊎◌, ℕ, ◌<◌, ◌≤◌, Bool, false, Option, Some, None, List, [], ◌∷◌, ◌++◌, length, take, All, ⊤}
use Rattle.ra_base.specs.TokenGrammar.{IsToken}
use Rattle.ra_base.specs.declared.key.Key.{Key}
use Rattle.ra_base.specs.declared.kind.Kind.TheVariants.{Tunnel}
use Rattle.ra_model.specs.Links.{Direction}
use Rattle.ra_upgrade.specs.AnswerTexts.{answer_text}
use Rattle.ra_upgrade.specs.RequestTexts.{key_text}
use Rattle.ra_dial.specs.Clients.{request_of}
use Rattle.ra_dial.specs.ShakingStates.{ShakingState}
use Rattle.ra_dial.specs.declared.stage.Stage.{Stage}
use Rattle.ra_dial.specs.declared.stage.Stage.TheVariants as stages
use Rattle.ra_dial.specs.declared.values.DialEvent.{DialEvent}
use Rattle.ra_dial.specs.declared.values.DialEvent.TheVariants as events
use Rattle.ra_grand_runs.specs.GrandClients.{ServerEnd, GrandLink, Client}
use Rattle.ra_grand_runs.specs.Grands.{Grand}
use Rattle.ra_grand_runs.specs.Lasts.{OnLast, OnLastIfAny}
use Rattle.ra_grand_runs.specs.SetUps.{settings_for, request_head}

-- one text is a front of the other
pub record Agrees (text other : List ℕ) : Type 0 where
  pub more : List ℕ
  pub rest : List ℕ
  pub same : text ++ more ≡ other ++ rest

pub record Begins (text front : List ℕ) : Type 0 where
  pub rest : List ℕ
  pub same : text ≡ front ++ rest

-- what was read of a direction
abbrev pub read_of : Direction → List ℕ
read_of d = take d.read d.written

-- What the server wrote begins with the answer, or is a front of it. An end that is not over wrote nothing, and has no seat, or all of it.
pub record EndHolds (answer : List ℕ) (end : ServerEnd) : Type 0 where
  pub out : Agrees end.out answer
  pub going : end.is_over ≡ false → ((end.out ≡ []) × (end.seat ≡ None)) ⊎ Begins end.out answer

-- A link of the client with this session, whose request has that drawn key.
pub record LinkHolds (owner : Key) (drawn : List ℕ) (l : GrandLink) : Type 0 where
  pub drawn_len : length drawn ≡ 16
  pub drawn_bytes : All (λ b. b < 256) drawn
  pub reconnection : Bool
  pub head : l.server.head ≡ request_head (settings_for owner) reconnection drawn
  pub request : Agrees l.link.to_b.written (request_of (settings_for owner) reconnection drawn)
  pub up : l.link.to_b.read ≤ length l.link.to_b.written
  pub down : l.link.to_a.read ≤ length l.link.to_a.written
  pub seen : l.server.seen ≡ read_of l.link.to_b
  -- all that the server wrote was put on the link, up to a cut
  pub put : Begins l.server.out l.link.to_a.written
  pub put_all : l.link.is_cut ≡ false → l.link.to_a.written ≡ l.server.out
  pub end : EndHolds (answer_text (key_text drawn)) l.server

abbrev pub LinksHold : Key → List GrandLink → Type 0
LinksHold owner [] = ⊤
LinksHold owner (l ∷ ls) = ((drawn : List ℕ) × LinkHolds owner drawn l) × LinksHold owner ls

-- a handshake that waits for the answer to its request has read all that was read of the last link
pub record ReadsLink (owner : Key) (drawn unread : List ℕ) (l : GrandLink) : Type 0 where
  pub link : LinkHolds owner drawn l
  pub unread_is : unread ≡ read_of l.link.to_a

abbrev pub HandshakeReads : Key → ShakingState → Option (List ℕ) → List GrandLink → Type 0
HandshakeReads owner s None links = ⊤
HandshakeReads owner s (Some drawn) links = (s.rest ≡ None) × OnLast (ReadsLink owner drawn s.unread) links

abbrev pub StageReads : Key → Stage → List GrandLink → Type 0
StageReads owner (stages.Resting until) links = ⊤
StageReads owner (stages.Calling since) links = ⊤
StageReads owner (stages.Shaking since s) links = HandshakeReads owner s s.key links
StageReads owner stages.Attached links = ⊤
StageReads owner (stages.Over end) links = ⊤

-- the whole request was written
abbrev pub IsAsked : GrandLink → Type 0
IsAsked l = l.server.head.size ≤ length l.link.to_b.written

-- A dialer that is over writes nothing more. Any other has written the whole request on its last link.
abbrev pub HasAsked : Stage → List GrandLink → Type 0
HasAsked (stages.Resting until) links = OnLastIfAny IsAsked links
HasAsked (stages.Calling since) links = OnLastIfAny IsAsked links
HasAsked (stages.Shaking since s) links = OnLastIfAny IsAsked links
HasAsked stages.Attached links = OnLastIfAny IsAsked links
HasAsked (stages.Over end) links = ⊤

pub record ClientHolds (c : Client) : Type 0 where
  pub token : IsToken c.key.token
  pub kind : c.key.kind ≢ Tunnel
  pub settings : c.dialer.settings ≡ settings_for c.key
  -- all that it had to write is written
  pub pending : c.dialer.pending ≡ []
  pub links : LinksHold c.key c.links
  pub asked : HasAsked c.dialer.stage c.links
  pub reads : StageReads c.key c.dialer.stage c.links

-- ---- events of a dialer

-- an event that brings no link and no bytes
abbrev pub BringsNothing : DialEvent → Type 0
BringsNothing events.Tick = ⊤
BringsNothing events.Linked = ⊥
BringsNothing events.NoLink = ⊤
BringsNothing (events.Piece piece) = ⊥
BringsNothing events.Frame = ⊤
BringsNothing events.LinkLost = ⊤
BringsNothing events.Stop = ⊤

-- ---- a world

abbrev pub ClientsHold : List Client → Type 0
ClientsHold [] = ⊤
ClientsHold (c ∷ cs) = ClientHolds c × ClientsHold cs

abbrev pub WorldHolds : Grand → Type 0
WorldHolds w = ClientsHold w.clients
