-- What holds between two endpoints and their links at every moment of every run, seen from one of them.
-- Each endpoint has the number of its present link, or of its last one, and 0 before the first. It need not be the endpoint's epoch.
use Rattle.std.specs.Prelude.{◌≡◌, ℕ, ◌+◌, ◌<◌, ◌≤◌, Bool, true, false, Some, List, [], ◌++◌, length, map, take}
use Rattle.std.specs.List.{AllByRecursion}
use Rattle.ra_model.specs.declared.frame.Frame.{Frame}
use Rattle.ra_model.specs.declared.session.Phase.TheVariants.{Away}
use Rattle.ra_model.specs.Frames.{IsFrame, joined, body_limit, last_id}
use Rattle.ra_model.specs.Endpoints.{Endpoint, SaidMessage, is_linked, shown, new_endpoint}
use Rattle.ra_base.specs.declared.event.Side.{Side}
use Rattle.ra_model.specs.Links.{Link, other, direction_to, at_number}
use Rattle.ra_model.specs.Calls.{lose, wrote}
use Rattle.ra_model.specs.Worlds.{Peer, World, with_endpoint, peer}
use Rattle.ra_model.specs.Pairs.{body_of, messages, IsPrefixOf, IsJoining, IsFront, IsLater}

-- a message may be written again: its ack is no more than was received, and its body fits a frame
pub record IsStored (received : ℕ) (m : SaidMessage) : Type 0 where
  pub ack : m.ack ≤ received
  pub body : length m.body ≤ body_limit

-- What an endpoint has said, and written to this side of each link. `linked` says that it has a link.
pub record HasWritten (to : Side) (base : ℕ) (said : List SaidMessage) (received number : ℕ) (linked : Bool) (unwritten : List ℕ) (links : List Link) : Type 0 where
  pub count : base + length said ≤ last_id
  pub ids : received ≤ last_id
  pub there : number ≤ length links
  pub stored : AllByRecursion (IsStored received) said
  -- each text that was written is a front of honest frames
  pub texts : (n : ℕ) (l : Link) → at_number links n ≡ Some l → IsFront base (map body_of said) received (direction_to to l).written
  -- so is the text of the present link with what is to be written on it
  pub front : (l : Link) → at_number links number ≡ Some l → l.is_cut ≡ false → IsFront base (map body_of said) received ((direction_to to l).written ++ unwritten)
  -- and it is whole while the link is kept
  pub whole : (l : Link) → at_number links number ≡ Some l → l.is_cut ≡ false → linked ≡ true → IsJoining base (map body_of said) received ((direction_to to l).written ++ unwritten)
  -- on later links too only whole honest frames were written
  pub fresh : (n : ℕ) (l : Link) → at_number links n ≡ Some l → number < n → IsJoining base (map body_of said) received (direction_to to l).written

-- What an endpoint has read on this side of each link, and the frames that it applied on its present link.
pub record HasRead (to : Side) (number : ℕ) (linked : Bool) (unread : List ℕ) (applied : List Frame) (links : List Link) : Type 0 where
  pub inside : (n : ℕ) (l : Link) → at_number links n ≡ Some l → (direction_to to l).read ≤ length (direction_to to l).written
  -- of later links nothing was read
  pub fresh : (n : ℕ) (l : Link) → at_number links n ≡ Some l → number < n → (direction_to to l).read ≡ 0
  pub frames : AllByRecursion IsFrame applied
  pub there : linked ≡ true → (l : Link) × (at_number links number ≡ Some l)
  -- what was read of the present link is the frames that were applied, and what is unread
  pub carry : (l : Link) → at_number links number ≡ Some l → linked ≡ true → take (direction_to to l).read (direction_to to l).written ≡ joined applied ++ unread

-- the same of an endpoint
abbrev pub EndpointWrote : Side → ℕ → Endpoint → List Link → Type 0
EndpointWrote to number e links = HasWritten to e.base e.said e.received number (is_linked e.phase) e.unwritten links

abbrev pub EndpointRead : Side → ℕ → Endpoint → List Frame → List Link → Type 0
EndpointRead to number e applied links = HasRead to number (is_linked e.phase) e.unread applied links

-- an endpoint that is Away has nothing unread and nothing unwritten
pub record IsEmptyAway (e : Endpoint) : Type 0 where
  pub unread : e.phase ≡ Away → e.unread ≡ []
  pub unwritten : e.phase ≡ Away → e.unwritten ≡ []

-- what one endpoint heard is the beginning of what the other said, and of that no more is acknowledged
pub record Agrees (base : ℕ) (said : List (List ℕ)) (acknowledged : ℕ) (heard : List (List ℕ)) (received : ℕ) : Type 0 where
  pub prefix : IsPrefixOf heard said
  pub count : received ≡ base + length heard
  pub acked : acknowledged ≤ base + length heard
  pub low : base ≤ acknowledged

-- Two endpoints of one base, from the one at this side. Its present link has the first number, and that of its peer the second.
pub record View (start : ℕ) (s : Side) (i j : ℕ) (p o : Peer) (links : List Link) : Type 0 where
  pub base : p.endpoint.base ≡ start
  pub their_base : o.endpoint.base ≡ start
  pub mine : EndpointWrote (other s) i p.endpoint links
  pub reads : EndpointRead s i p.endpoint p.applied links
  pub theirs : EndpointWrote s j o.endpoint links
  pub their_reads : EndpointRead (other s) j o.endpoint o.applied links
  pub out : Agrees start (messages p.endpoint) p.endpoint.acknowledged o.heard o.endpoint.received
  pub back : Agrees start (messages o.endpoint) o.endpoint.acknowledged p.heard p.endpoint.received
  pub away : IsEmptyAway p.endpoint
  pub their_away : IsEmptyAway o.endpoint

-- a peer that begins: it has no link, and said and heard nothing
abbrev pub new_peer : ℕ → ℕ → Bool → Peer
new_peer base now keeps_alive = record { endpoint = new_endpoint base now keeps_alive; heard = []; applied = [] }

-- the view of a world from a side: there the epoch of an endpoint is the number of its link
abbrev pub WorldView : ℕ → Side → World → Type 0
WorldView base s w = View base s (peer s w).endpoint.epoch (peer (other s) w).endpoint.epoch (peer s w) (peer (other s) w) w.links

-- what holds wherever there is a view
abbrev pub InEveryView : (ℕ → Side → ℕ → ℕ → Peer → Peer → List Link → Type 0) → Type 0
InEveryView P = (start : ℕ) (s : Side) (i j : ℕ) (p o : Peer) (links : List Link) → View start s i j p o links → P start s i j p o links

-- Moves

-- the peer once its endpoint has made this call
abbrev pub called : (Endpoint → Endpoint) → Peer → Peer
called call p = with_endpoint (call p.endpoint) p

-- what holds between two endpoints still holds when the one at this side is changed so
abbrev pub KeepsViews : (Peer → Peer) → Type 0
KeepsViews f = InEveryView (λ start s i j p o links. View start s i j (f p) o links)

-- it takes nothing back
abbrev pub OnlyGrows : (Peer → Peer) → Type 0
OnlyGrows f = (p : Peer) → IsLater p (f p)

-- An event that is cut short: of all that was to be written only a front was, the rest is gone, and then the link is lost.
abbrev pub broken_off : Endpoint → Endpoint
broken_off e = lose e.epoch (wrote (length (shown e)) e)
