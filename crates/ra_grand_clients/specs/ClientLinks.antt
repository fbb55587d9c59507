-- One link of a client in memory, and what a change of it stands for.
use Rattle.std.specs.Prelude.{◌≡◌, ℕ, suc, ◌≤◌, Option, Some, None, List, [], length, is_none, slice_get, slice_set}
use Rattle.ra_base.specs.declared.event.Side.{Side}
use Rattle.ra_base.specs.declared.event.Side.TheVariants.{A, B}
use Rattle.ra_model.specs.Links.{Link, readable, read_on, written_to}
use Rattle.ra_grand_clients.specs.ClientStates.{ClientState, StandsForClient, Holds, ReadsAnswer}
use Rattle.ra_grand_clients.specs.Crowds.{ClientsStand}
use Rattle.ra_grand_runs.specs.GrandClients.{GrandLink, Client}
use Rattle.ra_grand_runs.specs.Grands.{with_link}
use Rattle.ra_grand_runs.specs.GrandRuns.{takes}

-- ---- one client

-- The link at this place is changed so. The server's end of it may become any.
abbrev pub LinkTurns : ℕ → (Link → Link) → ClientState → ClientState → Type 0
LinkTurns k change old new =
    (c : Client) (l m : GrandLink) → StandsForClient old c → slice_get c.links k ≡ Some l → m.link ≡ change l.link → StandsForClient new (with_link (suc k) m c)

-- Bytes of the link at this place are read by a client that has nothing to write: the dialer takes them, where it is the last one.
abbrev pub TakesDown : ℕ → List ℕ → ℕ → ClientState → ClientState → Type 0
TakesDown k bytes now old new =
    (c : Client) (l : GrandLink) → Holds old c → StandsForClient old c → ReadsAnswer c → slice_get c.links k ≡ Some l
    → StandsForClient new (takes (is_none (slice_get c.links (suc k))) bytes now (with_link (suc k) (record l { link = read_on A (length bytes) l.link }) c))

-- ---- all clients

abbrev pub links_at : Option ClientState → List Link
links_at None = []
links_at (Some h) = h.links

-- the link at this place, of the client at that one
abbrev pub link_at : ℕ → ℕ → List ClientState → Option Link
link_at n k hs = slice_get (links_at (slice_get hs n)) k

-- it is there, and a side can read so many bytes on it
pub record HasUnread (n k : ℕ) (side : Side) (count : ℕ) (hs : List ClientState) : Type 0 where
  pub link : Link
  pub is : link_at n k hs ≡ Some link
  pub within : count ≤ length (readable side link)

abbrev pub HasLink : ℕ → ℕ → List ClientState → Type 0
HasLink n k hs = (l : Link) × (link_at n k hs ≡ Some l)

abbrev pub LinkTurnsAt : ℕ → ℕ → (Link → Link) → List ClientState → List ClientState → Type 0
LinkTurnsAt n k change old new =
    (cs : List Client) (c : Client) (l m : GrandLink) → ClientsStand old cs → slice_get cs n ≡ Some c → slice_get c.links k ≡ Some l → m.link ≡ change l.link
    → ClientsStand new (slice_set cs n (with_link (suc k) m c))

-- nothing is left of the client at this place to be put on its link
abbrev pub IsFlushedAt : ℕ → List ClientState → List ClientState → Type 0
IsFlushedAt n old new = (cs : List Client) (c : Client) → ClientsStand old cs → slice_get cs n ≡ Some c → (h : ClientState) × (slice_get new n ≡ Some h) × Holds h c × (h.held ≡ [])

abbrev pub TakesDownAt : ℕ → ℕ → List ℕ → ℕ → List ClientState → List ClientState → Type 0
TakesDownAt n k bytes now old new =
    (cs : List Client) (c : Client) (l : GrandLink) (h : ClientState) → ClientsStand old cs → slice_get cs n ≡ Some c → slice_get old n ≡ Some h → Holds h c → ReadsAnswer c
    → slice_get c.links k ≡ Some l
    → ClientsStand new (slice_set cs n (takes (is_none (slice_get c.links (suc k))) bytes now (with_link (suc k) (record l { link = read_on A (length bytes) l.link }) c)))

-- ---- the bytes of a link

-- the server has read so many, and these are written to the client
abbrev pub exchanged : ℕ → List ℕ → Link → Link
exchanged n bytes link = written_to A bytes (read_on B n link)
