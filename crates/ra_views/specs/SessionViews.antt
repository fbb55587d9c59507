-- Sessions as the two ends of a view.
use Rattle.std.specs.Prelude.{ℕ, Bool, List, []}
use Rattle.ra_base.specs.declared.event.Side.{Side}
use Rattle.ra_model.specs.declared.frame.Frame.{Frame}
use Rattle.ra_model.specs.Frames.{joined}
use Rattle.ra_model.specs.Links.{Link, direction_to, with_direction_to}
use Rattle.ra_model.specs.Pairs.{IsLater}
use Rattle.ra_model.specs.Views.{View}
use Rattle.ra_model.specs.Worlds.{Peer}
use Rattle.ra_session.specs.Sessions.{Session}

-- what holds wherever a session is the end at this side of a view
abbrev pub InEverySessionView : (ℕ → Side → ℕ → ℕ → Session → Peer → List Link → Type 0) → Type 0
InEverySessionView P = (start : ℕ) (side : Side) (i j : ℕ) (s : Session) (o : Peer) (links : List Link)
    → View start side i j s.peer o links → P start side i j s o links

-- what holds between two endpoints still holds when the session at this side is changed so
abbrev pub KeepsSessionViews : (Session → Session) → Type 0
KeepsSessionViews f = InEverySessionView (λ start side i j s o links. View start side i j (f s).peer o links)

-- it takes nothing back
abbrev pub SessionOnlyGrows : (Session → Session) → Type 0
SessionOnlyGrows f = (s : Session) → IsLater s.peer (f s).peer

-- a link on which nothing was read, and only these frames were written, to this side
abbrev pub link_with : Side → List Frame → Bool → Link
link_with to frames is_cut = with_direction_to to (record { written = joined frames; read = 0 })
    (record { to_a = record { written = []; read = 0 }; to_b = record { written = []; read = 0 }; is_cut = is_cut })

-- what was written on a link to this side is this text
abbrev pub with_text : Side → List ℕ → Link → Link
with_text to text l = with_direction_to to (record { written = text; read = (direction_to to l).read }) l
