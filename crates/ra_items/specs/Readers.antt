-- A reader of the items of a text that comes in pieces: what it holds, and what it has read.
use Rattle.std.specs.Prelude.{◌≡◌, ℕ, ◌≤◌, Bool, true, false, if◌then◌else◌, List, [], ◌++◌, length, drop}
use Rattle.ra_items.specs.Heads.{Head}
use Rattle.ra_items.specs.Items.{Placed, frames_at, items}

-- whether the head was read, and the bytes that are unread
pub record Reader : Type 0 where
  pub behind_head : Bool
  pub unread : List ℕ

abbrev pub new_reader : Reader
new_reader = record { behind_head = false; unread = [] }

-- one piece more
abbrev pub fed : List ℕ → Reader → Reader
fed piece reader = record { behind_head = reader.behind_head; unread = reader.unread ++ piece }

-- the head is read, and has so many bytes
abbrev pub behind : ℕ → Reader → Reader
behind n reader = record { behind_head = true; unread = drop n reader.unread }

-- the items that are still to be read, where the unread bytes stand at a place of the text
abbrev pub items_ahead : {A E : Type 0} → Head A E → ℕ → Reader → List (Placed A E)
items_ahead head at reader = if reader.behind_head then frames_at at reader.unread else items head reader.unread

-- These items of the text were read, and its bytes from this place on are unread: the items of the text, however it goes on, are these
-- and those that are still to be read.
pub record HasRead {A E : Type 0} (head : Head A E) (text : List ℕ) (done : List (Placed A E)) (at : ℕ) (reader : Reader) : Type 0 where
  pub later : (more : List ℕ) → items head (text ++ more) ≡ done ++ items_ahead head at (fed more reader)
  pub within : at ≤ length text
  pub left : drop at text ≡ reader.unread
  pub start : reader.behind_head ≡ false → at ≡ 0
