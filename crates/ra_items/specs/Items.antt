-- The items of the text that comes on a link: its head, and then its frames. A refused head is the last item, and so is a header that
-- states too long a body. Nothing is said here of pieces, or of what a reader keeps of them.
use Rattle.std.specs.Prelude.{ℕ, ◌+◌, Bool, true, false, Option, Some, None, List, [], ◌∷◌, ◌++◌, length, drop, Result, Ok, Err}
use Rattle.ra_model.specs.declared.frame.Frame.{Frame}
use Rattle.ra_model.specs.Frames.{frame_bytes, joined}
use Rattle.ra_model.specs.FirstFrame.{is_too_long, stated}
use Rattle.ra_model.specs.Cutting.{frames_of, rest_of}
use Rattle.ra_items.specs.Heads.{Head, answered}

pub data Item (A E : Type 0) : Type 0 where
  HeadItem : Result A E → Item A E
  FrameItem : Frame → Item A E
  TooLong : ℕ → Item A E

-- an item, and how much of the text is read with it: it ends there, or stands there where it is refused or too long
pub record Placed (A E : Type 0) : Type 0 where
  pub item : Item A E
  pub place : ℕ

-- these frames, where they stand one after the other from a place on
abbrev pub placed_frames : {A E : Type 0} → ℕ → List Frame → List (Placed A E)
placed_frames at [] = []
placed_frames at (f ∷ fs) =
    record { item = FrameItem f; place = at + length (frame_bytes f) } ∷ placed_frames (at + length (frame_bytes f)) fs

-- a header that states too long a body
abbrev pub long_item : {A E : Type 0} → Bool → ℕ → ℕ → List (Placed A E)
long_item true n at = record { item = TooLong n; place = at } ∷ []
long_item false n at = []

-- the frames of a text that stands at a place
unfoldable pub frames_at : {A E : Type 0} → ℕ → List ℕ → List (Placed A E)
frames_at at text =
    placed_frames at (frames_of text) ++ long_item (is_too_long (rest_of text)) (stated (rest_of text)) (at + length (joined (frames_of text)))

-- what follows from the answer to the whole text
abbrev pub items_by : {A E : Type 0} → Result (Option (A × ℕ)) E → List ℕ → List (Placed A E)
items_by (Ok None) text = []
items_by (Ok (Some found)) text = record { item = HeadItem (Ok found.0); place = found.1 } ∷ frames_at found.1 (drop found.1 text)
items_by (Err fault) text = record { item = HeadItem (Err fault); place = 0 } ∷ []

unfoldable pub items : {A E : Type 0} → Head A E → List ℕ → List (Placed A E)
items head text = items_by (answered head (length text)) text

-- the items that are whole by the end of a piece, and were not before it
unfoldable pub fresh_items : {A E : Type 0} → Head A E → List ℕ → List ℕ → List (Placed A E)
fresh_items head before piece = drop (length (items head before)) (items head (before ++ piece))
