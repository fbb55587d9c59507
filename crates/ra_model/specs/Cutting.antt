-- The frames that are read from a text one after the other, and the rest in which no further one is found.
-- `IsCut` says what the cut of a text is. These compute it.
use Rattle.std.specs.Prelude.{◌≡◌, ℕ, zero, suc, ◌+◌, false, Option, Some, None, List, [], ◌∷◌, length}
use Rattle.ra_model.specs.declared.frame.Frame.{Frame}
use Rattle.ra_model.specs.Frames.{frame_bytes}
use Rattle.ra_model.specs.FirstFrame.{first_frame, is_too_long}

-- the frame that was found in a text and the cut of what follows it, or no frame and the text
abbrev pub cut_from : Option (Frame × List ℕ) → List ℕ → (List ℕ → List Frame × List ℕ) → List Frame × List ℕ
cut_from None text cut = ([], text)
cut_from (Some found) text cut = (found.0 ∷ (cut found.1).0, (cut found.1).1)

-- the first n frames of a text, or all where there are fewer, and what follows them
unfoldable pub cut_within : ℕ → List ℕ → List Frame × List ℕ
cut_within zero text = ([], text)
cut_within (suc n) text = cut_from (first_frame text) text (cut_within n)

-- all frames of a text: there are fewer than bytes
unfoldable pub frames_of : List ℕ → List Frame
frames_of text = (cut_within (length text) text).0

unfoldable pub rest_of : List ℕ → List ℕ
rest_of text = (cut_within (length text) text).1

-- the place behind each of these frames, where they stand one after the other from this place on
abbrev pub places_behind : ℕ → List Frame → List ℕ
places_behind at [] = []
places_behind at (f ∷ fs) = (at + length (frame_bytes f)) ∷ places_behind (at + length (frame_bytes f)) fs

-- A reader has read these frames of a text, and this rest is unread: it read all frames of the text, and the header of the rest
-- states no body above the limit.
pub record IsCarry (text : List ℕ) (frames : List Frame) (rest : List ℕ) : Type 0 where
  pub frames_are : frames_of text ≡ frames
  pub rest_is : rest_of text ≡ rest
  pub within : is_too_long rest ≡ false
