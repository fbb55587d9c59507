-- What a reader of frames has read, whatever pieces came.
use Rattle.std.specs.Prelude.{◌≡◌, ℕ, List, [], ◌∷◌, ◌++◌}
use Rattle.std.specs.List.{AllByRecursion}
use Rattle.ra_model.specs.declared.frame.Frame.{Frame}
use Rattle.ra_model.specs.Frames.{IsFrame, Begins, joined}

-- these bytes were fed, these frames were taken from the front, and this is unread
pub data HasRead : List ℕ → List Frame → List ℕ → Type 0 where
  new : HasRead [] [] []
  fed : {text : List ℕ} {frames : List Frame} {unread : List ℕ} (piece : List ℕ) → HasRead text frames unread → HasRead (text ++ piece) frames (unread ++ piece)
  taken : {text : List ℕ} {frames : List Frame} {unread rest : List ℕ} (f : Frame) → Begins unread f rest → HasRead text frames unread → HasRead text (frames ++ f ∷ []) rest

-- nothing is lost, doubled or moved
pub record IsKept (text : List ℕ) (frames : List Frame) (unread : List ℕ) : Type 0 where
  pub whole : text ≡ joined frames ++ unread
  pub each : AllByRecursion IsFrame frames
