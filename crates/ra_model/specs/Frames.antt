-- The bytes of frames, and a text as frames. The numbers of a frame are big-endian.
--
--     bytes, in a wide frame   field
--     1      1                 the type, and 128 more in a wide frame
--     4      8                 id
--     4      8                 ack
--     4      4                 length of the body
--                              body
use Rattle.std.specs.Prelude.{◌≡◌, ℕ, ◌+◌, ◌^◌, ◌<◌, ◌≤◌, Bool, if◌then◌else◌, List, ◌∷◌, ◌++◌, length, slice_index, flat_map}
use Rattle.std.specs.List.{AllByRecursion}
use Rattle.std.specs.Int.{Width, w32, w64, to_be_bytes}
use Rattle.ra_model.specs.declared.frame.Frame.{Frame}

-- the most bytes of a body
abbrev pub body_limit : ℕ
body_limit = 268435456

-- no id follows this one
abbrev pub last_id : ℕ
last_id = 18446744073709551615

-- the width of the id and of the ack
abbrev pub number_width : Bool → Width
number_width wide = if wide then w64 else w32

-- the id and the ack are below this
abbrev pub number_bound : Bool → ℕ
number_bound wide = if wide then 2 ^ 64 else 2 ^ 32

-- each field fits its place, and the body its limit
pub record IsFrame (f : Frame) : Type 0 where
  pub kind : f.kind < 128
  pub id : f.id < number_bound f.wide
  pub ack : f.ack < number_bound f.wide
  pub body : length f.body ≤ body_limit

-- what a wide frame adds to its type
abbrev pub wide_mark : Bool → ℕ
wide_mark wide = if wide then 128 else 0

unfoldable pub frame_bytes : Frame → List ℕ
frame_bytes f =
    (f.kind + wide_mark f.wide)
    ∷ (to_be_bytes (number_width f.wide) f.id
    ++ (to_be_bytes (number_width f.wide) f.ack
    ++ (to_be_bytes w32 (length f.body) ++ f.body)))

-- the bytes of the frames, one after the other
abbrev pub joined : List Frame → List ℕ
joined frames = flat_map frame_bytes frames

-- each number is a byte
abbrev pub IsBytes : List ℕ → Type 0
IsBytes text = (i : ℕ) → slice_index text i < 2 ^ 8

-- the frame begins the text, and this follows
pub record Begins (text : List ℕ) (f : Frame) (rest : List ℕ) : Type 0 where
  pub fits : IsFrame f
  pub whole : text ≡ frame_bytes f ++ rest

-- no frame begins the text
abbrev pub HoldsNoFrame : List ℕ → Type 0
HoldsNoFrame text = (f : Frame) (more : List ℕ) → IsFrame f → text ≡ frame_bytes f ++ more → ⊥

-- the text is these frames, and a rest that holds none
pub record IsCut (text : List ℕ) (frames : List Frame) (rest : List ℕ) : Type 0 where
  pub whole : text ≡ joined frames ++ rest
  pub each : AllByRecursion IsFrame frames
  pub partial : HoldsNoFrame rest
