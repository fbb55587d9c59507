-- What stands at the front of unread bytes.
use Rattle.std.specs.Prelude.{◌≡◌, ℕ, ◌≤◌, Bool, true, false, ◌&&◌, if◌then◌else◌, nat_le, nat_lt, List, length, drop, Option, Some, None, option_map}
use Rattle.ra_frame.specs.declared.front.Front.{Front}
use Rattle.ra_frame.specs.declared.front.FrameHead.{FrameHead}
use Rattle.ra_frame.specs.declared.front.Front.TheVariants.{Partial, TooLong, Whole}
use Rattle.ra_model.specs.Frames.{HoldsNoFrame, IsBytes, body_limit}
use Rattle.ra_model.specs.declared.frame.Frame.{Frame}
use Rattle.ra_model.specs.FirstFrame.{is_wide, header_len, stated, has_frame, is_too_long, first_frame}

-- no frame begins the text, and no header there states too long a body
pub record IsPartial (text : List ℕ) : Type 0 where
  pub holds_none : HoldsNoFrame text
  pub no_frame : first_frame text ≡ None
  pub not_too_long : is_too_long text ≡ false

-- a header that states n bytes, which are too many
pub record IsTooLong (text : List ℕ) (n : ℕ) : Type 0 where
  pub too_long : is_too_long text ≡ true
  pub stated : stated text ≡ n

-- a header that states n bytes, and these
pub record IsWhole (text : List ℕ) (n : ℕ) : Type 0 where
  pub frame : has_frame (is_wide text) n text ≡ true
  pub stated : stated text ≡ n
  pub bytes : IsBytes text

-- the header of the first frame
abbrev pub head_of : List ℕ → Option FrameHead
head_of text = option_map (λ p. record { kind = p.0.kind; wide = p.0.wide; id = p.0.id; ack = p.0.ack }) (first_frame text)

abbrev pub IsFront : List ℕ → Front → Type 0
IsFront text Partial = IsPartial text
IsFront text (TooLong n) = IsTooLong text n
IsFront text (Whole n) = IsWhole text n

-- the length of the body that the header at the front states, where the header is whole
abbrev pub stated_ahead : List ℕ → Option ℕ
stated_ahead text = if nat_le (header_len (is_wide text)) (length text) then Some (stated text) else None

-- a body longer than this limit, and within that of a frame
abbrev pub is_above : ℕ → Option ℕ → Bool
is_above limit None = false
is_above limit (Some n) = nat_lt limit n && nat_le n body_limit

-- the header at the front states such a body
abbrev pub states_above : ℕ → List ℕ → Bool
states_above limit text = is_above limit (stated_ahead text)

-- the text begins with a frame of this type, which has so many bytes
pub record HasFrame (text : List ℕ) (kind size : ℕ) : Type 0 where
  pub frame : Frame
  pub first : first_frame text ≡ Some (frame, drop size text)
  pub kind_is : frame.kind ≡ kind
  pub within : size ≤ length text

-- the type and the length of the frame that begins the text
abbrev pub IsAhead : List ℕ → Option (ℕ × ℕ) → Type 0
IsAhead text None = first_frame text ≡ None
IsAhead text (Some ahead) = HasFrame text ahead.0 ahead.1
