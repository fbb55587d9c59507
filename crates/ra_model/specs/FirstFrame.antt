-- The frame that begins a text, and a header that states too long a body, as functions of the text.
use Rattle.std.specs.Prelude.{ℕ, ◌+◌, ◌-◌, Bool, ◌&&◌, if◌then◌else◌, nat_le, nat_lt, Option, Some, None, List, length, take, drop, slice_index}
use Rattle.std.specs.Int.{Width, w32, byte_len, from_be_bytes}
use Rattle.ra_model.specs.declared.frame.Frame.{Frame}
use Rattle.ra_model.specs.Frames.{number_width, wide_mark, body_limit}

-- the text begins with a wide header
abbrev pub is_wide : List ℕ → Bool
is_wide text = nat_le 128 (slice_index text 0)

abbrev pub header_len : Bool → ℕ
header_len wide = if wide then 21 else 13

-- where the ack stands, and the length of the body
abbrev pub ack_place : Bool → ℕ
ack_place wide = if wide then 9 else 5

abbrev pub len_place : Bool → ℕ
len_place wide = if wide then 17 else 9

-- the number of this width at this place of the text
unfoldable pub number_at : Width → ℕ → List ℕ → ℕ
number_at width place text = from_be_bytes width (take (byte_len width) (drop place text))

-- the length of the body that the header states
abbrev pub stated : List ℕ → ℕ
stated text = number_at w32 (len_place (is_wide text)) text

-- the header is there, and states a body above the limit
unfoldable pub is_too_long : List ℕ → Bool
is_too_long text = nat_le (header_len (is_wide text)) (length text) && nat_lt body_limit (stated text)

-- a header of this width is there, and a body of n bytes, which is within the limit
unfoldable pub has_frame : Bool → ℕ → List ℕ → Bool
has_frame wide n text =
    nat_le (header_len wide) (length text) && (nat_le n body_limit && nat_le (header_len wide + n) (length text))

-- that frame, and what follows it
unfoldable pub split_frame : Bool → ℕ → List ℕ → Frame × List ℕ
split_frame wide n text = (
  record {
    kind = slice_index text 0 - wide_mark wide;
    wide = wide;
    id = number_at (number_width wide) 1 text;
    ack = number_at (number_width wide) (ack_place wide) text;
    body = take n (drop (header_len wide) text);
  },
  drop (header_len wide + n) text,
)

-- the frame that begins the text, and what follows it
unfoldable pub first_frame : List ℕ → Option (Frame × List ℕ)
first_frame text =
    let wide = is_wide text in
    if has_frame wide (stated text) text then Some (split_frame wide (stated text) text) else None
