-- A front of the bytes of frames: which frames it holds, and that its rest states no body above the limit.
use Rattle.std.proofs.Common.{◌≡◌, ◌⊎◌, inl, inr, ℕ, ◌+◌, ◌<◌, ◌≤◌, false, Option, Some, None, List, [], ◌∷◌, ◌++◌, length, refl, sym, ap, ◌∙◌, arith, append-nil}
use Rattle.ra_model.specs.declared.frame.Frame.{Frame}
use Rattle.ra_model.specs.Frames.{IsFrame, body_limit, frame_bytes, joined}
use Rattle.ra_model.specs.FirstFrame.{first_frame, is_too_long}
use Rattle.ra_model.specs.FrameKinds.{written_frame, control_frame}
use Rattle.ra_model.proofs.Cuts.{not_too_long}
use Rattle.ra_model.proofs.CuttingLemmas.{found_parts}
use Rattle.ra_model.proofs.Framing.{first_frame_at, first_frame-nil, first_of_joined}
use Rattle.ra_items.specs.Items.{frames_at}
use Rattle.ra_items.specs.Items.Item.{FrameItem}
use Rattle.ra_items.proofs.FrameItems.{frames_step, frames_partial}

-- ---- a front of two texts

-- It is shorter than the first, and a front of it.
pub record IsProperFront (text first : List ℕ) : Type 0 where
  pub below : length text < length first
  pub more : List ℕ
  pub whole : text ++ more ≡ first

-- Or it begins with the first, and goes on with a front of the second, which this tail makes whole.
pub record GoesPast (text first tail second : List ℕ) : Type 0 where
  pub rest : List ℕ
  pub begins : text ≡ first ++ rest
  pub front : rest ++ tail ≡ second

heads_equal : (x y : ℕ) (xs ys : List ℕ) → x ∷ xs ≡ y ∷ ys → x ≡ y
heads_equal x y xs ys same = cc

tails_equal : (x y : ℕ) (xs ys : List ℕ) → x ∷ xs ≡ y ∷ ys → xs ≡ ys
tails_equal x y xs ys same = cc

one_on : (x y : ℕ) (text first tail second : List ℕ) → x ≡ y → IsProperFront text first ⊎ GoesPast text first tail second → IsProperFront (x ∷ text) (y ∷ first) ⊎ GoesPast (x ∷ text) (y ∷ first) tail second
one_on x y text first tail second same (inl short) = inl (record { below = omega (arith, short.below); more = short.more; whole = λ i. same i ∷ short.whole i })
one_on x y text first tail second same (inr goes) = inr (record { rest = goes.rest; begins = λ i. same i ∷ goes.begins i; front = goes.front })

pub front_of_two : (text tail first second : List ℕ) → text ++ tail ≡ first ++ second → IsProperFront text first ⊎ GoesPast text first tail second
front_of_two text tail [] second same = inr (record { rest = text; begins = refl; front = same })
front_of_two [] tail (y ∷ first) second same = inl (record { below = omega arith; more = y ∷ first; whole = refl })
front_of_two (x ∷ text) tail (y ∷ first) second same =
    one_on x y text first tail second (heads_equal x y (text ++ tail) (first ++ second) same)
    (front_of_two text tail first second (tails_equal x y (text ++ tail) (first ++ second) same))

-- a front of one text that is not shorter is the whole text
pub whole_or_short : (text tail whole : List ℕ) → text ++ tail ≡ whole → IsProperFront text whole ⊎ (text ≡ whole)
whole_or_short [] [] whole same = inr same
whole_or_short [] (y ∷ tail) whole same = inl (record { below = omega (arith, ap length same); more = y ∷ tail; whole = same })
whole_or_short (x ∷ text) tail [] same = absurd cc
whole_or_short (x ∷ text) tail (y ∷ whole) same = more_whole (whole_or_short text tail whole (tails_equal x y (text ++ tail) whole same))
  where
    more_whole : IsProperFront text whole ⊎ (text ≡ whole) → IsProperFront (x ∷ text) (y ∷ whole) ⊎ (x ∷ text ≡ y ∷ whole)
    more_whole (inl short) = inl (record { below = omega (arith, short.below); more = short.more; whole = λ i. heads_equal x y (text ++ tail) whole same i ∷ short.whole i })
    more_whole (inr is) = inr (λ i. heads_equal x y (text ++ tail) whole same i ∷ is i)

-- ---- a front of one frame

one_joined : (f : Frame) (text more : List ℕ) → text ++ more ≡ frame_bytes f → text ++ more ≡ joined (f ∷ [])
one_joined f text more whole = whole ∙ sym (append-nil (frame_bytes f))

first_equal : (f g : Frame) (fs gs : List Frame) → f ∷ fs ≡ g ∷ gs → f ≡ g
first_equal f g fs gs same = cc

none_by : (f : Frame) (text : List ℕ) (found : Option (Frame × List ℕ)) → first_frame text ≡ found → IsFrame f → IsProperFront text (frame_bytes f) → first_frame text ≡ None
none_by f text None is fits short = is
none_by f text (Some found) is fits short =
    let parts = first_of_joined (f ∷ []) (fits, tt) text short.more found.0 found.1 is (one_joined f text short.more short.whole) in
    let same : length (frame_bytes f) ≡ length (frame_bytes found.0) = ap (λ (g : Frame). length (frame_bytes g)) (first_equal f found.0 [] parts.0 parts.1) in
    absurd (omega (arith, same, (found_parts text found.0 found.1 is).0, short.below))

-- no frame begins a front that is shorter than the frame
pub short_none : (f : Frame) (text : List ℕ) → IsFrame f → IsProperFront text (frame_bytes f) → first_frame text ≡ None
short_none f text fits short = none_by f text (first_frame text) refl fits short

-- and its header, where it is there, states no body above the limit
pub front_within : (f : Frame) (text more : List ℕ) → IsFrame f → text ++ more ≡ frame_bytes f → is_too_long text ≡ false
front_within f text more fits whole = not_too_long (f ∷ []) (fits, tt) text more (one_joined f text more whole)

-- ---- as items

pub short_items : {A E : Type 0} (at : ℕ) (f : Frame) (text : List ℕ) → IsFrame f → IsProperFront text (frame_bytes f) → frames_at {A = A} {E = E} at text ≡ []
short_items at f text fits short = frames_partial at text (short_none f text fits short) (front_within f text short.more fits short.whole)

pub nothing_items : {A E : Type 0} (at : ℕ) → frames_at {A = A} {E = E} at [] ≡ []
unfolding is_too_long
nothing_items at = frames_partial at [] first_frame-nil refl

pub frame_items : {A E : Type 0} (at : ℕ) (f : Frame) (rest : List ℕ) → IsFrame f
    → frames_at {A = A} {E = E} at (frame_bytes f ++ rest) ≡ record { item = FrameItem f; place = at + length (frame_bytes f) } ∷ frames_at (at + length (frame_bytes f)) rest
frame_items at f rest fits = frames_step at (frame_bytes f ++ rest) f rest (first_frame_at f rest fits)

-- ---- the frames of a handshake

pub control_fits : (body : List ℕ) → length body ≤ body_limit → IsFrame (control_frame body)
unfolding written_frame
control_fits body small = record { kind = omega arith; id = omega arith; ack = omega arith; body = small }
