-- What is read as a frame was written as that frame.
use Rattle.std.proofs.Common.{◌≡◌, ℕ, ◌+◌, ◌-◌, ◌<◌, ◌≤◌, Bool, true, false, cond, Some, List, ◌∷◌, ◌++◌, length, take, drop, get_or, refl, ap, sym, ◌∙◌, subst, arith, inl, inr}
use Rattle.std.proofs.lemmas.Bool.{leb-true, leb-false, and_parts, cases_lt}
use Rattle.std.proofs.lemmas.Option.{cond_some}
use Rattle.std.proofs.lemmas.List.{length-drop, length-take, drop-drop, take-append-drop, get_or-take, get_or-drop, get_or_past, drop_more}
use Rattle.std.proofs.lemmas.Nat.{be_bytes_4, be_bytes_8}
use Rattle.std.specs.Int.{w32, w64, byte_len, to_be_bytes}
use Rattle.std.specs.Prelude.{nat_le}
use Rattle.ra_model.specs.Frames.{IsBytes, Begins, number_width, number_bound, wide_mark, body_limit}
use Rattle.ra_model.specs.FirstFrame.{first_frame, split_frame, has_frame, is_wide, header_len, number_at, stated}
use Rattle.ra_model.specs.declared.frame.Frame.{Frame}
use Rattle.ra_model.proofs.Framing.{first_frame_at, text_of, bytes_by_field}

bytes_drop : (n : ℕ) (b : List ℕ) → IsBytes b → IsBytes (drop n b)
bytes_drop n b h i = rw get_or-drop (h (n + i))

bytes_take : (n : ℕ) (b : List ℕ) → IsBytes b → IsBytes (take n b)
bytes_take n b h i =
    elim (cases_lt i n) [
      | inl lt ↦ rw (get_or-take n b i 0 lt) (h i)
      | inr le ↦ rw (get_or_past (take n b) i 0 (omega (arith, length-take n b))) (omega arith)
    ]

-- the bytes at a place spell their number
number_spelled : (wide : Bool) (place : ℕ) (text : List ℕ) → IsBytes text → place + byte_len (number_width wide) ≤ length text
    → to_be_bytes (number_width wide) (number_at (number_width wide) place text) ≡ take (byte_len (number_width wide)) (drop place text)
unfolding number_at
number_spelled true place text fits there =
    be_bytes_8 (take 8 (drop place text)) (number_at w64 place text) (omega (arith, length-take 8 (drop place text), length-drop place text)) (bytes_take 8 (drop place text) (bytes_drop place text fits)) refl
number_spelled false place text fits there =
    be_bytes_4 (take 4 (drop place text)) (number_at w32 place text) (omega (arith, length-take 4 (drop place text), length-drop place text)) (bytes_take 4 (drop place text) (bytes_drop place text fits)) refl

number_below : (wide : Bool) (place : ℕ) (text : List ℕ) → IsBytes text → number_at (number_width wide) place text < number_bound wide
unfolding number_at
number_below true place text fits =
    let b = bytes_take 8 (drop place text) (bytes_drop place text fits) in omega (arith, b 0, b 1, b 2, b 3, b 4, b 5, b 6, b 7)
number_below false place text fits =
    let b = bytes_take 4 (drop place text) (bytes_drop place text fits) in omega (arith, b 0, b 1, b 2, b 3)

-- a part of the text, and what is behind it
part : (text : List ℕ) (place n : ℕ) → drop place text ≡ take n (drop place text) ++ drop (place + n) text
part text place n = sym (take-append-drop n (drop place text)) ∙ ap (λ (t : List ℕ). take n (drop place text) ++ t) (drop-drop n place text)

-- the text, field by field
fields : (wide : Bool) (n : ℕ) (text : List ℕ) → header_len wide ≤ length text
    → text ≡ get_or text 0 0 ∷ (take (byte_len (number_width wide)) (drop 1 text) ++ (take (byte_len (number_width wide)) (drop (cond wide 9 5) text)
    ++ (take 4 (drop (cond wide 17 9) text) ++ (take n (drop (header_len wide) text) ++ drop (header_len wide + n) text))))
fields true n text there =
    drop_more text 0 0 (omega arith)
    ∙ ap (λ (t : List ℕ). get_or text 0 0 ∷ t) (part text 1 8
    ∙ ap (λ (t : List ℕ). take 8 (drop 1 text) ++ t) (part text 9 8
    ∙ ap (λ (t : List ℕ). take 8 (drop 9 text) ++ t) (part text 17 4
    ∙ ap (λ (t : List ℕ). take 4 (drop 17 text) ++ t) (part text 21 n))))
fields false n text there =
    drop_more text 0 0 (omega arith)
    ∙ ap (λ (t : List ℕ). get_or text 0 0 ∷ t) (part text 1 4
    ∙ ap (λ (t : List ℕ). take 4 (drop 1 text) ++ t) (part text 5 4
    ∙ ap (λ (t : List ℕ). take 4 (drop 5 text) ++ t) (part text 9 4
    ∙ ap (λ (t : List ℕ). take 4 (drop 9 text) ++ t) (part text 13 n))))

-- the first byte, by its type
first_byte : (wide : Bool) (b : ℕ) → nat_le 128 b ≡ wide → (b - wide_mark wide) + wide_mark wide ≡ b
first_byte true b is = let high : 128 ≤ b = leb-true 128 b is in omega arith
first_byte false b is = omega arith

type_below : (wide : Bool) (b : ℕ) → b < 256 → nat_le 128 b ≡ wide → b - wide_mark wide < 128
type_below true b fits is = omega arith
type_below false b fits is = let low : b < 128 = leb-false 128 b is in omega arith

places : (wide : Bool) (text : List ℕ) → header_len wide ≤ length text
    → (1 + byte_len (number_width wide) ≤ length text) × (cond wide 9 5 + byte_len (number_width wide) ≤ length text) × (cond wide 17 9 + 4 ≤ length text)
places true text there = (omega arith, omega arith, omega arith)
places false text there = (omega arith, omega arith, omega arith)

spelled : (a b : ℕ) (id id' ack ack' len len' tail : List ℕ) → a ≡ b → id ≡ id' → ack ≡ ack' → len ≡ len' → text_of a id ack len tail ≡ b ∷ (id' ++ (ack' ++ (len' ++ tail)))
unfolding text_of
spelled a b id id' ack ack' len len' tail p q r t = λ i. p i ∷ (q i ++ (r i ++ (t i ++ tail)))

-- a text with a whole frame at its front begins with that frame
split_begins : (wide : Bool) (n : ℕ) (text : List ℕ) → IsBytes text → is_wide text ≡ wide → number_at w32 (cond wide 17 9) text ≡ n → n ≤ body_limit → header_len wide + n ≤ length text
    → Begins text (split_frame wide n text).0 (split_frame wide n text).1
unfolding split_frame
split_begins wide n text fits is stated small whole =
    let f : Frame = (split_frame wide n text).0 in
    let rest : List ℕ = (split_frame wide n text).1 in
    let header : header_len wide ≤ length text = omega arith in
    let at = places wide text header in
    let len : length f.body ≡ n = omega (arith, length-take n (drop (header_len wide) text), length-drop (header_len wide) text) in
    let id : to_be_bytes (number_width wide) f.id ≡ take (byte_len (number_width wide)) (drop 1 text) = number_spelled wide 1 text fits at.0 in
    let ack : to_be_bytes (number_width wide) f.ack ≡ take (byte_len (number_width wide)) (drop (cond wide 9 5) text) = number_spelled wide (cond wide 9 5) text fits at.1 in
    let size : to_be_bytes w32 (length f.body) ≡ take 4 (drop (cond wide 17 9) text) =
    ap (to_be_bytes w32) (len ∙ sym stated) ∙ number_spelled false (cond wide 17 9) text fits at.2 in
    record {
      fits = record { kind = type_below wide (get_or text 0 0) (fits 0) is; id = number_below wide 1 text fits; ack = number_below wide (cond wide 9 5) text fits; body = omega arith };
      whole = fields wide n text header ∙ sym (bytes_by_field f rest ∙ spelled (f.kind + wide_mark wide) (get_or text 0 0) _ _ _ _ _ _ (f.body ++ rest) (first_byte wide (get_or text 0 0) is) id ack size);
    }

-- a frame that is read begins the text
pub first_frame-some : (text : List ℕ) (f : Frame) (rest : List ℕ) → IsBytes text → first_frame text ≡ Some (f, rest) → Begins text f rest
unfolding first_frame has_frame
first_frame-some text f rest fits is =
    let two = cond_some _ _ _ is in
    let tests = and_parts _ _ two.0 in
    let inner = and_parts _ _ tests.1 in
    let found : Begins text (split_frame (is_wide text) (stated text) text).0 (split_frame (is_wide text) (stated text) text).1 =
    split_begins (is_wide text) (stated text) text fits refl refl (leb-true (stated text) body_limit inner.0) (leb-true (header_len (is_wide text) + stated text) (length text) inner.1) in
    subst (λ (p : Frame × List ℕ). Begins text p.0 p.1) two.1 found

-- and so no frame is read exactly where none begins it
pub first_frame-begins : (text : List ℕ) (f : Frame) (rest : List ℕ) → Begins text f rest → first_frame text ≡ Some (f, rest)
first_frame-begins text f rest h = ap first_frame h.whole ∙ first_frame_at f rest h.fits
