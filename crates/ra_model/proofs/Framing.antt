-- What was written as frames is read as those frames.
use Rattle.std.proofs.Common.{◌≡◌, ℕ, ◌+◌, ◌-◌, ◌<◌, ◌≤◌, Bool, true, false, cond, nat_le, Option, Some, None, List, [], ◌∷◌, ◌++◌, length, take, drop, get_or, refl, ap, sym, ◌∙◌, subst, arith, append_assoc, length-append}
use Rattle.std.proofs.lemmas.Bool.{le-leb, lt-leb, leb-true, and_from, and_parts, cond-true}
use Rattle.std.proofs.lemmas.Option.{cond_some, none-some, some_pair_parts}
use Rattle.std.proofs.lemmas.List.{length-drop, get_or_append_left, take_at, drop_at, drop-drop, take-append-le, drop-append-le, append_cancel_right, append-nil}
use Rattle.std.proofs.lemmas.Nat.{from_be_bytes-to_be_bytes_4, from_be_bytes-to_be_bytes_8}
use Rattle.std.specs.Int.{Width, w32, w64, byte_len, to_be_bytes, from_be_bytes}
use Rattle.std.specs.List.{AllByRecursion}
use Rattle.ra_model.specs.Frames.{IsFrame, IsCut, frame_bytes, number_width, number_bound, wide_mark, body_limit, joined}
use Rattle.ra_model.specs.FirstFrame.{first_frame, split_frame, has_frame, is_wide, header_len, number_at, stated}
use Rattle.ra_model.specs.declared.frame.Frame.{Frame}

-- a number of a header, as its bytes
number_back : (wide : Bool) (n : ℕ) → n < number_bound wide → from_be_bytes (number_width wide) (to_be_bytes (number_width wide) n) ≡ n
number_back true n fits = from_be_bytes-to_be_bytes_8 n fits
number_back false n fits = from_be_bytes-to_be_bytes_4 n fits

length-to_be_bytes : (wide : Bool) (n : ℕ) → length (to_be_bytes (number_width wide) n) ≡ byte_len (number_width wide)
length-to_be_bytes true n = refl
length-to_be_bytes false n = refl

-- a text of a header and more
unfoldable pub text_of : ℕ → List ℕ → List ℕ → List ℕ → List ℕ → List ℕ
text_of first id ack len tail = first ∷ (id ++ (ack ++ (len ++ tail)))

-- the numbers of a header stand at their places
at_front : (w : Width) (first : ℕ) (id more : List ℕ) → length id ≡ byte_len w → number_at w 1 (first ∷ (id ++ more)) ≡ from_be_bytes w id
unfolding number_at
at_front w first id more is = ap (from_be_bytes w) (take_at id more (byte_len w) is)

at_place : (w : Width) (n : ℕ) (front here more : List ℕ) → length front ≡ n → length here ≡ byte_len w → number_at w n (front ++ (here ++ more)) ≡ from_be_bytes w here
unfolding number_at
at_place w n front here more place is =
    ap (λ (t : List ℕ). from_be_bytes w (take (byte_len w) t)) (drop_at front (here ++ more) n place)
    ∙ ap (from_be_bytes w) (take_at here more (byte_len w) is)

module _ (wide : Bool) (first : ℕ) (id ack len tail : List ℕ) (id_len : length id ≡ byte_len (number_width wide)) (ack_len : length ack ≡ byte_len (number_width wide)) (len_len : length len ≡ 4) where
  behind_id : length (first ∷ id) ≡ cond wide 9 5
  behind_id = elim wide as (λ w. length id ≡ byte_len (number_width w) → length (first ∷ id) ≡ cond w 9 5) [ true ↦ λ e. omega arith | false ↦ λ e. omega arith ] id_len

  behind_ack : length (first ∷ (id ++ ack)) ≡ cond wide 17 9
  behind_ack =
      let both : length (id ++ ack) ≡ length id + length ack = length-append id ack in
      elim wide as (λ w. length id ≡ byte_len (number_width w) → length ack ≡ byte_len (number_width w) → length (first ∷ (id ++ ack)) ≡ cond w 17 9) [ true ↦ λ e d. omega arith | false ↦ λ e d. omega arith ] id_len ack_len

  behind_len : length (first ∷ (id ++ (ack ++ len))) ≡ header_len wide
  behind_len =
      let both : length (id ++ (ack ++ len)) ≡ length id + (length ack + length len) = omega (arith, length-append id (ack ++ len), length-append ack len) in
      elim wide as (λ w. length id ≡ byte_len (number_width w) → length ack ≡ byte_len (number_width w) → length (first ∷ (id ++ (ack ++ len))) ≡ header_len w) [ true ↦ λ e d. omega arith | false ↦ λ e d. omega arith ] id_len ack_len

  grouped : text_of first id ack len tail ≡ (first ∷ (id ++ (ack ++ len))) ++ tail
  unfolding text_of
  grouped = ap (λ (t : List ℕ). first ∷ t) (sym (append_assoc id (ack ++ len) tail ∙ ap (λ (t : List ℕ). id ++ t) (append_assoc ack len tail)))

  id_there : number_at (number_width wide) 1 (text_of first id ack len tail) ≡ from_be_bytes (number_width wide) id
  unfolding text_of
  id_there = at_front (number_width wide) first id (ack ++ (len ++ tail)) id_len

  ack_there : number_at (number_width wide) (cond wide 9 5) (text_of first id ack len tail) ≡ from_be_bytes (number_width wide) ack
  unfolding text_of
  ack_there = at_place (number_width wide) (cond wide 9 5) (first ∷ id) ack (len ++ tail) behind_id ack_len

  len_there : number_at w32 (cond wide 17 9) (text_of first id ack len tail) ≡ from_be_bytes w32 len
  unfolding text_of
  len_there =
      ap (λ (t : List ℕ). number_at w32 (cond wide 17 9) (first ∷ t)) (sym (append_assoc id ack (len ++ tail)))
      ∙ at_place w32 (cond wide 17 9) (first ∷ (id ++ ack)) len tail behind_ack len_len

  tail_there : drop (header_len wide) (text_of first id ack len tail) ≡ tail
  tail_there = ap (λ (t : List ℕ). drop (header_len wide) t) grouped ∙ drop_at (first ∷ (id ++ (ack ++ len))) tail (header_len wide) behind_len

  header_there : length (text_of first id ack len tail) ≡ header_len wide + length tail
  header_there = ap length grouped ∙ length-append (first ∷ (id ++ (ack ++ len))) tail ∙ ap (λ (n : ℕ). n + length tail) behind_len

-- the frame at the front, for a header of this width that states this length
read : Bool → ℕ → List ℕ → Option (Frame × List ℕ)
read wide n text = cond (has_frame wide n text) (Some (split_frame wide n text)) None

made : ℕ → Bool → ℕ → ℕ → List ℕ → List ℕ → Frame × List ℕ
made kind wide id ack body rest = (record { kind = kind; wide = wide; id = id; ack = ack; body = body }, rest)

pub has_from : (wide : Bool) (n : ℕ) (text : List ℕ) → n ≤ body_limit → header_len wide + n ≤ length text → has_frame wide n text ≡ true
unfolding has_frame
has_from wide n text small whole =
    and_from _ _ (le-leb (header_len wide) (length text) (omega arith)) (and_from _ _ (le-leb n body_limit small) (le-leb (header_len wide + n) (length text) whole))

marked : (wide : Bool) (kind : ℕ) → kind < 128 → nat_le 128 (kind + wide_mark wide) ≡ wide
marked true kind small = le-leb 128 (kind + 128) (omega arith)
marked false kind small = lt-leb 128 (kind + 0) (omega arith)

unmarked : (wide : Bool) (kind : ℕ) → (kind + wide_mark wide) - wide_mark wide ≡ kind
unmarked true kind = omega arith
unmarked false kind = omega arith

-- the parts of a frame's bytes
id_bytes : Frame → List ℕ
id_bytes f = to_be_bytes (number_width f.wide) f.id

ack_bytes : Frame → List ℕ
ack_bytes f = to_be_bytes (number_width f.wide) f.ack

len_bytes : Frame → List ℕ
len_bytes f = to_be_bytes w32 (length f.body)

parts : Frame → List ℕ → List ℕ
parts f rest = text_of (f.kind + wide_mark f.wide) (id_bytes f) (ack_bytes f) (len_bytes f) (f.body ++ rest)

bytes_parts : (f : Frame) (rest : List ℕ) → frame_bytes f ++ rest ≡ parts f rest
unfolding frame_bytes text_of id_bytes ack_bytes len_bytes parts
bytes_parts f rest =
    ap (λ (t : List ℕ). (f.kind + wide_mark f.wide) ∷ t)
    (append_assoc (id_bytes f) (ack_bytes f ++ (len_bytes f ++ f.body)) rest
    ∙ ap (λ (t : List ℕ). id_bytes f ++ t)
    (append_assoc (ack_bytes f) (len_bytes f ++ f.body) rest
    ∙ ap (λ (t : List ℕ). ack_bytes f ++ t) (append_assoc (len_bytes f) f.body rest)))

-- the bytes of a frame, field by field
pub bytes_by_field : (f : Frame) (rest : List ℕ) → frame_bytes f ++ rest ≡ text_of (f.kind + wide_mark f.wide) (to_be_bytes (number_width f.wide) f.id) (to_be_bytes (number_width f.wide) f.ack) (to_be_bytes w32 (length f.body)) (f.body ++ rest)
unfolding parts id_bytes ack_bytes len_bytes
bytes_by_field f rest = bytes_parts f rest

module _ (f : Frame) (rest : List ℕ) (fits : IsFrame f) where
  id_size : length (id_bytes f) ≡ byte_len (number_width f.wide)
  unfolding id_bytes
  id_size = length-to_be_bytes f.wide f.id

  ack_size : length (ack_bytes f) ≡ byte_len (number_width f.wide)
  unfolding ack_bytes
  ack_size = length-to_be_bytes f.wide f.ack

  len_size : length (len_bytes f) ≡ 4
  unfolding len_bytes
  len_size = refl

  wide_read : is_wide (parts f rest) ≡ f.wide
  unfolding parts text_of
  wide_read = marked f.wide f.kind fits.kind

  len_read : stated (parts f rest) ≡ length f.body
  unfolding parts len_bytes
  len_read =
      ap (λ (w : Bool). number_at w32 (cond w 17 9) (parts f rest)) wide_read
      ∙ len_there f.wide (f.kind + wide_mark f.wide) (id_bytes f) (ack_bytes f) (len_bytes f) (f.body ++ rest) id_size ack_size len_size
      ∙ from_be_bytes-to_be_bytes_4 (length f.body) (omega (arith, fits.body))

  size_read : length (parts f rest) ≡ header_len f.wide + (length f.body + length rest)
  unfolding parts
  size_read =
      header_there f.wide (f.kind + wide_mark f.wide) (id_bytes f) (ack_bytes f) (len_bytes f) (f.body ++ rest) id_size ack_size len_size
      ∙ ap (λ (n : ℕ). header_len f.wide + n) (length-append f.body rest)

  split_read : split_frame f.wide (length f.body) (parts f rest) ≡ (f, rest)
  unfolding split_frame parts made id_bytes ack_bytes text_of
  split_read =
      let first : ℕ = f.kind + wide_mark f.wide in
      let behind : drop (header_len f.wide) (parts f rest) ≡ f.body ++ rest =
      tail_there f.wide first (id_bytes f) (ack_bytes f) (len_bytes f) (f.body ++ rest) id_size ack_size len_size in
      let id : number_at (number_width f.wide) 1 (parts f rest) ≡ f.id =
      id_there f.wide first (id_bytes f) (ack_bytes f) (len_bytes f) (f.body ++ rest) id_size ack_size len_size ∙ number_back f.wide f.id fits.id in
      let ack : number_at (number_width f.wide) (cond f.wide 9 5) (parts f rest) ≡ f.ack =
      ack_there f.wide first (id_bytes f) (ack_bytes f) (len_bytes f) (f.body ++ rest) id_size ack_size len_size ∙ number_back f.wide f.ack fits.ack in
      let body : take (length f.body) (drop (header_len f.wide) (parts f rest)) ≡ f.body =
      ap (λ (t : List ℕ). take (length f.body) t) behind ∙ take_at f.body rest (length f.body) refl in
      let left : drop (header_len f.wide + length f.body) (parts f rest) ≡ rest =
      sym (drop-drop (length f.body) (header_len f.wide) (parts f rest)) ∙ ap (λ (t : List ℕ). drop (length f.body) t) behind ∙ drop_at f.body rest (length f.body) refl in
      λ i. made (unmarked f.wide f.kind i) f.wide (id i) (ack i) (body i) (left i)

  first_of_parts : first_frame (parts f rest) ≡ Some (f, rest)
  unfolding first_frame read
  first_of_parts =
      let n : ℕ = length f.body in
      ap (λ (w : Bool). read w (stated (parts f rest)) (parts f rest)) wide_read
      ∙ ap (λ (m : ℕ). read f.wide m (parts f rest)) len_read
      ∙ cond-true _ _ _ (has_from f.wide n (parts f rest) fits.body (omega (arith, size_read)))
      ∙ ap (λ (p : Frame × List ℕ). Some p) split_read

-- the length that the header of a frame states
pub stated_at : (f : Frame) (rest : List ℕ) → IsFrame f → stated (frame_bytes f ++ rest) ≡ length f.body
stated_at f rest fits = ap (λ (t : List ℕ). stated t) (bytes_parts f rest) ∙ len_read f rest fits

-- a frame that begins a text is read, and what follows it is left
pub first_frame_at : (f : Frame) (rest : List ℕ) → IsFrame f → first_frame (frame_bytes f ++ rest) ≡ Some (f, rest)
first_frame_at f rest fits = ap first_frame (bytes_parts f rest) ∙ first_of_parts f rest fits

number_more : (w : Width) (place : ℕ) (text more : List ℕ) → place + byte_len w ≤ length text → number_at w place (text ++ more) ≡ number_at w place text
unfolding number_at
number_more w place text more there =
    let behind : byte_len w ≤ length (drop place text) = omega (arith, length-drop place text) in
    ap (λ (t : List ℕ). from_be_bytes w (take (byte_len w) t)) (drop-append-le place text more (omega arith))
    ∙ ap (from_be_bytes w) (take-append-le (byte_len w) (drop place text) more behind)

id_more : (wide : Bool) (text more : List ℕ) → header_len wide ≤ length text → number_at (number_width wide) 1 (text ++ more) ≡ number_at (number_width wide) 1 text
id_more true text more there = number_more w64 1 text more (omega arith)
id_more false text more there = number_more w32 1 text more (omega arith)

ack_more : (wide : Bool) (text more : List ℕ) → header_len wide ≤ length text → number_at (number_width wide) (cond wide 9 5) (text ++ more) ≡ number_at (number_width wide) (cond wide 9 5) text
ack_more true text more there = number_more w64 9 text more (omega arith)
ack_more false text more there = number_more w32 5 text more (omega arith)

len_more : (wide : Bool) (text more : List ℕ) → header_len wide ≤ length text → number_at w32 (cond wide 17 9) (text ++ more) ≡ number_at w32 (cond wide 17 9) text
len_more true text more there = number_more w32 17 text more (omega arith)
len_more false text more there = number_more w32 9 text more (omega arith)

split_more : (wide : Bool) (n : ℕ) (text more : List ℕ) → 0 < length text → header_len wide + n ≤ length text
    → split_frame wide n (text ++ more) ≡ ((split_frame wide n text).0, (split_frame wide n text).1 ++ more)
unfolding split_frame made
split_more wide n text more some whole =
    let header : header_len wide ≤ length text = omega arith in
    let first : get_or (text ++ more) 0 0 ≡ get_or text 0 0 = get_or_append_left text more 0 0 some in
    let body : take n (drop (header_len wide) (text ++ more)) ≡ take n (drop (header_len wide) text) =
    ap (λ (t : List ℕ). take n t) (drop-append-le (header_len wide) text more header)
    ∙ take-append-le n (drop (header_len wide) text) more (omega (arith, length-drop (header_len wide) text)) in
    let left : drop (header_len wide + n) (text ++ more) ≡ drop (header_len wide + n) text ++ more = drop-append-le (header_len wide + n) text more whole in
    λ i. made (first i - wide_mark wide) wide (id_more wide text more header i) (ack_more wide text more header i) (body i) (left i)

pub header_some : (wide : Bool) → 0 < header_len wide
header_some true = omega arith
header_some false = omega arith

-- a header that is there stays as the text goes on
pub header_more : (text more : List ℕ) → header_len (is_wide text) ≤ length text → (is_wide (text ++ more) ≡ is_wide text) × (stated (text ++ more) ≡ stated text)
header_more text more there =
    let positive : 0 < header_len (is_wide text) = header_some (is_wide text) in
    let wide : is_wide (text ++ more) ≡ is_wide text = ap (λ (b : ℕ). nat_le 128 b) (get_or_append_left text more 0 0 (omega arith)) in
    (wide, ap (λ (w : Bool). number_at w32 (cond w 17 9) (text ++ more)) wide ∙ len_more (is_wide text) text more there)

-- a frame that begins a text is there however the text goes on
pub first_frame_more : (text more : List ℕ) (f : Frame) (rest : List ℕ) → first_frame text ≡ Some (f, rest) → first_frame (text ++ more) ≡ Some (f, rest ++ more)
unfolding first_frame read has_frame
first_frame_more text more f rest is =
    let wide : Bool = is_wide text in
    let n : ℕ = stated text in
    let two = cond_some _ _ _ is in
    let tests = and_parts _ _ two.0 in
    let inner = and_parts _ _ tests.1 in
    let header : header_len wide ≤ length text = leb-true (header_len wide) (length text) tests.0 in
    let small : n ≤ body_limit = leb-true n body_limit inner.0 in
    let whole : header_len wide + n ≤ length text = leb-true (header_len wide + n) (length text) inner.1 in
    let positive : 0 < header_len wide = header_some wide in
    let some : 0 < length text = omega arith in
    let same = header_more text more header in
    let longer : length (text ++ more) ≡ length text + length more = length-append text more in
    ap (λ (w : Bool). read w (stated (text ++ more)) (text ++ more)) same.0
    ∙ ap (λ (m : ℕ). read wide m (text ++ more)) same.1
    ∙ cond-true _ _ _ (has_from wide n (text ++ more) small (omega arith))
    ∙ ap (λ (p : Frame × List ℕ). Some p) (split_more wide n text more some whole)
    ∙ ap (λ (p : Frame × List ℕ). Some (p.0, p.1 ++ more)) two.1

-- the empty text begins with no frame
pub first_frame-nil : first_frame [] ≡ None
unfolding first_frame has_frame number_at
first_frame-nil = refl

pub length-frame_bytes : (f : Frame) → length (frame_bytes f) ≡ header_len f.wide + length f.body
unfolding frame_bytes text_of
length-frame_bytes f =
    header_there f.wide (f.kind + wide_mark f.wide) (to_be_bytes (number_width f.wide) f.id) (to_be_bytes (number_width f.wide) f.ack) (to_be_bytes w32 (length f.body)) f.body
    (length-to_be_bytes f.wide f.id) (length-to_be_bytes f.wide f.ack) refl

all_tail : (f : Frame) (fs : List Frame) → AllByRecursion IsFrame (f ∷ fs) → AllByRecursion IsFrame fs
all_tail f fs h = h.1

-- texts of two frames and more: the first frames are equal, and so is what follows them
pub first_frames_equal : (f g : Frame) (rest more : List ℕ) → IsFrame f → IsFrame g → frame_bytes f ++ rest ≡ frame_bytes g ++ more → (f ≡ g) × (rest ≡ more)
first_frames_equal f g rest more fits fits' same =
    some_pair_parts f g rest more (sym (first_frame_at f rest fits) ∙ ap first_frame same ∙ first_frame_at g more fits')

-- frames with equal bytes are equal
pub frame_bytes-equal : (f g : Frame) → IsFrame f → IsFrame g → frame_bytes f ≡ frame_bytes g → f ≡ g
frame_bytes-equal f g fits fits' same = (first_frames_equal f g [] [] fits fits' (ap (λ (t : List ℕ). t ++ []) same)).0

-- the bytes of a frame begin those of no other
pub frame_bytes-prefix : (f g : Frame) (more : List ℕ) → IsFrame f → IsFrame g → frame_bytes f ++ more ≡ frame_bytes g → (f ≡ g) × (more ≡ [])
frame_bytes-prefix f g more fits fits' same = first_frames_equal f g more [] fits fits' (same ∙ sym (append-nil (frame_bytes g)))

-- no frame begins a text in which none is found
pub first_frame-none : (text : List ℕ) → first_frame text ≡ None → (f : Frame) (more : List ℕ) → IsFrame f → text ≡ frame_bytes f ++ more → ⊥
first_frame-none text is f more fits same = none-some (f, more) (sym is ∙ ap first_frame same ∙ first_frame_at f more fits)

-- a text is cut into frames in one way
pub cut_unique : (fs gs : List Frame) (text r s : List ℕ) → IsCut text fs r → IsCut text gs s → (fs ≡ gs) × (r ≡ s)
cut_unique [] [] text r s a b = (refl, sym a.whole ∙ b.whole)
cut_unique [] (g ∷ gs) text r s a b = absurd (a.partial g (joined gs ++ s) b.each.0 (sym a.whole ∙ b.whole ∙ append_assoc (frame_bytes g) (joined gs) s))
cut_unique (f ∷ fs) [] text r s a b = absurd (b.partial f (joined fs ++ r) a.each.0 (sym b.whole ∙ a.whole ∙ append_assoc (frame_bytes f) (joined fs) r))
cut_unique (f ∷ fs) (g ∷ gs) text r s a b =
    let first = first_frames_equal f g (joined fs ++ r) (joined gs ++ s) a.each.0 b.each.0
    (sym (append_assoc (frame_bytes f) (joined fs) r) ∙ sym a.whole ∙ b.whole ∙ append_assoc (frame_bytes g) (joined gs) s) in
    let rest = cut_unique fs gs (joined fs ++ r) r s
    (record { whole = refl; each = a.each.1; partial = a.partial }) (record { whole = first.1; each = b.each.1; partial = b.partial }) in
    (λ i. first.0 i ∷ rest.0 i, rest.1)

-- a text that goes on as frames and begins with a frame begins with the first of them
pub first_of_joined : (fs : List Frame) → AllByRecursion IsFrame fs → (text more : List ℕ) (f : Frame) (rest : List ℕ)
    → first_frame text ≡ Some (f, rest) → text ++ more ≡ joined fs
    → (others : List Frame) × (fs ≡ f ∷ others) × (rest ++ more ≡ joined others) × (text ≡ frame_bytes f ++ rest)
first_of_joined [] all [] more f rest is whole = absurd (none-some (f, rest) (sym first_frame-nil ∙ is))
first_of_joined [] all (b ∷ bytes) more f rest is whole = cc
first_of_joined (g ∷ gs) all text more f rest is whole =
    let longer : first_frame (text ++ more) ≡ Some (f, rest ++ more) = first_frame_more text more f rest is in
    let again : first_frame (frame_bytes g ++ joined gs) ≡ Some (g, joined gs) = first_frame_at g (joined gs) all.0 in
    let same : ◌≡◌ {A = Option (Frame × List ℕ)} (Some (g, joined gs)) (Some (f, rest ++ more)) = sym again ∙ ap first_frame (sym whole) ∙ longer in
    let parts = some_pair_parts g f (joined gs) (rest ++ more) same in
    let front : text ++ more ≡ (frame_bytes f ++ rest) ++ more =
    whole ∙ ap (λ (x : Frame). frame_bytes x ++ joined gs) parts.0 ∙ ap (λ (t : List ℕ). frame_bytes f ++ t) parts.1 ∙ sym (append_assoc (frame_bytes f) rest more) in
    (gs, ap (λ (x : Frame). x ∷ gs) parts.0, sym parts.1, append_cancel_right text (frame_bytes f ++ rest) more front)

rest_step : (g : Frame) (gs fs others more : List Frame) → fs ≡ g ∷ others → others ≡ gs ++ more → fs ≡ (g ∷ gs) ++ more
rest_step g gs fs others more a b = a ∙ ap (λ (xs : List Frame). g ∷ xs) b

-- a text of frames that begins with these frames goes on as frames
pub rest_of_joined : (gs fs : List Frame) → AllByRecursion IsFrame gs → AllByRecursion IsFrame fs → (text : List ℕ) → joined gs ++ text ≡ joined fs
    → (others : List Frame) × (fs ≡ gs ++ others) × (text ≡ joined others)
rest_of_joined [] fs a b text whole = (fs, refl, whole)
rest_of_joined (g ∷ gs) fs a b text whole =
    let is : first_frame (frame_bytes g) ≡ Some (g, []) = ap first_frame (sym (append-nil (frame_bytes g))) ∙ first_frame_at g [] a.0 in
    let regrouped : frame_bytes g ++ (joined gs ++ text) ≡ joined fs = sym (append_assoc (frame_bytes g) (joined gs) text) ∙ whole in
    let first = first_of_joined fs b (frame_bytes g) (joined gs ++ text) g [] is regrouped in
    let tail : AllByRecursion IsFrame first.0 = all_tail g first.0 (subst (λ (xs : List Frame). AllByRecursion IsFrame xs) first.1 b) in
    let others = rest_of_joined gs first.0 a.1 tail text first.2 in
    (others.0, rest_step g gs fs first.0 others.0 first.1 others.1, others.2)
