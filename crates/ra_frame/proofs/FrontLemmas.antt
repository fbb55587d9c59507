-- What stands at the front, by its header.
use Rattle.std.proofs.Common.{◌≡◌, ℕ, ◌+◌, ◌<◌, ◌≤◌, Bool, true, false, leb, ltb, eqb, suc, ◌∷◌, Option, Some, None, List, [], length, take, drop, get_or, ◌-◌, ◌++◌, refl, ap, sym, ◌∙◌, arith}
use Rattle.std.proofs.lemmas.List.{length-take, length-drop}
use Rattle.std.proofs.lemmas.Bool.{le-leb, lt-leb, lt-ltb, le-ltb, eqb-true, leb-true, and_from, and_parts, and_left, and_right, cond-true, cond-false}
use Rattle.ra_model.specs.declared.frame.Frame.{Frame}
use Rattle.ra_model.specs.Frames.{HoldsNoFrame, IsBytes, Begins, body_limit, number_width, wide_mark}
use Rattle.ra_model.specs.FirstFrame.{is_wide, header_len, stated, has_frame, split_frame, is_too_long, first_frame, number_at, ack_place, len_place}
use Rattle.ra_model.proofs.Framing.{first_frame-none, header_more}
use Rattle.ra_model.proofs.Reading.{first_frame-some}
use Rattle.ra_model.proofs.Cuts.{found-not_too_long, too_long-more}
use Rattle.std.specs.Int.{byte_len}
use Rattle.std.specs.Prelude.{option_map}
use Rattle.ra_frame.specs.Fronts.{IsPartial, IsTooLong, IsWhole, HasFrame, head_of}
use Rattle.ra_frame.specs.declared.front.FrameHead.{FrameHead}

partial_of : (text : List ℕ) → first_frame text ≡ None → is_too_long text ≡ false → IsPartial text
partial_of text none short = record { holds_none = first_frame-none text none; no_frame = none; not_too_long = short }

pub partial_empty : (text : List ℕ) → eqb (length text) 0 ≡ true → IsPartial text
unfolding first_frame has_frame is_too_long number_at
partial_empty [] h = partial_of [] refl refl
partial_empty (b ∷ text) h = let none : suc (length text) ≡ 0 = eqb-true (suc (length text)) 0 h in absurd (omega arith)

-- less than a header
pub partial_header : (text : List ℕ) → length text < header_len (is_wide text) → IsPartial text
unfolding first_frame has_frame is_too_long
partial_header text short =
    let no : leb (header_len (is_wide text)) (length text) ≡ false = lt-leb (header_len (is_wide text)) (length text) short in
    partial_of text (cond-false _ _ _ (and_left _ _ no)) (and_left _ _ no)

-- less than the body
pub partial_body : (text : List ℕ) → stated text ≤ body_limit → length text < header_len (is_wide text) + stated text → IsPartial text
unfolding first_frame has_frame is_too_long
partial_body text small short =
    partial_of text
    (cond-false _ _ _ (and_right _ _ (and_right _ _ (lt-leb (header_len (is_wide text) + stated text) (length text) short))))
    (and_right _ _ (le-ltb body_limit (stated text) small))

pub too_long : (text : List ℕ) (n : ℕ) → stated text ≡ n → header_len (is_wide text) ≤ length text → body_limit < n → IsTooLong text n
unfolding is_too_long
too_long text n is there above = record { too_long = and_from _ _ (le-leb (header_len (is_wide text)) (length text) there) (ap (λ (m : ℕ). ltb body_limit m) is ∙ lt-ltb body_limit n above); stated = is }

pub whole : (text : List ℕ) (n : ℕ) → IsBytes text → stated text ≡ n → n ≤ body_limit → header_len (is_wide text) + n ≤ length text → IsWhole text n
unfolding has_frame
whole text n bytes is small there =
    record {
      frame = and_from _ _ (le-leb (header_len (is_wide text)) (length text) (omega arith)) (and_from _ _ (le-leb n body_limit small) (le-leb (header_len (is_wide text) + n) (length text) there));
      stated = is;
      bytes = bytes;
    }

pub whole_there : (text : List ℕ) (n : ℕ) → IsWhole text n → header_len (is_wide text) + n ≤ length text
unfolding has_frame
whole_there text n w = leb-true (header_len (is_wide text) + n) (length text) (and_parts _ _ (and_parts _ _ w.frame).1).1

pub whole_small : (text : List ℕ) (n : ℕ) → IsWhole text n → n ≤ body_limit
unfolding has_frame
whole_small text n w = leb-true n body_limit (and_parts _ _ (and_parts _ _ w.frame).1).0

-- a whole frame is the first
pub first_is : (text : List ℕ) (n : ℕ) → IsWhole text n → first_frame text ≡ Some (split_frame (is_wide text) n text)
unfolding first_frame
first_is text n w =
    cond-true _ _ _ (ap (λ (m : ℕ). has_frame (is_wide text) m text) w.stated ∙ w.frame) ∙ ap (λ (m : ℕ). Some (split_frame (is_wide text) m text)) w.stated

-- the places within a text that has a header
pub places : (wide : Bool) (text : List ℕ) → header_len wide ≤ length text
    → (1 + byte_len (number_width wide) ≤ length text) × (ack_place wide + byte_len (number_width wide) ≤ length text) × (len_place wide + 4 ≤ length text)
places true text there = (omega arith, omega arith, omega arith)
places false text there = (omega arith, omega arith, omega arith)

-- what a frame that is read is made of
pub frame_read : (text : List ℕ) (n : ℕ) (f : Frame) → IsWhole text n → f.wide ≡ is_wide text → f.kind ≡ get_or text 0 0 - wide_mark f.wide → f.id ≡ number_at (number_width f.wide) 1 text
    → f.ack ≡ number_at (number_width f.wide) (ack_place f.wide) text → f.body ≡ take n (drop (header_len f.wide) text) → first_frame text ≡ Some (f, drop (header_len f.wide + n) text)
unfolding split_frame
frame_read text n f whole wide kind id ack body =
    first_is text n whole ∙ ap (λ (w : Bool). Some (split_frame w n text)) (sym wide)
    ∙ (λ i. Some (record { kind = sym kind i; wide = f.wide; id = sym id i; ack = sym ack i; body = sym body i }, drop (header_len f.wide + n) text))

pub head_read : (text : List ℕ) (n : ℕ) (h : FrameHead) → IsWhole text n → h.wide ≡ is_wide text → h.kind ≡ get_or text 0 0 - wide_mark h.wide → h.id ≡ number_at (number_width h.wide) 1 text
    → h.ack ≡ number_at (number_width h.wide) (ack_place h.wide) text → Some h ≡ head_of text
head_read text n h whole wide kind id ack =
    sym (ap (λ (p : Option (Frame × List ℕ)). option_map (λ (q : Frame × List ℕ). record { kind = q.0.kind; wide = q.0.wide; id = q.0.id; ack = q.0.ack }) p)
    (frame_read text n (record { kind = h.kind; wide = h.wide; id = h.id; ack = h.ack; body = take n (drop (header_len h.wide) text) }) whole wide kind id ack refl))

pub no_head : (text : List ℕ) → first_frame text ≡ None → head_of text ≡ None
no_head text none = ap (λ (p : Option (Frame × List ℕ)). option_map (λ (q : Frame × List ℕ). record { kind = q.0.kind; wide = q.0.wide; id = q.0.id; ack = q.0.ack }) p) none

never_first : (o : Option (Frame × List ℕ)) → ((p : Frame × List ℕ) → o ≡ Some p → ⊥) → o ≡ None
never_first None never = refl
never_first (Some p) never = absurd (never p refl)

pub long_head : (text : List ℕ) (n : ℕ) → IsTooLong text n → head_of text ≡ None
long_head text n long =
    no_head text (never_first (first_frame text) (λ p is. let two : false ≡ true = sym (found-not_too_long text p is) ∙ long.too_long in cc))

header_some : (wide : Bool) → 0 < header_len wide
header_some true = omega arith
header_some false = omega arith

pub whole_some : (text : List ℕ) (n : ℕ) → IsWhole text n → 0 < length text
whole_some text n w = omega (arith, header_some (is_wide text), whole_there text n w)

-- the bytes of a whole frame lie within the buffer
pub within : (buffer : List ℕ) (start n header : ℕ) (wide : Bool) → start ≤ length buffer → (let unread : List ℕ = take (length buffer - start) (drop start buffer) in IsWhole unread n × (wide ≡ is_wide unread)) → header ≡ header_len wide
    → start + (header + n) ≤ length buffer
within buffer start n header wide inside h is =
    let unread : List ℕ = take (length buffer - start) (drop start buffer) in
    let there : header_len (is_wide unread) + n ≤ length unread = whole_there unread n h.0 in
    let same : header ≡ header_len (is_wide unread) = is ∙ ap header_len h.1 in
    omega (arith, length-take (length buffer - start) (drop start buffer), length-drop start buffer)

none_by : {A : Type 0} (found : Option A) → ((a : A) → found ≡ Some a → ⊥) → found ≡ None
none_by None never = refl
none_by (Some a) never = absurd (never a refl)

-- its type and its length
pub has_whole : (text : List ℕ) (n kind header : ℕ) (wide : Bool) → IsWhole text n → wide ≡ is_wide text → header ≡ header_len wide → kind ≡ get_or text 0 0 - wide_mark wide
    → HasFrame text kind (header + n)
unfolding split_frame
has_whole text n kind header wide w is_wide_is header_is kind_is =
    let size : header_len (is_wide text) + n ≡ header + n = ap (λ (m : ℕ). m + n) (sym (header_is ∙ ap header_len is_wide_is)) in
    record {
      frame = (split_frame (is_wide text) n text).0;
      first = first_is text n w ∙ ap (λ (m : ℕ). Some ((split_frame (is_wide text) n text).0, drop m text)) size;
      kind_is = sym (kind_is ∙ ap (λ (b : Bool). get_or text 0 0 - wide_mark b) is_wide_is);
      within = let there = whole_there text n w in omega (arith, there, size);
    }

-- none is whole where a header states too long a body
pub long_none : (text : List ℕ) (m : ℕ) → IsTooLong text m → first_frame text ≡ None
long_none text m long = none_by (first_frame text) (λ f is. let two = sym (found-not_too_long text f is) ∙ long.too_long in cc)

-- a frame that is read from a text with a whole frame begins it
pub whole_begins : (text : List ℕ) (n : ℕ) (f : Frame) (rest : List ℕ) → IsWhole text n → first_frame text ≡ Some (f, rest) → Begins text f rest
whole_begins text n f rest w is = first_frame-some text f rest w.bytes is

-- the three cases of a front exclude each other
pub whole_held : (text : List ℕ) (n : ℕ) → IsWhole text n → HoldsNoFrame text → ⊥
whole_held text n w none = let front = whole_begins text n _ _ w (first_is text n w) in none _ _ front.fits front.whole

pub whole_not_too_long : (text : List ℕ) (n m : ℕ) → IsWhole text n → IsTooLong text m → ⊥
whole_not_too_long text n m w long = let two = sym (found-not_too_long text _ (first_is text n w)) ∙ long.too_long in cc

-- whatever comes behind it
pub too_long_more : (text more : List ℕ) (n : ℕ) → IsTooLong text n → IsTooLong (text ++ more) n
unfolding is_too_long
too_long_more text more n long =
    let there : header_len (is_wide text) ≤ length text = leb-true (header_len (is_wide text)) (length text) (and_parts _ _ long.too_long).0 in
    record { too_long = too_long-more text more long.too_long; stated = (header_more text more there).1 ∙ long.stated }
