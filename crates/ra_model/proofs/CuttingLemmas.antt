-- The frames of a text, computed: one frame on, at the end, and as the text goes on.
use Rattle.std.proofs.Common.{⊎_elim, ◌≡◌, ℕ, zero, suc, ◌+◌, ◌*◌, ◌<◌, ◌≤◌, Bool, true, false, Option, Some, None, List, [], ◌∷◌, ◌++◌, length, drop, refl, ap, sym, ◌∙◌, subst, arith, length-append}
use Rattle.std.proofs.lemmas.Bool.{leb-true, and_parts, cond-true, cases_lt}
use Rattle.std.proofs.lemmas.Option.{cond_some, none-some}
use Rattle.std.proofs.lemmas.List.{length-drop, length-take, drop-drop, get_or_append_left}
use Rattle.std.specs.Prelude.{nat_le}
use Rattle.ra_model.specs.declared.frame.Frame.{Frame}
use Rattle.ra_model.specs.Frames.{body_limit, IsBytes, IsCut, Begins, frame_bytes, joined}
use Rattle.ra_model.specs.FirstFrame.{first_frame, split_frame, has_frame, is_wide, is_too_long, header_len, stated}
use Rattle.ra_model.specs.Cutting.{cut_from, cut_within, frames_of, rest_of, places_behind, IsCarry}
use Rattle.ra_model.proofs.Framing.{first_frame-none, first_frame-nil, first_frame_more, header_some, length-frame_bytes, cut_unique, header_more, has_from}
use Rattle.ra_model.proofs.Reading.{first_frame-some}
use Rattle.ra_model.proofs.Cuts.{cut_cons, cut_nil, bytes_right}

-- What a frame that is found takes of the text

split_len : (wide : Bool) (n : ℕ) (text : List ℕ) → header_len wide + n ≤ length text
    → (length (frame_bytes (split_frame wide n text).0) ≡ header_len wide + n) × ((split_frame wide n text).1 ≡ drop (header_len wide + n) text)
unfolding split_frame
split_len wide n text whole =
    let f : Frame = (split_frame wide n text).0 in
    let body : length f.body ≡ n = omega (arith, length-take n (drop (header_len wide) text), length-drop (header_len wide) text) in
    (length-frame_bytes f ∙ ap (λ (k : ℕ). header_len wide + k) body, refl)

-- a frame that is found takes as many bytes as it has, and these are there
pub found_parts : (text : List ℕ) (f : Frame) (rest : List ℕ) → first_frame text ≡ Some (f, rest)
    → (length (frame_bytes f) ≤ length text) × (rest ≡ drop (length (frame_bytes f)) text)
unfolding first_frame has_frame
found_parts text f rest is =
    let wide : Bool = is_wide text in
    let n : ℕ = stated text in
    let two = cond_some _ _ _ is in
    let inner = and_parts _ _ (and_parts _ _ two.0).1 in
    let whole : header_len wide + n ≤ length text = leb-true (header_len wide + n) (length text) inner.1 in
    let parts = split_len wide n text whole in
    let same : length (frame_bytes f) ≡ header_len wide + n = sym (ap (λ (p : Frame × List ℕ). length (frame_bytes p.0)) two.1) ∙ parts.0 in
    let fits : length (frame_bytes f) ≤ length text = rw same whole in
    (fits, sym (ap (λ (p : Frame × List ℕ). p.1) two.1) ∙ parts.1 ∙ ap (λ (k : ℕ). drop k text) (sym same))

-- so what follows it is shorter by as many bytes
pub found_shorter : (text : List ℕ) (f : Frame) (rest : List ℕ) → first_frame text ≡ Some (f, rest) → length text ≡ length (frame_bytes f) + length rest
found_shorter text f rest is =
    let parts = found_parts text f rest is in
    omega (arith, parts.0, ap length parts.1, length-drop (length (frame_bytes f)) text)

pub frame_bytes_some : (f : Frame) → 0 < length (frame_bytes f)
frame_bytes_some f = omega (arith, length-frame_bytes f, header_some f.wide)

-- More turns than bytes change nothing

abbrev SameCut : ℕ → ℕ → Type 0
SameCut m n = (text : List ℕ) → length text ≤ m → length text ≤ n → cut_within m text ≡ cut_within n text

more_at : (m n : ℕ) (text : List ℕ) (found : Option (Frame × List ℕ)) → first_frame text ≡ found → length text ≤ suc m → length text ≤ suc n → SameCut m n
    → cut_from found text (cut_within m) ≡ cut_from found text (cut_within n)
more_at m n text None is lm ln same = refl
more_at m n text (Some found) is lm ln same =
    let shorter : length text ≡ length (frame_bytes found.0) + length found.1 = found_shorter text found.0 found.1 is in
    let some : 0 < length (frame_bytes found.0) = frame_bytes_some found.0 in
    ap (λ (c : List Frame × List ℕ). (found.0 ∷ c.0, c.1)) (same found.1 (omega arith) (omega arith))

none_at : (n : ℕ) (text : List ℕ) (found : Option (Frame × List ℕ)) → first_frame text ≡ found → length text ≤ 0 → cut_from found text (cut_within n) ≡ ([], text)
none_at n text None is short = refl
none_at n text (Some found) is short =
    let shorter : length text ≡ length (frame_bytes found.0) + length found.1 = found_shorter text found.0 found.1 is in
    let some : 0 < length (frame_bytes found.0) = frame_bytes_some found.0 in
    absurd (omega arith)

enough : (m n : ℕ) → SameCut m n
unfolding cut_within
enough zero zero text lm ln = refl
enough zero (suc n) text lm ln = sym (none_at n text (first_frame text) refl lm)
enough (suc m) zero text lm ln = none_at m text (first_frame text) refl ln
enough (suc m) (suc n) text lm ln = more_at m n text (first_frame text) refl lm ln (enough m n)

-- One frame on, and the end

cut_step : (text : List ℕ) (f : Frame) (rest : List ℕ) → first_frame text ≡ Some (f, rest)
    → cut_within (length text) text ≡ (f ∷ (cut_within (length rest) rest).0, (cut_within (length rest) rest).1)
unfolding cut_within
cut_step text f rest is =
    let shorter : length text ≡ length (frame_bytes f) + length rest = found_shorter text f rest is in
    let longer : length text ≤ suc (length text) = omega arith in
    let fits : length rest ≤ length text = omega arith in
    enough (length text) (suc (length text)) text (omega arith) longer
    ∙ ap (λ (found : Option (Frame × List ℕ)). cut_from found text (cut_within (length text))) is
    ∙ ap (λ (c : List Frame × List ℕ). (f ∷ c.0, c.1)) (enough (length text) (length rest) rest fits (omega arith))

pub frames_step : (text : List ℕ) (f : Frame) (rest : List ℕ) → first_frame text ≡ Some (f, rest) → (frames_of text ≡ f ∷ frames_of rest) × (rest_of text ≡ rest_of rest)
unfolding frames_of rest_of
frames_step text f rest is =
    let e = cut_step text f rest is in
    (ap (λ (c : List Frame × List ℕ). c.0) e, ap (λ (c : List Frame × List ℕ). c.1) e)

pub frames_none : (text : List ℕ) → first_frame text ≡ None → (frames_of text ≡ []) × (rest_of text ≡ text)
unfolding frames_of rest_of cut_within
frames_none text none =
    let longer : length text ≤ suc (length text) = omega arith in
    let e : cut_within (length text) text ≡ ([], text) =
    enough (length text) (suc (length text)) text (omega arith) longer
    ∙ ap (λ (found : Option (Frame × List ℕ)). cut_from found text (cut_within (length text))) none in
    (ap (λ (c : List Frame × List ℕ). c.0) e, ap (λ (c : List Frame × List ℕ). c.1) e)

-- They give the cut

cut_at : (n : ℕ) (text : List ℕ) (found : Option (Frame × List ℕ)) → first_frame text ≡ found → length text ≤ suc n → IsBytes text
    → ((rest : List ℕ) → length rest ≤ n → IsBytes rest → IsCut rest (cut_within n rest).0 (cut_within n rest).1)
    → IsCut text (cut_from found text (cut_within n)).0 (cut_from found text (cut_within n)).1
cut_at n text None is size fits next = cut_nil text (first_frame-none text is)
cut_at n text (Some found) is size fits next =
    let first : Begins text found.0 found.1 = first_frame-some text found.0 found.1 fits is in
    let shorter : length text ≡ length (frame_bytes found.0) + length found.1 = found_shorter text found.0 found.1 is in
    let some : 0 < length (frame_bytes found.0) = frame_bytes_some found.0 in
    let rest = next found.1 (omega arith) (bytes_right (frame_bytes found.0) found.1 (subst (λ (t : List ℕ). IsBytes t) first.whole fits)) in
    cut_cons text found.0 found.1 (cut_within n found.1).0 (cut_within n found.1).1 first rest

cut_within_is : (n : ℕ) (text : List ℕ) → length text ≤ n → IsBytes text → IsCut text (cut_within n text).0 (cut_within n text).1
unfolding cut_within
cut_within_is zero [] size fits = cut_nil [] (first_frame-none [] first_frame-nil)
cut_within_is zero (b ∷ text) size fits = absurd (omega arith)
cut_within_is (suc n) text size fits = cut_at n text (first_frame text) refl size fits (cut_within_is n)

pub is_cut : (text : List ℕ) → IsBytes text → IsCut text (frames_of text) (rest_of text)
unfolding frames_of rest_of
is_cut text fits = cut_within_is (length text) text (omega arith) fits

-- every cut of a text of bytes is this one
pub cut_is : (text : List ℕ) (frames : List Frame) (rest : List ℕ) → IsBytes text → IsCut text frames rest → (frames ≡ frames_of text) × (rest ≡ rest_of text)
cut_is text frames rest fits cut = cut_unique frames (frames_of text) text rest (rest_of text) cut (is_cut text fits)

-- The text is its frames and its rest, however it goes on

record Parts (text : List ℕ) (frames : List Frame) (rest : List ℕ) : Type 0 where
  frames_later : (more : List ℕ) → frames_of (text ++ more) ≡ frames ++ frames_of (rest ++ more)
  rest_later : (more : List ℕ) → rest_of (text ++ more) ≡ rest_of (rest ++ more)
  none : first_frame rest ≡ None
  size : length text ≡ length (joined frames) + length rest
  left : drop (length (joined frames)) text ≡ rest

parts_nothing : (text : List ℕ) → first_frame text ≡ None → Parts text [] text
parts_nothing text none = record { frames_later = λ more. refl; rest_later = λ more. refl; none = none; size = omega arith; left = refl }

parts_step : (text : List ℕ) (f : Frame) (rest : List ℕ) (frames : List Frame) (left : List ℕ) → first_frame text ≡ Some (f, rest) → Parts rest frames left → Parts text (f ∷ frames) left
parts_step text f rest frames left is c =
    let behind = (found_parts text f rest is).1 in
    let shorter : length text ≡ length (frame_bytes f) + length rest = found_shorter text f rest is in
    let others : length rest ≡ length (joined frames) + length left = c.size in
    let both : length (joined (f ∷ frames)) ≡ length (frame_bytes f) + length (joined frames) = length-append (frame_bytes f) (joined frames) in
    record {
      frames_later = λ more. (frames_step (text ++ more) f (rest ++ more) (first_frame_more text more f rest is)).0 ∙ ap (λ (fs : List Frame). f ∷ fs) (c.frames_later more);
      rest_later = λ more. (frames_step (text ++ more) f (rest ++ more) (first_frame_more text more f rest is)).1 ∙ c.rest_later more;
      none = c.none;
      size = omega arith;
      left = ap (λ (n : ℕ). drop n text) both ∙ sym (drop-drop (length (joined frames)) (length (frame_bytes f)) text)
          ∙ ap (λ (t : List ℕ). drop (length (joined frames)) t) (sym behind) ∙ c.left;
    }

parts_at : (n : ℕ) (text : List ℕ) (found : Option (Frame × List ℕ)) → first_frame text ≡ found → length text ≤ suc n
    → ((rest : List ℕ) → length rest ≤ n → Parts rest (frames_of rest) (rest_of rest)) → Parts text (frames_of text) (rest_of text)
parts_at n text None is size next =
    let e = frames_none text is in
    subst (λ (c : List Frame × List ℕ). Parts text c.0 c.1) (λ i. (sym e.0 i, sym e.1 i)) (parts_nothing text is)
parts_at n text (Some found) is size next =
    let e = frames_step text found.0 found.1 is in
    let shorter : length text ≡ length (frame_bytes found.0) + length found.1 = found_shorter text found.0 found.1 is in
    let some : 0 < length (frame_bytes found.0) = frame_bytes_some found.0 in
    let fits : length found.1 ≤ n = omega arith in
    subst (λ (c : List Frame × List ℕ). Parts text c.0 c.1) (λ i. (sym e.0 i, sym e.1 i)) (parts_step text found.0 found.1 (frames_of found.1) (rest_of found.1) is (next found.1 fits))

parts_within : (n : ℕ) (text : List ℕ) → length text ≤ n → Parts text (frames_of text) (rest_of text)
parts_within zero [] size =
    let e = frames_none [] first_frame-nil in
    subst (λ (c : List Frame × List ℕ). Parts [] c.0 c.1) (λ i. (sym e.0 i, sym e.1 i)) (parts_nothing [] first_frame-nil)
parts_within zero (b ∷ text) size = absurd (omega arith)
parts_within (suc n) text size = parts_at n text (first_frame text) refl size (parts_within n)

parts : (text : List ℕ) → Parts text (frames_of text) (rest_of text)
parts text = parts_within (length text) text (omega arith)

pub frames_more : (text more : List ℕ) → (frames_of (text ++ more) ≡ frames_of text ++ frames_of (rest_of text ++ more)) × (rest_of (text ++ more) ≡ rest_of (rest_of text ++ more))
frames_more text more = ((parts text).frames_later more, (parts text).rest_later more)

pub rest_none : (text : List ℕ) → first_frame (rest_of text) ≡ None
rest_none text = (parts text).none

pub rest_left : (text : List ℕ) → (length text ≡ length (joined (frames_of text)) + length (rest_of text)) × (drop (length (joined (frames_of text))) text ≡ rest_of text)
rest_left text = ((parts text).size, (parts text).left)

-- the places behind the frames of a text, and of what follows them
pub places_more : (at : ℕ) (fs gs : List Frame) → places_behind at (fs ++ gs) ≡ places_behind at fs ++ places_behind (at + length (joined fs)) gs
places_more at [] gs = let same : at + length (joined []) ≡ at = omega arith in ap (λ (n : ℕ). places_behind n gs) (sym same)
places_more at (f ∷ fs) gs =
    let next : ℕ = at + length (frame_bytes f) in
    let both : length (joined (f ∷ fs)) ≡ length (frame_bytes f) + length (joined fs) = length-append (frame_bytes f) (joined fs) in
    let same : next + length (joined fs) ≡ at + length (joined (f ∷ fs)) = omega arith in
    ap (λ (ns : List ℕ). next ∷ ns) (places_more next fs gs ∙ ap (λ (n : ℕ). places_behind next fs ++ places_behind n gs) same)

-- What a reader has read, and has not

pub carry_nothing : (text : List ℕ) → first_frame text ≡ None → is_too_long text ≡ false → IsCarry text [] text
carry_nothing text none within = let e = frames_none text none in record { frames_are = e.0; rest_is = e.1; within = within }

pub carry_step : (text : List ℕ) (f : Frame) (rest : List ℕ) (frames : List Frame) (left : List ℕ) → first_frame text ≡ Some (f, rest) → IsCarry rest frames left → IsCarry text (f ∷ frames) left
carry_step text f rest frames left is c =
    let e = frames_step text f rest is in
    record { frames_are = e.0 ∙ ap (λ (fs : List Frame). f ∷ fs) c.frames_are; rest_is = e.1 ∙ c.rest_is; within = c.within }

pub carry_more : (text piece : List ℕ) (frames more : List Frame) (rest left : List ℕ) → IsCarry text frames rest → IsCarry (rest ++ piece) more left → IsCarry (text ++ piece) (frames ++ more) left
carry_more text piece frames more rest left a b =
    let e = frames_more text piece in
    let fed : rest_of text ++ piece ≡ rest ++ piece = ap (λ (t : List ℕ). t ++ piece) a.rest_is in
    record {
      frames_are = e.0 ∙ ap (λ (fs : List Frame). fs ++ frames_of (rest_of text ++ piece)) a.frames_are ∙ ap (λ (t : List ℕ). frames ++ frames_of t) fed ∙ ap (λ (fs : List Frame). frames ++ fs) b.frames_are;
      rest_is = e.1 ∙ ap rest_of fed ∙ b.rest_is;
      within = b.within;
    }

pub carry_cut : (text : List ℕ) (frames : List Frame) (rest : List ℕ) → IsBytes text → IsCarry text frames rest → IsCut text frames rest
carry_cut text frames rest fits c =
    let first : IsCut text frames (rest_of text) = subst (λ (fs : List Frame). IsCut text fs (rest_of text)) c.frames_are (is_cut text fits) in
    subst (λ (t : List ℕ). IsCut text frames t) c.rest_is first

-- How many frames there are

header_least : (wide : Bool) → 13 ≤ header_len wide
header_least true = omega arith
header_least false = omega arith

fewer_at : (n : ℕ) (text : List ℕ) (found : Option (Frame × List ℕ)) → first_frame text ≡ found → length text ≤ suc n
    → ((rest : List ℕ) → length rest ≤ n → 13 * length (frames_of rest) ≤ length rest) → 13 * length (frames_of text) ≤ length text
fewer_at n text None is size next = rw (frames_none text is).0 (omega arith)
fewer_at n text (Some found) is size next =
    let shorter : length text ≡ length (frame_bytes found.0) + length found.1 = found_shorter text found.0 found.1 is in
    let some : 13 ≤ length (frame_bytes found.0) = omega (arith, length-frame_bytes found.0, header_least found.0.wide) in
    let fits : length found.1 ≤ n = omega arith in
    let behind : 13 * length (frames_of found.1) ≤ length found.1 = next found.1 fits in
    rw (frames_step text found.0 found.1 is).0 (omega arith)

fewer_within : (n : ℕ) (text : List ℕ) → length text ≤ n → 13 * length (frames_of text) ≤ length text
fewer_within zero [] size = rw (frames_none [] first_frame-nil).0 (omega arith)
fewer_within zero (b ∷ text) size = absurd (omega arith)
fewer_within (suc n) text size = fewer_at n text (first_frame text) refl size (fewer_within n)

-- each has at least 13 bytes
pub frames_fit : (text : List ℕ) → 13 * length (frames_of text) ≤ length text
frames_fit text = fewer_within (length text) text (omega arith)

-- a frame that is whole within a text is found in it
found_within : (text more : List ℕ) (f : Frame) (rest : List ℕ) → first_frame (text ++ more) ≡ Some (f, rest) → length (frame_bytes f) ≤ length text → first_frame text ≡ None → ⊥
unfolding first_frame has_frame
found_within text more f rest is fits none =
    let whole : List ℕ = text ++ more in
    let two : (has_frame (is_wide whole) (stated whole) whole ≡ true) × (split_frame (is_wide whole) (stated whole) whole ≡ (f, rest)) = cond_some _ _ _ is in
    let inner : (nat_le (stated whole) body_limit ≡ true) × (nat_le (header_len (is_wide whole) + stated whole) (length whole) ≡ true) = and_parts _ _ (and_parts _ _ two.0).1 in
    let there : header_len (is_wide whole) + stated whole ≤ length whole = leb-true (header_len (is_wide whole) + stated whole) (length whole) inner.1 in
    let low : stated whole ≤ body_limit = leb-true (stated whole) body_limit inner.0 in
    let parts = split_len (is_wide whole) (stated whole) whole there in
    let size : length (frame_bytes f) ≡ header_len (is_wide whole) + stated whole = sym (ap (λ (p : Frame × List ℕ). length (frame_bytes p.0)) two.1) ∙ parts.0 in
    let positive : 0 < header_len (is_wide whole) = header_some (is_wide whole) in
    let some : 0 < length text = omega arith in
    let wide : is_wide whole ≡ is_wide text = ap (λ (b : ℕ). nat_le 128 b) (get_or_append_left text more 0 0 some) in
    let header : header_len (is_wide whole) ≤ length text = omega arith in
    let header_there : header_len (is_wide text) ≤ length text = subst (λ (w : Bool). header_len w ≤ length text) wide header in
    let same : stated whole ≡ stated text = (header_more text more header_there).1 in
    let small : stated text ≤ body_limit = subst (λ (n : ℕ). n ≤ body_limit) same low in
    let sum : header_len (is_wide whole) + stated whole ≤ length text = omega arith in
    let room : header_len (is_wide text) + stated text ≤ length text =
    subst (λ (n : ℕ). header_len (is_wide text) + n ≤ length text) same (subst (λ (w : Bool). header_len w + stated whole ≤ length text) wide sum) in
    none-some _ (sym none ∙ cond-true _ _ _ (has_from (is_wide text) (stated text) text small room))

few_at : (text piece : List ℕ) (found : Option (Frame × List ℕ)) (f : Frame) (frames : List Frame) → first_frame (text ++ piece) ≡ found → first_frame text ≡ None → frames_of (text ++ piece) ≡ f ∷ frames → 13 * length frames < length piece
few_at text piece None f frames is none are = let nothing = (frames_none (text ++ piece) is).0 in absurd cc
few_at text piece (Some found) f frames is none are =
    let step : frames_of (text ++ piece) ≡ found.0 ∷ frames_of found.1 = (frames_step (text ++ piece) found.0 found.1 is).0 in
    let others : frames ≡ frames_of found.1 = cc in
    let count : length frames ≡ length (frames_of found.1) = ap (λ (fs : List Frame). length fs) others in
    let longer : length (text ++ piece) ≡ length text + length piece = length-append text piece in
    let shorter : length (text ++ piece) ≡ length (frame_bytes found.0) + length found.1 = found_shorter (text ++ piece) found.0 found.1 is in
    let fits : 13 * length (frames_of found.1) ≤ length found.1 = frames_fit found.1 in
    ⊎_elim (λ above. omega arith) (λ within. absurd (found_within text piece found.0 found.1 is within none)) (cases_lt (length text) (length (frame_bytes found.0)))

-- where no frame was whole, a piece makes at most one more than its bytes have room for
pub few_more : (text piece : List ℕ) (f : Frame) (frames : List Frame) → first_frame text ≡ None → frames_of (text ++ piece) ≡ f ∷ frames → 13 * length frames < length piece
few_more text piece f frames none are = few_at text piece (first_frame (text ++ piece)) f frames refl none are
