-- A byte text has a cut, and it goes on piece by piece.
use Rattle.std.proofs.Common.{⊎_elim, false, ◌≡◌, ℕ, zero, suc, ◌+◌, nat_le, ◌<◌, ◌≤◌, true, ltb, Option, Some, None, List, [], ◌∷◌, ◌++◌, length, refl, ap, sym, ◌∙◌, subst, arith, append_assoc, length-append}
use Rattle.std.proofs.lemmas.Bool.{leb-true, ltb-true, le-leb, lt-leb, le-ltb, cases_lt, and_left, and_right, and_parts, and_from}
use Rattle.std.proofs.lemmas.Option.{cond_some}
use Rattle.std.proofs.lemmas.List.Concat.{flat_map-append}
use Rattle.std.specs.List.{AllByRecursion}
use Rattle.ra_model.specs.Frames.{IsFrame, IsBytes, HoldsNoFrame, IsCut, Begins, frame_bytes, body_limit, joined}
use Rattle.ra_model.specs.FirstFrame.{first_frame, has_frame, is_wide, is_too_long, header_len, stated}
use Rattle.ra_model.specs.declared.frame.Frame.{Frame}
use Rattle.ra_model.proofs.Framing.{stated_at, first_frame-none, first_frame-nil, length-frame_bytes, header_some, header_more}
use Rattle.ra_model.proofs.Reading.{first_frame-some, first_frame-begins}

-- a frame, and the cut of what follows it
pub cut_cons : (text : List ℕ) (f : Frame) (rest : List ℕ) (fs : List Frame) (r : List ℕ) → Begins text f rest → IsCut rest fs r → IsCut text (f ∷ fs) r
cut_cons text f rest fs r first cut = record {
  whole = first.whole ∙ ap (λ (t : List ℕ). frame_bytes f ++ t) cut.whole ∙ sym (append_assoc (frame_bytes f) (joined fs) r);
  each = (first.fits, cut.each);
  partial = cut.partial;
}

pub cut_nil : (text : List ℕ) → HoldsNoFrame text → IsCut text [] text
cut_nil text none = record { whole = refl; each = tt; partial = none }

all_both : (fs gs : List Frame) → AllByRecursion IsFrame fs → AllByRecursion IsFrame gs → AllByRecursion IsFrame (fs ++ gs)
all_both [] gs a b = b
all_both (f ∷ fs) gs a b = (a.0, all_both fs gs a.1 b)

-- a further piece is cut behind what was left
pub cut_more : (text piece : List ℕ) (fs gs : List Frame) (r s : List ℕ) → IsCut text fs r → IsCut (r ++ piece) gs s → IsCut (text ++ piece) (fs ++ gs) s
cut_more text piece fs gs r s a b = record {
  whole = ap (λ (t : List ℕ). t ++ piece) a.whole ∙ append_assoc (joined fs) r piece ∙ ap (λ (t : List ℕ). joined fs ++ t) b.whole
      ∙ sym (append_assoc (joined fs) (joined gs) s) ∙ ap (λ (t : List ℕ). t ++ s) (sym (flat_map-append frame_bytes fs gs));
  each = all_both fs gs a.each b.each;
  partial = b.partial;
}

pub bytes_right : (xs ys : List ℕ) → IsBytes (xs ++ ys) → IsBytes ys
bytes_right [] ys h = h
bytes_right (x ∷ xs) ys h = bytes_right xs ys (λ i. h (suc i))

abbrev HasCut : List ℕ → Type 0
HasCut text = (frames : List Frame) × (rest : List ℕ) × IsCut text frames rest

has_cut_at : (n : ℕ) (text : List ℕ) (found : Option (Frame × List ℕ)) → first_frame text ≡ found → IsBytes text → length text ≤ suc n → ((rest : List ℕ) → length rest ≤ n → IsBytes rest → HasCut rest) → HasCut text
has_cut_at n text None is fits size next = ([], text, cut_nil text (first_frame-none text is))
has_cut_at n text (Some found) is fits size next =
    let first = first_frame-some text found.0 found.1 fits is in
    let positive : 0 < header_len found.0.wide = header_some found.0.wide in
    let shorter : length found.1 ≤ n = omega (arith, ap length first.whole, length-append (frame_bytes found.0) found.1, length-frame_bytes found.0) in
    let rest = next found.1 shorter (bytes_right (frame_bytes found.0) found.1 (subst (λ (t : List ℕ). IsBytes t) first.whole fits)) in
    (found.0 ∷ rest.0, rest.1, cut_cons text found.0 found.1 rest.0 rest.1 first rest.2)

has_cut_within : (n : ℕ) (text : List ℕ) → length text ≤ n → IsBytes text → HasCut text
has_cut_within zero [] size fits = ([], [], cut_nil [] (first_frame-none [] first_frame-nil))
has_cut_within zero (b ∷ text) size fits = absurd (omega arith)
has_cut_within (suc n) text size fits = has_cut_at n text (first_frame text) refl fits size (has_cut_within n)

-- every text of bytes has a cut
pub has_cut : (text : List ℕ) → IsBytes text → (frames : List Frame) × (rest : List ℕ) × IsCut text frames rest
has_cut text fits = has_cut_within (length text) text (omega arith) fits

-- too long a body is stated by no frame
pub too_long-none : (text : List ℕ) → is_too_long text ≡ true → HoldsNoFrame text
unfolding is_too_long first_frame has_frame
too_long-none text is f more fits whole =
    let long : (nat_le (header_len (is_wide text)) (length text) ≡ true) × (ltb body_limit (stated text) ≡ true) = and_parts _ _ is in
    let above : body_limit < stated text = ltb-true body_limit (stated text) long.1 in
    let found : first_frame text ≡ Some (f, more) = first_frame-begins text f more (record { fits = fits; whole = whole }) in
    let has : has_frame (is_wide text) (stated text) text ≡ true = (cond_some _ _ _ found).0 in
    let inner : (nat_le (stated text) body_limit ≡ true) × (nat_le (header_len (is_wide text) + stated text) (length text) ≡ true) = and_parts _ _ (and_parts _ _ has).1 in
    let small : stated text ≤ body_limit = leb-true (stated text) body_limit inner.0 in
    absurd (omega arith)

-- and stays so, whatever comes
pub too_long-more : (text more : List ℕ) → is_too_long text ≡ true → is_too_long (text ++ more) ≡ true
unfolding is_too_long
too_long-more text more is =
    let tests = and_parts _ _ is in
    let there : header_len (is_wide text) ≤ length text = leb-true (header_len (is_wide text)) (length text) tests.0 in
    let above : body_limit < stated text = ltb-true body_limit (stated text) tests.1 in
    let same = header_more text more there in
    let long : header_len (is_wide (text ++ more)) ≤ length (text ++ more) = rw same.0 (omega (arith, length-append text more)) in
    and_from _ _ (le-leb (header_len (is_wide (text ++ more))) (length (text ++ more)) long) (ap (λ (n : ℕ). ltb body_limit n) same.1 ∙ tests.1)

-- the front of a text of frames states no body above the limit
pub not_too_long : (fs : List Frame) → AllByRecursion IsFrame fs → (text more : List ℕ) → text ++ more ≡ joined fs → is_too_long text ≡ false
unfolding is_too_long
not_too_long [] all [] more whole = refl
not_too_long [] all (b ∷ bytes) more whole = cc
not_too_long (f ∷ fs) all text more whole =
    ⊎_elim
    (λ short. and_left _ _ (lt-leb (header_len (is_wide text)) (length text) short))
    (λ there.
    let same : stated text ≡ length f.body = sym (header_more text more there).1 ∙ ap (λ (t : List ℕ). stated t) whole ∙ stated_at f (joined fs) all.0 in
    let low : length f.body ≤ body_limit = all.0.body in
    and_right _ _ (le-ltb body_limit (stated text) (rw same low)))
    (cases_lt (length text) (header_len (is_wide text)))

-- where a frame is found, no header states too long a body
pub found-not_too_long : (text : List ℕ) (found : Frame × List ℕ) → first_frame text ≡ Some found → is_too_long text ≡ false
unfolding is_too_long first_frame has_frame
found-not_too_long text found is =
    let small : stated text ≤ body_limit = leb-true (stated text) body_limit (and_parts _ _ (and_parts _ _ (cond_some _ _ _ is).0).1).0 in
    and_right _ _ (le-ltb body_limit (stated text) small)
