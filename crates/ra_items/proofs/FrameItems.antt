-- The frames of a text that stands at a place: one frame on, at the end, and as the text goes on.
use Rattle.std.proofs.Common.{◌≡◌, ℕ, ◌+◌, Bool, true, false, Option, Some, None, List, [], ◌∷◌, ◌++◌, length, refl, sym, ap, ◌∙◌, arith, append_assoc, append-nil, length-append}
use Rattle.ra_model.specs.declared.frame.Frame.{Frame}
use Rattle.ra_model.specs.Frames.{frame_bytes, joined}
use Rattle.ra_model.specs.FirstFrame.{first_frame, is_too_long, stated}
use Rattle.ra_model.specs.Cutting.{frames_of, rest_of}
use Rattle.ra_model.proofs.Cuts.{found-not_too_long}
use Rattle.ra_model.proofs.CuttingLemmas.{frames_step as cut_step, frames_none as cut_none, frames_more as cut_more}
use Rattle.ra_frame.proofs.FrontLemmas.{too_long_more}
use Rattle.ra_items.specs.Items.{Placed, placed_frames, long_item, frames_at}
use Rattle.ra_items.specs.Items.Item.{FrameItem, TooLong}

-- frames, and then others
placed_more : {A E : Type 0} (at : ℕ) (fs gs : List Frame) → placed_frames {A = A} {E = E} at (fs ++ gs) ≡ placed_frames at fs ++ placed_frames (at + length (joined fs)) gs
placed_more {A} {E} at [] gs =
    let same : at ≡ at + length (joined []) = omega arith in
    ap (λ (n : ℕ). placed_frames {A = A} {E = E} n gs) same
placed_more {A} {E} at (f ∷ fs) gs =
    let next : ℕ = at + length (frame_bytes f) in
    let both : length (joined (f ∷ fs)) ≡ length (frame_bytes f) + length (joined fs) = length-append (frame_bytes f) (joined fs) in
    let same : next + length (joined fs) ≡ at + length (joined (f ∷ fs)) = omega arith in
    ap (λ (ps : List (Placed A E)). record { item = FrameItem f; place = next } ∷ ps)
    (placed_more next fs gs ∙ ap (λ (n : ℕ). placed_frames next fs ++ placed_frames n gs) same)

-- the items of these frames and of this rest, which stand at a place
abbrev pub items_of_cut : {A E : Type 0} → ℕ → List Frame → List ℕ → List (Placed A E)
items_of_cut at frames rest = placed_frames at frames ++ long_item (is_too_long rest) (stated rest) (at + length (joined frames))

by_cut : {A E : Type 0} (at : ℕ) (text rest : List ℕ) (frames : List Frame) → frames_of text ≡ frames → rest_of text ≡ rest → frames_at {A = A} {E = E} at text ≡ items_of_cut at frames rest
unfolding frames_at
by_cut {A} {E} at text rest frames frames_are rest_is =
    ap (λ (fs : List Frame). items_of_cut {A = A} {E = E} at fs (rest_of text)) frames_are ∙ ap (λ (r : List ℕ). items_of_cut at frames r) rest_is

-- a frame, and then those of what follows it
pub frames_step : {A E : Type 0} (at : ℕ) (text : List ℕ) (f : Frame) (rest : List ℕ) → first_frame text ≡ Some (f, rest)
    → frames_at {A = A} {E = E} at text ≡ record { item = FrameItem f; place = at + length (frame_bytes f) } ∷ frames_at (at + length (frame_bytes f)) rest
frames_step {A} {E} at text f rest first =
    let cut = cut_step text f rest first in
    let next : ℕ = at + length (frame_bytes f) in
    let fs : List Frame = frames_of rest in
    let left : List ℕ = rest_of rest in
    let both : length (joined (f ∷ fs)) ≡ length (frame_bytes f) + length (joined fs) = length-append (frame_bytes f) (joined fs) in
    let same : at + length (joined (f ∷ fs)) ≡ next + length (joined fs) = omega arith in
    by_cut at text left (f ∷ fs) cut.0 cut.1
    ∙ ap (λ (n : ℕ). record { item = FrameItem f; place = next } ∷ (placed_frames {A = A} {E = E} next fs ++ long_item (is_too_long left) (stated left) n)) same
    ∙ ap (λ (ps : List (Placed A E)). record { item = FrameItem f; place = next } ∷ ps) (sym (by_cut next rest left fs refl refl))

-- no frame
frames_none : {A E : Type 0} (at : ℕ) (text : List ℕ) → first_frame text ≡ None → frames_at {A = A} {E = E} at text ≡ long_item (is_too_long text) (stated text) at
frames_none {A} {E} at text none =
    let cut = cut_none text none in
    let same : at + length (joined []) ≡ at = omega arith in
    by_cut at text text [] cut.0 cut.1 ∙ ap (λ (n : ℕ). long_item {A = A} {E = E} (is_too_long text) (stated text) n) same

pub frames_partial : {A E : Type 0} (at : ℕ) (text : List ℕ) → first_frame text ≡ None → is_too_long text ≡ false → frames_at {A = A} {E = E} at text ≡ []
frames_partial {A} {E} at text none short = frames_none at text none ∙ ap (λ (b : Bool). long_item {A = A} {E = E} b (stated text) at) short

-- a header that states too long a body is no frame
pub long_none : (text : List ℕ) → is_too_long text ≡ true → first_frame text ≡ None
long_none text long = by_first (first_frame text) refl
  where
    by_first : (found : Option (Frame × List ℕ)) → first_frame text ≡ found → first_frame text ≡ None
    by_first None is = is
    by_first (Some found) is = let short = found-not_too_long text found is in absurd cc

pub frames_long : {A E : Type 0} (at : ℕ) (text : List ℕ) → is_too_long text ≡ true → frames_at {A = A} {E = E} at text ≡ record { item = TooLong (stated text); place = at } ∷ []
frames_long {A} {E} at text long = frames_none at text (long_none text long) ∙ ap (λ (b : Bool). long_item {A = A} {E = E} b (stated text) at) long

-- one piece more, where no header states too long a body
pub frames_more : {A E : Type 0} (at : ℕ) (text more : List ℕ) → is_too_long (rest_of text) ≡ false
    → frames_at {A = A} {E = E} at (text ++ more) ≡ frames_at at text ++ frames_at (at + length (joined (frames_of text))) (rest_of text ++ more)
frames_more {A} {E} at text more short =
    let cut = cut_more text more in
    let fs : List Frame = frames_of text in
    let left : List ℕ = rest_of text in
    let gs : List Frame = frames_of (left ++ more) in
    let rest : List ℕ = rest_of (left ++ more) in
    let next : ℕ = at + length (joined fs) in
    let same : at + length (joined (fs ++ gs)) ≡ next + length (joined gs) = joined_more at fs gs in
    let front : frames_at {A = A} {E = E} at text ≡ placed_frames at fs =
    by_cut at text left fs refl refl ∙ ap (λ (b : Bool). placed_frames {A = A} {E = E} at fs ++ long_item b (stated left) next) short ∙ append-nil (placed_frames at fs) in
    by_cut at (text ++ more) rest (fs ++ gs) cut.0 cut.1
    ∙ ap (λ (n : ℕ). placed_frames {A = A} {E = E} at (fs ++ gs) ++ long_item (is_too_long rest) (stated rest) n) same
    ∙ ap (λ (ps : List (Placed A E)). ps ++ long_item (is_too_long rest) (stated rest) (next + length (joined gs))) (placed_more at fs gs)
    ∙ append_assoc (placed_frames at fs) (placed_frames next gs) (long_item (is_too_long rest) (stated rest) (next + length (joined gs)))
    ∙ ap (λ (ps : List (Placed A E)). placed_frames at fs ++ ps) (sym (by_cut next (left ++ more) rest gs refl refl))
    ∙ ap (λ (ps : List (Placed A E)). ps ++ frames_at next (left ++ more)) (sym front)
  where
    joined_more : (at : ℕ) (fs gs : List Frame) → at + length (joined (fs ++ gs)) ≡ at + length (joined fs) + length (joined gs)
    joined_more at [] gs = omega arith
    joined_more at (f ∷ fs) gs = omega (arith, joined_more at fs gs, length-append (frame_bytes f) (joined (fs ++ gs)), length-append (frame_bytes f) (joined fs))

-- and where one does, nothing comes behind it
pub frames_over : {A E : Type 0} (at : ℕ) (text more : List ℕ) → is_too_long (rest_of text) ≡ true → frames_at {A = A} {E = E} at (text ++ more) ≡ frames_at at text
frames_over {A} {E} at text more long =
    let cut = cut_more text more in
    let fs : List Frame = frames_of text in
    let left : List ℕ = rest_of text in
    let still = too_long_more left more (stated left) (record { too_long = long; stated = refl }) in
    let none = cut_none (left ++ more) (long_none (left ++ more) still.too_long) in
    let frames_are : frames_of (text ++ more) ≡ fs = cut.0 ∙ ap (λ (gs : List Frame). fs ++ gs) none.0 ∙ append-nil fs in
    let next : ℕ = at + length (joined fs) in
    by_cut at (text ++ more) (left ++ more) fs frames_are (cut.1 ∙ none.1)
    ∙ ap (λ (n : ℕ). placed_frames {A = A} {E = E} at fs ++ long_item (is_too_long (left ++ more)) n next) still.stated
    ∙ ap (λ (b : Bool). placed_frames {A = A} {E = E} at fs ++ long_item b (stated left) next) (still.too_long ∙ sym long)
    ∙ sym (by_cut at text left fs refl refl)
