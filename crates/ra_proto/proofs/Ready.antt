-- A reader is ready where a frame or a header that states too long a body is there.
use Rattle.std.proofs.Common.{◌≡◌, ℕ, Bool, true, false, ◌||◌, Option, Some, None, List, refl}
use Rattle.std.specs.Prelude.{is_some}
use Rattle.ra_model.specs.declared.frame.Frame.{Frame}
use Rattle.ra_model.specs.Frames.{HoldsNoFrame}
use Rattle.ra_model.specs.FirstFrame.{first_frame, is_too_long}
use Rattle.ra_model.proofs.Framing.{first_frame-none}
use Rattle.ra_frame.specs.Fronts.{IsPartial}

ready_by : (text : List ℕ) (b long : Bool) (first : Option (Frame × List ℕ)) → is_too_long text ≡ long → first_frame text ≡ first
    → (b ≡ false → IsPartial text) → (HoldsNoFrame text → is_too_long text ≡ false → b ≡ false) → b ≡ (long || is_some first)
ready_by text false true first is_long is_first partial none = let k : IsPartial text = partial refl in let no : is_too_long text ≡ false = k.not_too_long in cc
ready_by text false false None is_long is_first partial none = refl
ready_by text false false (Some next) is_long is_first partial none = let k : IsPartial text = partial refl in let no : first_frame text ≡ None = k.no_frame in cc
ready_by text true true first is_long is_first partial none = refl
ready_by text true false (Some next) is_long is_first partial none = refl
ready_by text true false None is_long is_first partial none = let no : true ≡ false = none (first_frame-none text is_first) is_long in cc

pub ready_is : (text : List ℕ) (b : Bool) → (b ≡ false → IsPartial text) → (HoldsNoFrame text → is_too_long text ≡ false → b ≡ false) → b ≡ (is_too_long text || is_some (first_frame text))
ready_is text b partial none = ready_by text b (is_too_long text) (first_frame text) refl refl partial none
