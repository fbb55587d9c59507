-- What was read is kept, step by step.
use Rattle.std.proofs.Common.{◌≡◌, ℕ, List, [], ◌∷◌, ◌++◌, refl, ap, sym, ◌∙◌, append_assoc, append-nil}
use Rattle.std.proofs.lemmas.List.Concat.{flat_map-append}
use Rattle.std.specs.List.{AllByRecursion}
use Rattle.ra_model.specs.declared.frame.Frame.{Frame}
use Rattle.ra_model.specs.Frames.{IsFrame, Begins, frame_bytes, joined}
use Rattle.ra_frame.specs.Readings.{HasRead, new, fed, taken, IsKept}

all_more : (frames : List Frame) (f : Frame) → AllByRecursion IsFrame frames → IsFrame f → AllByRecursion IsFrame (frames ++ f ∷ [])
all_more [] f all fits = (fits, tt)
all_more (g ∷ frames) f all fits = (all.0, all_more frames f all.1 fits)

joined_more : (frames : List Frame) (f : Frame) → joined (frames ++ f ∷ []) ≡ joined frames ++ frame_bytes f
joined_more frames f = flat_map-append frame_bytes frames (f ∷ []) ∙ ap (λ (t : List ℕ). joined frames ++ t) (append-nil (frame_bytes f))

kept_fed : (text piece unread : List ℕ) (frames : List Frame) → IsKept text frames unread → IsKept (text ++ piece) frames (unread ++ piece)
kept_fed text piece unread frames k = record {
  whole = ap (λ (t : List ℕ). t ++ piece) k.whole ∙ append_assoc (joined frames) unread piece;
  each = k.each;
}

kept_taken : (text unread rest : List ℕ) (frames : List Frame) (f : Frame) → Begins unread f rest → IsKept text frames unread → IsKept text (frames ++ f ∷ []) rest
kept_taken text unread rest frames f front k = record {
  whole = k.whole ∙ ap (λ (t : List ℕ). joined frames ++ t) front.whole ∙ sym (append_assoc (joined frames) (frame_bytes f) rest)
      ∙ ap (λ (t : List ℕ). t ++ rest) (sym (joined_more frames f));
  each = all_more frames f k.each front.fits;
}

pub kept : {text : List ℕ} {frames : List Frame} {unread : List ℕ} → HasRead text frames unread → IsKept text frames unread
kept new = record { whole = refl; each = tt }
kept (fed piece r) = kept_fed _ piece _ _ (kept r)
kept (taken f front r) = kept_taken _ _ _ _ f front (kept r)
