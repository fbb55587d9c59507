-- The frame that begins what was read of a text of which the first frame is known.
use Rattle.std.proofs.Common.{◌≡◌, ◌≢◌, ℕ, ◌≤◌, Option, Some, None, List, [], ◌∷◌, ◌++◌, length, drop, true, false, Bool, refl, ap, sym, ◌∙◌, subst, append_assoc, arith}
use Rattle.std.proofs.lemmas.Bool.{cond-true, cond-false}
use Rattle.std.proofs.lemmas.List.{append_cancel_right}
use Rattle.std.proofs.lemmas.Option.{some_pair_parts}
use Rattle.std.proofs.Math.Seq.{drop-append_seam}
use Rattle.ra_model.specs.declared.frame.Frame.{Frame}
use Rattle.ra_model.specs.Frames.{IsFrame, frame_bytes, body_limit}
use Rattle.ra_model.specs.FrameKinds.{frame_kind, written_frame, control_frame, pause_frame}
use Rattle.ra_model.specs.FirstFrame.{first_frame, is_too_long}
use Rattle.ra_model.proofs.Framing.{first_frame_at, first_frame_more}
use Rattle.ra_dial.specs.ShakingStates.{ShakingState}
use Rattle.ra_dial.specs.Handshakes.{Looked, is_open, fails, on_frame, on_first, on_frames}

-- ---- frames

pub is_control : (text : List ℕ) → length text ≤ body_limit → IsFrame (control_frame text)
unfolding written_frame
is_control text fits = record { kind = omega arith; id = omega arith; ack = omega arith; body = fits }

pub is_pause : IsFrame pause_frame
unfolding written_frame
is_pause = record { kind = omega arith; id = omega arith; ack = omega arith; body = omega arith }

pub pause-control : (text : List ℕ) → pause_frame ≢ control_frame text
unfolding written_frame
pause-control text same = let kinds : 7 ≡ 2 = ap (λ (f : Frame). f.kind) same in absurd (omega (arith, kinds))

-- ---- texts

-- what is behind a front
pub drop_behind : (text front rest : List ℕ) → text ≡ front ++ rest → drop (length front) text ≡ rest
drop_behind text front rest is = ap (λ (t : List ℕ). drop (length front) t) is ∙ drop-append_seam front rest

cons_first : {x y : ℕ} {xs ys : List ℕ} → x ∷ xs ≡ y ∷ ys → x ≡ y
cons_first e = cc

cons_rest : {x y : ℕ} {xs ys : List ℕ} → x ∷ xs ≡ y ∷ ys → xs ≡ ys
cons_rest e = cc

-- of two texts that agree, the longer one begins with the other
pub longer_begins : (text front more rest : List ℕ) → text ++ more ≡ front ++ rest → length front ≤ length text → text ≡ front ++ drop (length front) text
longer_begins text [] more rest same le = refl
longer_begins [] (x ∷ xs) more rest same le = absurd (omega (arith, le))
longer_begins (t ∷ ts) (x ∷ xs) more rest same le =
    ap (λ (y : ℕ). y ∷ ts) (cons_first same) ∙ ap (λ (ys : List ℕ). x ∷ ys) (longer_begins ts xs more rest (cons_rest same) (omega (arith, le)))

-- where the first frame of a longer text is known, a text begins with it or has none
pub first_is : (text more behind : List ℕ) (f g : Frame) (rest : List ℕ) → IsFrame g → first_frame text ≡ Some (f, rest) → text ++ more ≡ frame_bytes g ++ behind
    → (f ≡ g) × (text ≡ frame_bytes g ++ rest)
first_is text more behind f g rest fits is same =
    let parts = some_pair_parts f g (rest ++ more) behind (sym (first_frame_more text more f rest is) ∙ ap first_frame same ∙ first_frame_at g behind fits) in
    (parts.0, append_cancel_right text (frame_bytes g ++ rest) more (same ∙ ap (λ (t : List ℕ). frame_bytes g ++ t) (sym parts.1) ∙ sym (append_assoc (frame_bytes g) rest more)))

-- ---- a look at a text of which the first frame is known

on_known : (Q : Looked → Type 0) (signature : List ℕ → List ℕ) (s : ShakingState) (g : Frame) (more behind : List ℕ) → IsFrame g → s.unread ++ more ≡ frame_bytes g ++ behind
    → Q (is_open, s) → ((rest : List ℕ) → s.unread ≡ frame_bytes g ++ rest → Q (on_frame signature (frame_kind g.kind) g rest s))
    → (found : Option (Frame × List ℕ)) → first_frame s.unread ≡ found → Q (on_first signature found s)
on_known Q signature s g more behind fits same opens framed None is = opens
on_known Q signature s g more behind fits same opens framed (Some (f, rest)) is =
    let first = first_is s.unread more behind f g rest fits is same in
    subst (λ (x : Frame). Q (on_frame signature (frame_kind x.kind) x rest s)) (sym first.0) (framed rest first.1)

pub by_frame : (Q : Looked → Type 0) (signature : List ℕ → List ℕ) (s : ShakingState) (g : Frame) (more behind : List ℕ) → IsFrame g → s.unread ++ more ≡ frame_bytes g ++ behind
    → Q (fails, s) → Q (is_open, s) → ((rest : List ℕ) → s.unread ≡ frame_bytes g ++ rest → Q (on_frame signature (frame_kind g.kind) g rest s))
    → (long : Bool) → is_too_long s.unread ≡ long → Q (on_frames signature s)
unfolding on_frames
by_frame Q signature s g more behind fits same failing opens framed true long =
    subst Q (sym (cond-true (is_too_long s.unread) (fails, s) (on_first signature (first_frame s.unread) s) long)) failing
by_frame Q signature s g more behind fits same failing opens framed false long =
    subst Q (sym (cond-false (is_too_long s.unread) (fails, s) (on_first signature (first_frame s.unread) s) long))
    (on_known Q signature s g more behind fits same opens framed (first_frame s.unread) refl)
