-- The bytes of a header, one by one.
use Rattle.std.proofs.Common.{refl, append_assoc, leb, ◌||◌, ◌≡◌, ℕ, ◌+◌, Bool, true, false, List, ◌∷◌, ◌++◌, length, get_or, ap, sym, ◌∙◌, arith}
use Rattle.std.specs.Int.{w32, w64, to_be_bytes}
use Rattle.ra_model.specs.declared.frame.Frame.{Frame}
use Rattle.ra_model.specs.FrameKinds.{written_frame}
use Rattle.ra_model.specs.Frames.{frame_bytes, number_width, wide_mark}

-- the bytes of a frame, were it wide or not
bytes_with : Bool → Frame → List ℕ
bytes_with wide f = (f.kind + wide_mark wide) ∷ (to_be_bytes (number_width wide) f.id ++ (to_be_bytes (number_width wide) f.ack ++ (to_be_bytes w32 (length f.body) ++ f.body)))

abbrev four : List ℕ → List ℕ → List ℕ
four b more = get_or b 0 0 ∷ get_or b 1 0 ∷ get_or b 2 0 ∷ get_or b 3 0 ∷ more

abbrev eight : List ℕ → List ℕ → List ℕ
eight b more = get_or b 0 0 ∷ get_or b 1 0 ∷ get_or b 2 0 ∷ get_or b 3 0 ∷ get_or b 4 0 ∷ get_or b 5 0 ∷ get_or b 6 0 ∷ get_or b 7 0 ∷ more

pub short_bytes : (f : Frame) (id ack len : List ℕ) → f.wide ≡ false → id ≡ to_be_bytes w32 f.id → ack ≡ to_be_bytes w32 f.ack → len ≡ to_be_bytes w32 (length f.body)
    → frame_bytes f ≡ f.kind ∷ four id (four ack (four len f.body))
unfolding frame_bytes bytes_with
short_bytes f id ack len wide p q r =
    ap (λ (w : Bool). bytes_with w f) wide
    ∙ ap (λ (k : ℕ). k ∷ four (to_be_bytes w32 f.id) (four (to_be_bytes w32 f.ack) (four (to_be_bytes w32 (length f.body)) f.body))) (omega arith)
    ∙ ap (λ (b : List ℕ). f.kind ∷ four b (four (to_be_bytes w32 f.ack) (four (to_be_bytes w32 (length f.body)) f.body))) (sym p)
    ∙ ap (λ (b : List ℕ). f.kind ∷ four id (four b (four (to_be_bytes w32 (length f.body)) f.body))) (sym q)
    ∙ ap (λ (b : List ℕ). f.kind ∷ four id (four ack (four b f.body))) (sym r)

pub wide_bytes : (f : Frame) (id ack len : List ℕ) → f.wide ≡ true → id ≡ to_be_bytes w64 f.id → ack ≡ to_be_bytes w64 f.ack → len ≡ to_be_bytes w32 (length f.body)
    → frame_bytes f ≡ (f.kind + 128) ∷ eight id (eight ack (four len f.body))
unfolding frame_bytes bytes_with
wide_bytes f id ack len wide p q r =
    ap (λ (w : Bool). bytes_with w f) wide
    ∙ ap (λ (b : List ℕ). (f.kind + 128) ∷ eight b (eight (to_be_bytes w64 f.ack) (four (to_be_bytes w32 (length f.body)) f.body))) (sym p)
    ∙ ap (λ (b : List ℕ). (f.kind + 128) ∷ eight id (eight b (four (to_be_bytes w32 (length f.body)) f.body))) (sym q)
    ∙ ap (λ (b : List ℕ). (f.kind + 128) ∷ eight id (eight ack (four b f.body))) (sym r)

-- by the parts of the frame
pub short_of : (f : Frame) (kind id ack len : ℕ) (i a l : List ℕ) → i ≡ to_be_bytes w32 id → a ≡ to_be_bytes w32 ack → l ≡ to_be_bytes w32 len → f.wide ≡ false → f.kind ≡ kind → f.id ≡ id → f.ack ≡ ack → length f.body ≡ len
    → frame_bytes f ≡ kind ∷ four i (four a (four l f.body))
short_of f kind id ack len i a l p q r wide k x y z =
    short_bytes f i a l wide (p ∙ ap (to_be_bytes w32) (sym x)) (q ∙ ap (to_be_bytes w32) (sym y)) (r ∙ ap (to_be_bytes w32) (sym z))
    ∙ ap (λ (n : ℕ). n ∷ four i (four a (four l f.body))) k

pub wide_of : (f : Frame) (kind id ack len : ℕ) (i a l : List ℕ) → i ≡ to_be_bytes w64 id → a ≡ to_be_bytes w64 ack → l ≡ to_be_bytes w32 len → f.wide ≡ true → f.kind ≡ kind → f.id ≡ id → f.ack ≡ ack → length f.body ≡ len
    → frame_bytes f ≡ (kind + 128) ∷ eight i (eight a (four l f.body))
wide_of f kind id ack len i a l p q r wide k x y z =
    wide_bytes f i a l wide (p ∙ ap (to_be_bytes w64) (sym x)) (q ∙ ap (to_be_bytes w64) (sym y)) (r ∙ ap (to_be_bytes w32) (sym z))
    ∙ ap (λ (n : ℕ). (n + 128) ∷ eight i (eight a (four l f.body))) k

-- the bytes of a frame as it is written, behind others
pub written_behind : (kind id ack : ℕ) (body before header : List ℕ) (wide : Bool) → (leb 4294967296 id || leb 4294967296 ack) ≡ wide
    → ((f : Frame) → f.wide ≡ wide → f.kind ≡ kind → f.id ≡ id → f.ack ≡ ack → length f.body ≡ length body → frame_bytes f ≡ header ++ f.body)
    → (before ++ header) ++ body ≡ before ++ frame_bytes (written_frame kind id ack body)
unfolding written_frame
written_behind kind id ack body before header wide is h =
    append_assoc before header body ∙ ap (λ (t : List ℕ). before ++ t) (sym (h (written_frame kind id ack body) is refl refl refl refl))
