-- Texts of honest frames: they stay honest, and go on.
use Rattle.std.proofs.Common.{◌≡◌, ℕ, zero, suc, ◌-◌, ◌≤◌, Some, List, [], ◌∷◌, ◌++◌, refl, ap, sym, ◌∙◌, subst, arith, append_assoc}
use Rattle.std.proofs.lemmas.List.{append-nil}
use Rattle.std.proofs.lemmas.List.Concat.{flat_map-append}
use Rattle.std.specs.List.{AllByRecursion}
use Rattle.std.specs.Prelude.{slice_get}
use Rattle.ra_model.specs.Frames.{IsFrame, joined, frame_bytes}
use Rattle.ra_model.specs.declared.frame.Frame.{Frame}
use Rattle.ra_model.specs.Links.{at_number}
use Rattle.ra_model.specs.Pairs.{IsHonest, AllHonest, IsJoining, IsFront}

get_more : {X : Type 0} → (xs ys : List X) (n : ℕ) (x : X) → slice_get xs n ≡ Some x → slice_get (xs ++ ys) n ≡ Some x
get_more [] ys n x h = cc
get_more (y ∷ xs) ys zero x h = h
get_more (y ∷ xs) ys (suc n) x h = get_more xs ys n x h

-- a numbered element keeps its number
pub at_number_more : {X : Type 0} → (xs ys : List X) (n : ℕ) (x : X) → at_number xs n ≡ Some x → at_number (xs ++ ys) n ≡ Some x
at_number_more xs ys zero x h = cc
at_number_more xs ys (suc n) x h = get_more xs ys n x h

-- more was said, or more was heard: what was honest still is
pub record Grown (said said' : List (List ℕ)) (heard heard' : ℕ) : Type 0 where
  pub still : (n : ℕ) (body : List ℕ) → at_number said n ≡ Some body → at_number said' n ≡ Some body
  pub more : heard ≤ heard'

pub honest_grown : (base : ℕ) {said said' : List (List ℕ)} {heard heard' : ℕ} → Grown said said' heard heard' → (f : Frame) → IsHonest base said heard f → IsHonest base said' heard' f
honest_grown base g f h = record { fits = h.fits; message = λ is. g.still (f.id - base) f.body (h.message is); ack = omega (arith, g.more, h.ack) }

pub all_grown : (base : ℕ) {said said' : List (List ℕ)} {heard heard' : ℕ} → Grown said said' heard heard' → (fs : List Frame) → AllHonest base said heard fs → AllHonest base said' heard' fs
all_grown base g [] h = tt
all_grown base g (f ∷ fs) h = (honest_grown base g f h.0, all_grown base g fs h.1)

pub joining_grown : (base : ℕ) {said said' : List (List ℕ)} {heard heard' : ℕ} → Grown said said' heard heard' → (text : List ℕ) → IsJoining base said heard text → IsJoining base said' heard' text
joining_grown base g text h = (h.0, all_grown base g h.0 h.1, h.2)

pub front_grown : (base : ℕ) {said said' : List (List ℕ)} {heard heard' : ℕ} → Grown said said' heard heard' → (text : List ℕ) → IsFront base said heard text → IsFront base said' heard' text
front_grown base g text h = (h.0, joining_grown base g (text ++ h.0) h.1)

pub all_append : {X : Type 0} (P : X → Type 0) → (xs ys : List X) → AllByRecursion P xs → AllByRecursion P ys → AllByRecursion P (xs ++ ys)
all_append P [] ys a b = b
all_append P (x ∷ xs) ys a b = (a.0, all_append P xs ys a.1 b)

pub all_right : {X : Type 0} (P : X → Type 0) → (xs ys : List X) → AllByRecursion P (xs ++ ys) → AllByRecursion P ys
all_right P [] ys a = a
all_right P (x ∷ xs) ys a = all_right P xs ys a.1

pub all_fit : (base : ℕ) (said : List (List ℕ)) (heard : ℕ) (fs : List Frame) → AllHonest base said heard fs → AllByRecursion IsFrame fs
all_fit base said heard [] h = tt
all_fit base said heard (f ∷ fs) h = (h.0.fits, all_fit base said heard fs h.1)

-- honest frames are written behind honest frames
pub joining_append : (base : ℕ) (said : List (List ℕ)) (heard : ℕ) (text : List ℕ) (fs : List Frame) → IsJoining base said heard text → AllHonest base said heard fs → IsJoining base said heard (text ++ joined fs)
joining_append base said heard text fs h all =
    (h.0 ++ fs, all_append (IsHonest base said heard) h.0 fs h.1 all, ap (λ (t : List ℕ). t ++ joined fs) h.2 ∙ sym (flat_map-append frame_bytes h.0 fs))

pub front_from_joining : (base : ℕ) (said : List (List ℕ)) (heard : ℕ) (text : List ℕ) → IsJoining base said heard text → IsFront base said heard text
front_from_joining base said heard text h = ([], subst (λ (t : List ℕ). IsJoining base said heard t) (sym (append-nil text)) h)

-- a front of a front
pub front_front : (base : ℕ) (said : List (List ℕ)) (heard : ℕ) (text more : List ℕ) → IsFront base said heard (text ++ more) → IsFront base said heard text
front_front base said heard text more h = (more ++ h.0, subst (λ (t : List ℕ). IsJoining base said heard t) (append_assoc text more h.0) h.1)

pub joining_nil : (base : ℕ) (said : List (List ℕ)) (heard : ℕ) → IsJoining base said heard []
joining_nil base said heard = ([], tt, refl)
