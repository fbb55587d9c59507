-- What one call gives of the steps of a link in memory.
use Rattle.std.proofs.Common.{◌≡◌, inl, inr, ℕ, ◌+◌, ◌-◌, ◌<◌, ◌≤◌, cond, List, [], ◌∷◌, ◌++◌, length, get_or, take, drop, min, Result, Ok, Err, All, refl, sym, ap, subst, ◌∙◌, arith, append_assoc}
use Rattle.std.specs.Prelude.{nat_le}
use Rattle.std.proofs.lemmas.Grind.{common_steps}
use Rattle.std.proofs.lemmas.List.{drop_more, drop-drop, take-append-drop, length-drop, take_all}
use Rattle.std.proofs.lemmas.List.Elements.{All-drop, All-head}
use Rattle.ra_ports.specs.declared.Failed.{Failed}
use Rattle.ra_ports.specs.declared.link.Got.{Got}
use Rattle.ra_ports.specs.declared.link.Got.TheVariants.{Bytes, NotYet, End}
use Rattle.ra_ports.specs.declared.link_step.LinkStep.{LinkStep}
use Rattle.ra_ports.specs.declared.link_step.LinkStep.TheVariants.{Piece, Idle, Fault}
use Rattle.ra_ports.specs.Links.{IsPiece, got_bytes}
use Rattle.ra_ports.specs.LinkSteps.{steps_bytes, steps_left, behind_bytes, next_step, IsFilled, IsInFront, IsStepPlace}
use Rattle.ra_ports.specs.Giving.{Gives, GivesPiece, Moves}

-- no byte of the first step is gone
behind_none : (steps : List LinkStep) → behind_bytes 0 steps ≡ steps
behind_none [] = refl
behind_none (Piece bytes ∷ steps) = refl
behind_none (Idle ∷ steps) = refl
behind_none (Fault ∷ steps) = refl

front_of : (steps : List LinkStep) → All IsFilled steps → IsInFront 0 steps
front_of [] filled = refl
front_of (Piece bytes ∷ steps) filled = All-head IsFilled (Piece bytes) steps filled
front_of (Idle ∷ steps) filled = refl
front_of (Fault ∷ steps) filled = refl

-- the place before a step is a place
pub step_place : (steps : List LinkStep) (at : ℕ) → All IsFilled steps → at ≤ length steps → IsStepPlace steps at 0
step_place steps at filled within = record { filled = filled; within = within; inside = front_of (drop at steps) (All-drop IsFilled at steps filled) }

-- there is no step more
drop_end : (steps : List LinkStep) (at : ℕ) → length steps ≤ at → drop at steps ≡ []
drop_end steps at past = nothing (drop at steps) (omega (arith, length-drop at steps))
  where
    nothing : (rest : List LinkStep) → length rest ≤ 0 → rest ≡ []
    nothing [] none = refl
    nothing (step ∷ steps) none = absurd (omega arith)

gives_of : (steps : List LinkStep) (at from : ℕ) (answer : Result Got Failed) (next_at next_from : ℕ) (into : List ℕ) (left rest : List LinkStep)
    → steps_left steps at from ≡ left → steps_left steps next_at next_from ≡ rest
    → next_step left (length into) ≡ (answer, rest) → steps_bytes left ≡ got_bytes answer into ++ steps_bytes rest
    → IsPiece answer into → IsStepPlace steps next_at next_from → (answer ≡ Ok End → next_at ≡ length steps)
    → Gives steps at from answer next_at next_from into
gives_of steps at from answer next_at next_from into left rest left_is rest_is next bytes piece place end = record {
  next = ap (λ (l : List LinkStep). next_step l (length into)) left_is ∙ next ∙ ap (λ (l : List LinkStep). (answer, l)) (sym rest_is);
  bytes = ap steps_bytes left_is ∙ bytes ∙ ap (λ (l : List LinkStep). got_bytes answer into ++ steps_bytes l) (sym rest_is);
  piece = piece;
  place = place;
  end = end;
}

pub gives_end : (steps : List LinkStep) (at from : ℕ) (into : List ℕ) → IsStepPlace steps at from → length steps ≤ at → Gives steps at from (Ok End) at from into
gives_end steps at from into place past =
    let none : steps_left steps at from ≡ [] = ap (behind_bytes from) (drop_end steps at past) in
    gives_of steps at from (Ok End) at from into [] [] none none refl refl tt place (λ _. omega (arith, place.within))

-- the steps from one on
step_at : (steps : List LinkStep) (at : ℕ) (step : LinkStep) → at < length steps → step ≡ get_or steps at step → drop at steps ≡ step ∷ drop (at + 1) steps
step_at steps at step inside is = drop_more steps at step inside ∙ ap (λ (s : LinkStep). s ∷ drop (at + 1) steps) (sym is)

after_is : (steps : List LinkStep) (at : ℕ) → steps_left steps (at + 1) 0 ≡ drop (at + 1) steps
after_is steps at = behind_none (drop (at + 1) steps)

pub gives_idle : (steps : List LinkStep) (at from : ℕ) (into : List ℕ) → IsStepPlace steps at from → at < length steps → Idle ≡ get_or steps at Idle
    → Gives steps at from (Ok NotYet) (at + 1) 0 into
gives_idle steps at from into place inside is =
    gives_of steps at from (Ok NotYet) (at + 1) 0 into (Idle ∷ drop (at + 1) steps) (drop (at + 1) steps)
    (ap (behind_bytes from) (step_at steps at Idle inside is)) (after_is steps at) refl refl tt (step_place steps (at + 1) place.filled (omega arith)) (λ e. absurd cc)

pub gives_fault : (steps : List LinkStep) (at from : ℕ) (into : List ℕ) (failed : Failed) → IsStepPlace steps at from → at < length steps → Fault ≡ get_or steps at Fault
    → Gives steps at from (Err failed) (at + 1) 0 into
gives_fault steps at from into failed place inside is =
    gives_of steps at from (Err failed) (at + 1) 0 into (Fault ∷ drop (at + 1) steps) (drop (at + 1) steps)
    (ap (behind_bytes from) (step_at steps at Fault inside is)) (after_is steps at) refl refl tt (step_place steps (at + 1) place.filled (omega arith)) (λ e. absurd cc)

if_fits : {X : Type 0} (a b : ℕ) (x y : X) → a ≤ b → cond (nat_le a b) x y ≡ x
if_fits a b x y fits = grind (arith, common_steps)

if_above : {X : Type 0} (a b : ℕ) (x y : X) → b < a → cond (nat_le a b) x y ≡ y
if_above a b x y above = grind (arith, common_steps)

-- a buffer with less room than the piece takes a front of it
next_part : (piece : List ℕ) (others : List LinkStep) (room n : ℕ) → n ≡ room → n < length piece
    → next_step (Piece piece ∷ others) room ≡ (Ok (Bytes n), Piece (drop n piece) ∷ others)
next_part piece others room n full more =
    let shorter : room < length piece = omega arith in
    if_above (length piece) room (Ok (Bytes (length piece)), others) (Ok (Bytes room), Piece (drop room piece) ∷ others) shorter
    ∙ ap (λ (k : ℕ). (Ok (Bytes k), Piece (drop k piece) ∷ others)) (sym full)

-- and any other takes all of it
next_whole : (piece : List ℕ) (others : List LinkStep) (room n : ℕ) → n ≡ length piece → n ≤ room → next_step (Piece piece ∷ others) room ≡ (Ok (Bytes n), others)
next_whole piece others room n all fits =
    let within : length piece ≤ room = omega arith in
    if_fits (length piece) room (Ok (Bytes (length piece)), others) (Ok (Bytes room), Piece (drop room piece) ∷ others) within
    ∙ ap (λ (k : ℕ). (Ok (Bytes k), others)) (sym all)

-- the bytes that were taken, and the others
bytes_part : (piece into others : List ℕ) (n : ℕ) → take n into ≡ take n piece → piece ++ others ≡ take n into ++ (drop n piece ++ others)
bytes_part piece into others n copied =
    ap (λ (l : List ℕ). l ++ others) (sym (take-append-drop n piece)) ∙ append_assoc (take n piece) (drop n piece) others
    ∙ ap (λ (l : List ℕ). l ++ (drop n piece ++ others)) (sym copied)

bytes_whole : (piece into others : List ℕ) (n : ℕ) → take n into ≡ take n piece → n ≡ length piece → piece ++ others ≡ take n into ++ others
bytes_whole piece into others n copied all =
    let enough : length piece ≤ n = omega arith in
    ap (λ (l : List ℕ). l ++ others) (sym (take_all n piece enough) ∙ sym copied)

-- a piece of which there is more
part_given : (steps : List LinkStep) (at from n : ℕ) (bytes into : List ℕ) → IsStepPlace steps at from → drop at steps ≡ Piece bytes ∷ drop (at + 1) steps
    → take n into ≡ take n (drop from bytes) → 0 < n → n ≡ length into → from + n < length bytes → Gives steps at from (Ok (Bytes n)) at (from + n) into
part_given steps at from n bytes into place split copied some full more =
    let others : List LinkStep = drop (at + 1) steps in
    let size : length (drop from bytes) ≡ length bytes - from = length-drop from bytes in
    let behind : drop n (drop from bytes) ≡ drop (from + n) bytes = drop-drop n from bytes in
    let fits : n ≤ length into = omega arith in
    let longer : n < length (drop from bytes) = omega arith in
    let place_left : steps_left steps at (from + n) ≡ Piece (drop n (drop from bytes)) ∷ others = ap (behind_bytes (from + n)) split ∙ ap (λ (l : List ℕ). Piece l ∷ others) (sym behind) in
    gives_of steps at from (Ok (Bytes n)) at (from + n) into (Piece (drop from bytes) ∷ others) (Piece (drop n (drop from bytes)) ∷ others)
    (ap (behind_bytes from) split) place_left (next_part (drop from bytes) others (length into) n full longer) (bytes_part (drop from bytes) into (steps_bytes others) n copied)
    (some, fits) (record { filled = place.filled; within = place.within; inside = subst (IsInFront (from + n)) (sym split) more }) (λ e. absurd cc)

-- a piece that ends
whole_given : (steps : List LinkStep) (at from n : ℕ) (bytes into : List ℕ) → IsStepPlace steps at from → at < length steps → drop at steps ≡ Piece bytes ∷ drop (at + 1) steps
    → take n into ≡ take n (drop from bytes) → 0 < n → n ≤ length into → from + n ≡ length bytes → Gives steps at from (Ok (Bytes n)) (at + 1) 0 into
whole_given steps at from n bytes into place inside split copied some fits end =
    let others : List LinkStep = drop (at + 1) steps in
    let all : n ≡ length (drop from bytes) = omega (arith, length-drop from bytes) in
    let next_within : at + 1 ≤ length steps = omega arith in
    gives_of steps at from (Ok (Bytes n)) (at + 1) 0 into (Piece (drop from bytes) ∷ others) others
    (ap (behind_bytes from) split) (after_is steps at) (next_whole (drop from bytes) others (length into) n all fits) (bytes_whole (drop from bytes) into (steps_bytes others) n copied all)
    (some, fits) (step_place steps (at + 1) place.filled next_within) (λ e. absurd cc)

place_in : (steps : List LinkStep) (at from : ℕ) (bytes : List ℕ) → drop at steps ≡ Piece bytes ∷ drop (at + 1) steps → IsStepPlace steps at from → from < length bytes
place_in steps at from bytes split place = subst (IsInFront from) split place.inside

moved : (steps : List LinkStep) (at from n next_at next_from : ℕ) (bytes into : List ℕ) → IsStepPlace steps at from → at < length steps → drop at steps ≡ Piece bytes ∷ drop (at + 1) steps
    → take n into ≡ take n (drop from bytes) → 0 < length into → n ≡ min (length bytes - from) (length into) → Moves (length bytes) n at from next_at next_from
    → Gives steps at from (Ok (Bytes n)) next_at next_from into
moved steps at from n next_at next_from bytes into place inside split copied room n_is (inl part) =
    let within : from < length bytes = place_in steps at from bytes split place in
    let more : from + n < length bytes = part.0 in
    subst (λ (a : ℕ). Gives steps at from (Ok (Bytes n)) a next_from into) (sym part.1)
    (subst (λ (f : ℕ). Gives steps at from (Ok (Bytes n)) at f into) (sym part.2)
    (part_given steps at from n bytes into place split copied (omega arith) (omega arith) more))
moved steps at from n next_at next_from bytes into place inside split copied room n_is (inr whole) =
    let within : from < length bytes = place_in steps at from bytes split place in
    let end : from + n ≡ length bytes = whole.0 in
    subst (λ (a : ℕ). Gives steps at from (Ok (Bytes n)) a next_from into) (sym whole.1)
    (subst (λ (f : ℕ). Gives steps at from (Ok (Bytes n)) (at + 1) f into) (sym whole.2)
    (whole_given steps at from n bytes into place inside split copied (omega arith) (omega arith) end))

pub gives_piece : (steps : List LinkStep) (at from : ℕ) (bytes : List ℕ) (answer : Result Got Failed) (next_at next_from : ℕ) (into : List ℕ)
    → IsStepPlace steps at from → at < length steps → Piece bytes ≡ get_or steps at (Piece bytes) → 0 < length into
    → GivesPiece bytes at from answer next_at next_from into → Gives steps at from answer next_at next_from into
gives_piece steps at from bytes answer next_at next_from into place inside is room gives =
    subst (λ (r : Result Got Failed). Gives steps at from r next_at next_from into) (sym gives.answered)
    (moved steps at from gives.n next_at next_from bytes into place inside (step_at steps at (Piece bytes) inside is) gives.copied room gives.n_is gives.moves)
