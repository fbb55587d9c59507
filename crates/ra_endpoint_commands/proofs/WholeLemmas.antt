-- Reading a whole input, piece by piece.
use Rattle.std.proofs.Common.{◌≡◌, ℕ, ◌-◌, ◌<◌, ◌≤◌, List, [], ◌++◌, length, append_assoc, append-nil, length-append, sym, ap, ◌∙◌, refl, arith}
use Rattle.std.specs.Prelude.{Option, Some, None}
use Rattle.std.specs.Io.KnownBytes.{Consumes, IsAtEnd}

-- these bytes were read of what was left at first
abbrev pub HasRead : Option (List ℕ) → Option (List ℕ) → List ℕ → Type 0
HasRead left left' bytes = (input : List ℕ) → left ≡ Some input → (rest : List ℕ) × (left' ≡ Some rest) × (input ≡ bytes ++ rest)

pub record IsReading (limit : ℕ) (left left' : Option (List ℕ)) (bytes : List ℕ) (reads reads' : ℕ) : Type 0 where
  pub told : HasRead left left' bytes
  pub within : length bytes ≤ limit
  pub faults : reads ≤ reads'

pub reading_at_start : (limit : ℕ) (left : Option (List ℕ)) (bytes : List ℕ) (reads : ℕ) → bytes ≡ [] → IsReading limit left left bytes reads reads
reading_at_start limit left bytes reads none = record {
  told = λ input is. (input, is, ap (λ (t : List ℕ). t ++ input) (sym none));
  within = omega (arith, ap length none);
  faults = omega arith;
}

left_of : (lo lo' : Option (List ℕ)) (piece rest : List ℕ) → lo ≡ Some rest → Consumes lo lo' piece → (rest' : List ℕ) × (lo' ≡ Some rest') × (rest ≡ piece ++ rest')
left_of None lo' piece rest e c = absurd cc
left_of (Some x) None piece rest e c = absurd c
left_of (Some x) (Some y) piece rest e c = (y, refl, (let same : x ≡ rest = cc in sym same ∙ c))

end_of : (lo : Option (List ℕ)) (rest : List ℕ) → lo ≡ Some rest → IsAtEnd lo → rest ≡ []
end_of None rest e end = absurd cc
end_of (Some x) rest e end = let same : x ≡ rest = cc in sym same ∙ end

read_on : (left lo lo' : Option (List ℕ)) (bytes piece : List ℕ) → HasRead left lo bytes → Consumes lo lo' piece → HasRead left lo' (bytes ++ piece)
read_on left lo lo' bytes piece h read input is =
    let s = h input is in
    let l = left_of lo lo' piece s.0 s.1 read in
    (l.0, l.1, s.2 ∙ ap (λ (t : List ℕ). bytes ++ t) l.2 ∙ sym (append_assoc bytes piece l.0))

pub reading_on : (limit : ℕ) (left lo lo' : Option (List ℕ)) (bytes bytes' piece : List ℕ) (reads reads' reads'' k : ℕ) → IsReading limit left lo bytes reads reads' → Consumes lo lo' piece
    → bytes' ≡ bytes ++ piece → k ≡ length piece → k ≤ limit - length bytes → reads' ≤ reads'' → IsReading limit left lo' bytes' reads reads''
reading_on limit left lo lo' bytes bytes' piece reads reads' reads'' k r read is count room later = record {
  told = λ input here. let s = read_on left lo lo' bytes piece r.told read input here in (s.0, s.1, s.2 ∙ ap (λ (t : List ℕ). t ++ s.0) (sym is));
  within = omega (arith, r.within, room, count, ap length is, length-append bytes piece);
  faults = omega (arith, r.faults, later);
}

-- the input ended
pub all_read : (limit : ℕ) (left lo lo' : Option (List ℕ)) (bytes : List ℕ) (reads reads' : ℕ) → IsReading limit left lo bytes reads reads' → Consumes lo lo' [] → IsAtEnd lo'
    → (length bytes ≤ limit) × ((input : List ℕ) → left ≡ Some input → (bytes ≡ input) × (lo' ≡ Some []))
all_read limit left lo lo' bytes reads reads' r read at = (
  r.within,
  λ input here.
      let s = read_on left lo lo' bytes [] r.told read input here in
      let none : s.0 ≡ [] = end_of lo' s.0 s.1 at in
      (sym (s.2 ∙ ap (λ (t : List ℕ). (bytes ++ []) ++ t) none ∙ append-nil (bytes ++ []) ∙ append-nil bytes), s.1 ∙ ap (λ (t : List ℕ). Some t) none),
)

-- more came than the limit
pub read_over : (limit : ℕ) (left lo lo' : Option (List ℕ)) (bytes piece : List ℕ) (reads reads' k : ℕ) → IsReading limit left lo bytes reads reads' → Consumes lo lo' piece
    → k ≡ length piece → limit - length bytes < k → (input : List ℕ) → left ≡ Some input → limit < length input
read_over limit left lo lo' bytes piece reads reads' k r read count over input here =
    let s = read_on left lo lo' bytes piece r.told read input here in
    omega (arith, ap length s.2, length-append (bytes ++ piece) s.0, length-append bytes piece, r.within, count, over)
