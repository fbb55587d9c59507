-- The links between two endpoints.
use Rattle.std.specs.Prelude.{ℕ, zero, suc, ◌+◌, min, Bool, true, false, if◌then◌else◌, Option, None, List, [], ◌++◌, drop, slice_get, slice_set}
use Rattle.ra_base.specs.declared.event.Side.{Side}
use Rattle.ra_base.specs.declared.event.Side.TheVariants.{A, B}
use Rattle.ra_base.specs.declared.event.Count.{Count}
use Rattle.ra_base.specs.declared.event.Count.TheVariants.{All, Exact, Most}

abbrev pub other : Side → Side
other A = B
other B = A

-- one direction of a link: the bytes that were written on it, and how many of them were read
pub record Direction : Type 0 where
  pub written : List ℕ
  pub read : ℕ

-- the two directions of a link. Once it is cut, nothing is written on it or read from it
pub record Link : Type 0 where
  pub to_a : Direction
  pub to_b : Direction
  pub is_cut : Bool

abbrev pub new_link : Link
new_link = record { to_a = record { written = []; read = 0 }; to_b = record { written = []; read = 0 }; is_cut = false }

-- the direction that leads to a side
abbrev pub direction_to : Side → Link → Direction
direction_to A link = link.to_a
direction_to B link = link.to_b

abbrev pub with_direction_to : Side → Direction → Link → Link
with_direction_to A direction link = record { to_a = direction; to_b = link.to_b; is_cut = link.is_cut }
with_direction_to B direction link = record { to_a = link.to_a; to_b = direction; is_cut = link.is_cut }

-- the n-th, counted from 1
abbrev pub at_number : {X : Type 0} → List X → ℕ → Option X
at_number xs zero = None
at_number xs (suc n) = slice_get xs n

-- the list with another n-th element
abbrev pub put_number : {X : Type 0} → List X → ℕ → X → List X
put_number xs zero x = xs
put_number xs (suc n) x = slice_set xs n x

-- how many bytes it takes of those that are there
abbrev pub amount : Count → ℕ → ℕ
amount All there = there
amount (Exact n) there = min n there
amount (Most n) there = min n there

-- the bytes of a link that a side can read
abbrev pub readable : Side → Link → List ℕ
readable side link = if link.is_cut then [] else drop (direction_to side link).read (direction_to side link).written

-- a side has read n bytes more
abbrev pub read_on : Side → ℕ → Link → Link
read_on side n link =
    with_direction_to side (record { written = (direction_to side link).written; read = (direction_to side link).read + n }) link

-- bytes were written to a side. On a cut link they vanish
abbrev pub written_to : Side → List ℕ → Link → Link
written_to side bytes link =
    with_direction_to side
    (record { written = (direction_to side link).written ++ (if link.is_cut then [] else bytes); read = (direction_to side link).read })
    link

-- it is cut
abbrev pub cut_off : Link → Link
cut_off link = record { to_a = link.to_a; to_b = link.to_b; is_cut = true }
