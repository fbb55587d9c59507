-- Which lists of lines have a text that is read again.
use Rattle.std.specs.Prelude.{ℕ, ◌<◌, List, [], ◌∷◌, ◌++◌, map}
use Rattle.std.specs.List.{AllByRecursion, flat_map, join_with_byte}
use Rattle.hex.specs.Hex.{IsBytes}
use Rattle.ra_base.specs.declared.event.Count.{Count}
use Rattle.ra_base.specs.declared.event.Count.TheVariants.{All, Exact, Most}
use Rattle.ra_base.specs.declared.event.Event.{Event}
use Rattle.ra_base.specs.declared.event.Event.TheVariants as events
use Rattle.ra_script.specs.declared.line.Line.{Line}
use Rattle.ra_script.specs.declared.line.Line.TheVariants.{Base, Do, Drain}
use Rattle.ra_script.specs.Words.{number_limit, moment_limit}
use Rattle.ra_script.specs.Texts.{line_text}

abbrev pub IsCountInRange : Count → Type 0
IsCountInRange All = Unit {0}
IsCountInRange (Exact n) = n < number_limit
IsCountInRange (Most n) = n < number_limit

abbrev pub IsEventInRange : Event → Type 0
IsEventInRange (events.At now) = now < moment_limit
IsEventInRange (events.Begin side link count) = (link < number_limit) × IsCountInRange count
IsEventInRange (events.Say side body) = IsBytes body
IsEventInRange (events.Control side body) = IsBytes body
IsEventInRange (events.Write side count) = IsCountInRange count
IsEventInRange (events.Read side link count) = (link < number_limit) × IsCountInRange count
IsEventInRange (events.Cut link) = link < number_limit
IsEventInRange _ = Unit {0}

-- the numbers have 64 bits, as they have in a program, and a moment has 53
abbrev pub IsInRange : Line → Type 0
IsInRange (Base base) = base < number_limit
IsInRange (Do event) = IsEventInRange event
IsInRange (Drain side) = Unit {0}

abbrev pub IsNoBase : Line → Type 0
IsNoBase (Base base) = ⊥
IsNoBase _ = Unit {0}

-- a base stands first or nowhere
abbrev pub HasBaseFirst : List Line → Type 0
HasBaseFirst [] = Unit {0}
HasBaseFirst (line ∷ lines) = AllByRecursion IsNoBase lines

pub record IsPrintable (lines : List Line) : Type 0 where
  pub base_first : HasBaseFirst lines
  pub in_range : AllByRecursion IsInRange lines

-- the lines with a newline after each, and with one between each two
abbrev pub ended_text : List Line → List ℕ
ended_text lines = flat_map (λ line. line_text line ++ 10 ∷ []) lines

abbrev pub parted_text : List Line → List ℕ
parted_text lines = join_with_byte 10 (map line_text lines)
