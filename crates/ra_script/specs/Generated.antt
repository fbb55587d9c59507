-- The script that is drawn from a number.
use Rattle.std.specs.Prelude.{ℕ, zero, suc, ◌+◌, ◌*◌, ◌/◌, ◌%◌, ◌^◌, nat_lt, if◌then◌else◌, List, [], ◌∷◌, ◌++◌}
use Rattle.ra_base.specs.declared.event.Side.{Side}
use Rattle.ra_base.specs.declared.event.Side.TheVariants.{A, B}
use Rattle.ra_base.specs.declared.event.Count.{Count}
use Rattle.ra_base.specs.declared.event.Count.TheVariants.{All, Exact, Most}
use Rattle.ra_base.specs.declared.event.Event.TheVariants as events
use Rattle.ra_script.specs.declared.line.Line.{Line}
use Rattle.ra_script.specs.declared.line.Line.TheVariants.{Do, Drain}
use Rattle.ra_script.specs.declared.generating.Generator.{Generator}

-- ---- draws

-- the state after a draw
abbrev pub next_state : ℕ → ℕ
next_state x = (x * 6364136223846793005 + 1442695040888963407) % 2 ^ 64

-- the number that is drawn at a state
abbrev pub drawn : ℕ → ℕ
drawn x = next_state x / 2 ^ 33

-- that many bytes, each drawn by itself
unfoldable pub bytes_drawn : ℕ → ℕ → List ℕ
bytes_drawn zero x = []
bytes_drawn (suc n) x = drawn x % 256 ∷ bytes_drawn n (next_state x)

-- the state after that many draws
unfoldable pub state_after : ℕ → ℕ → ℕ
state_after zero x = x
state_after (suc n) x = state_after n (next_state x)

-- a body of fewer than 17 bytes: its length, and then each byte
abbrev pub body_drawn : ℕ → List ℕ
body_drawn x = bytes_drawn (drawn x % 17) (next_state x)

abbrev pub state_after_body : ℕ → ℕ
state_after_body x = state_after (drawn x % 17) (next_state x)

-- ---- lines

-- bytes go from one side to the other, which takes all that came
abbrev pub transfer_lines : Side → Side → ℕ → Count → List Line
transfer_lines from to link count = Do (events.Write from count) ∷ Do (events.Read to link count) ∷ Drain to ∷ []

-- a link on which nothing has come yet
abbrev pub link_lines : ℕ → List Line
link_lines link = Do events.Link ∷ Do (events.Begin A link (Exact 0)) ∷ Do (events.Begin B link (Exact 0)) ∷ []

-- the present link is cut, and the next one taken instead
abbrev pub reconnect_lines : ℕ → List Line
reconnect_lines link = Do (events.Cut link) ∷ Do (events.Lose A) ∷ Do (events.Lose B) ∷ link_lines (link + 1) ++ Do (events.Finish A) ∷ Do (events.Finish B) ∷ []

abbrev pub tick_lines : ℕ → List Line
tick_lines moment = Do (events.At moment) ∷ Do (events.Tick A) ∷ Do (events.Tick B) ∷ []

-- all that was said comes
abbrev pub last_lines : ℕ → List Line
last_lines link = transfer_lines A B link All ++ transfer_lines B A link All

-- ---- steps

-- the moment that a step waits for, and how many bytes it moves
abbrev pub later : Generator → ℕ
later s = s.moment + 1 + drawn s.state % 4000

abbrev pub some_bytes : Generator → Count
some_bytes s = Most (1 + drawn s.state % 40)

-- the lines of a step of kind v, from 0 to 11
unfoldable pub step_lines : ℕ → Generator → List Line
step_lines v s =
    if nat_lt v 3 then Do (events.Say A (body_drawn s.state)) ∷ []
    else if nat_lt v 5 then Do (events.Say B (body_drawn s.state)) ∷ []
    else if nat_lt v 7 then transfer_lines A B s.link All
    else if nat_lt v 9 then transfer_lines B A s.link All
    else if nat_lt v 10 then tick_lines (later s)
    else if nat_lt v 11 then transfer_lines A B s.link (some_bytes s)
    else transfer_lines A B s.link (some_bytes s) ++ reconnect_lines s.link

-- the generator after it
unfoldable pub generator_after : ℕ → Generator → Generator
generator_after v s =
    if nat_lt v 5 then record s { state = state_after_body s.state }
    else if nat_lt v 9 then s
    else if nat_lt v 10 then record s { state = next_state s.state; moment = later s }
    else if nat_lt v 11 then record s { state = next_state s.state }
    else record s { state = next_state s.state; link = s.link + 1 }

-- the kind of the next step, and where it starts
abbrev pub kind_drawn : Generator → ℕ
kind_drawn s = drawn s.state % 12

abbrev pub after_kind : Generator → Generator
after_kind s = record s { state = next_state s.state }

-- that many steps, and then the last lines
unfoldable pub steps_lines : ℕ → Generator → List Line
steps_lines zero s = last_lines s.link
steps_lines (suc n) s = step_lines (kind_drawn s) (after_kind s) ++ steps_lines n (generator_after (kind_drawn s) (after_kind s))

abbrev pub generator_from : ℕ → Generator
generator_from start = record { state = start; link = 1; moment = 0 }

-- the whole script
abbrev pub generated : ℕ → ℕ → List Line
generated start steps = link_lines 1 ++ steps_lines steps (generator_from start)
