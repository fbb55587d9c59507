-- What `soak` prints for its words.
use Rattle.std.specs.Prelude.{ℕ, List, [], ◌∷◌, ◌++◌, length, codes}
use Rattle.std.specs.Fmt.{decimal}
use Rattle.ra_base.specs.declared.event.Side.TheVariants.{A, B}
use Rattle.ra_model.specs.Worlds.{World, new_world}
use Rattle.ra_script.specs.declared.line.Line.{Line}
use Rattle.ra_script.specs.Generated.{generated}
use Rattle.ra_endpoint_commands.specs.declared.soak.Summary.{Summary}
use Rattle.ra_endpoint_commands.specs.Lines.{line}
use Rattle.ra_endpoint_commands.specs.ReplayLines.{side_sums}
use Rattle.ra_endpoint_commands.specs.Replay.{line_step}

-- the world behind lines, where what is refused changes nothing
unfoldable pub world_behind : List Line → World → World
world_behind [] w = w
world_behind (l ∷ lines) w = world_behind lines (line_step l w).world

-- the sums of a run that many lines long
unfoldable pub summary_of : ℕ → ℕ → ℕ → World → Summary
summary_of start steps lines w = record {
  start = start;
  steps = steps;
  lines = lines;
  links = length w.links;
  a_said = length w.a.endpoint.said;
  a_heard = length w.a.heard;
  b_said = length w.b.endpoint.said;
  b_heard = length w.b.heard;
}

abbrev pub summary_line : Summary → List ℕ
summary_line s =
    line (codes "soak start=" ++ decimal s.start ++ codes " steps=" ++ decimal s.steps ++ codes " lines=" ++ decimal s.lines ++ codes " links=" ++ decimal s.links
    ++ codes " " ++ side_sums A s.a_said s.a_heard ++ codes " " ++ side_sums B s.b_said s.b_heard)

-- what is printed for the words `soak START STEPS`
unfoldable pub soak_text : ℕ → ℕ → List ℕ
soak_text start steps =
    let lines = generated start steps in
    summary_line (summary_of start steps (length lines) (world_behind lines (new_world 0)))
