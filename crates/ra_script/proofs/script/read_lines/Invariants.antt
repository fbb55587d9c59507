use Rattle.std.proofs.Common.{◌≡◌, ◌+◌, ◌≤◌, length}
use Rattle.ra_script.specs.Lines.{lines_by, text_lines}
use Rattle.ra_script.proofs.Lines.{with_front}
use Rattle.ra_script.proofs.script.read_lines.Given as goal

-- the lines so far and those of what is left are those of the text
abbrev pub invariant-loop-rest : goal.invariant-loop-rest
invariant-loop-rest g l =
    let says = g.L.ReadWords.says in
    record {
      read : with_front l.lines.items (lines_by says l.number (text_lines l.rest)) ≡ lines_by says 1 (text_lines l.fn.bytes);
      numbers : l.number + length l.rest ≤ length l.fn.bytes + 1;
    }

abbrev pub decreases-loop-rest : goal.decreases-loop-rest
decreases-loop-rest g l = length l.rest
