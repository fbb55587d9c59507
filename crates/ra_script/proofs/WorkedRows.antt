-- Worked rows.
use Rattle.std.proofs.Common.{◌≡◌, ◌∷◌, [], true, false, length, Ok, Err, refl}
use Rattle.std.specs.Prelude.{codes}
use Rattle.hex.specs.Hex.{decode_pairs, encode_with}
use Rattle.std.specs.Fmt.{digits}
use Rattle.ra_base.specs.declared.event.Side.TheVariants.{A, B}
use Rattle.ra_base.specs.declared.event.Count.TheVariants.{Most}
use Rattle.ra_base.specs.declared.event.Event.TheVariants.{Say, Write}
use Rattle.ra_script.specs.declared.line.Line.TheVariants.{Do}
use Rattle.ra_script.specs.declared.line.What.TheVariants.{UnknownWord, WrongCount, BadNumber}
use Rattle.ra_script.specs.declared.line.ScriptFault.TheVariants.{At}
use Rattle.ra_script.specs.Words.{number_at, count_at, bytes_at}
use Rattle.ra_script.specs.Keywords.{keyword_at}
use Rattle.ra_script.specs.Texts.{line_text}
use Rattle.ra_script.specs.Lines.{line_by, lines_by, text_lines}
use Rattle.ra_script.specs.Reading.{line_at, script_at, row_at, nothing_at, side_bytes_at, side_count_at, side_link_count_at}
use Rattle.ra_script.specs.Generated.{generated, steps_lines, step_lines, generator_after}

upper_case : line_at true (codes "say A 6A") ≡ Ok (Do (Say A (106 ∷ [])))
unfolding line_by keyword_at row_at side_bytes_at bytes_at decode_pairs
upper_case = refl

lower_case : line_text (Do (Say A (106 ∷ []))) ≡ codes "say A 6a"
unfolding line_text encode_with
lower_case = refl

at_most : line_at false (codes "write B ~40") ≡ Ok (Do (Write B (Most 40)))
unfolding line_by keyword_at row_at side_count_at count_at number_at digits
at_most = refl

leading_zero : line_at false (codes "write B ~07") ≡ Err BadNumber
unfolding line_by keyword_at row_at side_count_at count_at number_at digits
leading_zero = refl

count_of_words_first : line_at false (codes "begin C x") ≡ Err WrongCount
unfolding line_by keyword_at row_at side_link_count_at
count_of_words_first = refl

second_line : script_at (codes "link\nfly A") ≡ Err (At 2 UnknownWord)
unfolding text_lines lines_by line_by keyword_at row_at nothing_at
second_line = refl

no_step : length (generated 0 0) ≡ 9
unfolding steps_lines
no_step = refl

one_step : length (generated 0 1) ≡ 20
unfolding steps_lines step_lines generator_after
one_step = refl
