-- Worked rows of grand scripts.
use Rattle.std.proofs.Common.{◌≡◌, [], ◌∷◌, pos, Ok, Err, refl}
use Rattle.std.specs.Prelude.{codes}
use Rattle.std.specs.Fmt.{digits}
use Rattle.std.specs.Str.{is_utf8, chars}
use Rattle.hex.specs.Hex.{decode_pairs}
use Rattle.ra_base.specs.declared.kind.Kind.TheVariants.{Management}
use Rattle.ra_base.specs.declared.event.Count.TheVariants.{Most}
use Rattle.ra_script.specs.declared.grand_line.GrandLine.TheVariants.{Do, Drain}
use Rattle.ra_script.specs.declared.grand_line.GrandEvent.TheVariants.{Client, Step, Linked, Up, Call, CallText, Listen, Cancel}
use Rattle.ra_script.specs.declared.line.What.TheVariants.{UnknownWord, WrongCount, BadNumber, BadBytes}
use Rattle.ra_script.specs.declared.line.ScriptFault.TheVariants.{At}
use Rattle.ra_script.specs.Lines.{line_by, lines_by, text_lines}
use Rattle.ra_script.specs.Words.{number_at, count_at, bytes_at}
use Rattle.ra_script.specs.GrandKeywords.{grand_keyword_at}
use Rattle.ra_script.specs.GrandWords.{token_at, id_at, utf8_at}
use Rattle.ra_script.specs.Reading.{one_number_at}
use Rattle.ra_script.specs.GrandReading.{key_at, number_count_at, number_id_at, named_at, call_at, grand_row_at, grand_line_at, grand_script_at}

attached : grand_script_at (codes "client management t1\nstep 1\nlinked 1\ndrain 1") ≡ Ok (Do (Client (record { kind = Management; token = codes "t1" })) ∷ Do (Step 1) ∷ Do (Linked 1) ∷ Drain 1 ∷ [])
unfolding text_lines lines_by line_by grand_keyword_at grand_row_at key_at token_at one_number_at number_at digits
attached = refl

moved : grand_line_at (codes "up 12 ~40") ≡ Ok (Do (Up 12 (Most 40)))
unfolding line_by grand_keyword_at grand_row_at number_count_at count_at number_at digits
moved = refl

called : grand_line_at (codes "call 1 tools echo 6869") ≡ Ok (Do (Call 1 (codes "tools") (codes "echo") (codes "hi")))
unfolding line_by grand_keyword_at grand_row_at call_at bytes_at number_at digits decode_pairs
called = refl

-- two spaces have an empty word between them
no_channel : grand_line_at (codes "text 1  say -") ≡ Ok (Do (CallText 1 [] (codes "say") []))
unfolding line_by grand_keyword_at grand_row_at call_at utf8_at is_utf8 chars bytes_at number_at digits
no_channel = refl

no_name : grand_line_at (codes "listen 1 tools ") ≡ Ok (Do (Listen 1 (codes "tools") []))
unfolding line_by grand_keyword_at grand_row_at named_at number_at digits
no_name = refl

last_id : grand_line_at (codes "cancel 1 2147483647") ≡ Ok (Do (Cancel 1 (pos 2147483647)))
unfolding line_by grand_keyword_at grand_row_at number_id_at id_at number_at digits
last_id = refl

past_the_ids : grand_line_at (codes "cancel 1 2147483648") ≡ Err BadNumber
unfolding line_by grand_keyword_at grand_row_at number_id_at id_at number_at digits
past_the_ids = refl

another_kind : grand_line_at (codes "client tunnel ") ≡ Err UnknownWord
unfolding line_by grand_keyword_at grand_row_at key_at
another_kind = refl

no_token : grand_script_at (codes "step 1\nclient host ") ≡ Err (At 2 BadBytes)
unfolding text_lines lines_by line_by grand_keyword_at grand_row_at key_at token_at one_number_at number_at digits
no_token = refl

no_base : grand_line_at (codes "base 0") ≡ Err UnknownWord
unfolding line_by grand_keyword_at
no_base = refl

count_of_words_first : grand_line_at (codes "client tunnel") ≡ Err WrongCount
unfolding line_by grand_keyword_at grand_row_at key_at
count_of_words_first = refl

no_text : grand_line_at (codes "text 1 tools say ff") ≡ Err BadBytes
unfolding line_by grand_keyword_at grand_row_at call_at utf8_at is_utf8 chars bytes_at number_at digits decode_pairs
no_text = refl
