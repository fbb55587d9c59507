use Rattle.std.proofs.Common.{sym}
use Rattle.ra_script.proofs.Parts.{words_are_utf8}
use Rattle.ra_script.proofs.script.read_line.Goals as goal

pub read_words-requires : goal.read_words-requires
read_words-requires g c = rw (c.as_slice.ensures.value, c.in_ok-words.ensures) (words_are_utf8 c.args.line.now (sym c.if-not-is_text.ensures))
