use Rattle.ra_script.proofs.GrandAnswers.{utf8_read, utf8_none}
use Rattle.ra_script.proofs.grand_words.utf8.Goals as goal

pub returns-in_default : goal.returns-in_default
returns-in_default c = rw c.into.ensures (utf8_none c.args.word.now c.in_ok-bytes.bytes c.as_slice.result.now c.in_ok-bytes.ensures c.as_slice.ensures c.in_default.ensures.cases.0)

pub returns : goal.returns
returns c = rw (c.in_ok-of.ensures, c.in-Ok.ensures.cases.0, c.as_slice.ensures) (utf8_read c.args.word.now c.in_ok-bytes.bytes c.as_slice.result.now c.in_ok-bytes.ensures c.as_slice.ensures c.in-Ok.ensures.cases.1)
