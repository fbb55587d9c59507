use Rattle.std.proofs.Common.{sym}
use Rattle.ra_script.specs.Words.{number_limit}
use Rattle.ra_script.proofs.Numbers.{number_none, not_decimal, decimal_utf8, parsed, unparsed}
use Rattle.ra_script.proofs.words.number.Goals as goal

pub returns-then-is_padded : goal.returns-then-is_padded
returns-then-is_padded c = sym (number_none number_limit c.args.word.now (λ n lt e. not_decimal c.args.word.now n lt c.if-is_padded.ensures e))

pub returns-in_default : goal.returns-in_default
returns-in_default c = sym (number_none number_limit c.args.word.now (λ n lt e. c.in_default.ensures.cases.0 (decimal_utf8 c.args.word.now n lt e)))

pub returns-in-Ok-parse : goal.returns-in-Ok-parse
returns-in-Ok-parse c = sym (parsed c.args.word.now c.in-Ok.text.now c.in-Ok-parse.n c.in-Ok.ensures.cases.0 c.if-is_padded.ensures.0 c.if-is_padded.ensures.1 c.in-Ok-parse.ensures.value.0)

pub returns-in-Err : goal.returns-in-Err
returns-in-Err c = sym (number_none number_limit c.args.word.now (λ n lt e. unparsed c.args.word.now c.in-Ok.text.now n c.in-Ok.ensures.cases.0 c.if-is_padded.ensures.0 c.in-Err.ensures.value.0 lt e))
