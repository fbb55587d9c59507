use Rattle.std.proofs.Common.{◌≡◌, true, false, refl, ltb, length, take, arith}
use Rattle.std.proofs.lemmas.Bool.{le-ltb}
use Rattle.std.specs.Str.{is_utf8}
use Rattle.ra_values.specs.ReadValue.{text_at}
use Rattle.ra_values.proofs.Utf8.{text_is, text_is_not}
use Rattle.ra_values.proofs.reading.text_of.Goals as goal

pub returns-in_ok-of-in-Ok : goal.returns-in_ok-of-in-Ok
unfolding text_at
returns-in_ok-of-in-Ok c =
    let long : ltb (length c.in_ok-len.here.now) c.in_ok-len.len ≡ false = le-ltb _ _ (omega arith) in
    let whole : is_utf8 (take c.in_ok-len.len c.in_ok-len.here.now) ≡ true = text_is _ (rw (← c.split_at.ensures.front) c.in-Ok.ensures.cases.1) in
    let back = c.split_at.ensures.back in
    let same = c.split_at.ensures.front in
    rw (c.in_ok-len.ensures, long, whole) (grind arith)

pub returns-in-Err : goal.returns-in-Err
unfolding text_at
returns-in-Err c =
    let long : ltb (length c.in_ok-len.here.now) c.in_ok-len.len ≡ false = le-ltb _ _ (omega arith) in
    let whole : is_utf8 (take c.in_ok-len.len c.in_ok-len.here.now) ≡ false = text_is_not _ (rw (← c.split_at.ensures.front) c.in-Err.ensures.cases.0) in
    rw (c.in_ok-len.ensures, long, whole) refl
