use Rattle.std.proofs.Common.{◌<◌, arith}
use Rattle.std.proofs.lemmas.Bool.{le-leb}
use Rattle.ra_values.proofs.Levels.{items_fit, array_fits_from, int_fits_from}
use Rattle.ra_values.proofs.fitting.+fits.Goals as goal

pub fits_in-returns-then-len-gt4294967295 : goal.fits_in-returns-then-len-gt4294967295
fits_in-returns-then-len-gt4294967295 t c =
    (λ h. absurd (cc h), λ h. let f = items_fit c.args.left c.args.value.now c.in-Array.items c.in-Array.is h in absurd (omega (arith, f.0, c.len.ensures)))

pub fits_in-returns-else-len-gt4294967295 : goal.fits_in-returns-else-len-gt4294967295
fits_in-returns-else-len-gt4294967295 t c =
    let above : 0 < c.args.left = omega arith in (
      λ yes. array_fits_from c.args.left c.args.value.now c.in-Array.items c.in-Array.is above (omega (arith, c.len.ensures)) (rw c.as_slice-in-Array.ensures at (c.all_fit.ensures.0 yes)),
      λ h. c.all_fit.ensures.1 (rw c.as_slice-in-Array.ensures (items_fit c.args.left c.args.value.now c.in-Array.items c.in-Array.is h).1),
    )

pub fits_in-returns-in-Int : goal.fits_in-returns-in-Int
fits_in-returns-in-Int t c =
    let above : 0 < c.args.left = omega arith in
    (λ _. int_fits_from c.args.left c.args.value.now c.in-Int.n c.in-Int.is above (omega (arith, c.pattern.ensures, c.pattern.type_inv)), λ _. le-leb c.pattern.result 4294967295 (omega (arith, c.pattern.type_inv)))
