use Rattle.std.proofs.Common.{sym}
use Rattle.std.specs.Cmp.Lexicographic.{nat_list_eq_equiv}
use Rattle.std.proofs.lemmas.Slice.Eq.{bytes_eq-Decides}
use Rattle.ra_sign.specs.Signature.{signature_text}
use Rattle.ra_sign.proofs.SignatureLemmas.{signature_short, signature_utf8}
use Rattle.ra_sign.proofs.laws.signatures.Goals as goal

pub returns : goal.returns
returns c = record {
  own = λ key text. nat_list_eq_equiv.refl (signature_text key text);
  no_other = λ key text signature counts. sym ((bytes_eq-Decides (signature_text key text) signature).0 counts);
  utf8 = signature_utf8;
  short = signature_short;
}
