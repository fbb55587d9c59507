use Rattle.ra_sign.proofs.SignatureLemmas.{signature_utf8}
use Rattle.ra_sign.proofs.keyed.KeyedSigner.sign.Goals as goal

pub returns-clause-utf8 : goal.returns-clause-utf8
returns-clause-utf8 c =
    rw (c.from_vec.ensures, c.into_bytes.ensures.value, c.in_ok-signature.ensures) (signature_utf8 _ _)
