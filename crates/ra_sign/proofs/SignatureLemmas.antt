-- A signature is short ASCII text.
use Rattle.std.proofs.Common.{◌≡◌, ℕ, ◌+◌, ◌*◌, ◌≤◌, List, [], ◌∷◌, length, arith, length-append, replicate}
use Rattle.std.proofs.lemmas.List.{length-replicate}
use Rattle.std.specs.Prelude.{IsUtf8}
use Rattle.std.proofs.lemmas.Str.{IsUtf8-from_ascii}
use Rattle.base64.specs.Rfc4648.{encode_symbols, encode_group, padding_len}
use Rattle.base64.specs.Engines.{standard}
use Rattle.base64.specs.GeneralPurpose.{encode_of}
use Rattle.base64.proofs.EngineFacts.{IsAscii-encode_of}
use Rattle.sha2.proofs.Facts256.{length-sha256}
use Rattle.ra_sign.specs.Hmac.{hmac_sha256}
use Rattle.ra_sign.specs.Signature.{signature_text}

symbols_bound : (t m : List ℕ) → length (encode_symbols t m) ≤ 4 * length m
unfolding encode_symbols
symbols_bound t [] = omega arith
symbols_bound t (a ∷ []) = omega arith
symbols_bound t (a ∷ b ∷ []) = omega arith
symbols_bound t (a ∷ b ∷ c ∷ rest) =
    omega (arith, symbols_bound t rest, length-append (encode_group t a b c) (encode_symbols t rest))

-- at most four symbols for a byte, and two of padding
pub encode_of_bound : (m : List ℕ) → length (encode_of standard m) ≤ 4 * length m + 2
encode_of_bound m =
    omega (
      arith,
      symbols_bound standard.encode_table m,
      length-append (encode_symbols standard.encode_table m) (replicate (padding_len (length m)) standard.padding.value),
      length-replicate (padding_len (length m)) standard.padding.value,
    )

hmac_len : (key text : List ℕ) → length (hmac_sha256 key text) ≡ 32
unfolding hmac_sha256
hmac_len key text = length-sha256 _

pub signature_short : (key text : List ℕ) → length (signature_text key text) ≤ 65536
unfolding signature_text
signature_short key text = omega (arith, encode_of_bound (hmac_sha256 key text), hmac_len key text)

pub signature_utf8 : (key text : List ℕ) → IsUtf8 (signature_text key text)
unfolding signature_text
signature_utf8 key text = IsUtf8-from_ascii _ (IsAscii-encode_of standard (hmac_sha256 key text))
