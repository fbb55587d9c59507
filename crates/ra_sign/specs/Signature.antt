-- The text of a signature, and which one counts.
use Rattle.std.specs.Prelude.{ℕ, List, Bool, bytes_eq}
use Rattle.base64.specs.Engines.{standard}
use Rattle.base64.specs.GeneralPurpose.{encode_of}
use Rattle.ra_sign.specs.Hmac.{hmac_sha256}

-- the base64 of the text's code under the key
unfoldable pub signature_text : List ℕ → List ℕ → List ℕ
signature_text key text = encode_of standard (hmac_sha256 key text)

-- it is that text
abbrev pub is_signature : List ℕ → List ℕ → List ℕ → Bool
is_signature key text signature = bytes_eq (signature_text key text) signature
