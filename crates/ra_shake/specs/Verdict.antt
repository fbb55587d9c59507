-- Why the two messages of a client are refused, and what they say. Each definition takes the value of a body, None where the
-- body has no reading. Why a request is refused that both messages make together is not here.
use Rattle.std.specs.Prelude.{ℕ, Bool, true, false, not, ◌&&◌, ◌||◌, ◌==◌, List, [], ◌∷◌, ◌++◌, length, Option, Some, None, codes, bytes_eq, unwrap_or, if◌then◌else◌}
use Rattle.std.specs.Option.{is_none}
use Rattle.serde_json.specs.Data.{Data}
use Rattle.ra_base.specs.Outcome.{first_that}
use Rattle.ra_base.specs.declared.handshake.Reason.{Reason}
use Rattle.ra_base.specs.declared.handshake.Reason.TheVariants.{MalformedFirst, InvalidFirst, AuthMismatch, MalformedSecond, InvalidSecond, SecondField, Version, Unauthorized}
use Rattle.ra_base.specs.declared.kind.Kind.{Kind}
use Rattle.ra_base.specs.declared.kind.Kind.TheVariants.{Management, ExtensionHost}
use Rattle.ra_shake.specs.declared.settings.ShakeSettings.{ShakeSettings}
use Rattle.ra_shake.specs.Reading.{text_of_member, number_of_member, is_text, has_type}

-- the text is the connection token, where one is set
unfoldable pub is_authorized : Option (List ℕ) → Option (List ℕ) → Bool
is_authorized None auth = true
is_authorized (Some secret) auth = is_text auth secret

-- both commits are texts, neither is empty, and they differ
unfoldable pub versions_differ : List ℕ → Option (List ℕ) → Bool
versions_differ own None = false
versions_differ own (Some theirs) =
    not (length own == 0) && (not (length theirs == 0) && not (bytes_eq own theirs))

-- the text is the connection token, where one is set, or a signature that counts
unfoldable pub is_signed : Option (List ℕ) → (List ℕ → Bool) → Option (List ℕ) → Bool
is_signed secret counts None = false
is_signed None counts (Some signed) = counts signed
is_signed (Some secret) counts (Some signed) = bytes_eq signed secret || counts signed

-- the reasons to refuse a first message
abbrev pub reasons_of_first : Option (List ℕ) → Option Data → List (Bool × Reason)
reasons_of_first secret value =
    (is_none value, MalformedFirst)
    ∷ (not (has_type (codes "auth") value), InvalidFirst)
    ∷ (not (is_authorized secret (text_of_member (codes "auth") value)), AuthMismatch) ∷ []

-- the reasons to refuse a second message; `counts` tells which signatures count for the server's challenge
abbrev pub reasons_of_second : ShakeSettings → (List ℕ → Bool) → Option Data → List (Bool × Reason)
reasons_of_second settings counts value =
    (is_none value, MalformedSecond)
    ∷ (not (has_type (codes "connectionType") value), InvalidSecond)
    ∷ (is_none (text_of_member (codes "signedData") value), SecondField)
    ∷ (versions_differ settings.commit (text_of_member (codes "commit") value), Version)
    ∷ (not (is_signed settings.secret counts (text_of_member (codes "signedData") value)), Unauthorized) ∷ []

unfoldable pub judge_first : Option (List ℕ) → Option Data → Option Reason
judge_first secret value = first_that (reasons_of_first secret value)

unfoldable pub judge_second : ShakeSettings → (List ℕ → Bool) → Option Data → Option Reason
judge_second settings counts value = first_that (reasons_of_second settings counts value)

-- the first reason to refuse one of the two messages
unfoldable pub judge_both : ShakeSettings → (List ℕ → Bool) → Option Data → Option Data → Option Reason
judge_both settings counts first second =
    first_that (reasons_of_first settings.secret first ++ reasons_of_second settings counts second)

-- the text that the client wants signed, which is empty where it names none
unfoldable pub client_challenge : Option Data → List ℕ
client_challenge value = unwrap_or (text_of_member (codes "data") value) []

abbrev pub kind_of : Option ℕ → Option Kind
kind_of None = None
kind_of (Some n) = if n == 1 then Some Management else (if n == 2 then Some ExtensionHost else None)

-- the kind of session that the client wants, where the server knows it
unfoldable pub wanted_kind : Option Data → Option Kind
wanted_kind value = kind_of (number_of_member (codes "desiredConnectionType") value)
