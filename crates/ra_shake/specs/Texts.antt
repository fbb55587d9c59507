-- The texts of the handshake: JSON objects without spaces, with members in the order of their names.
use Rattle.std.specs.Prelude.{ℕ, List, codes}
use Rattle.serde_json.specs.Data.{Data, string, number, unsigned, object, member, no_members}
use Rattle.serde_json.specs.Written.{compact_text}
use Rattle.ra_base.specs.declared.handshake.Reason.{Reason}
use Rattle.ra_base.specs.declared.kind.Kind.{Kind}
use Rattle.ra_base.specs.declared.kind.Kind.TheVariants.{Management, ExtensionHost, Tunnel}
use Rattle.ra_base.specs.Reasons.{reason_text}

-- the text of a value
unfoldable pub text_of : Data → List ℕ
text_of value = compact_text value

-- the client's first message
abbrev pub auth_value : List ℕ → List ℕ → Data
auth_value secret challenge =
    object (member (codes "auth") (string secret)
    (member (codes "data") (string challenge)
    (member (codes "type") (string (codes "auth")) no_members)))

abbrev pub auth_text : List ℕ → List ℕ → List ℕ
auth_text secret challenge = text_of (auth_value secret challenge)

-- the server's answer to it
abbrev pub sign_value : List ℕ → List ℕ → Data
sign_value challenge signature =
    object (member (codes "data") (string challenge)
    (member (codes "signedData") (string signature)
    (member (codes "type") (string (codes "sign")) no_members)))

abbrev pub sign_text : List ℕ → List ℕ → List ℕ
sign_text challenge signature = text_of (sign_value challenge signature)

-- the client's second message
abbrev pub connection_value : List ℕ → ℕ → List ℕ → Data
connection_value commit kind signature =
    object (member (codes "commit") (string commit)
    (member (codes "desiredConnectionType") (number (unsigned kind))
    (member (codes "signedData") (string signature)
    (member (codes "type") (string (codes "connectionType")) no_members))))

abbrev pub connection_text : List ℕ → ℕ → List ℕ → List ℕ
connection_text commit kind signature = text_of (connection_value commit kind signature)

-- the server's answer to a client that it accepts; for a tunnel no call writes it
abbrev pub accept_value : Kind → Data
accept_value Management = object (member (codes "type") (string (codes "ok")) no_members)
accept_value ExtensionHost = object no_members
accept_value Tunnel = object no_members

abbrev pub accept_text : Kind → List ℕ
accept_text kind = text_of (accept_value kind)

-- the server's answer to a client that it refuses
abbrev pub refuse_value : Reason → Data
refuse_value reason =
    object (member (codes "reason") (string (reason_text reason))
    (member (codes "type") (string (codes "error")) no_members))

abbrev pub refuse_text : Reason → List ℕ
refuse_text reason = text_of (refuse_value reason)
