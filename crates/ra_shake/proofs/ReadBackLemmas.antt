-- The texts of the handshake are read back as the values that they were written for.
use Rattle.std.proofs.Common.{◌≡◌, ℕ, ◌<◌, ◌≤◌, ◌^◌, Bool, true, false, List, [], ◌∷◌, ◌++◌, Option, Some, option_and_then, IsUtf8, refl, sym, ap, ◌∙◌, subst, arith, append-nil}
use Rattle.std.specs.Prelude.{codes}
use Rattle.std.proofs.lemmas.Str.{IsUtf8-append, IsUtf8-nil, IsUtf8-from_ascii}
use Rattle.std.proofs.lemmas.Fmt.{IsAscii-decimal}
use Rattle.json.specs.Json.{Json, value, if_last}
use Rattle.json.specs.Token.{Token}
use Rattle.json.specs.Lex.{tokens}
use Rattle.json.specs.Tree.{HasNumbers, depth, json_tokens}
use Rattle.json.specs.Print.{quoted, print}
use Rattle.json.proofs.Printed.Utf8.{IsUtf8-quoted, IsUtf8-are_ascii}
use Rattle.json.proofs.Printed.Tokens.{tokens-print}
use Rattle.json.proofs.Printed.Trees.{ArePrintable-json_tokens, value-json_tokens}
use Rattle.json.proofs.Printed.Decimals.{IsNumber-decimal}
use Rattle.serde_json.specs.Data.{Data, string, number, unsigned, object, Members, member, no_members}
use Rattle.serde_json.specs.Read.{read, of_json, max_depth}
use Rattle.serde_json.specs.Written.{outline, comma_if, compact_text, members_text}
use Rattle.serde_json.proofs.Texts.{print-outline}
use Rattle.serde_json.proofs.Numbers.{number_of-decimal}
use Rattle.ra_base.specs.declared.handshake.Reason.{Reason}
use Rattle.ra_base.specs.declared.handshake.Reason.TheVariants.{MalformedFirst, InvalidFirst, AuthMismatch, MalformedSecond, InvalidSecond, SecondField, Version, Unauthorized, UnknownKind, NeverSeen, SeenBefore, Duplicate}
use Rattle.ra_base.specs.declared.kind.Kind.{Kind}
use Rattle.ra_base.specs.declared.kind.Kind.TheVariants.{Management, ExtensionHost, Tunnel}
use Rattle.ra_base.specs.Reasons.{reason_text}
use Rattle.ra_shake.specs.Reading.{reading}
use Rattle.ra_shake.specs.Texts.{text_of, auth_value, auth_text, sign_value, sign_text, connection_value, connection_text, accept_value, accept_text, refuse_value, refuse_text}
use Rattle.ra_shake.proofs.ReadingLemmas.{reading_ok}

-- ---- any value whose JSON reads as it

-- what a parse of a whole text gives
abbrev whole : Option (Json × List Token) → Option Data
whole o = option_and_then of_json (option_and_then (λ p. if_last p.0 p.1) o)

read_text : (d : Data) → HasNumbers (outline d) → depth (outline d) ≤ max_depth → of_json (outline d) ≡ Some d → read (compact_text d) ≡ Some d
read_text d numbers shallow same =
    let ts = json_tokens (outline d) in
    let printed : tokens (print ts) ≡ ts ++ [] = tokens-print ts (ArePrintable-json_tokens (outline d) numbers) ∙ sym (append-nil ts) in
    subst (λ (t : List ℕ). read t ≡ Some d) (print-outline d)
    (ap whole (ap (value max_depth) printed ∙ value-json_tokens (outline d) max_depth [] shallow) ∙ same)

reading_text : (d : Data) → IsUtf8 (compact_text d) → HasNumbers (outline d) → depth (outline d) ≤ max_depth → of_json (outline d) ≡ Some d → reading (text_of d) ≡ Some d
unfolding text_of
reading_text d utf8 numbers shallow same = sym (reading_ok (compact_text d) d utf8 (read_text d numbers shallow same))

-- ---- the texts of members are UTF-8

comma_utf8 : (later : Bool) → IsUtf8 (comma_if later)
comma_utf8 true = IsUtf8-are_ascii (44 ∷ []) refl
comma_utf8 false = IsUtf8-nil

closing : IsUtf8 (members_text true no_members)
closing = IsUtf8-are_ascii (125 ∷ []) refl

object_utf8 : (ms : Members) → IsUtf8 (members_text false ms) → IsUtf8 (compact_text (object ms))
object_utf8 ms rest = IsUtf8-append (123 ∷ []) (members_text false ms) (IsUtf8-are_ascii (123 ∷ []) refl) rest

member_utf8 : (later : Bool) (k : List ℕ) (d : Data) (ms : Members) → IsUtf8 k → IsUtf8 (compact_text d) → IsUtf8 (members_text true ms)
    → IsUtf8 (members_text later (member k d ms))
member_utf8 later k d ms key value rest =
    IsUtf8-append (comma_if later) (quoted k ++ 58 ∷ (compact_text d ++ members_text true ms)) (comma_utf8 later)
    (IsUtf8-append (quoted k) (58 ∷ (compact_text d ++ members_text true ms)) (IsUtf8-quoted k key)
    (IsUtf8-append (58 ∷ []) (compact_text d ++ members_text true ms) (IsUtf8-are_ascii (58 ∷ []) refl)
    (IsUtf8-append (compact_text d) (members_text true ms) value rest)))

-- a member that is a text
text_utf8 : (later : Bool) (k s : List ℕ) (ms : Members) → IsUtf8 k → IsUtf8 s → IsUtf8 (members_text true ms) → IsUtf8 (members_text later (member k (string s) ms))
text_utf8 later k s ms key value rest = member_utf8 later k (string s) ms key (IsUtf8-quoted s value) rest

-- the last member of most texts
abbrev type_is : List ℕ → Members
type_is name = member (codes "type") (string name) no_members

type_utf8 : (later : Bool) (name : List ℕ) → IsUtf8 name → IsUtf8 (members_text later (type_is name))
type_utf8 later name name_is = text_utf8 later (codes "type") name no_members (IsUtf8-are_ascii (codes "type") refl) name_is closing

-- ---- each text

auth_utf8 : (secret challenge : List ℕ) → IsUtf8 secret → IsUtf8 challenge → IsUtf8 (compact_text (auth_value secret challenge))
auth_utf8 secret challenge s c =
    let two = member (codes "data") (string challenge) (type_is (codes "auth")) in
    object_utf8 (member (codes "auth") (string secret) two)
    (text_utf8 false (codes "auth") secret two (IsUtf8-are_ascii (codes "auth") refl) s
    (text_utf8 true (codes "data") challenge (type_is (codes "auth")) (IsUtf8-are_ascii (codes "data") refl) c
    (type_utf8 true (codes "auth") (IsUtf8-are_ascii (codes "auth") refl))))

pub reading-auth_text : (secret challenge : List ℕ) → IsUtf8 secret → IsUtf8 challenge → reading (auth_text secret challenge) ≡ Some (auth_value secret challenge)
reading-auth_text secret challenge s c =
    reading_text (auth_value secret challenge) (auth_utf8 secret challenge s c) (tt, (tt, (tt, tt))) (omega arith) refl

sign_utf8 : (challenge signature : List ℕ) → IsUtf8 challenge → IsUtf8 signature → IsUtf8 (compact_text (sign_value challenge signature))
sign_utf8 challenge signature c s =
    let two = member (codes "signedData") (string signature) (type_is (codes "sign")) in
    object_utf8 (member (codes "data") (string challenge) two)
    (text_utf8 false (codes "data") challenge two (IsUtf8-are_ascii (codes "data") refl) c
    (text_utf8 true (codes "signedData") signature (type_is (codes "sign")) (IsUtf8-are_ascii (codes "signedData") refl) s
    (type_utf8 true (codes "sign") (IsUtf8-are_ascii (codes "sign") refl))))

pub reading-sign_text : (challenge signature : List ℕ) → IsUtf8 challenge → IsUtf8 signature → reading (sign_text challenge signature) ≡ Some (sign_value challenge signature)
reading-sign_text challenge signature c s =
    reading_text (sign_value challenge signature) (sign_utf8 challenge signature c s) (tt, (tt, (tt, tt))) (omega arith) refl

connection_utf8 : (commit : List ℕ) (kind : ℕ) (signature : List ℕ) → IsUtf8 commit → kind < 2 ^ 64 → IsUtf8 signature → IsUtf8 (compact_text (connection_value commit kind signature))
connection_utf8 commit kind signature c k s =
    let two = member (codes "signedData") (string signature) (type_is (codes "connectionType")) in
    let three = member (codes "desiredConnectionType") (number (unsigned kind)) two in
    object_utf8 (member (codes "commit") (string commit) three)
    (text_utf8 false (codes "commit") commit three (IsUtf8-are_ascii (codes "commit") refl) c
    (member_utf8 true (codes "desiredConnectionType") (number (unsigned kind)) two
    (IsUtf8-are_ascii (codes "desiredConnectionType") refl) (IsUtf8-from_ascii (compact_text (number (unsigned kind))) (IsAscii-decimal kind k))
    (text_utf8 true (codes "signedData") signature (type_is (codes "connectionType")) (IsUtf8-are_ascii (codes "signedData") refl) s
    (type_utf8 true (codes "connectionType") (IsUtf8-are_ascii (codes "connectionType") refl)))))

connection_json : (commit : List ℕ) (kind : ℕ) (signature : List ℕ) → kind < 2 ^ 64 → of_json (outline (connection_value commit kind signature)) ≡ Some (connection_value commit kind signature)
connection_json commit kind signature k = rw (number_of-decimal kind k) refl

pub reading-connection_text : (commit : List ℕ) (kind : ℕ) (signature : List ℕ) → IsUtf8 commit → kind < 2 ^ 64 → IsUtf8 signature
    → reading (connection_text commit kind signature) ≡ Some (connection_value commit kind signature)
reading-connection_text commit kind signature c k s =
    reading_text (connection_value commit kind signature) (connection_utf8 commit kind signature c k s)
    (tt, (IsNumber-decimal kind k, (tt, (tt, tt)))) (omega arith) (connection_json commit kind signature k)

nothing_utf8 : IsUtf8 (members_text false no_members)
nothing_utf8 = IsUtf8-are_ascii (125 ∷ []) refl

pub reading-accept_text : (kind : Kind) → reading (accept_text kind) ≡ Some (accept_value kind)
reading-accept_text Management =
    reading_text (accept_value Management) (object_utf8 (type_is (codes "ok")) (type_utf8 false (codes "ok") (IsUtf8-are_ascii (codes "ok") refl)))
    (tt, tt) (omega arith) refl
reading-accept_text ExtensionHost = reading_text (accept_value ExtensionHost) (object_utf8 no_members nothing_utf8) tt (omega arith) refl
reading-accept_text Tunnel = reading_text (accept_value Tunnel) (object_utf8 no_members nothing_utf8) tt (omega arith) refl

reason_utf8 : (reason : Reason) → IsUtf8 (reason_text reason)
reason_utf8 MalformedFirst = IsUtf8-are_ascii (reason_text MalformedFirst) refl
reason_utf8 InvalidFirst = IsUtf8-are_ascii (reason_text InvalidFirst) refl
reason_utf8 AuthMismatch = IsUtf8-are_ascii (reason_text AuthMismatch) refl
reason_utf8 MalformedSecond = IsUtf8-are_ascii (reason_text MalformedSecond) refl
reason_utf8 InvalidSecond = IsUtf8-are_ascii (reason_text InvalidSecond) refl
reason_utf8 SecondField = IsUtf8-are_ascii (reason_text SecondField) refl
reason_utf8 Version = IsUtf8-are_ascii (reason_text Version) refl
reason_utf8 Unauthorized = IsUtf8-are_ascii (reason_text Unauthorized) refl
reason_utf8 UnknownKind = IsUtf8-are_ascii (reason_text UnknownKind) refl
reason_utf8 NeverSeen = IsUtf8-are_ascii (reason_text NeverSeen) refl
reason_utf8 SeenBefore = IsUtf8-are_ascii (reason_text SeenBefore) refl
reason_utf8 Duplicate = IsUtf8-are_ascii (reason_text Duplicate) refl

pub reading-refuse_text : (reason : Reason) → reading (refuse_text reason) ≡ Some (refuse_value reason)
reading-refuse_text reason =
    reading_text (refuse_value reason)
    (object_utf8 (member (codes "reason") (string (reason_text reason)) (type_is (codes "error")))
    (text_utf8 false (codes "reason") (reason_text reason) (type_is (codes "error")) (IsUtf8-are_ascii (codes "reason") refl) (reason_utf8 reason)
    (type_utf8 true (codes "error") (IsUtf8-are_ascii (codes "error") refl))))
    (tt, (tt, tt)) (omega arith) refl
