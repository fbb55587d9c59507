-- How long the texts of the handshake are.
use Rattle.std.proofs.Common.{ℕ, ◌+◌, ◌*◌, ◌^◌, ◌<◌, ◌≤◌, Bool, true, false, cond, List, [], ◌∷◌, ◌++◌, length, length-append, arith}
use Rattle.std.specs.Prelude.{codes, nat_lt}
use Rattle.std.proofs.lemmas.Fmt.{length-decimal-le}
use Rattle.json.specs.Print.{escape_byte, escape_letter, escape, quoted}
use Rattle.serde_json.specs.Data.{Data, string, number, unsigned, object, Members, member, no_members}
use Rattle.serde_json.specs.Written.{comma_if, compact_text, members_text}
use Rattle.ra_base.specs.declared.handshake.Reason.{Reason}
use Rattle.ra_base.specs.declared.handshake.Reason.TheVariants.{MalformedFirst, InvalidFirst, AuthMismatch, MalformedSecond, InvalidSecond, SecondField, Version, Unauthorized, UnknownKind, NeverSeen, SeenBefore, Duplicate}
use Rattle.ra_base.specs.declared.kind.Kind.{Kind}
use Rattle.ra_base.specs.declared.kind.Kind.TheVariants.{Management, ExtensionHost, Tunnel}
use Rattle.ra_base.specs.Reasons.{reason_text}
use Rattle.ra_shake.specs.Texts.{text_of, auth_text, sign_text, connection_text, accept_text, refuse_text}

either_short : (b : Bool) (xs ys : List ℕ) → length xs ≤ 6 → length ys ≤ 6 → length (cond b xs ys) ≤ 6
either_short true xs ys h g = h
either_short false xs ys h g = g

escape_byte_short : (x : ℕ) → length (escape_byte x) ≤ 6
unfolding escape_byte
escape_byte_short x = either_short (nat_lt 0 (escape_letter x)) _ _ (omega arith) (either_short (nat_lt x 32) _ _ (omega arith) (omega arith))

escape_short : (s : List ℕ) → length (escape s) ≤ 6 * length s
escape_short [] = omega arith
escape_short (x ∷ s) = omega (arith, escape_byte_short x, escape_short s, length-append (escape_byte x) (escape s))

quoted_short : (s : List ℕ) → length (quoted s) ≤ 6 * length s + 2
quoted_short s = omega (arith, escape_short s, length-append (escape s) (34 ∷ []))

comma_short : (later : Bool) → length (comma_if later) ≤ 1
comma_short true = omega arith
comma_short false = omega arith

-- a member of a value that has at most m bytes, before members that have at most n
member_short : (later : Bool) (k : List ℕ) (d : Data) (ms : Members) (m n : ℕ) → length (compact_text d) ≤ m → length (members_text true ms) ≤ n
    → length (members_text later (member k d ms)) ≤ n + m + 6 * length k + 4
member_short later k d ms m n h g =
    omega (
      arith,
      comma_short later,
      quoted_short k,
      length-append (comma_if later) (quoted k ++ 58 ∷ (compact_text d ++ members_text true ms)),
      length-append (quoted k) (58 ∷ (compact_text d ++ members_text true ms)),
      length-append (compact_text d) (members_text true ms),
    )

text_short : (later : Bool) (k s : List ℕ) (ms : Members) (n : ℕ) → length (members_text true ms) ≤ n
    → length (members_text later (member k (string s) ms)) ≤ n + 6 * length s + 6 * length k + 6
text_short later k s ms n h =
    let bound : length (members_text later (member k (string s) ms)) ≤ n + (6 * length s + 2) + 6 * length k + 4 =
    member_short later k (string s) ms (6 * length s + 2) n (quoted_short s) h in
    omega (arith, bound)

-- the last member of most texts
abbrev type_is : List ℕ → Members
type_is name = member (codes "type") (string name) no_members

type_short : (later : Bool) (name : List ℕ) → length name ≤ 14 → length (members_text later (type_is name)) ≤ 120
type_short later name h =
    let bound : length (members_text later (type_is name)) ≤ 1 + 6 * length name + 24 + 6 =
    text_short later (codes "type") name no_members 1 (omega arith) in
    omega (arith, bound)

-- an object is its members after a brace
object_short : (ms : Members) (n : ℕ) → length (members_text false ms) ≤ n → length (compact_text (object ms)) ≤ n + 1
object_short ms n h = omega (arith, h)

-- two texts and the type
pair_short : (j k s t name : List ℕ) → length name ≤ 14
    → length (compact_text (object (member j (string s) (member k (string t) (type_is name))))) ≤ 6 * (length s + length t) + 6 * (length j + length k) + 140
pair_short j k s t name h =
    let two : length (members_text true (member k (string t) (type_is name))) ≤ 120 + 6 * length t + 6 * length k + 6 =
    text_short true k t (type_is name) 120 (type_short true name h) in
    let all : length (members_text false (member j (string s) (member k (string t) (type_is name)))) ≤ (120 + 6 * length t + 6 * length k + 6) + 6 * length s + 6 * length j + 6 =
    text_short false j s (member k (string t) (type_is name)) (120 + 6 * length t + 6 * length k + 6) two in
    let object_is = object_short (member j (string s) (member k (string t) (type_is name))) ((120 + 6 * length t + 6 * length k + 6) + 6 * length s + 6 * length j + 6) all in
    omega (arith, object_is)

pub auth_short : (secret challenge : List ℕ) → length (auth_text secret challenge) ≤ 6 * (length secret + length challenge) + 500
unfolding text_of
auth_short secret challenge =
    let bound : length (auth_text secret challenge) ≤ 6 * (length secret + length challenge) + 6 * 8 + 140 =
    pair_short (codes "auth") (codes "data") secret challenge (codes "auth") (omega arith) in
    omega (arith, bound)

pub sign_short : (challenge signature : List ℕ) → length (sign_text challenge signature) ≤ 6 * (length challenge + length signature) + 500
unfolding text_of
sign_short challenge signature =
    let bound : length (sign_text challenge signature) ≤ 6 * (length challenge + length signature) + 6 * 14 + 140 =
    pair_short (codes "data") (codes "signedData") challenge signature (codes "sign") (omega arith) in
    omega (arith, bound)

-- the connection type stands between a text and the others
connection_members : (i j k s t name : List ℕ) (n : ℕ) → length name ≤ 14 → n < 2 ^ 64
    → length (compact_text (object (member i (string s) (member j (number (unsigned n)) (member k (string t) (type_is name))))))
    ≤ 6 * (length s + length t) + 6 * (length i + length j + length k) + 164
connection_members i j k s t name n h small =
    let two : length (members_text true (member k (string t) (type_is name))) ≤ 120 + 6 * length t + 6 * length k + 6 =
    text_short true k t (type_is name) 120 (type_short true name h) in
    let digits : length (compact_text (number (unsigned n))) ≤ 20 = length-decimal-le 20 n (omega arith) (omega arith) small in
    let three : length (members_text true (member j (number (unsigned n)) (member k (string t) (type_is name)))) ≤ (120 + 6 * length t + 6 * length k + 6) + 20 + 6 * length j + 4 =
    member_short true j (number (unsigned n)) (member k (string t) (type_is name)) 20 (120 + 6 * length t + 6 * length k + 6) digits two in
    let all : length (members_text false (member i (string s) (member j (number (unsigned n)) (member k (string t) (type_is name)))))
    ≤ ((120 + 6 * length t + 6 * length k + 6) + 20 + 6 * length j + 4) + 6 * length s + 6 * length i + 6 =
    text_short false i s (member j (number (unsigned n)) (member k (string t) (type_is name))) ((120 + 6 * length t + 6 * length k + 6) + 20 + 6 * length j + 4) three in
    let object_is =
    object_short (member i (string s) (member j (number (unsigned n)) (member k (string t) (type_is name))))
    (((120 + 6 * length t + 6 * length k + 6) + 20 + 6 * length j + 4) + 6 * length s + 6 * length i + 6) all in
    omega (arith, object_is)

pub connection_short : (commit : List ℕ) (kind : ℕ) (signature : List ℕ) → kind < 2 ^ 64
    → length (connection_text commit kind signature) ≤ 6 * (length commit + length signature) + 500
unfolding text_of
connection_short commit kind signature small =
    let bound : length (connection_text commit kind signature) ≤ 6 * (length commit + length signature) + 6 * 37 + 164 =
    connection_members (codes "commit") (codes "desiredConnectionType") (codes "signedData") commit signature (codes "connectionType") kind (omega arith) small in
    omega (arith, bound)

pub accept_short : (kind : Kind) → length (accept_text kind) ≤ 500
unfolding text_of
accept_short Management =
    let bound : length (accept_text Management) ≤ 120 + 1 = object_short (type_is (codes "ok")) 120 (type_short false (codes "ok") (omega arith)) in
    omega (arith, bound)
accept_short ExtensionHost = omega arith
accept_short Tunnel = omega arith

reason_short : (reason : Reason) → length (reason_text reason) ≤ 42
reason_short MalformedFirst = omega arith
reason_short InvalidFirst = omega arith
reason_short AuthMismatch = omega arith
reason_short MalformedSecond = omega arith
reason_short InvalidSecond = omega arith
reason_short SecondField = omega arith
reason_short Version = omega arith
reason_short Unauthorized = omega arith
reason_short UnknownKind = omega arith
reason_short NeverSeen = omega arith
reason_short SeenBefore = omega arith
reason_short Duplicate = omega arith

pub refuse_short : (reason : Reason) → length (refuse_text reason) ≤ 500
unfolding text_of
refuse_short reason =
    let all : length (members_text false (member (codes "reason") (string (reason_text reason)) (type_is (codes "error")))) ≤ 120 + 6 * length (reason_text reason) + 6 * 6 + 6 =
    text_short false (codes "reason") (reason_text reason) (type_is (codes "error")) 120 (type_short true (codes "error") (omega arith)) in
    let bound : length (refuse_text reason) ≤ (120 + 6 * length (reason_text reason) + 6 * 6 + 6) + 1 =
    object_short (member (codes "reason") (string (reason_text reason)) (type_is (codes "error"))) (120 + 6 * length (reason_text reason) + 6 * 6 + 6) all in
    omega (arith, bound, reason_short reason)
