-- Worked heads, queries and texts, computed.
use Rattle.std.proofs.Common.{◌≡◌, ℕ, true, false, List, [], ◌∷◌, Some, None, Ok, Err, codes, refl}
use Rattle.std.specs.Prelude.{⊤}
use Rattle.std.specs.Str.{is_utf8, chars}
use Rattle.std.specs.Str.Lossy.{utf8_lossy, utf8_valid_len}
use lib.Utf8.{encode}
use Rattle.httparse.specs.Grammar.{RequestHead, Field, crlf}
use Rattle.httparse.proofs.OnLiterals.{httparse_on_literals}
use Rattle.form_urlencoded.proofs.OnLiterals.{form_urlencoded_on_literals}
use Rattle.sha1.specs.Sha1.{first_words, schedule, rounds, compress, hash_after, digest_bytes, sha1}
use Rattle.base64.specs.Rfc4648.{encode_symbols}
use Rattle.ra_base.specs.declared.token.TokenFault.TheVariants.{Empty, BadByte}
use Rattle.ra_upgrade.specs.declared.request_head.HeadFault.TheVariants.{NotGet, NoUpgrade, BadToken}
use Rattle.ra_upgrade.specs.AnswerTexts.{accept_text}
use Rattle.ra_upgrade.specs.Query.{form_text, only_value, flag}
use Rattle.ra_upgrade.specs.RequestHeads.{is_get, is_websocket, token_in, asked, with_key, upgrade_of, asks}
use Rattle.ra_upgrade.specs.RequestTexts.{query_text, key_text, lines_of, request_text}

-- what is opened to compute what a head of literals asks for
unfoldable pub heads_on_literals : ⊤
unfolding upgrade_of is_get is_websocket with_key asked token_in form_text form_urlencoded_on_literals httparse_on_literals utf8_lossy utf8_valid_len is_utf8 chars encode
heads_on_literals = tt

-- the example of RFC 6455, section 1.3
accept_row : accept_text (codes "dGhlIHNhbXBsZSBub25jZQ==") ≡ codes "s3pPLMBiTxaQ9kYGzzhZRbK+xOo="
unfolding accept_text first_words schedule rounds compress hash_after digest_bytes sha1 encode_symbols
accept_row = refl

-- a name counts where just one pair has it
two_tokens : only_value (codes "reconnectionToken") (codes "reconnectionToken=a&reconnectionToken=b") ≡ None
unfolding heads_on_literals
two_tokens = refl

decoded_flag : flag (codes "reconnection") (codes "reconnection=%74rue") ≡ true
unfolding heads_on_literals
decoded_flag = refl

abbrev field : List ℕ → List ℕ → Field
field name raw = record { name = name; raw = raw; end = crlf }

abbrev head_of : List ℕ → List ℕ → ℕ → List Field → RequestHead
head_of method target minor fields =
    record { blank = []; method = method; target = target; minor = minor; line_end = crlf; fields = fields; last = crlf }

abbrev fields : List Field
fields =
    field (codes "Host") (codes " localhost") ∷ field (codes "Upgrade") (codes " websocket") ∷ field (codes "Connection") (codes " Upgrade")
    ∷ field (codes "Sec-WebSocket-Key") (codes " dGhlIHNhbXBsZSBub25jZQ==") ∷ []

upgrade_row : asks (head_of (codes "GET") (codes "/?reconnectionToken=t1&skipWebSocketFrames=true") 1 fields)
    ≡ Ok (record { token = Some (codes "t1"); reconnection = false; skip_frames = true; key = codes "dGhlIHNhbXBsZSBub25jZQ==" })
unfolding heads_on_literals
upgrade_row = refl

-- places count in the decoded text
bad_token : asks (head_of (codes "GET") (codes "/?reconnectionToken=a%20b") 1 fields) ≡ Err (BadToken (BadByte 1))
unfolding heads_on_literals
bad_token = refl

empty_token : asks (head_of (codes "GET") (codes "/?reconnectionToken=") 1 fields) ≡ Err (BadToken Empty)
unfolding heads_on_literals
empty_token = refl

other_method : asks (head_of (codes "POST") (codes "/") 1 fields) ≡ Err NotGet
unfolding heads_on_literals
other_method = refl

-- the first field of a name counts, in any case of its letters
first_counts : asks (head_of (codes "GET") (codes "/") 1 (field (codes "UPGRADE") (codes " h2c") ∷ fields)) ≡ Err NoUpgrade
unfolding heads_on_literals
first_counts = refl

request_row : request_text (codes "localhost") (codes "t1") false true (0 ∷ 0 ∷ 0 ∷ 0 ∷ 0 ∷ 0 ∷ 0 ∷ 0 ∷ 0 ∷ 0 ∷ 0 ∷ 0 ∷ 0 ∷ 0 ∷ 0 ∷ 0 ∷ [])
    ≡ codes "GET /?reconnectionToken=t1&reconnection=false&skipWebSocketFrames=true HTTP/1.1\r\nHost: localhost\r\nConnection: Upgrade\r\nUpgrade: websocket\r\nSec-WebSocket-Version: 13\r\nSec-WebSocket-Key: AAAAAAAAAAAAAAAAAAAAAA==\r\n\r\n"
unfolding request_text lines_of query_text key_text encode_symbols form_urlencoded_on_literals
request_row = refl
