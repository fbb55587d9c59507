-- The text of the client's upgrade request (RFC 6455, section 4.1).
use Rattle.std.specs.Prelude.{ℕ, Bool, List, [], ◌∷◌, ◌++◌, codes, if◌then◌else◌}
use Rattle.form_urlencoded.specs.Form.{append_pair}
use Rattle.base64.specs.Engines.{standard}
use Rattle.base64.specs.GeneralPurpose.{encode_of}
use Rattle.ra_upgrade.specs.AnswerTexts.{lines}

abbrev pub bool_text : Bool → List ℕ
bool_text b = if b then codes "true" else codes "false"

-- the query, as a form
unfoldable pub query_text : List ℕ → Bool → Bool → List ℕ
query_text token reconnection skip_frames =
    append_pair (append_pair (append_pair [] (codes "reconnectionToken") token)
    (codes "reconnection") (bool_text reconnection))
    (codes "skipWebSocketFrames") (bool_text skip_frames)

-- the text of a client's key, whose 16 bytes it is
unfoldable pub key_text : List ℕ → List ℕ
key_text key = encode_of standard key

-- the lines of a request, around its query and the text of its key
unfoldable pub lines_of : List ℕ → List ℕ → List ℕ → List ℕ
lines_of host query key = lines (
    (codes "GET /?" ++ query ++ codes " HTTP/1.1")
    ∷ (codes "Host: " ++ host)
    ∷ codes "Connection: Upgrade"
    ∷ codes "Upgrade: websocket"
    ∷ codes "Sec-WebSocket-Version: 13"
    ∷ (codes "Sec-WebSocket-Key: " ++ key)
    ∷ [] ∷ [])

unfoldable pub request_text : List ℕ → List ℕ → Bool → Bool → List ℕ → List ℕ
request_text host token reconnection skip_frames key =
    lines_of host (query_text token reconnection skip_frames) (key_text key)
