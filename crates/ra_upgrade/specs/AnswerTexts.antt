-- The answers to an upgrade request (RFC 6455, section 4.2.2).
use Rattle.std.specs.Prelude.{ℕ, List, [], ◌∷◌, ◌++◌, codes}
use Rattle.std.specs.List.{flat_map}
use Rattle.httparse.specs.Ascii.{crlf_bytes}
use Rattle.sha1.specs.Sha1.{sha1}
use Rattle.base64.specs.Engines.{standard}
use Rattle.base64.specs.GeneralPurpose.{encode_of}

-- what follows the key in the text whose digest is taken
abbrev pub accept_guid : List ℕ
accept_guid = codes "258EAFA5-E914-47DA-95CA-C5AB0DC85B11"

-- the value of `Sec-WebSocket-Accept` for a key
unfoldable pub accept_text : List ℕ → List ℕ
accept_text key = encode_of standard (sha1 (key ++ accept_guid))

-- each line, ended by CR LF
abbrev pub lines : List (List ℕ) → List ℕ
lines ls = flat_map (λ line. line ++ crlf_bytes) ls

-- the answer that accepts a request with that key
unfoldable pub answer_text : List ℕ → List ℕ
answer_text key = lines (
    codes "HTTP/1.1 101 Switching Protocols"
    ∷ codes "Upgrade: websocket"
    ∷ codes "Connection: Upgrade"
    ∷ (codes "Sec-WebSocket-Accept: " ++ accept_text key)
    ∷ [] ∷ [])

-- the answer that refuses a request
unfoldable pub refusal_text : List ℕ
refusal_text = lines (
    codes "HTTP/1.1 400 Bad Request" ∷ codes "Connection: close" ∷ codes "Content-Length: 0" ∷ [] ∷ [])
