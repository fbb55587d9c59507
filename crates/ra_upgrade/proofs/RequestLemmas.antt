use Rattle.std.proofs.Common.{◌≡◌, ℕ, List, ◌++◌, codes, append_assoc, refl}
use Rattle.httparse.specs.Ascii.{crlf_bytes}
use Rattle.ra_upgrade.specs.RequestTexts.{lines_of}

-- pieces of text, and the lines that they make up
regrouped : (get query after_query host after_host key after_key version host_name three key_name n : List ℕ)
    → after_query ≡ (version ++ n) ++ host_name → after_host ≡ n ++ (three ++ key_name) → after_key ≡ n ++ n
    → (((((get ++ query) ++ after_query) ++ host) ++ after_host) ++ key) ++ after_key
    ≡ (((get ++ query) ++ version) ++ n) ++ (((host_name ++ host) ++ n) ++ (three ++ (((key_name ++ key) ++ n) ++ n)))
regrouped get query after_query host after_host key after_key version host_name three key_name n q h k =
    rw (q, h, k) (simp append_assoc)

-- the lines of a request, as they are written one after another
pub request_lines : (host query key : List ℕ)
    → (((((codes "GET /?" ++ query) ++ codes " HTTP/1.1\r\nHost: ") ++ host)
    ++ codes "\r\nConnection: Upgrade\r\nUpgrade: websocket\r\nSec-WebSocket-Version: 13\r\nSec-WebSocket-Key: ") ++ key)
    ++ codes "\r\n\r\n" ≡ lines_of host query key
unfolding lines_of
request_lines host query key =
    regrouped (codes "GET /?") query (codes " HTTP/1.1\r\nHost: ") host
    (codes "\r\nConnection: Upgrade\r\nUpgrade: websocket\r\nSec-WebSocket-Version: 13\r\nSec-WebSocket-Key: ") key
    (codes "\r\n\r\n") (codes " HTTP/1.1") (codes "Host: ")
    (codes "Connection: Upgrade\r\nUpgrade: websocket\r\nSec-WebSocket-Version: 13\r\n") (codes "Sec-WebSocket-Key: ") crlf_bytes
    refl refl refl
