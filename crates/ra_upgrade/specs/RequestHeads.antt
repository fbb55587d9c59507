-- Upgrade requests. A head that is read has to be a request head (RFC 9112, as the crate httparse reads it) with at most 64 header
-- fields; it has to ask for a WebSocket (RFC 6455, section 4.2.1) by GET and HTTP/1.1. No other header field is judged.
use Rattle.std.specs.Prelude.{◌≡◌, ℕ, ◌≤◌, ◌==◌, ◌⊎◌, Bool, false, not, ◌&&◌, List, length, map, Option, Some, None, Result, Ok, Err, codes, bytes_eq, if◌then◌else◌}
use Rattle.httparse.specs.Grammar.{RequestHead, IsRequestHead, print_request}
use Rattle.httparse.specs.Spans.{name_and_value}
use Rattle.ra_base.specs.declared.token.TokenFault.{TokenFault}
use Rattle.ra_base.specs.TokenGrammar.{token_of}
use Rattle.ra_upgrade.specs.declared.request_head.HeadFault.{HeadFault}
use Rattle.ra_upgrade.specs.declared.request_head.HeadFault.TheVariants.{TooLong, BadHead, NotGet, NoUpgrade, NoKey, BadToken}
use Rattle.ra_upgrade.specs.declared.request_head.Upgrade.{Upgrade}
use Rattle.ra_upgrade.specs.Ends.{max_fields}
use Rattle.ra_upgrade.specs.Fields.{first_value, same_name}
use Rattle.ra_upgrade.specs.Query.{query_of, only_value, flag}
use Rattle.ra_upgrade.specs.Reading.{IsOpen, IsBad, IsRead}

-- the text is that request head, and has no more header fields than are allowed
pub record IsHead (text : List ℕ) (head : RequestHead) : Type 0 where
  pub valid : IsRequestHead head
  pub text_is : text ≡ print_request head
  pub fields : length head.fields ≤ max_fields

-- ---- what a request head asks for

-- the method and the minor version are those of an upgrade request
unfoldable pub is_get : List ℕ → ℕ → Bool
is_get method minor = bytes_eq method (codes "GET") && (minor == 1)

-- the header field says `websocket`, in any ASCII case
unfoldable pub is_websocket : Option (List ℕ) → Bool
is_websocket None = false
is_websocket (Some value) = same_name value (codes "websocket")

-- a text that is no token is a fault
abbrev pub checked_token : Result (List ℕ) TokenFault → Result (Option (List ℕ)) HeadFault
checked_token (Ok token) = Ok (Some token)
checked_token (Err fault) = Err (BadToken fault)

-- the token, where the query names just one
unfoldable pub token_in : Option (List ℕ) → Result (Option (List ℕ)) HeadFault
token_in None = Ok None
token_in (Some text) = checked_token (token_of text)

-- the token and what else the query and the key ask for
abbrev pub with_token : List ℕ → List ℕ → Result (Option (List ℕ)) HeadFault → Result Upgrade HeadFault
with_token query key (Err fault) = Err fault
with_token query key (Ok token) = Ok (record {
  token = token;
  reconnection = flag (codes "reconnection") query;
  skip_frames = flag (codes "skipWebSocketFrames") query;
  key = key;
})

-- what the query asks for, under a key
unfoldable pub asked : List ℕ → List ℕ → Result Upgrade HeadFault
asked query key = with_token query key (token_in (only_value (codes "reconnectionToken") query))

-- a key has to be there, and not empty
unfoldable pub with_key : List ℕ → Option (List ℕ) → Result Upgrade HeadFault
with_key query None = Err NoKey
with_key query (Some key) = if length key == 0 then Err NoKey else asked query key

-- what a request line and its header fields ask for
unfoldable pub upgrade_of : List ℕ → ℕ → List ℕ → List (List ℕ × List ℕ) → Result Upgrade HeadFault
upgrade_of method minor target fields =
    if not (is_get method minor) then Err NotGet
    else (if not (is_websocket (first_value (codes "upgrade") fields)) then Err NoUpgrade
    else with_key (query_of target) (first_value (codes "sec-websocket-key") fields))

-- what the head asks for, or why it is refused
abbrev pub asks : RequestHead → Result Upgrade HeadFault
asks h = upgrade_of h.method h.minor h.target (map name_and_value h.fields)

-- ---- the answer to the bytes that have come

-- what a head asks for, with its length
abbrev pub located : ℕ → Result Upgrade HeadFault → Result (Option (Upgrade × ℕ)) HeadFault
located n (Ok upgrade) = Ok (Some (upgrade, n))
located n (Err fault) = Err fault

-- the bytes have no whole head, or one that is none of an upgrade request, or one that asks for that
abbrev pub HeadIs : List ℕ → Result (Option (Upgrade × ℕ)) HeadFault → Type 0
HeadIs bytes result =
    IsOpen TooLong bytes result
    ⊎ (IsBad IsHead BadHead bytes result ⊎ IsRead IsHead (λ n head. located n (asks head)) bytes result)
