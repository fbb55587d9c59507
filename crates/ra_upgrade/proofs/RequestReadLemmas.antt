-- The client's request, as lines and as a request head that the server reads.
use Rattle.std.proofs.Common.{◌≡◌, ◌≢◌, ℕ, ◌<◌, ◌≤◌, Bool, true, false, List, [], ◌∷◌, ◌++◌, length, take, Option, Some, None, Result, Ok, codes, arith, refl, sym, ap, subst, ◌∙◌, inl, inr, All, append_assoc, length-append}
use Rattle.std.specs.List.{AllPass}
use Rattle.std.specs.Str.{bytes_eq}
use Rattle.std.proofs.lemmas.Bool.{cond-false, ne_eqb}
use Rattle.std.proofs.lemmas.Bool.Decides.{nat_tests}
use Rattle.std.proofs.lemmas.List.Elements.{All-cons, All-append, All-weaker}
use Rattle.std.proofs.lemmas.List.Sums.{AllPass-from_list_all}
use Rattle.std.proofs.lemmas.Str.{IsUtf8-from_ascii}
use Rattle.std.proofs.lemmas.Str.Ascii.{IsAscii-from_all}
use Rattle.httparse.specs.Ascii.{crlf_bytes}
use Rattle.httparse.specs.Grammar.{Field, IsField, IsToken, RequestHead, IsRequestHead, print_request, crlf, is_token_byte, is_uri_byte, is_value_byte, trim_ows}
use Rattle.httparse.proofs.GrammarLemmas.{cons-append}
use Rattle.ra_base.specs.TokenGrammar.{is_visible}
use Rattle.ra_base.specs.TokenGrammar as tokens
use Rattle.ra_base.specs.declared.token.TokenFault.{TokenFault}
use Rattle.ra_base.proofs.TokenLemmas.{token_of-IsToken}
use Rattle.ra_upgrade.specs.declared.request_head.HeadFault.{HeadFault}
use Rattle.ra_upgrade.specs.declared.request_head.HeadFault.TheVariants.{TooLong}
use Rattle.ra_upgrade.specs.declared.request_head.Upgrade.{Upgrade}
use Rattle.ra_upgrade.specs.AnswerTexts.{lines}
use Rattle.ra_upgrade.specs.Ends.{max_head}
use Rattle.ra_upgrade.specs.Exchange.{IsReadable, requested}
use Rattle.ra_upgrade.specs.Query.{only, values_of, only_value, is_true, flag}
use Rattle.ra_upgrade.specs.Reading.{IsRead}
use Rattle.ra_upgrade.specs.RequestHeads.{IsHead, is_get, is_websocket, token_in, checked_token, with_token, asked, with_key, upgrade_of, asks, located, HeadIs}
use Rattle.ra_upgrade.specs.RequestTexts.{bool_text, query_text, key_text, lines_of, request_text}
use Rattle.ra_upgrade.proofs.EndLemmas.{IsLine, IsLines, lines_last, read_lines, open_lines}
use Rattle.ra_upgrade.proofs.QueryTextLemmas.{visible_query, length-query, token_name, reconnection_name, skip_name, pairs_of_query}
use Rattle.ra_upgrade.proofs.TextLemmas.{IsByte, each_of, visible_encoded, some_encoded, length-encoded, no_return, visible_no_return, value_no_return, visible_value, trimmed}

-- the lines of a request but the empty one
abbrev asked_lines : List ℕ → List ℕ → List ℕ → List (List ℕ)
asked_lines host query key =
    (codes "GET /?" ++ query ++ codes " HTTP/1.1") ∷ (codes "Host: " ++ host) ∷ codes "Connection: Upgrade" ∷ codes "Upgrade: websocket"
    ∷ codes "Sec-WebSocket-Version: 13" ∷ (codes "Sec-WebSocket-Key: " ++ key) ∷ []

-- the same as a head
abbrev asked_fields : List ℕ → List ℕ → List Field
asked_fields host key =
    record { name = codes "Host"; raw = 32 ∷ host; end = crlf }
    ∷ record { name = codes "Connection"; raw = codes " Upgrade"; end = crlf }
    ∷ record { name = codes "Upgrade"; raw = codes " websocket"; end = crlf }
    ∷ record { name = codes "Sec-WebSocket-Version"; raw = codes " 13"; end = crlf }
    ∷ record { name = codes "Sec-WebSocket-Key"; raw = 32 ∷ key; end = crlf }
    ∷ []

abbrev asked_head : List ℕ → List ℕ → List ℕ → RequestHead
asked_head host query key = record {
  blank = [];
  method = codes "GET";
  target = 47 ∷ 63 ∷ query;
  minor = 1;
  line_end = crlf;
  fields = asked_fields host key;
  last = crlf;
}

-- a head of five fields is its request line, a line for each field and the empty line
printed_lines : (method target a v b w c x d y e z : List ℕ)
    → print_request (record {
      blank = [];
      method = method;
      target = target;
      minor = 1;
      line_end = crlf;
      fields =
          record { name = a; raw = v; end = crlf } ∷ record { name = b; raw = w; end = crlf } ∷ record { name = c; raw = x; end = crlf }
          ∷ record { name = d; raw = y; end = crlf } ∷ record { name = e; raw = z; end = crlf } ∷ [];
      last = crlf;
    })
    ≡ lines ((method ++ 32 ∷ (target ++ codes " HTTP/1.1")) ∷ (a ++ 58 ∷ v) ∷ (b ++ 58 ∷ w) ∷ (c ++ 58 ∷ x) ∷ (d ++ 58 ∷ y) ∷ (e ++ 58 ∷ z) ∷ []) ++ crlf_bytes
unfolding print_request
printed_lines method target a v b w c x d y e z = simp (append_assoc, cons-append)

printed : (host query key : List ℕ) → print_request (asked_head host query key) ≡ lines (asked_lines host query key) ++ crlf_bytes
printed host query key =
    printed_lines (codes "GET") (47 ∷ 63 ∷ query) (codes "Host") (32 ∷ host) (codes "Connection") (codes " Upgrade") (codes "Upgrade") (codes " websocket")
    (codes "Sec-WebSocket-Version") (codes " 13") (codes "Sec-WebSocket-Key") (32 ∷ key)

written : (host query key : List ℕ) → lines_of host query key ≡ lines (asked_lines host query key) ++ crlf_bytes
unfolding lines_of
written host query key = lines_last (asked_lines host query key)

uri_from_visible : (b : ℕ) → is_visible b ≡ true → is_uri_byte b ≡ true
uri_from_visible b h = grind (arith, nat_tests)

ascii_from_visible : (b : ℕ) → is_visible b ≡ true → b < 128
ascii_from_visible b h = grind (arith, nat_tests)

abbrev Visible : ℕ → Type 0
Visible b = is_visible b ≡ true

are_fields : (host key : List ℕ) → AllPass is_value_byte host → AllPass is_visible key → All IsField (asked_fields host key)
unfolding is_token_byte
are_fields host key host_value key_visible =
    each_of IsField (asked_fields host key) (
      record {
        name = (omega arith, AllPass-from_list_all is_token_byte (codes "Host") refl);
        raw = All-cons (λ b. is_value_byte b ≡ true) 32 host refl host_value;
      },
      (
        record { name = (omega arith, AllPass-from_list_all is_token_byte (codes "Connection") refl); raw = AllPass-from_list_all is_value_byte (codes " Upgrade") refl },
        (
          record { name = (omega arith, AllPass-from_list_all is_token_byte (codes "Upgrade") refl); raw = AllPass-from_list_all is_value_byte (codes " websocket") refl },
          (
            record { name = (omega arith, AllPass-from_list_all is_token_byte (codes "Sec-WebSocket-Version") refl); raw = AllPass-from_list_all is_value_byte (codes " 13") refl },
            (
              record {
                name = (omega arith, AllPass-from_list_all is_token_byte (codes "Sec-WebSocket-Key") refl);
                raw = All-cons (λ b. is_value_byte b ≡ true) 32 key refl (visible_value key key_visible);
              },
              tt,
            ),
          ),
        ),
      ),
    )

is_method : IsToken (codes "GET")
unfolding is_token_byte
is_method = (omega arith, AllPass-from_list_all is_token_byte (codes "GET") refl)

valid : (host query key : List ℕ) → AllPass is_value_byte host → AllPass is_visible query → AllPass is_visible key
    → IsRequestHead (asked_head host query key)
valid host query key host_value query_visible key_visible =
    let target : List ℕ = 47 ∷ 63 ∷ query in
    let visible : AllPass is_visible target = All-cons Visible 47 (63 ∷ query) refl (All-cons Visible 63 query refl query_visible) in
    record {
      method = is_method;
      target = (omega arith, All-weaker Visible (λ b. is_uri_byte b ≡ true) uri_from_visible target visible);
      target_text = IsUtf8-from_ascii target (IsAscii-from_all target (All-weaker Visible (λ b. b < 128) ascii_from_visible target visible));
      minor = omega arith;
      fields = are_fields host key host_value key_visible;
    }

each_line : (host query key : List ℕ) → AllPass is_value_byte host → AllPass is_visible query → AllPass is_visible key
    → All IsLine (asked_lines host query key)
each_line host query key host_value query_visible key_visible =
    let P : ℕ → Type 0 = λ b. b ≢ 13 in
    each_of IsLine (asked_lines host query key) (
      record {
        some = omega arith;
        no_return =
            All-append P (codes "GET /?" ++ query) (codes " HTTP/1.1")
            (All-append P (codes "GET /?") query (no_return (codes "GET /?") refl) (visible_no_return query query_visible))
            (no_return (codes " HTTP/1.1") refl);
      },
      (
        record { some = omega arith; no_return = All-append P (codes "Host: ") host (no_return (codes "Host: ") refl) (value_no_return host host_value) },
        (
          record { some = omega arith; no_return = no_return (codes "Connection: Upgrade") refl },
          (
            record { some = omega arith; no_return = no_return (codes "Upgrade: websocket") refl },
            (
              record { some = omega arith; no_return = no_return (codes "Sec-WebSocket-Version: 13") refl },
              (
                record {
                  some = omega arith;
                  no_return = All-append P (codes "Sec-WebSocket-Key: ") key (no_return (codes "Sec-WebSocket-Key: ") refl) (visible_no_return key key_visible);
                },
                tt,
              ),
            ),
          ),
        ),
      ),
    )

-- ---- what the head asks for

bool_is : (b : Bool) → bytes_eq (bool_text b) (codes "true") ≡ b
bool_is true = refl
bool_is false = refl

asked_query : (token key : List ℕ) (reconnection skip_frames : Bool) → tokens.IsToken token
    → asked (query_text token reconnection skip_frames) key
    ≡ Ok (record { token = Some token; reconnection = reconnection; skip_frames = skip_frames; key = key })
unfolding asked token_in
asked_query token key reconnection skip_frames is =
    let query : List ℕ = query_text token reconnection skip_frames in
    let read = pairs_of_query token reconnection skip_frames is.visible in
    let token_is : only_value token_name query ≡ Some token = ap (λ ps. only (values_of token_name ps)) read in
    let reconnection_is : flag reconnection_name query ≡ reconnection =
    ap (λ ps. is_true (only (values_of reconnection_name ps))) read ∙ bool_is reconnection in
    let skip_is : flag skip_name query ≡ skip_frames = ap (λ ps. is_true (only (values_of skip_name ps))) read ∙ bool_is skip_frames in
    ap (λ (o : Option (List ℕ)). with_token query key (token_in o)) token_is
    ∙ ap (λ (r : Result (List ℕ) TokenFault). with_token query key (checked_token r)) (token_of-IsToken token is)
    ∙ (λ i. Ok (record { token = Some token; reconnection = reconnection_is i; skip_frames = skip_is i; key = key }))

keyed : (query key : List ℕ) → 0 < length key → with_key query (Some key) ≡ asked query key
unfolding with_key
keyed query key some = cond-false _ _ _ (ne_eqb (length key) 0 (omega arith))

asks_that : (host query key : List ℕ) → AllPass is_visible key → 0 < length key → asks (asked_head host query key) ≡ asked query key
unfolding upgrade_of is_get is_websocket trim_ows
asks_that host query key visible some = ap (λ (k : List ℕ). with_key query (Some k)) (trimmed key visible) ∙ keyed query key some

-- ---- the request as it is read

text_is : (host token key : List ℕ) (reconnection skip_frames : Bool)
    → request_text host token reconnection skip_frames key ≡ lines (asked_lines host (query_text token reconnection skip_frames) (key_text key)) ++ crlf_bytes
unfolding request_text
text_is host token key reconnection skip_frames = written host (query_text token reconnection skip_frames) (key_text key)

visible_key : (key : List ℕ) → All IsByte key → AllPass is_visible (key_text key)
unfolding key_text
visible_key key small = visible_encoded key small

length-key : (key : List ℕ) → length key ≡ 16 → (0 < length (key_text key)) × (length (key_text key) ≤ 34)
unfolding key_text
length-key key is = (some_encoded key (omega arith), omega (arith, length-encoded key))

are_lines : (host token key : List ℕ) (reconnection skip_frames : Bool) → IsReadable host token key
    → IsLines (asked_lines host (query_text token reconnection skip_frames) (key_text key)) (request_text host token reconnection skip_frames key)
are_lines host token key reconnection skip_frames is =
    let query : List ℕ = query_text token reconnection skip_frames in
    let keyed_len = length-key key is.key_len in
    let query_len : length query ≤ 948 = length-query token reconnection skip_frames is.is_token.most in
    let bound = fits host query (key_text key) is.host_len query_len keyed_len.1 in
    record {
      text_is = text_is host token key reconnection skip_frames;
      some = omega arith;
      each = each_line host query (key_text key) is.host_bytes (visible_query token reconnection skip_frames) (visible_key key is.key_bytes);
      most = subst (λ (t : List ℕ). length t ≤ max_head) (sym (text_is host token key reconnection skip_frames)) bound;
    }
  where
    fits : (host query key : List ℕ) → length host ≤ 15000 → length query ≤ 948 → length key ≤ 34 → length (lines (asked_lines host query key) ++ crlf_bytes) ≤ max_head
    fits host query key a b c = simp length-append (omega arith)

is_head : (host token key : List ℕ) (reconnection skip_frames : Bool) → IsReadable host token key
    → IsHead (request_text host token reconnection skip_frames key) (asked_head host (query_text token reconnection skip_frames) (key_text key))
is_head host token key reconnection skip_frames is = record {
  valid = valid host (query_text token reconnection skip_frames) (key_text key) is.host_bytes (visible_query token reconnection skip_frames) (visible_key key is.key_bytes);
  text_is = text_is host token key reconnection skip_frames ∙ sym (printed host (query_text token reconnection skip_frames) (key_text key));
  fields = omega arith;
}

-- the server reads what the client asked for, whatever follows
pub request_read : (host token key more : List ℕ) (reconnection skip_frames : Bool) → IsReadable host token key
    → HeadIs (request_text host token reconnection skip_frames key ++ more)
    (Ok (Some (requested token reconnection skip_frames key, length (request_text host token reconnection skip_frames key))))
request_read host token key more reconnection skip_frames is =
    let text : List ℕ = request_text host token reconnection skip_frames key in
    let query : List ℕ = query_text token reconnection skip_frames in
    let head : RequestHead = asked_head host query (key_text key) in
    let read : IsRead IsHead (λ n h. located n (asks h)) (text ++ more) (located (length text) (asks head)) =
    read_lines IsHead (λ n h. located n (asks h)) (asked_lines host query (key_text key)) text more head (are_lines host token key reconnection skip_frames is) (is_head host token key reconnection skip_frames is) in
    let said : asks head ≡ Ok (requested token reconnection skip_frames key) =
    asks_that host query (key_text key) (visible_key key is.key_bytes) (length-key key is.key_len).0
    ∙ asked_query token (key_text key) reconnection skip_frames is.is_token in
    inr (inr (subst (λ (r : Result (Option (Upgrade × ℕ)) HeadFault). IsRead IsHead (λ n h. located n (asks h)) (text ++ more) r) (ap (located (length text)) said) read))

-- a proper front of it is still open
pub request_open : (host token key : List ℕ) (reconnection skip_frames : Bool) (n : ℕ) → IsReadable host token key
    → n < length (request_text host token reconnection skip_frames key)
    → HeadIs (take n (request_text host token reconnection skip_frames key)) (Ok None)
request_open host token key reconnection skip_frames n is lt =
    inl (open_lines TooLong (asked_lines host (query_text token reconnection skip_frames) (key_text key))
    (request_text host token reconnection skip_frames key) n (are_lines host token key reconnection skip_frames is) lt)
