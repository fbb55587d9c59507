-- The server's answer to an upgrade request, as the client reads it (RFC 6455, section 4.1). The status and the accept field are
-- judged, and nothing else.
use Rattle.std.specs.Prelude.{◌≡◌, ℕ, ◌≤◌, ◌==◌, ◌⊎◌, Bool, false, not, List, length, map, Option, Some, None, Result, Ok, Err, codes, bytes_eq, if◌then◌else◌, ⊤}
use Rattle.httparse.specs.Grammar.{ResponseHead, IsResponseHead, print_response, status_code}
use Rattle.httparse.specs.Spans.{name_and_value}
use Rattle.ra_upgrade.specs.declared.answer_head.AnswerFault.{AnswerFault}
use Rattle.ra_upgrade.specs.declared.answer_head.AnswerFault.TheVariants.{TooLong, BadHead, Status, BadAccept}
use Rattle.ra_upgrade.specs.AnswerTexts.{accept_text}
use Rattle.ra_upgrade.specs.Ends.{max_fields}
use Rattle.ra_upgrade.specs.Fields.{first_value}
use Rattle.ra_upgrade.specs.Reading.{IsOpen, IsBad, IsRead}
use Rattle.ra_upgrade.specs.RequestTexts.{key_text}

-- the text is that response head, and has no more header fields than are allowed
pub record IsAnswer (text : List ℕ) (head : ResponseHead) : Type 0 where
  pub valid : IsResponseHead head
  pub text_is : text ≡ print_response head
  pub fields : length head.fields ≤ max_fields

-- there is a value, and it is that text
abbrev pub is_value : Option (List ℕ) → List ℕ → Bool
is_value None text = false
is_value (Some found) text = bytes_eq found text

-- what a status and header fields say to a client with that key
unfoldable pub accepts : List ℕ → ℕ → List (List ℕ × List ℕ) → Result ⊤ AnswerFault
accepts key code fields =
    if not (code == 101) then Err (Status code)
    else (if is_value (first_value (codes "sec-websocket-accept") fields) (accept_text (key_text key)) then Ok tt else Err BadAccept)

-- what an answer says to a client with that key
abbrev pub says : List ℕ → ResponseHead → Result ⊤ AnswerFault
says key h = accepts key (status_code h) (map name_and_value h.fields)

-- an acceptance has a length
abbrev pub accepted : ℕ → Result ⊤ AnswerFault → Result (Option ℕ) AnswerFault
accepted n (Ok _) = Ok (Some n)
accepted n (Err fault) = Err fault

-- the bytes have no whole answer, or one that is no response head, or one that says that to a client with that key
abbrev pub AnswerIs : List ℕ → List ℕ → Result (Option ℕ) AnswerFault → Type 0
AnswerIs key bytes result =
    IsOpen TooLong bytes result
    ⊎ (IsBad IsAnswer BadHead bytes result ⊎ IsRead IsAnswer (λ n head. accepted n (says key head)) bytes result)
