-- The answer that accepts a request, as lines and as a response head.
use Rattle.std.proofs.Common.{◌≡◌, ◌≢◌, ℕ, ◌<◌, ◌≤◌, true, List, [], ◌∷◌, ◌++◌, length, take, Option, Some, None, Result, Ok, codes, arith, refl, sym, ap, subst, ◌∙◌, inl, inr, All, append_assoc, length-append}
use Rattle.std.specs.Char.{is_ascii_digit}
use Rattle.std.specs.List.{AllPass}
use Rattle.std.proofs.lemmas.List.Elements.{All-cons, All-append}
use Rattle.std.proofs.lemmas.List.Sums.{AllPass-from_list_all}
use Rattle.httparse.specs.Ascii.{crlf_bytes}
use Rattle.httparse.specs.Grammar.{Field, IsField, ResponseHead, IsResponseHead, print_response, crlf, is_token_byte, is_value_byte}
use Rattle.ra_base.specs.TokenGrammar.{is_visible}
use Rattle.ra_upgrade.specs.declared.answer_head.AnswerFault.{AnswerFault}
use Rattle.ra_upgrade.specs.declared.answer_head.AnswerFault.TheVariants.{TooLong}
use Rattle.ra_upgrade.specs.AnswerHeads.{IsAnswer, accepts, says, AnswerIs, accepted}
use Rattle.sha1.specs.Sha1.{sha1}
use Rattle.ra_upgrade.specs.AnswerTexts.{accept_text, accept_guid, answer_text, lines}
use Rattle.ra_upgrade.specs.Reading.{IsRead}
use Rattle.ra_upgrade.specs.RequestTexts.{key_text}
use Rattle.ra_upgrade.proofs.EndLemmas.{IsLine, IsLines, lines_last, read_lines, open_lines}
use Rattle.ra_upgrade.proofs.TextLemmas.{each_of, All-sha1, length-sha1, visible_encoded, length-encoded, no_return, visible_no_return, visible_value, trimmed, same_bytes}

-- the lines of the answer but the empty one, around its accept text
abbrev answer_lines : List ℕ → List (List ℕ)
answer_lines accept =
    codes "HTTP/1.1 101 Switching Protocols" ∷ codes "Upgrade: websocket" ∷ codes "Connection: Upgrade"
    ∷ (codes "Sec-WebSocket-Accept: " ++ accept) ∷ []

-- the same as a head
abbrev answer_fields : List ℕ → List Field
answer_fields accept =
    record { name = codes "Upgrade"; raw = codes " websocket"; end = crlf }
    ∷ record { name = codes "Connection"; raw = codes " Upgrade"; end = crlf }
    ∷ record { name = codes "Sec-WebSocket-Accept"; raw = 32 ∷ accept; end = crlf }
    ∷ []

abbrev answer_head : List ℕ → ResponseHead
answer_head accept = record {
  blank = [];
  minor = 1;
  digits = codes "101";
  reason = Some (codes "Switching Protocols");
  line_end = crlf;
  fields = answer_fields accept;
  last = crlf;
}

printed : (accept : List ℕ) → print_response (answer_head accept) ≡ lines (answer_lines accept) ++ crlf_bytes
unfolding print_response
printed accept = simp append_assoc

written : (key : List ℕ) → answer_text key ≡ lines (answer_lines (accept_text key)) ++ crlf_bytes
unfolding answer_text
written key = lines_last (answer_lines (accept_text key))

visible_accept : (key : List ℕ) → AllPass is_visible (accept_text key)
unfolding accept_text
visible_accept key = visible_encoded _ (All-sha1 (key ++ accept_guid))

length-accept : (key : List ℕ) → length (accept_text key) ≤ 42
unfolding accept_text
length-accept key = omega (arith, length-encoded (sha1 (key ++ accept_guid)), length-sha1 (key ++ accept_guid))

are_fields : (accept : List ℕ) → AllPass is_visible accept → All IsField (answer_fields accept)
unfolding is_token_byte
are_fields accept visible =
    each_of IsField (answer_fields accept) (
      record { name = (omega arith, AllPass-from_list_all is_token_byte (codes "Upgrade") refl); raw = AllPass-from_list_all is_value_byte (codes " websocket") refl },
      (
        record { name = (omega arith, AllPass-from_list_all is_token_byte (codes "Connection") refl); raw = AllPass-from_list_all is_value_byte (codes " Upgrade") refl },
        (
          record {
            name = (omega arith, AllPass-from_list_all is_token_byte (codes "Sec-WebSocket-Accept") refl);
            raw = All-cons (λ b. is_value_byte b ≡ true) 32 accept refl (visible_value accept visible);
          },
          tt,
        ),
      ),
    )

valid : (accept : List ℕ) → AllPass is_visible accept → IsResponseHead (answer_head accept)
valid accept visible = record {
  minor = omega arith;
  digits = (refl, AllPass-from_list_all is_ascii_digit (codes "101") refl);
  reason = AllPass-from_list_all is_value_byte (codes "Switching Protocols") refl;
  fields = are_fields accept visible;
}

each_line : (accept : List ℕ) → AllPass is_visible accept → All IsLine (answer_lines accept)
each_line accept visible =
    each_of IsLine (answer_lines accept) (
      record { some = omega arith; no_return = no_return (codes "HTTP/1.1 101 Switching Protocols") refl },
      (
        record { some = omega arith; no_return = no_return (codes "Upgrade: websocket") refl },
        (
          record { some = omega arith; no_return = no_return (codes "Connection: Upgrade") refl },
          (
            record {
              some = omega arith;
              no_return = All-append (λ b. b ≢ 13) (codes "Sec-WebSocket-Accept: ") accept (no_return (codes "Sec-WebSocket-Accept: ") refl) (visible_no_return accept visible);
            },
            tt,
          ),
        ),
      ),
    )

are_lines : (key : List ℕ) → IsLines (answer_lines (accept_text key)) (answer_text key)
are_lines key = record {
  text_is = written key;
  some = omega arith;
  each = each_line (accept_text key) (visible_accept key);
  most = rw (written key) (simp length-append (omega (arith, length-accept key)));
}

is_answer : (key : List ℕ) → IsAnswer (answer_text key) (answer_head (accept_text key))
is_answer key = record {
  valid = valid (accept_text key) (visible_accept key);
  text_is = written key ∙ sym (printed (accept_text key));
  fields = omega arith;
}

accepts_own : (key accept : List ℕ) → AllPass is_visible accept → accept ≡ accept_text (key_text key) → says key (answer_head accept) ≡ Ok tt
unfolding accepts
accepts_own key accept visible is = rw (trimmed accept visible, ← is, same_bytes accept) refl

-- the client accepts the answer to its own key, whatever follows it
pub answer_read : (key more : List ℕ) → AnswerIs key (answer_text (key_text key) ++ more) (Ok (Some (length (answer_text (key_text key)))))
answer_read key more =
    let text : List ℕ = answer_text (key_text key) in
    let head : ResponseHead = answer_head (accept_text (key_text key)) in
    let read : IsRead IsAnswer (λ n h. accepted n (says key h)) (text ++ more) (accepted (length text) (says key head)) =
    read_lines IsAnswer (λ n h. accepted n (says key h)) (answer_lines (accept_text (key_text key))) text more head (are_lines (key_text key)) (is_answer (key_text key)) in
    let own = accepts_own key (accept_text (key_text key)) (visible_accept (key_text key)) refl in
    inr (inr (subst (λ (r : Result (Option ℕ) AnswerFault). IsRead IsAnswer (λ n h. accepted n (says key h)) (text ++ more) r) (ap (accepted (length text)) own) read))

-- a proper front of it is still open
pub answer_open : (key other : List ℕ) (n : ℕ) → n < length (answer_text other) → AnswerIs key (take n (answer_text other)) (Ok None)
answer_open key other n lt = inl (open_lines TooLong (answer_lines (accept_text other)) (answer_text other) n (are_lines other) lt)
