-- The JSON text of the error of an unknown channel, and its length.
use Rattle.std.proofs.Common.{◌≡◌, ℕ, ◌*◌, ◌<◌, ◌≤◌, ◌^◌, List, [], ◌∷◌, ◌++◌, length, refl, ap, ◌∙◌, append_assoc, length-append, arith, rules}
use Rattle.std.proofs.lemmas.Bool.{cond_both, ltb-false}
use Rattle.std.proofs.lemmas.List.Concat.{flat_map-append}
use Rattle.std.specs.Prelude.{codes, nat_lt}
use Rattle.json.specs.Token.{Token, begin_object, end_object, key, string}
use Rattle.json.specs.Print.{escape, escape_byte, escape_letter, print, print_from}
use Rattle.ra_values.specs.Tree.{object}
use Rattle.ra_values.specs.View.{tree}
use Rattle.ra_values.specs.declared.text.Text.{Text}
use Rattle.ra_values.specs.declared.value.Value.{the_lemmas}
use Rattle.ra_values.specs.declared.value.Value.TheVariants.{Object}
use Rattle.ra_ipc.specs.ChannelServers.{shown_name}

abbrev pub error_tokens : List ℕ → List Token
error_tokens m = begin_object ∷ key (codes "message") ∷ string m ∷ key (codes "name") ∷ string (codes "Unknown channel") ∷ end_object ∷ []

pub error_printed : (m : List ℕ) → print (error_tokens m) ≡ codes "{\"message\":\"" ++ (escape m ++ codes "\",\"name\":\"Unknown channel\"}")
unfolding print_from escape_byte
error_printed m = simp append_assoc

-- the message of the error
abbrev pub told : List ℕ → List ℕ
told x = codes "Channel name '" ++ (x ++ codes "' timed out after 1000ms")

told_escaped : (x : List ℕ) → escape (told x) ≡ codes "Channel name '" ++ (escape x ++ codes "' timed out after 1000ms")
unfolding escape_byte
told_escaped x = rw (flat_map-append escape_byte x (codes "' timed out after 1000ms")) refl

pub error_of_told : (x m : List ℕ) → m ≡ told x → codes "{\"message\":\"" ++ (escape m ++ codes "\",\"name\":\"Unknown channel\"}") ≡ codes "{\"message\":\"Channel name '" ++ (escape x ++ codes "' timed out after 1000ms\",\"name\":\"Unknown channel\"}")
error_of_told x m is =
    ap (λ (w : List ℕ). codes "{\"message\":\"" ++ (escape w ++ codes "\",\"name\":\"Unknown channel\"}")) is
    ∙ ap (λ (w : List ℕ). codes "{\"message\":\"" ++ (w ++ codes "\",\"name\":\"Unknown channel\"}")) (told_escaped x)
    ∙ ap (λ (w : List ℕ). codes "{\"message\":\"Channel name '" ++ w) (append_assoc (escape x) (codes "' timed out after 1000ms") (codes "\",\"name\":\"Unknown channel\"}"))

escaped_byte : (b : ℕ) → length (escape_byte b) ≤ 6
unfolding escape_byte
escaped_byte b =
    cond_both (nat_lt 0 (escape_letter b)) _ _ (λ (w : List ℕ). length w ≤ 6) (λ _. omega arith)
    (λ _. cond_both (nat_lt b 32) _ _ (λ (w : List ℕ). length w ≤ 6) (λ _. omega arith) (λ _. omega arith))

pub escaped_length : (x : List ℕ) → length (escape x) ≤ 6 * length x
escaped_length [] = omega arith
escaped_length (b ∷ x) = omega (arith, escaped_byte b, escaped_length x, length-append (escape_byte b) (escape x))

shown_length : (x : List ℕ) → length (shown_name x) ≤ 65536
shown_length x = cond_both (nat_lt 65536 (length x)) _ _ (λ (w : List ℕ). length w ≤ 65536) (λ _. omega arith) (λ f. ltb-false 65536 (length x) f)

pub error_length : (x : List ℕ) → length (codes "{\"message\":\"Channel name '" ++ (escape (shown_name x) ++ codes "' timed out after 1000ms\",\"name\":\"Unknown channel\"}")) < 2 ^ 32
error_length x = omega (arith, shown_length x, escaped_length (shown_name x), length-append (escape (shown_name x)) (codes "' timed out after 1000ms\",\"name\":\"Unknown channel\"}"))

pub tree_object : (json : Text) → tree (Object json) ≡ object json
tree_object json = search (rules, the_lemmas)
