-- What is spelled is read again, whatever follows it.
use Rattle.std.proofs.Common.{◌≡◌, ℕ, zero, suc, false, ltb, List, ◌++◌, length, Ok, IsUtf8, refl, append_assoc, arith}
use Rattle.std.proofs.lemmas.Bool.{le-ltb}
use Rattle.std.proofs.lemmas.List.{take_at, drop_at, length-append}
use Rattle.ra_values.specs.Number.{SpellsNumber}
use Rattle.ra_values.specs.Tree.{Tree, undefined, text, buffer, vs_buffer, array, object, int, Trees, none, more, count}
use Rattle.ra_values.specs.Spelling.{Spells, SpellsAll}
use Rattle.ra_values.specs.ReadValue.{prefixed_at, text_at, items_at, content_at, value_at}
use Rattle.ra_values.proofs.Numbers.{number_again}
use Rattle.ra_values.proofs.Utf8.{text_is}

prefixed_again : (content len rest : List ℕ) → SpellsNumber (length content) len → prefixed_at ((len ++ content) ++ rest) ≡ Ok (content, rest)
unfolding prefixed_at
prefixed_again content len rest s =
    let long : ltb (length (content ++ rest)) (length content) ≡ false = le-ltb _ _ (omega (arith, length-append content rest)) in
    rw (append_assoc len content rest, number_again (length content) len (content ++ rest) s, long, take_at content rest (length content) refl, drop_at content rest (length content) refl) refl

text_again : (content len rest : List ℕ) → IsUtf8 content → SpellsNumber (length content) len → text_at ((len ++ content) ++ rest) ≡ Ok (content, rest)
unfolding text_at
text_again content len rest u s =
    let long : ltb (length (content ++ rest)) (length content) ≡ false = le-ltb _ _ (omega (arith, length-append content rest)) in
    rw (append_assoc len content rest, number_again (length content) len (content ++ rest) s, long, take_at content rest (length content) refl, drop_at content rest (length content) refl, text_is content u) refl

mutual
  unfolding value_at content_at items_at

  pub value_again : (left : ℕ) (t : Tree) (bytes rest : List ℕ) → Spells left t bytes → value_at left (bytes ++ rest) ≡ Ok (t, rest)
  value_again zero t bytes rest s = absurd s
  value_again (suc left) undefined bytes rest s = rw s refl
  value_again (suc left) (text t) bytes rest s = rw (s.1.2, text_again t s.1.0 rest s.0 s.1.1) refl
  value_again (suc left) (buffer t) bytes rest s = rw (s.2, prefixed_again t s.0 rest s.1) refl
  value_again (suc left) (vs_buffer t) bytes rest s = rw (s.2, prefixed_again t s.0 rest s.1) refl
  value_again (suc left) (array items) bytes rest s = rw (s.4, append_assoc s.0 s.1 rest, number_again (count items) s.0 (s.1 ++ rest) s.2, items_again left items s.1 rest s.3) refl
  value_again (suc left) (object t) bytes rest s = rw (s.1.2, text_again t s.1.0 rest s.0 s.1.1) refl
  value_again (suc left) (int n) bytes rest s = rw (s.2, number_again n s.0 rest s.1) refl

  pub items_again : (left : ℕ) (ts : Trees) (bytes rest : List ℕ) → SpellsAll left ts bytes → items_at (value_at left) (count ts) (bytes ++ rest) ≡ Ok (ts, rest)
  items_again left none bytes rest s = rw s refl
  items_again left (more t ts) bytes rest s = rw (s.4, append_assoc s.0 s.1 rest, value_again left t s.0 (s.1 ++ rest) s.2, items_again left ts s.1 rest s.3) refl
