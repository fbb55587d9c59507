-- The words of grand scripts alone: kinds, tokens, ids and texts, as they are read.
use Rattle.std.specs.Prelude.{ℕ, ◌^◌, ℤ, pos, if◌then◌else◌, List, codes, Result, Ok, Err}
use Rattle.std.specs.Str.{bytes_eq, is_utf8}
use Rattle.ra_base.specs.declared.kind.Kind.{Kind}
use Rattle.ra_base.specs.declared.kind.Kind.TheVariants.{Management, ExtensionHost}
use Rattle.ra_base.specs.declared.token.TokenFault.{TokenFault}
use Rattle.ra_base.specs.TokenGrammar.{token_of}
use Rattle.ra_script.specs.declared.line.What.{What}
use Rattle.ra_script.specs.declared.line.What.TheVariants.{UnknownWord, BadBytes}
use Rattle.ra_script.specs.Words.{◌>>=◌, number_at, bytes_at}

-- the kinds that a client may have
abbrev pub kind_at : List ℕ → Result Kind What
kind_at word = if bytes_eq word (codes "management") then Ok Management else if bytes_eq word (codes "host") then Ok ExtensionHost else Err UnknownWord

abbrev pub token_or_bad : Result (List ℕ) TokenFault → Result (List ℕ) What
token_or_bad (Ok token) = Ok token
token_or_bad (Err fault) = Err BadBytes

-- the token that a word is
unfoldable pub token_at : List ℕ → Result (List ℕ) What
token_at word = token_or_bad (token_of word)

-- ids are below this
abbrev pub id_limit : ℕ
id_limit = 2 ^ 31

-- the id that a word is the decimal of
unfoldable pub id_at : List ℕ → Result ℤ What
id_at word = number_at id_limit word >>= λ n. Ok (pos n)

-- bytes that are UTF-8
unfoldable pub utf8_at : List ℕ → Result (List ℕ) What
utf8_at word = bytes_at word >>= λ bytes. if is_utf8 bytes then Ok bytes else Err BadBytes
