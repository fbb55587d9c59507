-- Tokens that are made of drawn bytes: random UUIDs (RFC 9562, section 5.4).
use Rattle.std.specs.Prelude.{ℕ, List}
use Rattle.uuid.specs.Text.{hyphenated_text, lower}
use Rattle.uuid.specs.Parts.{with_version, with_variant}
use Rattle.uuid.specs.declared.Variant.TheVariants.{RFC4122}
use Rattle.uuid.specs.declared.Version.TheVariants.{Random}

-- the hyphenated text, in lower case, of the bytes with the version and the variant set
unfoldable pub made_text : List ℕ → List ℕ
made_text bytes = hyphenated_text lower (with_version (with_variant bytes RFC4122) Random)
