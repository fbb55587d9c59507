-- Reading a value from front to back, with the first wrong place.
use Rattle.std.specs.Prelude.{◌≡◌, ◌≤◌, ◌-◌, ℕ, zero, suc, List, [], ◌∷◌, length, take, drop, Ok, Err, nat_lt, if◌then◌else◌}
use Rattle.std.specs.Str.{is_utf8}
use Rattle.ra_values.specs.declared.fault.Wrong.TheVariants.{Short, BadTag, BadText, TooDeep}
use Rattle.ra_values.specs.declared.fault.ReadFault.{ReadFault}
use Rattle.ra_values.specs.declared.fault.ReadFault.TheVariants as faults
use Rattle.ra_values.specs.Reading.{Read, wrong, ◌>>=◌}
use Rattle.ra_values.specs.Number.{number_at}
use Rattle.ra_values.specs.Spelling.{levels}
use Rattle.ra_values.specs.Tree.{Tree, undefined, text, buffer, vs_buffer, array, object, int, Trees, none, more}

-- a length, and that many bytes
unfoldable pub prefixed_at : List ℕ → Read (List ℕ)
prefixed_at bytes = do
  n ← number_at bytes
  if nat_lt (length n.1) n.0 then wrong Short [] else Ok (take n.0 n.1, drop n.0 n.1)

-- the same, where the bytes are text
unfoldable pub text_at : List ℕ → Read (List ℕ)
text_at bytes = do
  n ← number_at bytes
  if nat_lt (length n.1) n.0 then wrong Short [] else (if is_utf8 (take n.0 n.1) then Ok (take n.0 n.1, drop n.0 n.1) else wrong BadText n.1)

-- so many values, each read by item_at
unfoldable pub items_at : (List ℕ → Read Tree) → ℕ → List ℕ → Read Trees
items_at item_at zero bytes = Ok (none, bytes)
items_at item_at (suc n) bytes = do
  first ← item_at bytes
  others ← items_at item_at n first.1
  Ok (more first.0 others.0, others.1)

-- what follows a tag, which stands at the front of here
unfoldable pub content_at : (List ℕ → Read Tree) → ℕ → List ℕ → List ℕ → Read Tree
content_at item_at zero here bytes = Ok (undefined, bytes)
content_at item_at (suc zero) here bytes = do
  x ← text_at bytes
  Ok (text x.0, x.1)
content_at item_at (suc (suc zero)) here bytes = do
  x ← prefixed_at bytes
  Ok (buffer x.0, x.1)
content_at item_at (suc (suc (suc zero))) here bytes = do
  x ← prefixed_at bytes
  Ok (vs_buffer x.0, x.1)
content_at item_at (suc (suc (suc (suc zero)))) here bytes = do
  n ← number_at bytes
  x ← items_at item_at n.0 n.1
  Ok (array x.0, x.1)
content_at item_at (suc (suc (suc (suc (suc zero))))) here bytes = do
  x ← text_at bytes
  Ok (object x.0, x.1)
content_at item_at (suc (suc (suc (suc (suc (suc zero)))))) here bytes = do
  n ← number_at bytes
  Ok (int n.0, n.1)
content_at item_at (suc (suc (suc (suc (suc (suc (suc tag))))))) here bytes = wrong BadTag here

-- a value, where so many levels are left
unfoldable pub value_at : ℕ → List ℕ → Read Tree
value_at left [] = wrong Short []
value_at zero (tag ∷ bytes) = wrong TooDeep (tag ∷ bytes)
value_at (suc left) (tag ∷ bytes) = content_at (value_at left) tag (tag ∷ bytes) bytes

-- Reading the bytes stops at this fault, whose place counts from their front. Want of memory may come at any bytes.
abbrev pub IsFirstFault : List ℕ → ReadFault → Type 0
IsFirstFault bytes (faults.Bad at what) = (left : ℕ) × (left ≤ length bytes) × (at ≡ length bytes - left) × (value_at levels bytes ≡ Err (record { left = left; what = what }))
IsFirstFault bytes faults.NoMemory = Unit {0}
