-- How a table of rows changes.
use Rattle.std.specs.Prelude.{◌≡◌, Bool, List, Option, option_map, if◌then◌else◌}
use Rattle.std.specs.BTreeMap.{BTreeMap, get}
use Rattle.std.specs.BTreeSet.{BTreeSet, contains}
use Rattle.std.specs.List.{list_any}
use Rattle.ra_base.specs.Keys.{key_cmp}
use Rattle.ra_base.specs.declared.key.Key.{Key}
use Rattle.ra_registry.specs.declared.past.Past.{Past}
use Rattle.ra_registry.specs.declared.row.Row.{Row}
use Rattle.ra_registry.specs.Rows.{same_key}

-- the entries are of that key
abbrev pub has_key : List Past → Key → Bool
has_key entries key = list_any (λ entry. same_key entry.key key) entries

-- the row of one key is that, and each other stays
abbrev pub SetsRow : BTreeMap Key Row → BTreeMap Key Row → Key → Option Row → Type 0
SetsRow before after key row = (k : Key) → get key_cmp after k ≡ (if same_key key k then row else get key_cmp before k)

-- the row of one key is changed, and each other stays
abbrev pub ChangesRow : BTreeMap Key Row → BTreeMap Key Row → Key → (Row → Row) → Type 0
ChangesRow before after key change =
    (k : Key) → get key_cmp after k ≡ (if same_key key k then option_map change (get key_cmp before k) else get key_cmp before k)

-- the rows of the entries' keys are changed, and each other stays
abbrev pub ChangesRows : BTreeMap Key Row → BTreeMap Key Row → List Past → (Row → Row) → Type 0
ChangesRows before after entries change =
    (k : Key) → get key_cmp after k ≡ (if has_key entries k then option_map change (get key_cmp before k) else get key_cmp before k)

-- all rows stay
abbrev pub SameRows : BTreeMap Key Row → BTreeMap Key Row → Type 0
SameRows before after = (k : Key) → get key_cmp after k ≡ get key_cmp before k

-- one key is in the set or not, and each other stays
abbrev pub SetsKey : BTreeSet Key → BTreeSet Key → Key → Bool → Type 0
SetsKey before after key there = (k : Key) → contains key_cmp after k ≡ (if same_key key k then there else contains key_cmp before k)

-- all keys stay
abbrev pub SameKeys : BTreeSet Key → BTreeSet Key → Type 0
SameKeys before after = (k : Key) → contains key_cmp after k ≡ contains key_cmp before k
