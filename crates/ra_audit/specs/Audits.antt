-- The audit of a list of kept records: its lines, and whether each epoch is due.
use Rattle.std.specs.Prelude.{◌≡◌, ℕ, ◌+◌, ◌==◌, List, [], ◌∷◌, ◌++◌, length, codes, if◌then◌else◌}
use Rattle.std.specs.BTreeMap.{is_at}
use Rattle.std.specs.Fmt.{decimal}
use Rattle.std.specs.List.{count_by}
use Rattle.ra_base.specs.Keys.{key_cmp}
use Rattle.ra_base.specs.declared.key.Key.{Key}
use Rattle.ra_base.specs.declared.kind.Kind.{Kind}
use Rattle.ra_base.specs.declared.kind.Kind.TheVariants.{Management, ExtensionHost, Tunnel}
use Rattle.ra_keep.specs.declared.record.Record.{Record}

-- how many records have this key
abbrev pub count_of : Key → List Record → ℕ
count_of key list = count_by (λ r. is_at (key_cmp r.key) key) list

-- the epoch that is due behind these records
abbrev pub due_epoch : List Record → Key → ℕ
due_epoch earlier key = count_of key earlier + 1

abbrev pub kind_name : Kind → List ℕ
kind_name Management = codes "management"
kind_name ExtensionHost = codes "host"
kind_name Tunnel = codes "tunnel"

-- the line of the record with this number
abbrev pub record_line : ℕ → Record → List ℕ
record_line n r = decimal n ++ codes " " ++ kind_name r.key.kind ++ codes " " ++ r.key.token ++ codes " " ++ decimal r.epoch ++ codes " " ++ decimal r.at ++ 10 ∷ []

-- the last line, behind so many records
abbrev pub end_line : ℕ → List ℕ
end_line n = codes "end records=" ++ decimal n ++ 10 ∷ []

-- the line of the first record whose epoch is not due
abbrev pub wrong_line : ℕ → ℕ → ℕ → List ℕ
wrong_line n epoch due = codes "record " ++ decimal n ++ codes ": epoch " ++ decimal epoch ++ codes ", expected " ++ decimal due ++ 10 ∷ []

-- the lines of the records behind earlier ones
unfoldable pub audit_from : List Record → List Record → List ℕ
audit_from earlier [] = end_line (length earlier)
audit_from earlier (r ∷ rest) =
    if r.epoch == due_epoch earlier r.key then record_line (length earlier + 1) r ++ audit_from (earlier ++ r ∷ []) rest else wrong_line (length earlier + 1) r.epoch (due_epoch earlier r.key)

-- the lines of an audit
abbrev pub audit : List Record → List ℕ
audit list = audit_from [] list

-- each epoch is due, behind earlier records
unfoldable pub AreDueFrom : List Record → List Record → Type 0
AreDueFrom earlier [] = Unit {0}
AreDueFrom earlier (r ∷ rest) = (r.epoch ≡ due_epoch earlier r.key) × AreDueFrom (earlier ++ r ∷ []) rest

-- each epoch is due
abbrev pub AreDue : List Record → Type 0
AreDue list = AreDueFrom [] list

-- the keeper failed
abbrev pub refused_line : List ℕ
refused_line = codes "refused: records" ++ 10 ∷ []
