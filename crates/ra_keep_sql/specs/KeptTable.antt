-- The table of kept records, and the three statements on it.
use Rattle.std.specs.Prelude.{◌≡◌, ◌<◌, true, false, [], ◌∷◌, Some, codes, List, ℕ, pos}
use Rattle.ra_base.specs.declared.kind.Kind.{Kind}
use Rattle.ra_base.specs.declared.kind.Kind.TheVariants.{Management, ExtensionHost, Tunnel}
use Rattle.ra_keep.specs.declared.record.Record.{Record}
use Rattle.sqlite.specs.Collation.TheVariants.{Binary}
use Rattle.sqlite.specs.declared.types.Value.TheVariants.{Null, Int, Text as Words}
use Rattle.sqlite.specs.Kind.TheVariants.{Integer, Text}
use Rattle.sqlite.specs.Order.{Row}
use Rattle.sqlite.specs.Schema.{Schema}
use Rattle.sqlite.specs.Table.{Table}
use Rattle.sqlite.specs.Tree.{rowid}
use Rattle.sqlite_schema.specs.declared.schema.Column.{Column}

-- a column of integers, none of which is missing
abbrev pub number_column : List ℕ → Column
number_column name = record { name = name; kind = Integer; is_strict = true; not_null = true; default = Null; collation = Binary }

abbrev pub kept_table : Table
kept_table = record {
  name = codes "kept";
  tree = 0;
  columns = (record { name = codes "n"; kind = Integer; is_strict = true; not_null = false; default = Null; collation = Binary })
      ∷ number_column (codes "kind")
      ∷ (record { name = codes "token"; kind = Text; is_strict = true; not_null = true; default = Null; collation = Binary })
      ∷ number_column (codes "epoch")
      ∷ number_column (codes "moment") ∷ [];
  key = Some 0;
  primary = 0 ∷ [];
  uniques = [];
  orders = [];
  checks = [];
  references = [];
  computed = [];
  stamps = record { places = []; terms = []; formats = [] };
  is_counted = false;
}

-- the schema of the table of records alone
abbrev pub kept_schema : Schema
kept_schema = record { tables = kept_table ∷ []; indexes = []; views = [] }

-- the schema of a database that has no table yet
abbrev pub no_schema : Schema
no_schema = record { tables = []; indexes = []; views = [] }

-- the number that a kind is kept as
abbrev pub kind_number : Kind → ℕ
kind_number Management = 1
kind_number ExtensionHost = 2
kind_number Tunnel = 3

-- the record with this number, as it is stored: the column of the rowid is empty
abbrev pub stored : ℕ → Record → Row
stored n kept = Int (pos n) ∷ Null ∷ Int (pos (kind_number kept.key.kind)) ∷ Words kept.key.token ∷ Int (pos kept.epoch) ∷ Int (pos kept.at) ∷ []

-- the parameters of the statement that adds it
abbrev pub inserted : ℕ → Record → Row
inserted n kept = Int (pos n) ∷ Int (pos (kind_number kept.key.kind)) ∷ Words kept.key.token ∷ Int (pos kept.epoch) ∷ Int (pos kept.at) ∷ []

-- each rowid is a number below n
abbrev pub Below : ℕ → List Row → Type 0
Below n [] = Unit {0}
Below n (row ∷ rows) = ((id : ℕ) × (rowid row ≡ Int (pos id)) × (id < n)) × Below n rows

abbrev pub create_text : List ℕ
create_text = codes "CREATE TABLE IF NOT EXISTS kept (n INTEGER PRIMARY KEY, kind INTEGER NOT NULL, token TEXT NOT NULL, epoch INTEGER NOT NULL, moment INTEGER NOT NULL) STRICT"

abbrev pub insert_text : List ℕ
insert_text = codes "INSERT INTO kept (n, kind, token, epoch, moment) VALUES (?1, ?2, ?3, ?4, ?5)"

abbrev pub select_text : List ℕ
select_text = codes "SELECT n, kind, token, epoch, moment FROM kept ORDER BY n"
