-- The history of a table: its schema, and the entries that commits made, in order. It knows no file.
use Rattle.std.specs.Prelude.{◌≡◌, ℕ, ℤ, List, [], ◌++◌, take, Bool}
use Rattle.std.specs.List.{flat_map}
use Rattle.pm_values.specs.declared.group.Group.{Group}
use Rattle.pm_model_history.specs.Merge.{HistoryRow}
use Rattle.pm_schema.specs.declared.schema.TableSchema.{TableSchema}

-- What one commit did. Rows were written, with a user and an identifier. Or groups were compacted, from the snapshot
-- of a base; each is named with whether all of its runs went into one at the top level. Or a fence was raised: no
-- commit whose base is at most that follows.
pub data Entry : Type 0 where
  append : List ℕ → ℤ → List HistoryRow → Entry
  compaction : ℕ → List (Group × Bool) → Entry
  fence : ℤ → Entry

-- no table, or a table with a schema and entries; entry s is that of snapshot s, from 1
pub data History : Type 0 where
  no_table : History
  table : TableSchema → List Entry → History

-- the history is that of a table with this schema
abbrev pub IsTableOf : TableSchema → History → Type 0
IsTableOf s no_table = ⊥
IsTableOf s (table t entries) = t ≡ s

-- The history goes on as the later one: a table keeps its schema, and its entries are the first of the later ones.
abbrev pub GoesOn : History → History → Type 0
GoesOn no_table later = Unit {0}
GoesOn (table s entries) no_table = ⊥
GoesOn (table s entries) (table t later) = (t ≡ s) × (more : List Entry) × (later ≡ entries ++ more)

-- the rows that an entry put into the table
abbrev pub entry_rows : Entry → List HistoryRow
entry_rows (append user identifier rows) = rows
entry_rows (compaction base groups) = []
entry_rows (fence number) = []

-- the rows of the first so many entries, in order: those of the snapshot of that number
abbrev pub rows_up_to : List Entry → ℕ → List HistoryRow
rows_up_to entries count = flat_map entry_rows (take count entries)
