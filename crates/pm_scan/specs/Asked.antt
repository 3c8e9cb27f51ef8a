-- What is asked of a scanner.
use Rattle.std.specs.Prelude.{ℕ, Option, None, Some}
use Rattle.pm_schema.specs.declared.schema.TableSchema.{TableSchema}
use Rattle.pm_read_table.specs.Asked.{Asked, asked_of}
use Rattle.pm_read_table.specs.declared.asked.Wanted.{Wanted}
use Rattle.pm_read_table.specs.declared.asked.Wanted.TheVariants as wants
use Rattle.pm_scan.specs.declared.rows.Rows.{Rows}
use Rattle.pm_scan.specs.declared.rows.Rows.TheVariants as shown

-- a snapshot of a table, and which rows of it
pub record AskedRows : Type 0 where
  pub rows : Rows
  pub table : Asked

abbrev pub rows_asked : Rows → Asked → AskedRows
rows_asked rows a = record { rows = rows; table = a }

-- the latest snapshot is asked for, or the one with an id
abbrev pub wanted_of : Option ℕ → Wanted
wanted_of None = wants.Newest
wanted_of (Some id) = wants.At id

-- what is asked of a scanner
abbrev pub asked_for : Rows → TableSchema → Option ℕ → AskedRows
asked_for rows s at = rows_asked rows (asked_of s (wanted_of at))

-- all rows
abbrev pub asked_at : TableSchema → Option ℕ → AskedRows
asked_at s at = asked_for shown.All s at

-- those that are passed on at a snapshot
abbrev pub passed_at : TableSchema → ℕ → AskedRows
passed_at s id = asked_for shown.Passed s (Some id)
