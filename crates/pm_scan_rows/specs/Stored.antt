-- What a run that was read takes of a file, and what it gives.
use Rattle.std.specs.Prelude.{◌≡◌, List, ◌++◌, IsTrue, None}
use Rattle.std.specs.List.{flat_map}
use Rattle.pm_values.specs.declared.refusal.Refusal.{Refusal}
use Rattle.pm_engine.specs.Covers.{Run}
use Rattle.pm_merge.specs.Merging.{whole_rest}
use Rattle.pm_merge.specs.Source.{Rest}
use Rattle.pm_run_bytes.specs.Lying.{lying_rows}
use Rattle.pm_run.specs.Form.{Form}
use Rattle.pm_run.specs.Order.{last_key}
use Rattle.pm_run.specs.Reader.{StopsAfter}
use Rattle.pm_run.specs.Rows.{Opened}
use Rattle.pm_scan_rows.specs.declared.file.ReadFile.{ReadFile}
use Rattle.pm_scan_rows.specs.declared.file.ReadFile.TheVariants as files
use Rattle.pm_scan_rows.specs.declared.file.RowsLeft.{RowsLeft}
use Rattle.pm_scan_rows.specs.declared.file.RowsLeft.TheVariants as left
use Rattle.pm_scan_rows.specs.declared.rows.StoredRows.{StoredRows}
use Rattle.pm_scan_rows.specs.declared.written_rows.WrittenRows.{WrittenRows}

-- why not all rows of an opened file follow those before them in a run: this refusal comes after some of them
abbrev pub RefusesRows : Opened → Run → Refusal → Type 0
RefusesRows o before e = StopsAfter o (last_key None before) e

-- Private: the rows of a file that was read
abbrev pub rows_of : ReadFile → Run
rows_of (files.Lying file) = file
rows_of (files.Decoded rows) = rows.items

-- Private: those of files, one file after another
abbrev pub all_of : List ReadFile → Run
all_of read = flat_map rows_of read

-- Private: the rows that a file still gives
abbrev pub left_in : RowsLeft → Run
left_in (left.Lying rows) = lying_rows rows
left_in (left.Decoded rest) = rest.now

-- those that a run still gives
abbrev pub run_left : StoredRows → Run
run_left r = left_in r.own ++ all_of r.files.now

-- what a run still gives: all of it was read, so no refusal comes
abbrev pub rest_of : StoredRows → Rest
rest_of r = whole_rest (run_left r)

-- Private: where the rows lie in the bytes of a file, they are of the form
abbrev pub IsOfForm : Form → RowsLeft → Type 0
IsOfForm f (left.Lying rows) = rows.form.now ≡ f
IsOfForm f (left.Decoded rest) = Unit {0}

-- the rows of a run are given with their bytes where these are known to be those that are written of a form
pub record AreGivenFor (f : Form) (r : WrittenRows) : Type 0 where
  pub form : r.form.now ≡ f
  pub alike : IsTrue r.alike → IsOfForm f r.rows.own
