-- What a scanner knows of the snapshots, and what its steps mean for the files.
use Rattle.std.specs.Prelude.{◌≡◌, ◌⊎◌, ℕ, List, []}
use Rattle.pm_store.specs.Files.{Files}
use Rattle.pm_model_history.specs.History.{Entry, table}
use Rattle.pm_model_history.specs.Merged.{scan_text}
use Rattle.pm_schema.specs.declared.schema.TableSchema.{TableSchema}
use Rattle.pm_model_folder.specs.Ledger.{IsKnown, Past}
use Rattle.pm_read_table.specs.Meaning as reader
use Rattle.pm_read_table.specs.declared.view.View.{View}
use Rattle.pm_group_files.specs.Chosen.{Chosen, chosen_of}
use Rattle.pm_group_files.specs.Jobs.{whole_groups}
use Rattle.pm_group_files.specs.Meaning as files
use Rattle.pm_group_files.specs.Meaning.{IsTableView}
use Rattle.pm_scan.specs.Rows.{groups_of, rows_at}
use Rattle.pm_scan.specs.declared.phase.Phase.{Phase}
use Rattle.pm_scan.specs.declared.phase.Phase.TheVariants as phases
use Rattle.pm_scan.specs.declared.rows.Rows.{Rows}
use Rattle.pm_scan.specs.declared.rows.Rows.TheVariants as shown

-- what is asked of the reader of the files of a view: all groups with the runs that have the rows, of which none was
-- handed out
abbrev pub all_of : Rows → View → Chosen
all_of rows v = chosen_of v.schema v.id (whole_groups (groups_of rows v.schema v.groups.entries)) []

-- the text is the scan of the rows at the snapshot: of the table there, or of the one that is passed on there
pub record IsScanOf (rows : Rows) (p : Past) (id : ℕ) (text : List ℕ) : Type 0 where
  pub schema : TableSchema
  pub entries : List Entry
  pub is_table : p.history ≡ table schema entries
  pub known : (id ≡ 0) ⊎ IsKnown p id
  pub is_text : text ≡ scan_text schema (rows_at rows schema entries id)

-- it is the scan of the table there, or of the one that is passed on
abbrev pub IsScan : Past → ℕ → List ℕ → Type 0
IsScan p id text = IsScanOf shown.All p id text

abbrev pub IsPassed : Past → ℕ → List ℕ → Type 0
IsPassed p id text = IsScanOf shown.Passed p id text

-- What it knows in each phase, whatever others do: what the reader of the view knows; what the reader of the files of a
-- view of the table knows; and in the end that its text is the scan of the rows at the snapshot.
abbrev pub Knows : Phase → Files → Past → Type 0
Knows (phases.View rows m) f p = reader.Knows m f p
Knows (phases.Files rows id m) f p =
    (v : View) × (id ≡ v.id) × IsTableView p v × files.Knows (all_of rows v) m f p
Knows (phases.Ready rows id text) f p = IsScanOf rows p id text.items
Knows phases.Over f p = Unit {0}
