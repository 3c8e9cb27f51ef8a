-- What is looked up is the stored row of the older runs' rows.
use Rattle.std.proofs.Common.{◌≡◌, List, Ok, Option, None, Some, reverse, sym, subst}
use Rattle.pm_schema.specs.declared.schema.TableSchema.{TableSchema}
use Rattle.pm_values.specs.Order.{Values}
use Rattle.pm_engine.specs.Covers.{Run, stored_rows}
use Rattle.pm_engine.specs.Meaning.{Meaning}
use Rattle.pm_engine.specs.OfSchema.{meaning_of}
use Rattle.pm_engine.specs.declared.stored.Stored.{Stored}
use Rattle.pm_model_history.specs.Merge.{HistoryRow}
use Rattle.pm_merge.specs.Merge.{AreStored}
use Rattle.pm_lookup.specs.File.{SeenFile}
use Rattle.pm_lookup.specs.Lookup.{AreRunsWith, IsOldValue, IsStoredRow, all_files}
use Rattle.pm_compaction_log.specs.Log.{AreFilesWith}
use Rattle.pm_compaction_log.specs.Told.{HasStored}
use Rattle.pm_compaction_log.proofs.SoFarLemmas.{FindsStored}

-- `old_value_law.stored`
abbrev pub AnswersStored : Type 0
AnswersStored = (m : Meaning) (s : TableSchema) (runs : List (List SeenFile)) (rows : List Run) (key : Values) (old : Option Stored) → AreRunsWith s runs rows → AreStored m (reverse rows)
    → IsOldValue m s key (all_files runs) (Ok old) → IsStoredRow m key (stored_rows key (reverse rows)) old

has-stored : (m : Meaning) (key : Values) (rows : List HistoryRow) (old : Option Stored) → IsStoredRow m key rows old → HasStored m key old rows
has-stored m key rows None none = none
has-stored m key rows (Some v) is = is.0

pub finds-looked : AnswersStored → (m : Meaning) (s : TableSchema) (files : List SeenFile) (older : List Run) → m ≡ meaning_of s → AreFilesWith s files older → AreStored (meaning_of s) older
    → FindsStored s (λ key found. IsOldValue m s key files (Ok found)) older
finds-looked law m s files older same (runs, rows, are, with, is) stored key found finds =
    let own : AreStored (meaning_of s) (reverse rows) = subst (AreStored (meaning_of s)) is stored in
    let looked : IsOldValue (meaning_of s) s key (all_files runs) (Ok found) =
    subst (λ (n : Meaning). IsOldValue n s key (all_files runs) (Ok found)) same (subst (λ fs. IsOldValue m s key fs (Ok found)) are finds) in
    subst (λ (rs : List Run). HasStored (meaning_of s) key found (stored_rows key rs)) (sym is)
    (has-stored (meaning_of s) key (stored_rows key (reverse rows)) found (law (meaning_of s) s runs rows key found with own looked))
