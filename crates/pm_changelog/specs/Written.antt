-- The changelog file that a group's log becomes.
use Rattle.std.specs.Prelude.{◌≡◌, List, [], ◌∷◌, map, true, Option, Some, None}
use Rattle.std.specs.List.{AllByRecursion}
use Rattle.pm_values.specs.Names.{Naming, name_of}
use Rattle.pm_values.specs.declared.record.Change.{Change}
use Rattle.pm_values.specs.declared.record.Stamped.{Stamped}
use Rattle.pm_schema.specs.declared.schema.TableSchema.{TableSchema}
use Rattle.pm_model_history.specs.Merge.{HistoryRow}
use Rattle.pm_engine.specs.Covers.{row_of}
use Rattle.pm_run.specs.Rows.{HasRows}
use Rattle.pm_run.specs.Writing.{CountFrom, HasOwnKey, IsFileWith, IsMetaOf, changes_prefix, suffix}
use Rattle.pm_run.specs.declared.run.RunFile.{RunFile}
use Rattle.pm_changelog.specs.GroupLog.{stamped_from}

-- a changelog file of a log, which has the next name; rows that fit, with their own keys, are read of it
pub record IsFileOfLog (s : TableSchema) (names : Naming) (log : List Change) (f : RunFile) : Type 0 where
  pub made : IsFileWith s 0 names.session (name_of changes_prefix suffix names) (stamped_from 0 log) f
  pub again : AllByRecursion (HasOwnKey s) (stamped_from 0 log) → HasRows s true f.bytes (stamped_from 0 log)

-- what is written of a log: one file, or none where it tells nothing
abbrev pub IsWrittenLog : TableSchema → Naming → List Change → Option RunFile → Type 0
IsWrittenLog s names [] file = file ≡ None
IsWrittenLog s names (c ∷ log) None = ⊥
IsWrittenLog s names (c ∷ log) (Some f) = IsFileOfLog s names (c ∷ log) f

-- A changelog file has these rows, with numbers that count them from 0, and what is known of it tells of them.
pub record HoldsLog (s : TableSchema) (rows : List HistoryRow) (f : RunFile) : Type 0 where
  pub stored : List Stamped
  pub same : map row_of stored ≡ rows
  pub numbers : CountFrom 0 stored
  pub read : HasRows s true f.bytes stored
  pub tells : IsMetaOf s 0 f.meta.name stored f.bytes f.meta
