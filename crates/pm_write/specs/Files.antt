-- The files that the groups of a batch become.
use Rattle.std.specs.Prelude.{◌≡◌, ℕ, ◌+◌, ◌≤◌, nat_lt, List, [], ◌∷◌, ◌++◌, length, map, codes, Bool, true, false}
use Rattle.std.specs.Prelude.{unwrap_or}
use Rattle.std.specs.BTreeMap.{BTreeMap, get_by}
use Rattle.std.specs.List.{AllByRecursion, AllZip, list_any}
use Rattle.pm_values.specs.GroupOrder.{group_cmp}
use Rattle.pm_values.specs.Names.{Naming, counted, name_of}
use Rattle.pm_values.specs.declared.group.Group.{Group}
use Rattle.pm_values.specs.declared.record.Change.{Change}
use Rattle.pm_values.specs.declared.refusal.Refusal.{Refusal}
use Rattle.pm_values.specs.declared.refusal.Refusal.TheVariants as refusals
use Rattle.pm_schema.specs.declared.schema.TableSchema.{TableSchema}
use Rattle.pm_model_history.specs.Merge.{HistoryRow}
use Rattle.pm_model_following.specs.Following.{by_key}
use Rattle.pm_model_following.specs.Groups.{rows_in}
use Rattle.pm_engine.specs.Covers.{Run}
use Rattle.pm_run.specs.declared.run.RunFile.{RunFile}
use Rattle.pm_run.specs.Row.{IsOfFile, most_sequence}
use Rattle.pm_run.specs.Rows.{HasRows}
use Rattle.pm_run.specs.Writing.{IsFileWith, IsMetaOf, data_prefix, suffix}
use Rattle.pm_changelog.specs.Written.{HoldsLog, IsFileOfLog}
use Rattle.pm_write.specs.Batch.{GroupRows, Groups, logs_in, numbered}
use Rattle.pm_write.specs.declared.files.NewFile.{NewFile}

-- the number from which a group's next rows are counted
abbrev pub next_of : BTreeMap Group ℕ → Group → ℕ
next_of next g = unwrap_or (get_by (group_cmp g) next) 0

-- a file of a run at level 0, which has the next name; rows that data files can have are read of it
pub record IsFileOfRun (s : TableSchema) (names : Naming) (rows : Run) (f : RunFile) : Type 0 where
  pub made : IsFileWith s 0 names.session (name_of data_prefix suffix names) rows f
  pub again : AllByRecursion (IsOfFile s false) rows → HasRows s false f.bytes rows

-- a new file of a group, which is that of its run, and no changelog
pub record IsNewFile (s : TableSchema) (names : Naming) (g : Group) (rows : Run) (x : NewFile) : Type 0 where
  pub own : x.group ≡ g
  pub no_changelog : x.changelog ≡ false
  pub file : IsFileOfRun s names rows (record { meta = x.meta; bytes = x.bytes })

-- the files of groups with their runs: one for each in their order, each with the next name
abbrev pub AreFilesOfRuns : TableSchema → Naming → List (Group × Run) → List NewFile → Type 0
AreFilesOfRuns s names [] [] = Unit {0}
AreFilesOfRuns s names (p ∷ runs) (x ∷ files) =
    IsNewFile s names p.0 p.1 x × AreFilesOfRuns s (counted names) runs files
AreFilesOfRuns s names runs files = ⊥

-- a group with its run, counted from the group's next number
abbrev pub next_run : BTreeMap Group ℕ → Group × GroupRows → Group × Run
next_run next e = (e.0, numbered (next_of next e.0) e.1.run)

-- a new changelog file of a group, which is that of its log
pub record IsNewChanges (s : TableSchema) (names : Naming) (g : Group) (log : List Change) (x : NewFile) : Type 0 where
  pub own : x.group ≡ g
  pub changelog : x.changelog ≡ true
  pub file : IsFileOfLog s names log (record { meta = x.meta; bytes = x.bytes })

-- the changelog files of groups with their logs: one for each in their order, each with the next name
abbrev pub AreFilesOfLogs : TableSchema → Naming → List (Group × List Change) → List NewFile → Type 0
AreFilesOfLogs s names [] [] = Unit {0}
AreFilesOfLogs s names (p ∷ logs) (x ∷ files) =
    IsNewChanges s names p.0 p.1 x × AreFilesOfLogs s (counted names) logs files
AreFilesOfLogs s names logs files = ⊥

-- the names after so many
abbrev pub after_names : ℕ → Naming → Naming
after_names n names = record names { count = names.count + n }

-- The files of a batch whose rows are counted from the groups' next numbers: a data file of each group, and behind them
-- a changelog file of each group whose log tells something.
pub record AreNewFiles (s : TableSchema) (next : BTreeMap Group ℕ) (names : Naming) (batch : Groups)
    (files : List NewFile) : Type 0 where
  pub data_files : List NewFile
  pub changes : List NewFile
  pub both : files ≡ data_files ++ changes
  pub runs : AreFilesOfRuns s names (map (next_run next) batch) data_files
  pub logs : AreFilesOfLogs s (after_names (length data_files) names) (logs_in batch) changes

-- a group's rows, counted from its next number, need a number above the greatest
abbrev pub exceeds_at : BTreeMap Group ℕ → Group × GroupRows → Bool
exceeds_at next e = nat_lt (most_sequence + 1) (next_of next e.0 + e.1.count)

-- those of some group do
abbrev pub exceeds : BTreeMap Group ℕ → Groups → Bool
exceeds next batch = list_any (exceeds_at next) batch

-- the refusal of rows that need such a number
abbrev pub no_sequence : Refusal
no_sequence = refusals.Limit (codes "sequence") most_sequence

-- why no files were made: out of memory, or numbers that exceed the greatest
abbrev pub RefusesFiles : BTreeMap Group ℕ → Groups → Refusal → Type 0
RefusesFiles next batch refusals.Memory = Unit {0}
RefusesFiles next batch e = (e ≡ no_sequence) × (exceeds next batch ≡ true)

-- A file of a group's rows that are counted from n: it is read as these rows, and tells of them. Its numbers are those
-- from n on, and the greatest is that of the group's last row.
pub record IsWritten (s : TableSchema) (n : ℕ) (x : GroupRows) (file : NewFile) : Type 0 where
  pub read : HasRows s false file.bytes (numbered n x.run)
  pub tells : IsMetaOf s 0 file.meta.name (numbered n x.run) file.bytes file.meta
  pub least : n ≤ file.meta.min_seq
  pub greatest : file.meta.max_seq + 1 ≡ n + x.count

-- so are the data files of all groups of a batch, whose rows are counted from the groups' next numbers
abbrev pub AreWritten : TableSchema → BTreeMap Group ℕ → Groups → List NewFile → Type 0
AreWritten s next batch files =
    AllZip (λ (e : Group × GroupRows) (x : NewFile). IsWritten s (next_of next e.0) e.1 x) batch files

-- a changelog file of a group of rows, which a table that passes its input on took: it holds them by key
pub record IsLogWritten (s : TableSchema) (rows : List HistoryRow) (g : Group) (x : NewFile) : Type 0 where
  pub own : x.group ≡ g
  pub changelog : x.changelog ≡ true
  pub holds : HoldsLog s (by_key s (rows_in s g rows)) (record { meta = x.meta; bytes = x.bytes })

-- such are the changelog files of all groups of a batch whose log tells something
abbrev pub AreLogsWritten : TableSchema → List HistoryRow → Groups → List NewFile → Type 0
AreLogsWritten s rows batch files =
    AllZip (λ (p : Group × List Change) (x : NewFile). IsLogWritten s rows p.0 x) (logs_in batch) files
