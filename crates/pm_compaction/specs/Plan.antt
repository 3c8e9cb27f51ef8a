-- What a planned compaction knows: what it took of each group at its base, and which files came of it.
use Rattle.std.specs.Prelude.{◌≡◌, ◌≢◌, ◌↔◌, ℕ, ◌+◌, ◌<◌, ◌≤◌, ◌^◌, Bool, true, List, [], ◌++◌, map, length}
use Rattle.std.specs.Prelude.{Option, Some, option_to_list}
use Rattle.std.specs.List.{AllByRecursion, flat_map}
use Rattle.pm_values.specs.Names.{Naming}
use Rattle.pm_values.specs.declared.group.Group.{Group}
use Rattle.pm_values.specs.declared.record.Change.{Change}
use Rattle.pm_schema.specs.declared.schema.TableSchema.{TableSchema}
use Rattle.pm_model_history.specs.History.{IsTableOf}
use Rattle.pm_engine.specs.OfSchema.{meaning_of}
use Rattle.pm_merge.specs.Merging.{runs_in}
use Rattle.pm_merge.specs.Source.{Rest}
use Rattle.pm_run.specs.declared.run.RunFile.{RunFile}
use Rattle.pm_model_changelog.specs.Log.{compaction_log}
use Rattle.pm_changelog.specs.GroupLog.{IsGroupLog}
use Rattle.pm_changelog.specs.Written.{IsWrittenLog}
use Rattle.pm_snapshot.specs.Names.{MayName}
use Rattle.pm_snapshot.specs.declared.snapshot.Snapshot.{Snapshot}
use Rattle.pm_manifest.specs.declared.entry.Entry as files
use Rattle.pm_model_contents.specs.Runs.{data_path}
use Rattle.pm_runs.specs.Stand.{top_of}
use Rattle.pm_runs.specs.Succession.{IsTaken, Taking, from_oldest}
use Rattle.pm_model_folder.specs.Changes.{Actor}
use Rattle.pm_model_folder.specs.Folder.{GroupsRise}
use Rattle.pm_model_folder.specs.Ledger.{IsKnown, Past}
use Rattle.pm_model_folder.specs.Meaning.{SnapshotAt}
use Rattle.pm_model_folder.specs.Runs.{view_of}
use Rattle.pm_put.specs.declared.putting.CommitFile.{CommitFile}
use Rattle.pm_compact.specs.Rewritten.{AreRewritten}
use Rattle.pm_choice.specs.Choice.{live_entry, run_entries}
use Rattle.pm_made.specs.declared.intent.Plan.{Plan}

-- ---- a group

-- a group that is compacted: what was taken of its runs, whether this goes to the highest level, and the files of the
-- run that it became, with names from the next on
pub record RewrittenGroup : Type 0 where
  pub group : Group
  pub taking : Taking
  pub whole : Bool
  pub names : Naming
  pub files : List RunFile

-- as an entry of a history names it
abbrev pub named_group : RewrittenGroup → Group × Bool
named_group x = (x.group, x.whole)

-- the entries of the files that go: those of its newest run first
abbrev pub goes_of : TableSchema → RewrittenGroup → List files.Entry
goes_of s x = run_entries s x.group (map view_of x.taking.taken)

-- the entries of the files that come
abbrev pub comes_of : TableSchema → RewrittenGroup → List files.Entry
comes_of s x = map (λ (f : RunFile). live_entry s x.group f.meta) x.files

-- a file that was made for a group, at its path
abbrev pub group_file : TableSchema → Group → RunFile → CommitFile
group_file s g f = record { path = data_path s g f.meta.name; bytes = f.bytes }

-- those of a group, as they were created
abbrev pub made_files : TableSchema → RewrittenGroup → List CommitFile
made_files s x = map (group_file s x.group) x.files

-- the actor makes these names, whose base is that of the compaction; there are enough for so many files
pub record NamesSoMany (me : Actor) (base count : ℕ) (names : Naming) : Type 0 where
  pub may : MayName names
  pub session : names.session ≡ me.session
  pub actor : names.actor ≡ me.number
  pub based : names.base ≡ base
  pub room : names.count + count < 2 ^ 64

-- What was taken of the group are the newest of its runs at the base. The files were made of their rows, with names of
-- the actor, and lack the droppable rows exactly where they are at the highest level.
pub record IsRewrittenAt (me : Actor) (s : TableSchema) (base : ℕ) (p : Past) (x : RewrittenGroup) : Type 0 where
  pub based : x.taking.base ≡ base
  pub took : IsTaken s p.since (λ n. p.runs n x.group) base x.taking
  pub whole : (x.whole ≡ true) ↔ (x.taking.out ≡ top_of s)
  pub rests : List Rest
  pub read : runs_in rests ≡ from_oldest x.taking.taken
  pub made : AreRewritten s (meaning_of s) x.whole x.taking.out x.names rests x.files
  pub names : NamesSoMany me base (length x.files) x.names

-- ---- what is told of it

-- what is told of a group that is compacted: its changelog file, with the next of these names, and none where nothing
-- is told
pub record ToldGroup : Type 0 where
  pub group : Group
  pub whole : Bool
  pub names : Naming
  pub file : Option RunFile

-- as an entry of a history names it
abbrev pub named_told : ToldGroup → Group × Bool
named_told y = (y.group, y.whole)

-- the entry of its changelog file
abbrev pub tells_of : TableSchema → ToldGroup → List files.Entry
tells_of s y = map (λ (f : RunFile). live_entry s y.group f.meta) (option_to_list y.file)

-- that file, as it was created
abbrev pub told_files : TableSchema → ToldGroup → List CommitFile
told_files s y = map (group_file s y.group) (option_to_list y.file)

-- The file was written of a log, with a name of the actor. The log tells what a compaction tells of the group, from all
-- of its runs at the base.
pub record IsToldAt (me : Actor) (s : TableSchema) (base : ℕ) (p : Past) (y : ToldGroup) : Type 0 where
  pub log : List Change
  pub tells : IsGroupLog s (compaction_log s y.whole (p.runs base y.group)) log
  pub written : IsWrittenLog s y.names log y.file
  pub names : NamesSoMany me base (length (option_to_list y.file)) y.names

-- ---- all of them

-- The plan of a compaction that an actor began at a base. The base is a known snapshot, from which on the groups' runs
-- are known. Of each group, these rising and some, the newest runs there were rewritten: their files go, those that
-- were made come, and what is told of each stands in its changelog file. All files that were made are the ones that
-- were created, data files first. Where it bears a count of appends, this is that of its base.
pub record KnowsPlan (me : Actor) (s : TableSchema) (base : ℕ) (plan : Plan) (given : List CommitFile) (p : Past)
    : Type 0 where
  pub table : IsTableOf s p.history
  pub known : IsKnown p base
  pub since : p.since ≤ base
  pub groups : List RewrittenGroup
  pub some : groups ≢ []
  pub each : AllByRecursion (IsRewrittenAt me s base p) groups
  pub named : plan.groups.items ≡ map named_group groups
  pub rise : GroupsRise plan.groups.items
  pub goes : plan.removed.items ≡ flat_map (goes_of s) groups
  pub comes : plan.added.items ≡ flat_map (comes_of s) groups
  pub told : List ToldGroup
  pub each_told : AllByRecursion (IsToldAt me s base p) told
  pub all_told : plan.groups.items ≡ map named_told told
  pub tells : plan.changes.items ≡ flat_map (tells_of s) told
  pub given_are : given ≡ flat_map (made_files s) groups ++ flat_map (told_files s) told
  pub full : (appends : ℕ) → plan.full ≡ Some appends
      → (x : Snapshot) × SnapshotAt (p.stood base) base x × (appends ≡ x.appends)
