-- What is known of a compaction's plan as it grows, whatever others do: all is said of the snapshot at its base, which
-- never changes, and of the runs there.
use Rattle.std.specs.Prelude.{◌≡◌, ◌≢◌, ◌↔◌, ℕ, ◌≤◌, List, [], ◌∷◌, ◌++◌, drop, map, take, true, Some}
use Rattle.std.specs.List.{AllByRecursion, AllZip, flat_map}
use Rattle.std.specs.List.Sorted.{IsStrictlySortedBy}
use Rattle.pm_values.specs.GroupOrder.{group_cmp}
use Rattle.pm_values.specs.Names.{based}
use Rattle.pm_values.specs.declared.group.Group.{Group}
use Rattle.pm_values.specs.declared.record.Change.{Change}
use Rattle.pm_options.specs.declared.kinds.Producer.TheVariants as producers
use Rattle.pm_schema.specs.declared.schema.TableSchema.{TableSchema}
use Rattle.pm_model_history.specs.History.{IsTableOf}
use Rattle.pm_snapshot.specs.declared.snapshot.Snapshot.{Snapshot}
use Rattle.pm_engine.specs.OfSchema.{meaning_of}
use Rattle.pm_merge.specs.Merge.{AreStored}
use Rattle.pm_runs.specs.Stand.{top_of}
use Rattle.pm_runs.specs.Succession.{IsTaken, KnownRun, Taking, from_oldest}
use Rattle.pm_model_folder.specs.Changes.{Actor}
use Rattle.pm_model_folder.specs.Folder.{GroupsRise}
use Rattle.pm_model_folder.specs.Ledger.{IsKnown, Past}
use Rattle.pm_model_folder.specs.Meaning.{SnapshotAt}
use Rattle.pm_model_folder.specs.Runs.{view_of}
use Rattle.pm_choice.specs.Choice.{group_of, named_groups, removed_entries, taken_runs, IsChosen}
use Rattle.pm_choice.specs.Question.{rule_of}
use Rattle.pm_choice.specs.declared.choice.ChosenGroup.{ChosenGroup}
use Rattle.pm_made.specs.declared.newest.Newest.{Newest}
use Rattle.pm_changelog.specs.GroupLog.{IsGroupLog}
use Rattle.pm_scan_rows.specs.Group.{GroupRead}
use Rattle.pm_model_changelog.specs.Log.{compaction_log}
use Rattle.pm_compaction_log.specs.Log.{AreFilesWith}
use Rattle.pm_group_log.specs.Told.{looked_files}
use Rattle.pm_compaction.specs.Plan.{IsRewrittenAt, NamesSoMany, RewrittenGroup, comes_of, goes_of}
use Rattle.pm_compaction.specs.Plan.{made_files, named_group}
use Rattle.pm_plan.specs.declared.planned.Asking.{Asking}
use Rattle.pm_plan.specs.declared.planned.Planned.{Planned}

-- runs of a group as they are known, at levels up to the highest, each of stored rows of the table
pub record AreStoredRuns (s : TableSchema) (runs : List KnownRun) : Type 0 where
  pub within : AllByRecursion (λ (run : KnownRun). run.level ≤ top_of s) runs
  pub stored : AreStored (meaning_of s) (from_oldest runs)

-- of a group at the base those runs go that were chosen of all of its runs, to that level
pub record IsTakenAt (s : TableSchema) (base : ℕ) (p : Past) (c : ChosenGroup) (t : Taking) : Type 0 where
  pub chosen : IsChosen (rule_of s) c
  pub levels : c.levels ≡ map view_of (p.runs base c.group)
  pub runs : AreStoredRuns s (p.runs base c.group)
  pub based : t.base ≡ base
  pub took : IsTaken s p.since (λ n. p.runs n c.group) base t
  pub out : t.out ≡ c.out
  pub first : t.taken ≡ take c.take (p.runs base c.group)
  pub others : t.rest ≡ drop c.take (p.runs base c.group)
  pub seen : map view_of t.taken ≡ taken_runs c
  pub whole : (c.whole ≡ true) ↔ (t.out ≡ top_of s)

-- of each of the groups
abbrev pub AreTakenAt : TableSchema → ℕ → Past → List ChosenGroup → List Taking → Type 0
AreTakenAt s base p left takings = AllZip (IsTakenAt s base p) left takings

-- what a compaction tells of a group that was made stands in its log
pub record IsLoggedAt (s : TableSchema) (base : ℕ) (p : Past) (z : RewrittenGroup) (told : Group × List Change) : Type 0
  where
    pub group : told.0 ≡ z.group
    pub tells : IsGroupLog s (compaction_log s z.whole (p.runs base z.group)) told.1

-- What is known of a plan of an actor, of which these groups were made, and this is taken of each that is left. It is
-- of the table at its base; the files that go are those of all groups, and what came are the files of the groups that
-- were made, of each of which there is a log. Where it bears a count of appends, this is that of its base. Once no
-- group is left, this is what a compaction has to know of its plan.
pub record KnowsPlanned (me : Actor) (p : Past) (x : Planned) (done : List RewrittenGroup) (takings : List Taking)
    : Type 0 where
  pub table : IsTableOf x.schema p.history
  pub known : IsKnown p x.newest.id
  pub since : p.since ≤ x.newest.id
  pub author : x.author.base ≡ x.newest.id
  pub names : NamesSoMany me x.newest.id 0 x.names
  pub made : AllByRecursion (IsRewrittenAt me x.schema x.newest.id p) done
  pub left : AreTakenAt x.schema x.newest.id p x.left.items takings
  pub some : x.groups.items ≢ []
  pub named : x.groups.items ≡ map named_group done ++ named_groups x.left.items
  pub rise : GroupsRise x.groups.items
  pub goes : x.removed.items ≡ flat_map (goes_of x.schema) done ++ removed_entries x.schema x.left.items
  pub comes : x.added.items ≡ flat_map (comes_of x.schema) done
  pub logs : AllZip (IsLoggedAt x.schema x.newest.id p) done x.logs.items
  pub untold : x.changes.items ≡ []
  pub files : x.files.items ≡ flat_map (made_files x.schema) done
  pub full : (appends : ℕ) → x.full ≡ Some appends
      → (y : Snapshot) × SnapshotAt (p.stood x.newest.id) x.newest.id y × (appends ≡ y.appends)

-- What was read of a group of which this is taken: the rows of its runs that go, and with look-ups files that have the
-- rows of those that stay.
pub record IsReadFor (s : TableSchema) (c : ChosenGroup) (t : Taking) (x : GroupRead) : Type 0 where
  pub runs : x.runs ≡ from_oldest t.taken
  pub kept : s.options.producer ≡ producers.Lookup → AreFilesWith s (looked_files s c x) (from_oldest t.rest)

-- of the first of these groups
abbrev pub FirstReadFor : TableSchema → List ChosenGroup → Taking → GroupRead → Type 0
FirstReadFor s [] t x = ⊥
FirstReadFor s (c ∷ left) t x = IsReadFor s c t x

-- ---- as it begins

-- these groups were chosen of the runs that they had at the base
abbrev pub AreChosenAt : ℕ → Past → List ChosenGroup → Type 0
AreChosenAt base p chosen =
    AllByRecursion (λ (c : ChosenGroup). c.levels ≡ map view_of (p.runs base c.group)) chosen

-- An actor may begin with these groups of a view: this is one of the table at a known snapshot, from which on runs are
-- known; the groups rise, some, each chosen of the runs there, which are of stored rows; and the names are the actor's.
pub record MayBegin (me : Actor) (p : Past) (asking : Asking) (s : TableSchema) (newest : Newest)
    (chosen : List ChosenGroup) : Type 0 where
  pub table : IsTableOf s p.history
  pub known : IsKnown p newest.id
  pub since : p.since ≤ newest.id
  pub snapshot : (y : Snapshot) × (newest.snapshot ≡ Some y) × SnapshotAt (p.stood newest.id) newest.id y
  pub names : NamesSoMany me newest.id 0 (based newest.id asking.names)
  pub some : chosen ≢ []
  pub rise : IsStrictlySortedBy group_cmp (map group_of chosen)
  pub each : AllByRecursion (IsChosen (rule_of s)) chosen
  pub levels : AreChosenAt newest.id p chosen
  pub stored : AllByRecursion (λ (c : ChosenGroup). AreStoredRuns s (p.runs newest.id c.group)) chosen
