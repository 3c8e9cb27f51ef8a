-- What a compaction has planned, and what it has made so far.
use Rattle.std.specs.Prelude.{◌≡◌, ℕ, ◌+◌, ◌-◌, ◌≤◌, ◌^◌, pos, List, [], ◌∷◌, ◌++◌, length, map}
use Rattle.std.specs.Prelude.{Option, option_to_list}
use Rattle.std.specs.List.{AllByRecursion, FoldsTo}
use Rattle.pm_values.specs.Names.{Naming, based}
use Rattle.pm_values.specs.declared.group.Group.{Group}
use Rattle.pm_values.specs.declared.record.Change.{Change}
use Rattle.pm_values.specs.declared.refusal.Refusal.{Refusal}
use Rattle.pm_schema.specs.Folder.{FitsPartition}
use Rattle.pm_schema.specs.declared.schema.TableSchema.{TableSchema}
use Rattle.pm_engine.specs.OfSchema.{meaning_of}
use Rattle.pm_engines.specs.TableEngine.{HasEngine}
use Rattle.pm_merge.specs.Merging.{rests_of}
use Rattle.pm_run.specs.declared.run.RunFile.{RunFile}
use Rattle.pm_scan_rows.specs.Group.{GroupRead}
use Rattle.pm_compact.specs.Rewritten.{AreRewritten}
use Rattle.pm_changelog.specs.Written.{IsWrittenLog}
use Rattle.pm_made.specs.declared.intent.Plan.{Plan}
use Rattle.pm_made.specs.declared.newest.Author.{Author}
use Rattle.pm_made.specs.declared.newest.Newest.{Newest}
use Rattle.pm_choice.specs.Choice.{live_entry, named_groups, removed_entries}
use Rattle.pm_choice.specs.Question.{full_appends, question}
use Rattle.pm_choice.specs.declared.choice.ChosenGroup.{ChosenGroup}
use Rattle.pm_compaction.specs.Plan.{group_file}
use Rattle.pm_group_log.specs.Told.{IsToldOf, RefusesTelling}
use Rattle.pm_plan.specs.declared.planned.Asking.{Asking}
use Rattle.pm_plan.specs.declared.planned.Planned.{Planned}
use Rattle.pm_plan.specs.declared.planned.PlannedCommit.{PlannedCommit}

-- ---- its beginning

-- who commits what was asked for, with a view as its base; it has the greatest identifier, as no user counts it
abbrev pub author_of : Asking → ℕ → Author
author_of asking base =
    record { user = asking.user; identifier = pos (2 ^ 63 - 1); base = base; time = asking.now_millis }

-- The plan of these groups of a view, before a file is read: it bears who asked and what the view has, which is its
-- base, all files of the runs that go, and nothing that was made. Where all runs are asked for, by the word or by the
-- table's options, it bears the appends of the view.
pub record IsPlanOf (asking : Asking) (s : TableSchema) (newest : Newest) (chosen : List ChosenGroup) (p : Planned)
    : Type 0 where
  pub author_is : p.author ≡ author_of asking newest.id
  pub names_are : p.names ≡ based newest.id asking.names
  pub schema_is : p.schema ≡ s
  pub newest_is : p.newest ≡ newest
  pub full : p.full ≡ full_appends (question asking.full s newest.snapshot) newest.snapshot
  pub groups : p.groups.items ≡ named_groups chosen
  pub removed : p.removed.items ≡ removed_entries s chosen
  pub left : p.left.items ≡ chosen
  pub added : p.added.items ≡ []
  pub logs : p.logs.items ≡ []
  pub changes : p.changes.items ≡ []
  pub files : p.files.items ≡ []

-- ---- what is made of a group

-- the names once files were made, one each
abbrev pub names_after : List RunFile → Naming → Naming
names_after made names = record names { count = names.count + length made }

abbrev pub named_by : List RunFile → Planned → Planned
named_by made p = record p { names = names_after made p.names }

-- these files of a group were put to the others, each with its entry, and nothing else changed
pub record AddsFiles (old : Planned) (g : Group) (made : List RunFile) (new : Planned) : Type 0 where
  pub added : new.added.items ≡ old.added.items ++ map (λ (x : RunFile). live_entry old.schema g x.meta) made
  pub files : new.files.items ≡ old.files.items ++ map (group_file old.schema g) made
  pub same : new ≡ record old { added = new.added; files = new.files }

-- The first group that is left, of which this was read, became files at its level, from its runs that go, the oldest
-- first: with the next names, and without the droppable rows where all of its runs go. And it has a log, which is put
-- to the others. Nothing else changed.
pub record HasRewritten (old : Planned) (c : ChosenGroup) (x : GroupRead) (new : Planned) : Type 0 where
  pub made : List RunFile
  pub are : AreRewritten old.schema (meaning_of old.schema) c.whole c.out old.names (rests_of x.runs) made
  pub first : old.left.items ≡ c ∷ new.left.items
  pub log : List Change
  pub tells : IsToldOf old.schema c x log
  pub logs : new.logs.items ≡ old.logs.items ++ (c.group, log) ∷ []
  pub put : AddsFiles (record (named_by made old) { left = new.left; logs = new.logs }) c.group made new

-- Private: what is told of a group, of which this was read, stands behind the other logs, and nothing else changed
pub record LogsGroup (old : Planned) (c : ChosenGroup) (x : GroupRead) (new : Planned) : Type 0 where
  pub log : List Change
  pub tells : IsToldOf old.schema c x log
  pub logs : new.logs.items ≡ old.logs.items ++ (c.group, log) ∷ []
  pub same : new ≡ record old { logs = new.logs }

-- the first group that is left, of which there are some, became files
abbrev pub RewritesOf : List ChosenGroup → Planned → GroupRead → Planned → Type 0
RewritesOf [] old x new = ⊥
RewritesOf (c ∷ left) old x new = HasRewritten old c x new

abbrev pub RewritesFirst : Planned → GroupRead → Planned → Type 0
RewritesFirst old x new = RewritesOf old.left.items old x new

-- the first groups that are left became files, one after another; this was read of them
abbrev pub AllRewritten : Planned → List GroupRead → Planned → Type 0
AllRewritten old groups new = FoldsTo RewritesFirst old groups new

-- nothing can be told of the first group that is left, of which this was read
abbrev pub RefusesOf : List ChosenGroup → TableSchema → GroupRead → Refusal → Type 0
RefusesOf [] s x refusal = ⊥
RefusesOf (c ∷ left) s x refusal = RefusesTelling s c x refusal

abbrev pub RefusesFirst : Planned → GroupRead → Refusal → Type 0
RefusesFirst p x refusal = RefusesOf p.left.items p.schema x refusal

-- as many names were given at most as files were made, beside those before, and memory has no room for so many
pub record HasRoom (p : Planned) : Type 0 where
  pub named : p.names.count ≤ 2 ^ 60 + length p.files.items
  pub few : length p.files.items ≤ 2 ^ 32

-- the groups before one became files, within the room that there is, and nothing can be told of that one
pub record RefusesSome (p : Planned) (groups : List GroupRead) (refusal : Refusal) : Type 0 where
  pub before : List GroupRead
  pub first : GroupRead
  pub after : List GroupRead
  pub parts : groups ≡ before ++ first ∷ after
  pub made : Planned
  pub rewritten : AllRewritten p before made
  pub room : HasRoom made
  pub refuses : RefusesFirst made first refusal

-- ---- what is told

-- What is told of a group was written: a changelog file with the next name, or none where nothing is told. It stands
-- behind the others, with its entry, and nothing else changed.
pub record TellsGroup (old : Planned) (told : Group × List Change) (new : Planned) : Type 0 where
  pub file : Option RunFile
  pub written : IsWrittenLog old.schema old.names told.1 file
  pub changes : new.changes.items
      ≡ old.changes.items ++ map (λ (x : RunFile). live_entry old.schema told.0 x.meta) (option_to_list file)
  pub files : new.files.items ≡ old.files.items ++ map (group_file old.schema told.0) (option_to_list file)
  pub same : new ≡ record (named_by (option_to_list file) old) { changes = new.changes; files = new.files }

-- that of all groups was, one after another, and no log is there any more
pub record HasTold (old : Planned) (new : Planned) : Type 0 where
  pub none : new.logs.items ≡ []
  pub told : FoldsTo TellsGroup (record old { logs = new.logs }) old.logs.items new

-- ---- what holds of a plan all along

-- the groups are groups of the table, whose folders have paths
abbrev pub FitChosen : TableSchema → List ChosenGroup → Type 0
FitChosen s chosen = AllByRecursion (λ (c : ChosenGroup). FitsPartition s c.group) chosen

-- the groups of which something may be told, too
abbrev pub FitTold : TableSchema → List (Group × List Change) → Type 0
FitTold s logs = AllByRecursion (λ (told : Group × List Change). FitsPartition s told.0) logs

-- Files can be made of the groups that are left, and of what is told of the others: the table has an engine, their
-- folders have paths, and names are left.
pub record CanMake (p : Planned) : Type 0 where
  pub engine : HasEngine p.schema
  pub fit : FitChosen p.schema p.left.items
  pub fit_logs : FitTold p.schema p.logs.items
  pub room : HasRoom p

-- ---- its end

-- what the commit is for
pub record IsPlanFor (p : Planned) (plan : Plan) : Type 0 where
  pub groups : plan.groups ≡ p.groups
  pub removed : plan.removed ≡ p.removed
  pub added : plan.added ≡ p.added
  pub changes : plan.changes ≡ p.changes
  pub full : plan.full ≡ p.full

pub record IsCommitOf (p : Planned) (c : PlannedCommit) : Type 0 where
  pub author_is : c.author ≡ p.author
  pub names_are : c.names ≡ p.names
  pub schema_is : c.schema ≡ p.schema
  pub newest_is : c.newest ≡ p.newest
  pub plan_is : IsPlanFor p c.plan
  pub files_are : c.files ≡ p.files
