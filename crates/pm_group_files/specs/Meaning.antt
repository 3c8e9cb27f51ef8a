-- What a reader of files knows of them, and what its steps mean.
use Rattle.std.specs.Prelude.{◌≡◌, ◌≢◌, ℕ, List, [], ◌∷◌, ◌++◌, map, reverse, Some}
use Rattle.std.specs.FinMap as paths
use Rattle.std.specs.BTreeMap.{IsOrdered}
use Rattle.std.specs.List.{AllByRecursion, AllZip}
use Rattle.pm_values.specs.GroupOrder.{group_cmp}
use Rattle.pm_values.specs.declared.refusal.Refusal.{Refusal}
use Rattle.pm_store.specs.Files.{Files}
use Rattle.pm_values.specs.declared.file_meta.FileMeta.{FileMeta}
use Rattle.pm_values.specs.declared.group.Group.{Group}
use Rattle.pm_schema.specs.declared.schema.TableSchema.{TableSchema}
use Rattle.pm_model_history.specs.History.{IsTableOf}
use Rattle.pm_levels.specs.Runs.{IsRun, files_of}
use Rattle.pm_model_contents.specs.Runs.{data_path}
use Rattle.pm_scan_rows.specs.Group.{GroupRead}
use Rattle.pm_runs.specs.Stand.{StoredRun}
use Rattle.pm_model_folder.specs.Commits.{Needs}
use Rattle.pm_model_folder.specs.Ledger.{IsKnown, Past, Stands}
use Rattle.pm_model_folder.specs.Stored.{HasRun}
use Rattle.pm_read_schema.specs.Beside.{IsTold}
use Rattle.pm_read_table.specs.Meaning.{HasGone, IsViewIn}
use Rattle.pm_read_table.specs.declared.view.View.{View}
use Rattle.pm_group_files.specs.Chosen.{Chosen}
use Rattle.pm_group_files.specs.Collected.{Collected, HaveTaken, nothing_of, with_groups}
use Rattle.pm_group_files.specs.Jobs.{Grouped, Wanted, all_wanted, wanted_jobs}
use Rattle.pm_group_files.specs.declared.job.Job.{Job}
use Rattle.pm_group_files.specs.declared.phase.Phase.{Phase}
use Rattle.pm_group_files.specs.declared.phase.Phase.TheVariants as phases

-- runs of a group, some: each has files, which have the rows of one stored run
pub record HasRuns (f : Files) (s : TableSchema) (e : Grouped) : Type 0 where
  pub some : e.1 ≢ []
  pub each : AllByRecursion IsRun e.1
  pub stored : List StoredRun
  pub read : AllZip (HasRun f s e.0) e.1 stored

-- they were there as the files stood at a snapshot, which needs their files and those that are kept
pub record StoodAt (p : Past) (s : TableSchema) (id : ℕ) (w : Wanted) : Type 0 where
  pub runs : HasRuns (p.stood id) s (w.group, w.runs)
  pub kept : AllByRecursion IsRun w.kept
  pub older : (stored : List StoredRun) × AllZip (HasRun (p.stood id) s w.group) w.kept stored
  pub needed : AllByRecursion (λ (job : Job). Needs (p.stood id) s id job.path) (wanted_jobs s w)

-- the view is that of the table at a snapshot
pub record IsTableView (p : Past) (v : View) : Type 0 where
  pub is_view : IsViewIn p v
  pub order : IsOrdered group_cmp v.groups
  pub table : IsTableOf v.schema p.history

-- what is asked for is of a snapshot of the table, and stood there
pub record IsChosen (p : Past) (a : Chosen) : Type 0 where
  pub table : IsTableOf a.schema p.history
  pub known : IsKnown p a.id
  pub each : AllByRecursion (StoodAt p a.schema a.id) a.groups

-- The files that are asked for are those that were read and those that are left; and what is collected, with what was
-- handed out, is what the first have, as they stood at the snapshot.
pub record HasTaken (p : Past) (a : Chosen) (c : Collected) (left : List Job) : Type 0 where
  pub chosen : IsChosen p a
  pub done : List Job
  pub parts : all_wanted a.schema a.groups ≡ done ++ left
  pub taken : HaveTaken (p.stood a.id) done (nothing_of a.schema) (with_groups a.given c)
  pub schema : c.schema ≡ a.schema

-- files of a group are there with these bytes
abbrev pub HaveBytes : Files → TableSchema → Group → List FileMeta → List (List ℕ) → Type 0
HaveBytes f s g ms kept =
    AllZip (λ (m : FileMeta) (bytes : List ℕ). paths.get f (data_path s g m.name) ≡ Some bytes) ms kept

-- What is wanted of a group was read: of its runs, the oldest first, each has the rows of its files; and the files that
-- are kept have these bytes, whatever they hold.
pub record IsReadAs (f : Files) (s : TableSchema) (w : Wanted) (x : GroupRead) : Type 0 where
  pub stored : List StoredRun
  pub read : AllZip (HasRun f s w.group) w.runs stored
  pub are : x.runs ≡ reverse (map (λ (r : StoredRun). r.rows) stored)
  pub kept : HaveBytes f s w.group (files_of w.kept) x.kept

-- where these files are left the first of the groups are whole, with these runs and files; all are where none is left
pub record AreReadAs (f : Files) (s : TableSchema) (groups : List Wanted) (left : List Job) (reads : List GroupRead)
    : Type 0 where
  pub whole : List Wanted
  pub later : List Wanted
  pub parts : groups ≡ whole ++ later
  pub read : AllZip (IsReadAs f s) whole reads
  pub ended : left ≡ [] → later ≡ []

-- What it knows in each phase where this was asked, whatever others do: that what it has collected is what stood at the
-- snapshot; and once a file that the snapshot names is absent, that the snapshot has gone.
abbrev pub Knows : Chosen → Phase → Files → Past → Type 0
Knows a (phases.Files r) f p = (r.id ≡ a.id) × HasTaken p a r.collected (r.next ∷ r.rest)
Knows a (phases.Again id path) f p = HasGone f p a.schema id
Knows a (phases.Ready c) f p = HasTaken p a c []
Knows a phases.Over f p = Unit {0}

-- ---- what is asked beside what the files stand for

-- What is asked, with what was handed out, stands beside the past in the place of a history, since phases don't hold it
-- to the end. It changes only where groups are handed out.
pub record PastOf : Type 0 where
  pub past : Past
  pub chosen : Chosen

abbrev pub StandsFor : Files → PastOf → Type 0
StandsFor f h = Stands f h.past

abbrev pub KnowsChosen : Phase → Files → PastOf → Type 0
KnowsChosen m f h = Knows h.chosen m f h.past

-- what a refusal tells, of the past alone
abbrev pub IsToldOf : Refusal → Files → PastOf → Type 0
IsToldOf refusal f h = IsTold refusal f h.past
