-- The runs that a group has at a snapshot, as its files have them.
use Rattle.std.specs.Prelude.{◌≡◌, ℕ, zero, suc, List, [], map, Contains}
use Rattle.std.specs.List.{AllByRecursion}
use Rattle.pm_store.specs.Files.{Files}
use Rattle.pm_values.specs.declared.file_meta.FileMeta.{FileMeta}
use Rattle.pm_values.specs.declared.group.Group.{Group}
use Rattle.pm_schema.specs.declared.schema.TableSchema.{TableSchema}
use Rattle.pm_snapshot.specs.declared.snapshot.Snapshot.{Snapshot}
use Rattle.pm_levels.specs.Runs.{RunView}
use Rattle.pm_manifest.specs.Live.{Live}
use Rattle.pm_manifest.specs.declared.entry.Entry as files
use Rattle.pm_model_contents.specs.Named.{Contents}
use Rattle.pm_model_contents.specs.Runs.{AreRunsOf, IsLive}
use Rattle.pm_model_folder.specs.Commits.{HasCommit, live_in}
use Rattle.pm_model_folder.specs.Stored.{HasRun}
use Rattle.pm_runs.specs.Succession.{KnownRun, without_files}

-- a group's runs at a snapshot, newest first; at the origin there are none
abbrev pub AreRunsAt : Files → TableSchema → ℕ → Group → List RunView → Type 0
AreRunsAt f s zero g runs = runs ≡ []
AreRunsAt f s (suc id) g runs =
    (x : Snapshot) × (c : Contents) × HasCommit f s (suc id) x c × AreRunsOf (live_in c) g runs

-- the level and the files of a run that is known
abbrev pub view_of : KnownRun → RunView
view_of run = record { level = run.level; files = run.files }

-- the runs are those that the group's files have at a snapshot, with the rows that these hold
pub record AreInFiles (f : Files) (s : TableSchema) (id : ℕ) (g : Group) (runs : List KnownRun) : Type 0 where
  pub are : AreRunsAt f s id g (map view_of runs)
  pub hold : AllByRecursion (λ (run : KnownRun). HasRun f s g (view_of run) (without_files run)) runs

-- of each run one file at least is live, by its group, its name and its level
abbrev pub HaveLiveFiles : Live → Group → List KnownRun → Type 0
HaveLiveFiles live g taken = (run : KnownRun) → Contains taken run
    → (a : FileMeta) × (e : files.Entry) × Contains run.files a × IsLive live e × (e.group ≡ g)
    × (e.file.name ≡ a.name) × (e.file.level ≡ a.level)
