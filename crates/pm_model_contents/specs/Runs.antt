-- The live files of groups, as runs.
use Rattle.std.specs.Prelude.{◌≡◌, ◌↔◌, ℕ, List, ◌∷◌, ◌++◌, Contains, Some}
use Rattle.pm_values.specs.declared.file_meta.FileMeta.{FileMeta}
use Rattle.pm_values.specs.declared.group.Group.{Group}
use Rattle.pm_schema.specs.Folder.{folder_text}
use Rattle.pm_schema.specs.declared.schema.TableSchema.{TableSchema}
use Rattle.pm_levels.specs.Overlap.{AreDisjoint}
use Rattle.pm_levels.specs.Runs.{AreNamedApart, AreRuns, RunView}
use Rattle.pm_manifest.specs.Live.{Live, id_of}
use Rattle.pm_manifest.specs.declared.entry.Entry.{Entry}

-- the entry is that of a live file
abbrev pub IsLive : Live → Entry → Type 0
IsLive live e = live (id_of e) ≡ Some e

-- the live files of a group, each once, in whichever order
pub record AreFilesOf (live : Live) (g : Group) (files : List FileMeta) : Type 0 where
  pub exact : (m : FileMeta) → Contains files m ↔ ((e : Entry) × IsLive live e × (e.group ≡ g) × (e.file ≡ m))
  pub apart : AreNamedApart files

-- the runs of a group, newest first; in none above level 0 two files share a key
pub record AreRunsOf (live : Live) (g : Group) (runs : List RunView) : Type 0 where
  pub files : List FileMeta
  pub own : AreFilesOf live g files
  pub made : AreRuns files runs
  pub disjoint : AreDisjoint files

-- the path of a data file, or of a changelog file
abbrev pub data_path : TableSchema → Group → List ℕ → List ℕ
data_path s g name = folder_text s g ++ 47 ∷ name
