-- The live files of all groups, as runs, and which of them share keys.
use Rattle.std.specs.Prelude.{◌≡◌, ◌≢◌, List, [], ◌∷◌, ◌++◌, map, filter, Option, None, Some, Vec}
use Rattle.std.specs.Prelude.{if◌then◌else◌}
use Rattle.std.specs.BTreeMap.{is_at}
use Rattle.std.specs.List.{AllByRecursion}
use Rattle.std.specs.Option.{unwrap_or}
use Rattle.std.specs.declared.alloc.Global.{Global}
use Rattle.std.specs.declared.cmp.Ordering.TheVariants.{Less}
use Rattle.pm_values.specs.GroupOrder.{group_cmp}
use Rattle.pm_values.specs.declared.file_meta.FileMeta.{FileMeta}
use Rattle.pm_values.specs.declared.group.Group.{Group}
use Rattle.pm_values.specs.declared.refusal.Refusal.{Refusal}
use Rattle.pm_values.specs.declared.refusal.Refusal.TheVariants as refusals
use Rattle.pm_schema.specs.Folder.{FitsPartition}
use Rattle.pm_schema.specs.declared.schema.TableSchema.{TableSchema}
use Rattle.pm_levels.specs.Overlap.{AreDisjoint, IsFirstOverlap}
use Rattle.pm_levels.specs.Runs.{AreRuns, RunView}
use Rattle.pm_manifest.specs.Live.{Live, id_of}
use Rattle.pm_manifest.specs.declared.entry.Entry.{Entry}
use Rattle.pm_manifest.specs.declared.file_id.FileId.{FileId}
use Rattle.pm_model_contents.specs.Runs.{AreFilesOf, AreRunsOf, IsLive, data_path}

-- each file that is live has its own entry
abbrev pub AreNamed : Live → Type 0
AreNamed live = (id : FileId) (e : Entry) → live id ≡ Some e → id_of e ≡ id

-- the group of each live file is one of the table, whose folder has a path
abbrev pub HaveFolders : TableSchema → Live → Type 0
HaveFolders s live = (id : FileId) (e : Entry) → live id ≡ Some e → FitsPartition s e.group

-- the runs of a group, at least one, or none, where it has no live file
abbrev pub GroupRuns : Live → Group → Option (List RunView) → Type 0
GroupRuns live g (Some runs) = AreRunsOf live g runs × (runs ≢ [])
GroupRuns live g None = (e : Entry) → IsLive live e → e.group ≡ g → ⊥

-- Why live files are refused: memory ran out, or a file above level 0 shares keys with another one of its group and
-- level. Of several such files it is the first, by group, then level, then least key, then name.
abbrev pub Overlaps : TableSchema → Live → Refusal → Type 0
Overlaps s live refusals.Memory = Unit {0}
Overlaps s live (refusals.Damaged path place) =
    (place ≡ 0) × (g : Group) × (files : List FileMeta) × (file : FileMeta) × AreFilesOf live g files
    × IsFirstOverlap files file × (path ≡ data_path s g file.name)
    × ((below : Group) (others : List FileMeta) → group_cmp below g ≡ Less → AreFilesOf live below others
    → AreDisjoint others)
Overlaps s live other = ⊥

-- Private: the files of the entries of a group, in the order of the entries
abbrev pub files_in : Group → List Entry → List FileMeta
files_in g entries = map (λ (e : Entry). e.file) (filter (λ (e : Entry). is_at (group_cmp e.group) g) entries)

-- Private: what a map has at a group with these files: nothing where there are none
abbrev pub some_files : List FileMeta → Option (List FileMeta)
some_files [] = None
some_files (file ∷ files) = Some (file ∷ files)

-- Private: what a map has at a group, once the file of an entry was put to those of the entry's group
abbrev pub with_file : Group → Entry → Option (List FileMeta) → Option (List FileMeta)
with_file g e own = if is_at (group_cmp e.group) g then Some (unwrap_or own [] ++ e.file ∷ []) else own

-- Private: the groups of a map, and their files
abbrev pub grouped : List (Group × Vec FileMeta Global) → List (Group × List FileMeta)
grouped entries = map (λ e. (e.0, e.1.items)) entries

-- Private: what a group has as files and as runs, if it has any
abbrev pub HasRuns : Option (List FileMeta) → Option (List RunView) → Type 0
HasRuns (Some files) (Some runs) = AreRuns files runs × AreDisjoint files
HasRuns None None = Unit {0}
HasRuns files runs = ⊥

-- Private: why the files of a group are refused
abbrev pub RefusesFiles : TableSchema → Group → List FileMeta → Refusal → Type 0
RefusesFiles s g files refusals.Memory = Unit {0}
RefusesFiles s g files (refusals.Damaged path place) =
    (place ≡ 0) × (file : FileMeta) × IsFirstOverlap files file × (path ≡ data_path s g file.name)
RefusesFiles s g files other = ⊥

-- Private: the first group whose files are refused: those before it share no keys
pub record IsFirstRefused (s : TableSchema) (groups : List (Group × List FileMeta)) (refusal : Refusal) : Type 0 where
  pub done : List (Group × List FileMeta)
  pub group : Group
  pub files : List FileMeta
  pub later : List (Group × List FileMeta)
  pub joined : done ++ (group, files) ∷ later ≡ groups
  pub free : AllByRecursion (λ (e : Group × List FileMeta). AreDisjoint e.1) done
  pub refused : RefusesFiles s group files refusal

-- Private: why the files of groups are refused
abbrev pub RefusesGroups : TableSchema → List (Group × List FileMeta) → Refusal → Type 0
RefusesGroups s groups refusals.Memory = Unit {0}
RefusesGroups s groups refusal = IsFirstRefused s groups refusal
