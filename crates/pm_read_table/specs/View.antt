-- What a view says of a table at a snapshot.
use Rattle.std.specs.Prelude.{◌≡◌, List, [], ◌∷◌, Bool, not, ◌&&◌, if◌then◌else◌, Option, None, Some, IsSome}
use Rattle.std.specs.Prelude.{is_some}
use Rattle.std.specs.BTreeMap.{get_by, IsOrdered}
use Rattle.std.specs.List.{AllByRecursion, list_any}
use Rattle.pm_values.specs.GroupOrder.{group_cmp}
use Rattle.pm_values.specs.declared.group.Group.{Group}
use Rattle.pm_schema.specs.Folder.{FitsPartition}
use Rattle.pm_schema.specs.declared.schema.TableSchema.{TableSchema}
use Rattle.pm_snapshot.specs.declared.snapshot.Snapshot.{Snapshot}
use Rattle.pm_levels.specs.Runs.{RunView}
use Rattle.pm_manifest.specs.FileId.{id_eq}
use Rattle.pm_manifest.specs.Live.{Live, id_of}
use Rattle.pm_manifest.specs.declared.entry.Entry.{Entry}
use Rattle.pm_manifest.specs.declared.entry.ManifestMeta.{ManifestMeta}
use Rattle.pm_manifest.specs.declared.file_id.FileId.{FileId}
use Rattle.pm_model_contents.specs.Groups.{GroupRuns}
use Rattle.pm_read_table.specs.Asked.{SoughtView}
use Rattle.pm_read_table.specs.declared.asked.Wanted.{Wanted}
use Rattle.pm_read_table.specs.declared.asked.Wanted.TheVariants as wants
use Rattle.pm_read_table.specs.declared.view.View.{View}

-- the runs of a group in a view
abbrev pub runs_at : View → Group → Option (List RunView)
runs_at v g = get_by (group_cmp g) v.groups

-- each group of the view that has files is one of the table, whose folder has a path
abbrev pub HasFolders : View → Type 0
HasFolders v = (g : Group) → IsSome (runs_at v g) → FitsPartition v.schema g

-- the groups of the entries are groups of the table, whose folders have paths
abbrev pub HaveGroups : TableSchema → List Entry → Type 0
HaveGroups s entries = AllByRecursion (λ (e : Entry). FitsPartition s e.group) entries

-- one of the entries is of the file
abbrev pub has_entry : FileId → List Entry → Bool
has_entry id entries = list_any (λ (e : Entry). id_eq (id_of e) id) entries

-- the entries of the files that are live after the entries, in the order in which they come: each is an ADD after which
-- no other entry of its file comes
abbrev pub live_entries : List Entry → List Entry
live_entries [] = []
live_entries (e ∷ es) = if e.add && not (has_entry (id_of e) es) then e ∷ live_entries es else live_entries es

-- Private: it is known of each file whether one of the entries is of it
abbrev pub HaveIds : (FileId → Option Bool) → List Entry → Type 0
HaveIds known entries = (id : FileId) → is_some (known id) ≡ has_entry id entries

-- the entries that are kept for the view: all of them where their live ones are asked for, else none
abbrev pub kept_for : Wanted → List Entry → List Entry
kept_for wants.Entries entries = entries
kept_for (wants.Whole id) entries = entries
kept_for other entries = []

-- the view is of what is asked, and has the ids of the snapshots that were listed
pub record IsSoughtBy (q : SoughtView) (v : View) : Type 0 where
  pub wanted : v.wanted ≡ q.asked.wanted
  pub listed : v.listed.items ≡ q.listed

-- the view of a table at its origin: no group has files
pub record IsOriginView (s : TableSchema) (v : View) : Type 0 where
  pub id : v.id ≡ 0
  pub snapshot : v.snapshot ≡ None
  pub schema : v.schema ≡ s
  pub order : IsOrdered group_cmp v.groups
  pub groups : (g : Group) → runs_at v g ≡ None
  pub manifests : v.manifests.items ≡ []
  pub entries : v.live.items ≡ []

-- the view of a table at a snapshot with these manifests, after whose entries, of which these were kept, these files
-- are live
pub record IsViewOf (s : TableSchema) (x : Snapshot) (metas : List ManifestMeta) (kept : List Entry) (live : Live)
    (v : View) : Type 0 where
  pub id : v.id ≡ x.id
  pub snapshot : v.snapshot ≡ Some x
  pub schema : v.schema ≡ s
  pub order : IsOrdered group_cmp v.groups
  pub groups : (g : Group) → GroupRuns live g (runs_at v g)
  pub manifests : v.manifests.items ≡ metas
  pub entries : v.live.items ≡ live_entries kept
