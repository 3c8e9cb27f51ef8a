-- What a folder stands for, sentence by sentence. Ids are those that may stand in a name.
use Rattle.std.specs.Prelude.{◌≡◌, ◌≢◌, ◌↔◌, ◌⊎◌, ℕ, suc, ◌<◌, ◌≤◌, Bool, true, false, Some, None, IsSome}
use Rattle.std.specs.Prelude.{ℤ, pos, int_lt, List, [], Contains, length, slice_get, take, map as each_of}
use Rattle.std.specs.FinMap as map
use Rattle.std.specs.List.{AllByRecursion, flat_map}
use Rattle.std.specs.List.Sorted.{IsStrictlySortedBy}
use Rattle.pm_store.specs.Files.{Files, name_in}
use Rattle.pm_values.specs.Fits.{Fits}
use Rattle.pm_values.specs.GroupOrder.{group_cmp}
use Rattle.pm_values.specs.declared.group.Group.{Group}
use Rattle.pm_model_history.specs.History.{Entry, History, append, compaction, fence, no_table, table, entry_rows}
use Rattle.pm_model_history.specs.Merge.{HistoryRow}
use Rattle.pm_model_history.specs.Taken.{verdict}
use Rattle.pm_model_history.specs.declared.verdict.Verdict.TheVariants.{Take}
use Rattle.pm_model_following.specs.Following.{HaveBases}
use Rattle.pm_schema.specs.declared.schema.TableSchema.{TableSchema}
use Rattle.pm_snapshot.specs.Names.{floor_name, greatest, snapshot_name}
use Rattle.pm_snapshot.specs.declared.consumer.Consumer.{Consumer}
use Rattle.pm_model_folder.specs.Commits.{BeginsOn, FollowsOn, IsCommitted, NeverReturn}
use Rattle.pm_model_folder.specs.Entries.{fence_at}
use Rattle.pm_model_folder.specs.Meaning.{SchemaAt, ConsumerAt, HasSnapshotAt}
use Rattle.pm_model_folder.specs.Paths.{schema_folder, schema_name, schema_path, snapshot_folder, snapshot_path}
use Rattle.pm_model_folder.specs.Paths.{changelog_path, consumer_file, consumer_folder, consumer_path, floor_folder}
use Rattle.pm_model_folder.specs.Paths.{floor_path, tag_path}

-- ---- what a listing has

-- Only the file itself leads to the name of a schema, of a snapshot, of a floor or of a consumer: nothing else stands
-- in its place, as a folder would.
pub record HaveFiles (f : Files) : Type 0 where
  pub schemas : (id : ℕ) (path : List ℕ) → id ≤ greatest → IsSome (map.get f path)
      → name_in schema_folder path ≡ Some (schema_name id) → path ≡ schema_path id
  pub snapshots : (id : ℕ) (path : List ℕ) → id ≤ greatest → IsSome (map.get f path)
      → name_in snapshot_folder path ≡ Some (snapshot_name id) → path ≡ snapshot_path id
  pub floors : (n : ℕ) (path : List ℕ) → n ≤ greatest → IsSome (map.get f path)
      → name_in floor_folder path ≡ Some (floor_name n) → path ≡ floor_path n
  pub consumers : (name path : List ℕ) → IsSome (map.get f path)
      → name_in consumer_folder path ≡ Some (consumer_file name) → path ≡ consumer_path name

-- ---- no table

-- nothing of a table is there: no schema, no snapshot, no consumer, no tag and no changelog; an origin may be, which a
-- stopped command left
pub record HasNoTable (f : Files) : Type 0 where
  pub names : HaveFiles f
  pub schemas : (id : ℕ) → id ≤ greatest → map.get f (schema_path id) ≡ None
  pub snapshots : (id : ℕ) → id ≤ greatest → map.get f (snapshot_path id) ≡ None
  pub consumers : (name : List ℕ) → map.get f (consumer_path name) ≡ None
  pub tags : (name : List ℕ) → map.get f (tag_path name) ≡ None
  pub changelogs : (id : ℕ) → id ≤ greatest → map.get f (changelog_path id) ≡ None

-- ---- a table, with its schema and its entries

-- the table's schema is there with the id 0, and no other; the origin that it names has the name of no snapshot
pub record HasSchema (f : Files) (s : TableSchema) : Type 0 where
  pub first : SchemaAt f 0 s
  pub only : (id : ℕ) → id ≢ 0 → id ≤ greatest → map.get f (schema_path id) ≡ None
  pub origin : (id : ℕ) → id ≤ greatest → s.origin ≢ Some (snapshot_name id)

-- a row that an entry may have: it fits the table, and the table's engine takes its kind
pub record IsRowOf (s : TableSchema) (r : HistoryRow) : Type 0 where
  pub fits : Fits s.columns r.1
  pub taken : verdict s r.0 ≡ Take

-- the groups that a compaction names rise, so none stands twice
abbrev pub GroupsRise : List (Group × Bool) → Type 0
GroupsRise groups = IsStrictlySortedBy group_cmp (each_of (λ (p : Group × Bool). p.0) groups)

-- what an entry names of groups, where it is a compaction: some, and they rise
abbrev pub NamesGroups : Entry → Type 0
NamesGroups (append user identifier rows) = Unit {0}
NamesGroups (compaction base groups) = (groups ≢ []) × GroupsRise groups
NamesGroups (fence number) = Unit {0}

-- An entry that may come after these: its rows are rows of the table; or its base is the snapshot of one of them, above
-- their fence, and it names groups, which rise; or the fence that it raises is above theirs and below its own number.
abbrev pub IsEntryAfter : TableSchema → List Entry → Entry → Type 0
IsEntryAfter s entries (append user identifier rows) = AllByRecursion (IsRowOf s) rows
IsEntryAfter s entries (compaction base groups) = (1 ≤ base) × (base ≤ length entries) × (groups ≢ [])
    × (int_lt (fence_at entries (length entries)) (pos base) ≡ true)
    × GroupsRise groups
IsEntryAfter s entries (fence number) = (int_lt (fence_at entries (length entries)) number ≡ true)
    × (int_lt number (pos (suc (length entries))) ≡ true)

-- entries that a table may have: their rows are rows of the table, a compaction's base is an earlier snapshot and its
-- groups rise, and a fence is below its own number
pub record AreEntriesOf (s : TableSchema) (entries : List Entry) : Type 0 where
  pub rows : AllByRecursion (IsRowOf s) (flat_map entry_rows entries)
  pub bases : HaveBases 1 entries
  pub groups : AllByRecursion NamesGroups entries
  pub fences : (n : ℕ) (x : ℤ) → slice_get entries n ≡ Some (fence x) → int_lt x (pos (suc n)) ≡ true

-- The snapshots that are there, the origin counted as 0, are all from some id on to the newest, which is as great as
-- there are entries.
pub record HasSnapshots (f : Files) (s : TableSchema) (newest : ℕ) : Type 0 where
  pub least : ℕ
  pub some : least ≤ newest
  pub within : newest ≤ greatest
  pub exact : (id : ℕ) → id ≤ greatest → HasSnapshotAt f s id ↔ ((least ≤ id) × (id ≤ newest))

-- a snapshot from the least one on, the origin left out
pub record IsFrom (least newest id : ℕ) : Type 0 where
  pub after_origin : 1 ≤ id
  pub from : least ≤ id
  pub to : id ≤ newest

-- Each snapshot is that of its entry and of those before it, and all that it needs is there. What one names and the one
-- before it doesn't is new, and a path that left never returns.
pub record HasCommits (f : Files) (s : TableSchema) (entries : List Entry) (least : ℕ) : Type 0 where
  pub committed : (id : ℕ) → IsFrom least (length entries) id → IsCommitted f s (take id entries) id
  pub begins : least ≡ 0 → 1 ≤ length entries → BeginsOn f s
  pub next : (id : ℕ) → IsFrom least (length entries) id → id < length entries → FollowsOn f s id
  pub gone : (first : ℕ) → IsFrom least (length entries) first → NeverReturn f s first (length entries)

-- a floor is there whose number is at least this one: that the snapshots below go was announced
abbrev pub IsAnnounced : Files → ℕ → Type 0
IsAnnounced f end = (n : ℕ) × (n ≤ greatest) × (end ≤ n) × IsSome (map.get f (floor_path n))

-- where a snapshot after the origin is the least, a floor announced that those below it go
abbrev pub HasFloor : Files → ℕ → Type 0
HasFloor f least = (least ≤ 1) ⊎ IsAnnounced f least

-- each file of a consumer reads
abbrev pub HaveConsumers : Files → Type 0
HaveConsumers f = (name : List ℕ) → IsSome (map.get f (consumer_path name)) → (c : Consumer) × ConsumerAt f name c

-- the sentences of a table's folder
pub record HasTable (f : Files) (s : TableSchema) (entries : List Entry) : Type 0 where
  pub names : HaveFiles f
  pub schema : HasSchema f s
  pub history : AreEntriesOf s entries
  pub snapshots : HasSnapshots f s (length entries)
  pub commits : HasCommits f s entries snapshots.least
  pub floor : HasFloor f snapshots.least
  pub consumers : HaveConsumers f

-- The files stand for the history.
abbrev pub Folder : Files → History → Type 0
Folder f no_table = HasNoTable f
Folder f (table s entries) = HasTable f s entries

-- ---- settled consumers

-- a consumer that is settled: its file isn't new, and the snapshot that it reads next hasn't gone
pub record IsSettled (f : Files) (least : ℕ) (name : List ℕ) : Type 0 where
  pub consumer : Consumer
  pub at : ConsumerAt f name consumer
  pub known : consumer.fresh ≡ false
  pub next : least ≤ consumer.next

-- the consumers of these names are settled, and there is a table if there is one of them
abbrev pub HaveSettled : Files → History → List (List ℕ) → Type 0
HaveSettled f no_table names = (name : List ℕ) → ¬ Contains names name
HaveSettled f (table s entries) names = (name : List ℕ) → Contains names name
    → (least : ℕ) × HasSnapshotAt f s least × ((id : ℕ) → id < least → ¬ HasSnapshotAt f s id) × IsSettled f least name

-- The file of each consumer is as it was, and those are settled that were.
pub record KeepsConsumers (h : History) (f after : Files) : Type 0 where
  pub files : (name : List ℕ) → map.get after (consumer_path name) ≡ map.get f (consumer_path name)
  pub settled : (names : List (List ℕ)) → HaveSettled f h names → HaveSettled after h names
