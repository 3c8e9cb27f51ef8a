-- The kinds of change that commands make, whoever makes them.
use Rattle.std.specs.Prelude.{◌≡◌, ◌≢◌, ℕ, zero, suc, ◌<◌, ◌≤◌, ◌^◌, List, [], ◌∷◌, ◌++◌, All, length, codes, decimal}
use Rattle.std.specs.Prelude.{Option, Some, None, IsSome, IfSome, Ok}
use Rattle.std.specs.FinMap as map
use Rattle.std.specs.List.{AllByRecursion}
use Rattle.uuid.specs.Text.{hyphenated_text, hyphen, lower}
use Rattle.pm_values.specs.Names.{Naming, name_of}
use Rattle.pm_values.specs.declared.group.Group.{Group}
use Rattle.pm_store.specs.Files.{Files, Puts}
use Rattle.pm_model_history.specs.History.{Entry, History, no_table, table}
use Rattle.pm_snapshot.specs.Consumer.{consumer_in}
use Rattle.pm_snapshot.specs.declared.consumer.Consumer.{Consumer}
use Rattle.pm_snapshot.specs.Names.{BasedFile, MayName, greatest, prefix_of, suffix_of}
use Rattle.pm_model_folder.specs.Commits.{IsCommit, Names, Needs}
use Rattle.pm_model_folder.specs.Folder.{IsAnnounced, IsEntryAfter}
use Rattle.pm_model_folder.specs.Meaning.{SchemaAt, HasSnapshotAt, IsLeast}
use Rattle.pm_model_folder.specs.Paths.{consumer_path, floor_path, schema_path, snapshot_file, snapshot_path}
use Rattle.pm_schema.specs.Folder.{folder_text}
use Rattle.pm_schema.specs.declared.schema.TableSchema.{TableSchema}

-- an actor: the sixteen bytes of its session, and its number in it
pub record Actor : Type 0 where
  pub session : List ℕ
  pub number : ℕ

-- an actor's session has sixteen bytes, and its number 64 bits
pub record IsActor (me : Actor) : Type 0 where
  pub sixteen : length me.session ≡ 16
  pub bytes : All (λ b. b < 256) me.session
  pub bits : me.number < 2 ^ 64

-- the name of the origin that an actor makes
abbrev pub origin_name : Actor → List ℕ
origin_name me =
    codes "ORIGIN-" ++ (hyphenated_text lower me.session ++ hyphen ∷ decimal me.number)

-- the file's name is one that a maker of names with the actor's session and number gives
pub record IsNamedBy (me : Actor) (path : List ℕ) : Type 0 where
  pub folder : List ℕ
  pub file : BasedFile
  pub names : Naming
  pub may : MayName names
  pub session : names.session ≡ me.session
  pub actor : names.actor ≡ me.number
  pub is : path ≡ folder ++ 47 ∷ name_of (prefix_of file) (suffix_of file) names

-- the name has no slash
abbrev pub IsPlain : List ℕ → Type 0
IsPlain name = AllByRecursion (λ b. b ≢ 47) name

-- the names of the partition columns have none
abbrev pub HavePlainNames : TableSchema → Type 0
HavePlainNames s = AllByRecursion IsPlain s.partition

-- a folder of files that snapshots name: that of manifests, and those of buckets
pub data IsTableFolder : List ℕ → Type 0 where
  manifests : IsTableFolder (codes "manifest")
  bucket : (s : TableSchema) (g : Group) → HavePlainNames s → IsTableFolder (folder_text s g)

-- a file in such a folder
pub record IsTablePath (path : List ℕ) : Type 0 where
  pub folder : List ℕ
  pub name : List ℕ
  pub own : IsTableFolder folder
  pub is : path ≡ folder ++ 47 ∷ name

-- The file bears the actor's name: only this actor makes a file there. It is the origin that the actor makes, or one
-- among those that snapshots name.
pub data IsOwn (me : Actor) (path : List ℕ) : Type 0 where
  its_origin : path ≡ snapshot_file (origin_name me) → IsOwn me path
  its_file : (by : IsNamedBy me path) → IsTableFolder by.folder → IsOwn me path

-- the file is one among those that snapshots name, and bears the actor's name, with this base
pub record IsOwnFile (me : Actor) (base : ℕ) (path : List ℕ) : Type 0 where
  pub by : IsNamedBy me path
  pub in_table : IsTableFolder by.folder
  pub based : by.names.base ≡ base

-- what the snapshot after the newest names and that doesn't was named by the actor
abbrev pub NamesOwn : Actor → Files → Files → TableSchema → ℕ → Type 0
NamesOwn me f after s newest =
    (path : List ℕ) → Names after s (suc newest) path → (Names f s newest path → ⊥) → IsNamedBy me path

-- the path isn't that of the origin that the table's schema names
abbrev pub IsNoOrigin : History → List ℕ → Type 0
IsNoOrigin no_table path = Unit {0}
IsNoOrigin (table s entries) path = (name : List ℕ) → s.origin ≡ Some name → snapshot_file name ≢ path

-- there is no file, or it is a consumer's
abbrev pub IsConsumerFile : Option (List ℕ) → Type 0
IsConsumerFile content = IfSome content (λ bytes. (c : Consumer) × (consumer_in bytes ≡ Ok c))

-- the path is that of a snapshot, or of the origin where the id is 0
abbrev pub IsSnapshotPath : TableSchema → ℕ → List ℕ → Type 0
IsSnapshotPath s zero path = (name : List ℕ) × (s.origin ≡ Some name) × (path ≡ snapshot_file name)
IsSnapshotPath s (suc id) path = path ≡ snapshot_path (suc id)

-- no snapshot that is there needs the path, among those whose ids a listing shows
abbrev pub IsUnneeded : Files → TableSchema → List ℕ → Type 0
IsUnneeded f s path = (id : ℕ) → 1 ≤ id → id ≤ greatest → HasSnapshotAt f s id → Needs f s id path → ⊥

-- What is changed beside the history of a table.
pub data Beside (f : Files) (s : TableSchema) (entries : List Entry) (after : Files) : Type 0 where
  -- a consumer's file is written, or goes
  consumer : (name : List ℕ) (content : Option (List ℕ)) → IsPlain name → IsConsumerFile content
      → Puts f (consumer_path name) content after → Beside f s entries after
  -- a floor appears where there was none, whole or in part, no higher than the newest snapshot
  floor : (n : ℕ) (found : List ℕ) → n ≤ length entries → map.get f (floor_path n) ≡ None
      → Puts f (floor_path n) (Some found) after → Beside f s entries after
  -- a floor goes that is below another
  forgotten : (n above : ℕ) → n < above → above ≤ greatest → IsSome (map.get f (floor_path above))
      → Puts f (floor_path n) None after → Beside f s entries after
  -- the least snapshot goes, which isn't the newest, below a floor
  expired : (least : ℕ) (path : List ℕ) → IsLeast f s least → IsSnapshotPath s least path → least < length entries
      → IsAnnounced f (suc least) → Puts f path None after → Beside f s entries after
  -- a file goes among those that snapshots name, which none that is there needs
  removed : (path : List ℕ) → IsTablePath path → IsUnneeded f s path → Puts f path None after → Beside f s entries after

-- What an actor may change of a folder that stands for a history, and the history that it stands for then.
pub data Change (me : Actor) (f : Files) : History → Files → History → Type 0 where
  -- no path has another content
  nothing : {h : History} {after : Files} → ((path : List ℕ) → map.get after path ≡ map.get f path)
      → Change me f h after h
  -- a file of the actor's own appears where there was none, whole or in part; the table's origin doesn't come again
  own_file : {h : History} {after : Files} (path content : List ℕ) → IsOwn me path → IsNoOrigin h path
      → map.get f path ≡ None → Puts f path (Some content) after → Change me f h after h
  -- the schema of a new table appears, whole, once its origin is there, which bears the actor's name
  schema : {after : Files} (s : TableSchema) (bytes : List ℕ) → HasSnapshotAt f s 0
      → s.origin ≡ Some (origin_name me) → Puts f (schema_path 0) (Some bytes) after → SchemaAt after 0 s
      → Change me f no_table after (table s [])
  -- the snapshot after the newest appears, whole, while that stands, and its entry comes after those of the history,
  -- whatever it is; its new files are the actor's own
  committed : {after : Files} (s : TableSchema) (entries : List Entry) (e : Entry) (bytes : List ℕ)
      → HasSnapshotAt f s (length entries) → suc (length entries) ≤ greatest
      → map.get f (snapshot_path (suc (length entries))) ≡ None
      → Puts f (snapshot_path (suc (length entries))) (Some bytes) after → IsEntryAfter s entries e
      → IsCommit f after s entries e → NamesOwn me f after s (length entries)
      → Change me f (table s entries) after (table s (entries ++ e ∷ []))
  -- the history stays, and what is beside it changes
  beside : {after : Files} (s : TableSchema) (entries : List Entry) → HavePlainNames s → Beside f s entries after
      → Change me f (table s entries) after (table s entries)
