-- The own calls of a reader of a view, and what they show.
use Rattle.std.specs.Prelude.{◌≡◌, ◌≢◌, ℕ, ◌≤◌, List, [], ◌∷◌, ◌++◌, Option, None, Some, Ok, Err}
use Rattle.pm_values.specs.declared.refusal.Refusal.{Refusal}
use Rattle.pm_values.specs.declared.refusal.Refusal.TheVariants as refusals
use Rattle.pm_store.specs.declared.answer.Answer.{Answer}
use Rattle.pm_store.specs.declared.answer.Answer.TheVariants as answers
use Rattle.pm_store.specs.declared.call.Call.TheVariants as calls
use Rattle.pm_machine.specs.Trace.{Event, IsFailed, MayEnd, answered}
use Rattle.pm_schema.specs.declared.schema.TableSchema.{TableSchema}
use Rattle.pm_snapshot.specs.Snapshot.{snapshot_in}
use Rattle.pm_snapshot.specs.declared.fault.SnapFault.TheVariants as faults
use Rattle.pm_snapshot.specs.declared.snapshot.Snapshot.{Snapshot}
use Rattle.pm_model_folder.specs.Paths.{origin_path, schema_path, snapshot_path}
use Rattle.pm_paths.specs.Ids.{AreIds, IsLatest}
use Rattle.pm_read_schema.specs.Trace.{Names, listed_snapshots}
use Rattle.pm_manifest.specs.Live.{AreInOrder, IsOutOfOrder, Leaves, Live}
use Rattle.pm_manifest.specs.declared.entry.Entry.{Entry}
use Rattle.pm_manifest.specs.declared.entry.ManifestMeta.{ManifestMeta}
use Rattle.pm_model_contents.specs.Groups.{Overlaps}
use Rattle.pm_model_contents.specs.Lists.{manifest_path, none_live}
use Rattle.pm_read_table.specs.Reader.{IsAbove, IsAsked, IsListOf, MisreadsList, next_call}
use Rattle.pm_read_table.specs.Reader.{IsManifestOf, MisreadsManifest}
use Rattle.pm_read_table.specs.Reading.{live_of}
use Rattle.pm_read_table.specs.View.{IsOriginView, IsSoughtBy, IsViewOf, kept_for}
use Rattle.pm_read_table.specs.Asked.{Asked, ListsFirst, SoughtView, sought_of}
use Rattle.pm_read_table.specs.declared.asked.Wanted.{Wanted}
use Rattle.pm_read_table.specs.declared.asked.Wanted.TheVariants as wants
use Rattle.pm_read_table.specs.declared.phase.Phase.{Phase}
use Rattle.pm_read_table.specs.declared.phase.Phase.TheVariants as phases
use Rattle.pm_read_table.specs.declared.view.View.{View}

-- this was found at a path
abbrev pub read_file : List ℕ → Option (List ℕ) → Event
read_file path found = answered (calls.Read path) (answers.Found found)

-- ---- how far the calls have come

-- the snapshots were listed, and this is the id that is asked for; where it is asked for whole, there was no call
abbrev pub ListsFor : Wanted → ℕ → List Event → Type 0
ListsFor (wants.Whole asked) id own = (id ≡ asked) × (own ≡ [])
ListsFor wanted id own =
    (names : Names) × (latest : ℕ) × IsLatest names.items latest × IsAsked wanted latest id
    × (own ≡ listed_snapshots names ∷ [])

abbrev pub Lists : Asked → ℕ → List Event → Type 0
Lists a id own = ListsFor a.wanted id own

-- the first of the calls listed the snapshots, and these are the ids of all of them; where one is asked for whole there
-- are none
abbrev pub HasListed : Wanted → List ℕ → List Event → Type 0
HasListed (wants.Whole asked) ids own = ids ≡ []
HasListed wanted ids own =
    (names : Names) × (later : List Event) × AreIds names.items ids × (own ≡ listed_snapshots names ∷ later)

-- and this was found at the path of its file
abbrev pub Reads : Asked → ℕ → List ℕ → Option (List ℕ) → List Event → Type 0
Reads a id path found own = (earlier : List Event) × Lists a id earlier × (own ≡ earlier ++ read_file path found ∷ [])

-- which is this snapshot's, after the origin; it names the table's schema
abbrev pub Has : Asked → Snapshot → List Event → Type 0
Has a x own =
    (bytes : List ℕ) × (1 ≤ x.id) × (snapshot_in x.id bytes ≡ Ok x) × (x.schema_id ≡ a.schema.id)
    × Reads a x.id (snapshot_path x.id) (Some bytes) own

-- this was found at the path of the base list
abbrev pub FindsBase : Asked → Snapshot → Option (List ℕ) → List Event → Type 0
FindsBase a x found own =
    (earlier : List Event) × Has a x earlier × (own ≡ earlier ++ read_file (manifest_path x.base_list) found ∷ [])

-- which has these manifests
abbrev pub HasBase : Asked → Snapshot → List ManifestMeta → List Event → Type 0
HasBase a x base own =
    (bytes : List ℕ) × IsListOf (manifest_path x.base_list) bytes base × FindsBase a x (Some bytes) own

-- this was found at the path of the delta list
abbrev pub FindsDelta : Asked → Snapshot → List ManifestMeta → Option (List ℕ) → List Event → Type 0
FindsDelta a x base found own =
    (earlier : List Event) × HasBase a x base earlier
    × (own ≡ earlier ++ read_file (manifest_path x.delta_list) found ∷ [])

-- which has these manifests
abbrev pub HasDelta : Asked → Snapshot → List ManifestMeta → List ManifestMeta → List Event → Type 0
HasDelta a x base delta own =
    (bytes : List ℕ) × IsListOf (manifest_path x.delta_list) bytes delta × FindsDelta a x base (Some bytes) own

-- each of the manifests was read, in their order, and they have these entries
abbrev pub HaveRead : TableSchema → List ManifestMeta → List Entry → List Event → Type 0
HaveRead s [] entries own = (entries ≡ []) × (own ≡ [])
HaveRead s (meta ∷ metas) entries own =
    (bytes : List ℕ) × (first later : List Entry) × (events : List Event)
    × IsManifestOf s (manifest_path meta.name) bytes first × (entries ≡ first ++ later)
    × (own ≡ read_file (manifest_path meta.name) (Some bytes) ∷ events) × HaveRead s metas later events

-- The manifests of the lists are those that were read and those that are left. Those that were read have these entries,
-- each of which can follow those before it.
pub record HasPart (a : Asked) (x : Snapshot) (done rest : List ManifestMeta) (entries : List Entry)
    (own : List Event) : Type 0 where
  pub base : List ManifestMeta
  pub delta : List ManifestMeta
  pub lists : List Event
  pub reads : List Event
  pub listed : HasDelta a x base delta lists
  pub parts : base ++ delta ≡ done ++ rest
  pub read : HaveRead a.schema done entries reads
  pub order : AreInOrder none_live entries
  pub is : own ≡ lists ++ reads

-- and this was found at the path of the next
abbrev pub FindsNext : Asked → Snapshot → List ManifestMeta → ManifestMeta → List ManifestMeta → List Entry
    → Option (List ℕ) → List Event → Type 0
FindsNext a x done meta rest entries found own =
    (earlier : List Event) × HasPart a x done (meta ∷ rest) entries earlier
    × (own ≡ earlier ++ read_file (manifest_path meta.name) found ∷ [])

-- all manifests were read, and the view is that of the table at the snapshot; or the origin was read, and it is that
pub data HasView (a : Asked) (v : View) (own : List Event) : Type 0 where
  of_origin : (bytes : List ℕ) → IsOriginView a.schema v → Reads a 0 (origin_path a.schema) (Some bytes) own
      → HasView a v own
  of_snapshot : (x : Snapshot) (metas : List ManifestMeta) (entries : List Entry) (live : Live)
      → HasPart a x metas [] entries own → Leaves none_live entries live
      → IsViewOf a.schema x metas (kept_for a.wanted entries) live v → HasView a v own

-- it is the view of what was asked, and has the ids of the snapshots that were listed
abbrev pub HasSought : Asked → View → List Event → Type 0
HasSought a v own = (ids : List ℕ) × HasListed a.wanted ids own × IsSoughtBy (sought_of a ids) v

-- a file that the snapshot names was found absent at the path: a list, or a manifest
pub data LacksFile (a : Asked) (id : ℕ) (path : List ℕ) (own : List Event) : Type 0 where
  lacks_base : (x : Snapshot) → id ≡ x.id → path ≡ manifest_path x.base_list → FindsBase a x None own
      → LacksFile a id path own
  lacks_delta : (x : Snapshot) (base : List ManifestMeta) → id ≡ x.id → path ≡ manifest_path x.delta_list
      → FindsDelta a x base None own → LacksFile a id path own
  lacks_manifest : (x : Snapshot) (done : List ManifestMeta) (meta : ManifestMeta) (rest : List ManifestMeta)
      (entries : List Entry) → id ≡ x.id → path ≡ manifest_path meta.name
      → FindsNext a x done meta rest entries None own → LacksFile a id path own

-- and then this was found at the path of the snapshot
abbrev pub ReadsAgain : Asked → ℕ → List ℕ → Option (List ℕ) → List Event → Type 0
ReadsAgain a id path found own =
    (earlier : List Event) × LacksFile a id path earlier × (own ≡ earlier ++ read_file (snapshot_path id) found ∷ [])

-- ---- what they show

-- the bytes of a list or of a manifest have this fault
pub data Misreads (a : Asked) (refusal : Refusal) (own : List Event) : Type 0 where
  misreads_base : (x : Snapshot) (bytes : List ℕ) → MisreadsList (manifest_path x.base_list) bytes refusal
      → FindsBase a x (Some bytes) own → Misreads a refusal own
  misreads_delta : (x : Snapshot) (base : List ManifestMeta) (bytes : List ℕ)
      → MisreadsList (manifest_path x.delta_list) bytes refusal → FindsDelta a x base (Some bytes) own
      → Misreads a refusal own
  misreads_manifest : (x : Snapshot) (done : List ManifestMeta) (meta : ManifestMeta) (rest : List ManifestMeta)
      (entries : List Entry) (bytes : List ℕ) → MisreadsManifest a.schema (manifest_path meta.name) bytes refusal
      → FindsNext a x done meta rest entries (Some bytes) own → Misreads a refusal own

-- this was asked, and these are the ids of the snapshots that were listed
abbrev pub IsSought : Asked → SoughtView → List Event → Type 0
IsSought a q own = (q.asked ≡ a) × HasListed a.wanted q.listed own

-- its calls so far, by its phase before its end, where this was asked
abbrev pub DidSoFar : Asked → Phase → List Event → Type 0
DidSoFar a (phases.List b) own = (b ≡ a) × (own ≡ []) × ListsFirst a.wanted
DidSoFar a (phases.Origin q) own = IsSought a q own × Lists q.asked 0 own
DidSoFar a (phases.Snapshot q id) own = IsSought a q own × (1 ≤ id) × Lists q.asked id own
DidSoFar a (phases.Base q x) own = IsSought a q own × Has q.asked x own
DidSoFar a (phases.Delta q x base) own = IsSought a q own × HasBase q.asked x base.items own
DidSoFar a (phases.Manifests r) own =
    IsSought a r.sought own × (entries : List Entry)
    × HasPart r.sought.asked r.snapshot r.done (r.next ∷ r.rest) entries own
    × Leaves none_live entries (live_of r.files) × (r.kept ≡ kept_for r.sought.asked.wanted entries)
DidSoFar a (phases.Again b id path) own = (b ≡ a) × LacksFile b id path own
DidSoFar a (phases.Ready v) own = HasView a v own × HasSought a v own
DidSoFar a phases.Over own = ⊥

-- What follows the answer may take memory: neither where the snapshot is absent nor, where a file that it names is,
-- once it was read again; nor where the origin was read.
abbrev pub MayTakeMemory : Phase → Answer → Type 0
MayTakeMemory (phases.List a) answer = Unit {0}
MayTakeMemory (phases.Snapshot q id) (answers.Found (Some bytes)) = Unit {0}
MayTakeMemory (phases.Base q x) answer = Unit {0}
MayTakeMemory (phases.Delta q x base) answer = Unit {0}
MayTakeMemory (phases.Manifests r) answer = Unit {0}
MayTakeMemory m answer = ⊥

-- the snapshot that is asked for was found absent at its first read, or at its second after a file that it names
pub data IsGone (a : Asked) (id : ℕ) (own : List Event) : Type 0 where
  gone_origin : id ≡ 0 → Reads a 0 (origin_path a.schema) None own → IsGone a id own
  gone_snapshot : 1 ≤ id → Reads a id (snapshot_path id) None own → IsGone a id own
  gone_again : (path : List ℕ) → ReadsAgain a id path None own → IsGone a id own

-- A file is damaged, at the offset: the snapshot's, whose bytes are none; the schema's, where the snapshot names
-- another one than the table's; one that the snapshot names and that is absent, and the snapshot still stands; a list
-- or a manifest, whose bytes have this fault; a manifest with an entry that can't follow those before it; or a data
-- file that shares keys with another one.
pub data IsDamaged (a : Asked) (path : List ℕ) (place : ℕ) (own : List Event) : Type 0 where
  bad_snapshot : (id : ℕ) (bytes : List ℕ) → 1 ≤ id → path ≡ snapshot_path id → place ≡ 0
      → snapshot_in id bytes ≡ Err faults.Bad → Reads a id path (Some bytes) own → IsDamaged a path place own
  bad_schema : (x : Snapshot) (id : ℕ) (bytes : List ℕ) → 1 ≤ id → path ≡ schema_path x.schema_id → place ≡ 0
      → snapshot_in id bytes ≡ Ok x → x.schema_id ≢ a.schema.id → Reads a id (snapshot_path id) (Some bytes) own
      → IsDamaged a path place own
  is_absent : (id : ℕ) (bytes : List ℕ) → place ≡ 0 → ReadsAgain a id path (Some bytes) own → IsDamaged a path place own
  is_misread : Misreads a (refusals.Damaged path place) own → IsDamaged a path place own
  is_disordered : (x : Snapshot) (done : List ManifestMeta) (meta : ManifestMeta) (rest : List ManifestMeta)
      (entries : List Entry) (live : Live) (bytes : List ℕ) (later : List Entry) (i : ℕ)
      → path ≡ manifest_path meta.name → place ≡ 0 → Leaves none_live entries live
      → IsManifestOf a.schema path bytes later → IsOutOfOrder live later i
      → FindsNext a x done meta rest entries (Some bytes) own → IsDamaged a path place own
  is_overlap : (x : Snapshot) (metas : List ManifestMeta) (entries : List Entry) (live : Live)
      → HasPart a x metas [] entries own → Leaves none_live entries live
      → Overlaps a.schema live (refusals.Damaged path place) → IsDamaged a path place own

-- Which calls show a refusal. There is no such snapshot where the id that is asked for is above the latest of those
-- that were listed.
abbrev pub Shows : Asked → Refusal → List Event → Type 0
Shows a refusals.Memory own = MayEnd next_call (DidSoFar a) MayTakeMemory own
Shows a (refusals.StoreFault path) own = IsFailed next_call (DidSoFar a) path own
Shows a (refusals.NoSnapshot id latest) own =
    (names : Names) × IsLatest names.items latest × IsAbove a.wanted latest id × (own ≡ listed_snapshots names ∷ [])
Shows a (refusals.Expired id) own = IsGone a id own
Shows a (refusals.Damaged path place) own = IsDamaged a path place own
Shows a (refusals.Unsupported what text) own = Misreads a (refusals.Unsupported what text) own
Shows a other own = ⊥

-- its calls so far, by its phase, where this was asked: at its end they show a refusal
abbrev pub Did : Asked → Phase → List Event → Type 0
Did a phases.Over own = (refusal : Refusal) × Shows a refusal own
Did a m own = DidSoFar a m own
