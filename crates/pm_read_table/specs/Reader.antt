-- A reader of a view: its phases, its calls, and what each answer leads to.
use Rattle.std.specs.Prelude.{◌≡◌, ◌≢◌, ◌⊎◌, ℕ, ◌+◌, ◌<◌, ◌≤◌, ◌==◌, List, [], ◌∷◌, ◌++◌, length, if◌then◌else◌}
use Rattle.std.specs.Prelude.{Option, None, Some, Ok, Err, Vec}
use Rattle.std.specs.Global.{Global}
use Rattle.pm_values.specs.declared.refusal.Refusal.{Refusal}
use Rattle.pm_values.specs.declared.refusal.Refusal.TheVariants as refusals
use Rattle.pm_store.specs.declared.answer.Answer.{Answer}
use Rattle.pm_store.specs.declared.answer.Answer.TheVariants as answers
use Rattle.pm_store.specs.declared.call.Call.{Call}
use Rattle.pm_store.specs.declared.call.Call.TheVariants as calls
use Rattle.pm_record.specs.File.{ReadsFile}
use Rattle.pm_schema.specs.Again.{IsDeclared}
use Rattle.pm_schema.specs.declared.schema.TableSchema.{TableSchema}
use Rattle.pm_snapshot.specs.Snapshot.{snapshot_in}
use Rattle.pm_snapshot.specs.declared.fault.SnapFault.TheVariants as faults
use Rattle.pm_snapshot.specs.declared.snapshot.Snapshot.{Snapshot}
use Rattle.pm_model_folder.specs.Paths.{origin_path, schema_path, snapshot_path}
use Rattle.pm_paths.specs.Ids.{AreIds, IsLatest}
use Rattle.pm_read_schema.specs.Reader.{snapshots_call}
use Rattle.pm_manifest.specs.Entries.{entry_in, has_entry_fields}
use Rattle.pm_manifest.specs.Listed.{has_meta_fields, meta_in}
use Rattle.pm_manifest.specs.Live.{AreInOrder, IsOutOfOrder, Leaves, Live}
use Rattle.pm_manifest.specs.Shape.{shape_of}
use Rattle.pm_manifest.specs.declared.entry.Entry.{Entry}
use Rattle.pm_manifest.specs.declared.entry.ManifestMeta.{ManifestMeta}
use Rattle.pm_model_contents.specs.Groups.{Overlaps}
use Rattle.pm_model_contents.specs.Lists.{manifest_path, none_live}
use Rattle.pm_read_table.specs.View.{HaveGroups}
use Rattle.pm_read_table.specs.Reading.{Filed, ReadingView, live_of, reading_of}
use Rattle.pm_read_table.specs.View.{HasFolders, IsOriginView, IsSoughtBy, IsViewOf, kept_for}
use Rattle.pm_read_table.specs.Asked.{ListsFirst, SoughtView, sought_of}
use Rattle.pm_read_table.specs.declared.asked.Wanted.{Wanted}
use Rattle.pm_read_table.specs.declared.asked.Wanted.TheVariants as wants
use Rattle.pm_read_table.specs.declared.phase.Phase.{Phase}
use Rattle.pm_read_table.specs.declared.phase.Phase.TheVariants as phases
use Rattle.pm_read_table.specs.declared.view.View.{View}

-- ---- its calls

-- its next call, or none at its end
abbrev pub next_call : Phase → Option Call
next_call (phases.List a) = Some snapshots_call
next_call (phases.Origin q) = Some (calls.Read (origin_path q.asked.schema))
next_call (phases.Snapshot q id) = Some (calls.Read (snapshot_path id))
next_call (phases.Base q x) = Some (calls.Read (manifest_path x.base_list))
next_call (phases.Delta q x base) = Some (calls.Read (manifest_path x.delta_list))
next_call (phases.Manifests r) = Some (calls.Read (manifest_path r.next.name))
next_call (phases.Again a id path) = Some (calls.Read (snapshot_path id))
next_call (phases.Ready v) = None
next_call phases.Over = None

-- so many manifests two lists have at most
abbrev pub most : ℕ
most = 18446744073709551616

-- how many calls are left at most, where no refusal comes
abbrev pub calls_left : Phase → ℕ
calls_left (phases.List a) = most + 5
calls_left (phases.Origin q) = 1
calls_left (phases.Snapshot q id) = most + 4
calls_left (phases.Base q x) = most + 3
calls_left (phases.Delta q x base) = most + 2
calls_left (phases.Manifests r) = length r.rest + 2
calls_left (phases.Again a id path) = 1
calls_left (phases.Ready v) = 0
calls_left phases.Over = 0

-- where the snapshots are listed they are asked for so; and a view that is there can be read: its groups have folders,
-- as those of its live entries have, and its schema is declared
abbrev pub IsViewer : Phase → Type 0
IsViewer (phases.List a) = ListsFirst a.wanted
IsViewer (phases.Ready v) = HasFolders v × HaveGroups v.schema v.live.items × IsDeclared v.schema
IsViewer other = Unit {0}

-- the view is there to be taken
abbrev pub IsReady : Phase → Type 0
IsReady (phases.Ready v) = Unit {0}
IsReady other = ⊥

-- ---- what answers lead to

-- the snapshot with this id is to be read, which is the origin where it is 0
abbrev pub opening : SoughtView → ℕ → Phase
opening q id = if id == 0 then phases.Origin q else phases.Snapshot q id

-- the id that is asked for, where this is the latest that was listed
abbrev pub IsAsked : Wanted → ℕ → ℕ → Type 0
IsAsked (wants.At asked) latest id = (id ≡ asked) × (asked ≤ latest)
IsAsked (wants.Whole asked) latest id = ⊥
IsAsked other latest id = id ≡ latest

-- the id that is asked for is above the latest
abbrev pub IsAbove : Wanted → ℕ → ℕ → Type 0
IsAbove (wants.At asked) latest id = (id ≡ asked) × (latest < asked)
IsAbove other latest id = ⊥

-- the bytes are read as a list of manifests, or have this fault
abbrev pub IsListOf : List ℕ → List ℕ → List ManifestMeta → Type 0
IsListOf path bytes metas = ReadsFile has_meta_fields meta_in path bytes (Ok metas)

abbrev pub MisreadsList : List ℕ → List ℕ → Refusal → Type 0
MisreadsList path bytes refusal = ReadsFile has_meta_fields meta_in path bytes (Err refusal)

-- the bytes are read as a manifest of a table, or have this fault
abbrev pub IsManifestOf : TableSchema → List ℕ → List ℕ → List Entry → Type 0
IsManifestOf s path bytes entries = ReadsFile has_entry_fields (entry_in (shape_of s)) path bytes (Ok entries)

abbrev pub MisreadsManifest : TableSchema → List ℕ → List ℕ → Refusal → Type 0
MisreadsManifest s path bytes refusal =
    ReadsFile has_entry_fields (entry_in (shape_of s)) path bytes (Err refusal)

-- the view is there, which is one of what was asked
abbrev pub IsReadyWith : SoughtView → (View → Type 0) → Phase → Type 0
IsReadyWith q P later = (v : View) × P v × IsSoughtBy q v × (later ≡ phases.Ready v)

-- the manifests that were read, with the live files after their entries and those that were kept of these, and the
-- manifests that are left: the next of these is to be read, or the view is ready
abbrev pub GoesOn : SoughtView → Snapshot → List ManifestMeta → List ManifestMeta → Filed → List Entry → Phase → Type 0
GoesOn q x done [] files kept later = IsReadyWith q (IsViewOf q.asked.schema x done kept (live_of files)) later
GoesOn q x done (meta ∷ rest) files kept later =
    later ≡ phases.Manifests (reading_of q x done meta rest files kept)

-- the two lists have these manifests, none of which was read
abbrev pub Starts : SoughtView → Snapshot → List ManifestMeta → Phase → Type 0
Starts q x metas later =
    (files : Filed) × Leaves none_live [] (live_of files) × (length metas ≤ most) × GoesOn q x [] metas files [] later

-- the next manifest has these entries, each of which can follow those before it
abbrev pub Takes : ReadingView → List Entry → Phase → Type 0
Takes r own later =
    (files : Filed) × AreInOrder (live_of r.files) own × Leaves (live_of r.files) own (live_of files)
    × GoesOn r.sought r.snapshot (r.done ++ r.next ∷ []) r.rest files
    (r.kept ++ kept_for r.sought.asked.wanted own) later

-- the phase after an answer that it goes on with
abbrev pub Goes : Phase → Answer → Phase → Type 0
Goes (phases.List a) (answers.Listed names) later =
    (ids : List ℕ) × (latest : ℕ) × (id : ℕ) × AreIds names.items ids × IsLatest names.items latest
    × IsAsked a.wanted latest id × (later ≡ opening (sought_of a ids) id)
Goes (phases.Origin q) (answers.Found (Some bytes)) later = IsReadyWith q (IsOriginView q.asked.schema) later
Goes (phases.Snapshot q id) (answers.Found (Some bytes)) later =
    (x : Snapshot) × (snapshot_in id bytes ≡ Ok x) × (x.schema_id ≡ q.asked.schema.id) × (later ≡ phases.Base q x)
Goes (phases.Base q x) (answers.Found None) later = later ≡ phases.Again q.asked x.id (manifest_path x.base_list)
Goes (phases.Base q x) (answers.Found (Some bytes)) later =
    (base : Vec ManifestMeta Global) × IsListOf (manifest_path x.base_list) bytes base.items
    × (later ≡ phases.Delta q x base)
Goes (phases.Delta q x base) (answers.Found None) later =
    later ≡ phases.Again q.asked x.id (manifest_path x.delta_list)
Goes (phases.Delta q x base) (answers.Found (Some bytes)) later =
    (delta : List ManifestMeta) × IsListOf (manifest_path x.delta_list) bytes delta
    × Starts q x (base.items ++ delta) later
Goes (phases.Manifests r) (answers.Found None) later =
    later ≡ phases.Again r.sought.asked r.snapshot.id (manifest_path r.next.name)
Goes (phases.Manifests r) (answers.Found (Some bytes)) later =
    (own : List Entry) × IsManifestOf r.sought.asked.schema (manifest_path r.next.name) bytes own × Takes r own later
Goes phase other later = ⊥

-- why a snapshot's bytes are refused: they are none, or those of one of another schema
abbrev pub IsBad : TableSchema → ℕ → List ℕ → Refusal → Type 0
IsBad s id bytes refusal =
    ((refusal ≡ refusals.Damaged (snapshot_path id) 0) × (snapshot_in id bytes ≡ Err faults.Bad))
    ⊎ ((x : Snapshot) × (refusal ≡ refusals.Damaged (schema_path x.schema_id) 0) × (snapshot_in id bytes ≡ Ok x)
    × (x.schema_id ≢ s.id))

-- why the entries of the next manifest are refused: one can't follow those before it, or the manifest is the last one,
-- and files that are live after it overlap
pub data RefusesEntries (r : ReadingView) (path : List ℕ) (own : List Entry) (refusal : Refusal) : Type 0 where
  disorder : (i : ℕ) → IsOutOfOrder (live_of r.files) own i → refusal ≡ refusals.Damaged path 0
      → RefusesEntries r path own refusal
  overlap : (live : Live) → AreInOrder (live_of r.files) own → Leaves (live_of r.files) own live → r.rest ≡ []
      → Overlaps r.sought.asked.schema live refusal → RefusesEntries r path own refusal

-- what the bytes of a file that was there reveal: that they are refused, those of the snapshot, of a list or of a
-- manifest
abbrev pub Reveals : Phase → Answer → Refusal → Type 0
Reveals (phases.Snapshot q id) (answers.Found (Some bytes)) refusal = IsBad q.asked.schema id bytes refusal
Reveals (phases.Base q x) (answers.Found (Some bytes)) refusal =
    MisreadsList (manifest_path x.base_list) bytes refusal
Reveals (phases.Delta q x base) (answers.Found (Some bytes)) refusal =
    MisreadsList (manifest_path x.delta_list) bytes refusal
Reveals (phases.Manifests r) (answers.Found (Some bytes)) refusal =
    MisreadsManifest r.sought.asked.schema (manifest_path r.next.name) bytes refusal
    ⊎ ((own : List Entry) × IsManifestOf r.sought.asked.schema (manifest_path r.next.name) bytes own
    × RefusesEntries r (manifest_path r.next.name) own refusal)
Reveals phase other refusal = ⊥

-- The refusal that an answer shows: the snapshot that is asked for is above the latest, or it is absent, or a file that
-- was there is refused. Memory may run out where names were listed, where a file was there, or where it is told which
-- one wasn't.
abbrev pub Shown : Phase → Answer → Refusal → Type 0
Shown (phases.List a) (answers.Listed names) refusal =
    (refusal ≡ refusals.Memory)
    ⊎ ((latest : ℕ) × (id : ℕ) × IsLatest names.items latest × IsAbove a.wanted latest id
    × (refusal ≡ refusals.NoSnapshot id latest))
Shown (phases.Origin q) (answers.Found None) refusal = refusal ≡ refusals.Expired 0
Shown (phases.Snapshot q id) (answers.Found None) refusal = refusal ≡ refusals.Expired id
Shown (phases.Again a id path) (answers.Found None) refusal = refusal ≡ refusals.Expired id
Shown (phases.Again a id path) (answers.Found (Some bytes)) refusal = refusal ≡ refusals.Damaged path 0
Shown (phases.Snapshot q id) (answers.Found (Some bytes)) refusal =
    (refusal ≡ refusals.Memory) ⊎ Reveals (phases.Snapshot q id) (answers.Found (Some bytes)) refusal
Shown (phases.Base q x) (answers.Found found) refusal =
    (refusal ≡ refusals.Memory) ⊎ Reveals (phases.Base q x) (answers.Found found) refusal
Shown (phases.Delta q x base) (answers.Found found) refusal =
    (refusal ≡ refusals.Memory) ⊎ Reveals (phases.Delta q x base) (answers.Found found) refusal
Shown (phases.Manifests r) (answers.Found found) refusal =
    (refusal ≡ refusals.Memory) ⊎ Reveals (phases.Manifests r) (answers.Found found) refusal
Shown phase other refusal = ⊥

-- ---- a reader within another machine

-- the phase with this reader, which it holds so; once the view is ready, what it goes on with
abbrev pub WithReader : {P : Type 0} → (Phase → P) → (View → P → Type 0) → Phase → P → Type 0
WithReader {P} hold Opens (phases.Ready v) later = Opens v later
WithReader {P} hold Opens m later = later ≡ hold m

-- the view is ready with the answer, and memory runs out before the machine goes on with it
abbrev pub FailsToOpen : (Phase → Type 0) → Phase → Answer → Refusal → Type 0
FailsToOpen Reads m answer refusal =
    (refusal ≡ refusals.Memory) × (v : View) × Reads (phases.Ready v) × Goes m answer (phases.Ready v)

-- the schema of the table that it reads is such a one
abbrev pub OfSchema : (TableSchema → Type 0) → Phase → Type 0
OfSchema Holds (phases.List a) = Holds a.schema
OfSchema Holds (phases.Origin q) = Holds q.asked.schema
OfSchema Holds (phases.Snapshot q id) = Holds q.asked.schema
OfSchema Holds (phases.Base q x) = Holds q.asked.schema
OfSchema Holds (phases.Delta q x base) = Holds q.asked.schema
OfSchema Holds (phases.Manifests r) = Holds r.sought.asked.schema
OfSchema Holds (phases.Again a id path) = Holds a.schema
OfSchema Holds (phases.Ready v) = Holds v.schema
OfSchema Holds phases.Over = Unit {0}
