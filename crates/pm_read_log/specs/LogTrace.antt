-- The own calls of a reader of a changelog, and what they show.
use Rattle.std.specs.Prelude.{◌≡◌, ◌≢◌, ℕ, List, [], ◌∷◌, ◌++◌, Option, None, Some, Ok, Err}
use Rattle.std.specs.List.{AllByRecursion}
use Rattle.pm_values.specs.declared.refusal.Refusal.{Refusal}
use Rattle.pm_values.specs.declared.refusal.Refusal.TheVariants as refusals
use Rattle.pm_store.specs.declared.answer.Answer.{Answer}
use Rattle.pm_store.specs.declared.answer.Answer.TheVariants as answers
use Rattle.pm_machine.specs.Trace.{Event, IsFailed, MayEnd}
use Rattle.pm_snapshot.specs.Snapshot.{snapshot_in}
use Rattle.pm_snapshot.specs.declared.fault.SnapFault.TheVariants as faults
use Rattle.pm_snapshot.specs.declared.snapshot.Snapshot.{Snapshot}
use Rattle.pm_model_folder.specs.Paths.{schema_path, snapshot_path}
use Rattle.pm_manifest.specs.declared.entry.Entry.{Entry}
use Rattle.pm_manifest.specs.declared.entry.ManifestMeta.{ManifestMeta}
use Rattle.pm_model_contents.specs.Lists.{IsChangelogEntry, manifest_path}
use Rattle.pm_read_log.specs.Log.{IsLogOf, LogAskedView}
use Rattle.pm_read_log.specs.LogReader.{next_call}
use Rattle.pm_read_table.specs.Reader.{IsListOf, IsManifestOf, MisreadsList, MisreadsManifest}
use Rattle.pm_read_table.specs.Trace.{HaveRead, read_file}
use Rattle.pm_read_log.specs.declared.log.Log.{Log}
use Rattle.pm_read_log.specs.declared.log_phase.LogPhase.{LogPhase}
use Rattle.pm_read_log.specs.declared.log_phase.LogPhase.TheVariants as phases

-- ---- how far the calls have come

-- this was found at the path of the snapshot
abbrev pub Reads : LogAskedView → Option (List ℕ) → List Event → Type 0
Reads a found own = own ≡ read_file (snapshot_path a.id) found ∷ []

-- which is this snapshot's, and names the table's schema
abbrev pub Has : LogAskedView → Snapshot → List Event → Type 0
Has a x own =
    (bytes : List ℕ) × (snapshot_in a.id bytes ≡ Ok x) × (x.schema_id ≡ a.schema.id) × Reads a (Some bytes) own

-- it has a changelog list of this name
abbrev pub HasName : LogAskedView → Snapshot → List ℕ → List Event → Type 0
HasName a x list own = Has a x own × (x.changelog_list ≡ Some list)

-- and this was found at its path
abbrev pub FindsList : LogAskedView → Snapshot → List ℕ → Option (List ℕ) → List Event → Type 0
FindsList a x list found own =
    (earlier : List Event) × HasName a x list earlier × (own ≡ earlier ++ read_file (manifest_path list) found ∷ [])

-- The manifests of the list are those that were read and those that are left. Those that were read have these entries,
-- each of which is a changelog's.
pub record HasPart (a : LogAskedView) (x : Snapshot) (done rest : List ManifestMeta) (changes : List Entry)
    (own : List Event) : Type 0 where
  pub list : List ℕ
  pub bytes : List ℕ
  pub lists : List Event
  pub reads : List Event
  pub listed : IsListOf (manifest_path list) bytes (done ++ rest)
  pub found : FindsList a x list (Some bytes) lists
  pub read : HaveRead a.schema done changes reads
  pub each : AllByRecursion IsChangelogEntry changes
  pub is : own ≡ lists ++ reads

-- and this was found at the path of the next
abbrev pub FindsNext : LogAskedView → Snapshot → List ManifestMeta → ManifestMeta → List ManifestMeta → List Entry
    → Option (List ℕ) → List Event → Type 0
FindsNext a x done meta rest changes found own =
    (earlier : List Event) × HasPart a x done (meta ∷ rest) changes earlier
    × (own ≡ earlier ++ read_file (manifest_path meta.name) found ∷ [])

-- all manifests of the changelog were read, and these are its entries; or the snapshot has none
pub data HasLog (a : LogAskedView) (l : Log) (own : List Event) : Type 0 where
  without : (x : Snapshot) → x.changelog_list ≡ None → Has a x own → IsLogOf a.schema x [] [] l → HasLog a l own
  of_list : (x : Snapshot) (metas : List ManifestMeta) (changes : List Entry) → HasPart a x metas [] changes own
      → IsLogOf a.schema x metas changes l → HasLog a l own

-- a file that the snapshot names was found absent at the path: the list, or a manifest
pub data LacksFile (a : LogAskedView) (path : List ℕ) (own : List Event) : Type 0 where
  lacks_list : (x : Snapshot) (list : List ℕ) → path ≡ manifest_path list → FindsList a x list None own
      → LacksFile a path own
  lacks_manifest : (x : Snapshot) (done : List ManifestMeta) (meta : ManifestMeta) (rest : List ManifestMeta)
      (changes : List Entry) → path ≡ manifest_path meta.name → FindsNext a x done meta rest changes None own
      → LacksFile a path own

-- and then this was found at the path of the snapshot
abbrev pub ReadsAgain : LogAskedView → List ℕ → Option (List ℕ) → List Event → Type 0
ReadsAgain a path found own =
    (earlier : List Event) × LacksFile a path earlier × (own ≡ earlier ++ read_file (snapshot_path a.id) found ∷ [])

-- ---- what they show

-- the bytes of the list or of a manifest have this fault
pub data Misreads (a : LogAskedView) (refusal : Refusal) (own : List Event) : Type 0 where
  misreads_list : (x : Snapshot) (list bytes : List ℕ) → MisreadsList (manifest_path list) bytes refusal
      → FindsList a x list (Some bytes) own → Misreads a refusal own
  misreads_manifest : (x : Snapshot) (done : List ManifestMeta) (meta : ManifestMeta) (rest : List ManifestMeta)
      (changes : List Entry) (bytes : List ℕ) → MisreadsManifest a.schema (manifest_path meta.name) bytes refusal
      → FindsNext a x done meta rest changes (Some bytes) own → Misreads a refusal own

-- its calls so far, by its phase before its end, where this was asked
abbrev pub DidSoFar : LogAskedView → LogPhase → List Event → Type 0
DidSoFar a (phases.Snapshot b) own = (b ≡ a) × (own ≡ [])
DidSoFar a (phases.List b x list) own = (b ≡ a) × HasName b x list own
DidSoFar a (phases.Manifests r) own =
    (r.asked ≡ a) × HasPart r.asked r.snapshot r.done (r.next ∷ r.rest) r.changes own
DidSoFar a (phases.Again b path) own = (b ≡ a) × LacksFile b path own
DidSoFar a (phases.Ready l) own = HasLog a l own
DidSoFar a phases.Over own = ⊥

-- What follows the answer may take memory: neither where the snapshot is absent nor, where a file that it names is,
-- once it was read again.
abbrev pub MayTakeMemory : LogPhase → Answer → Type 0
MayTakeMemory (phases.Snapshot a) (answers.Found (Some bytes)) = Unit {0}
MayTakeMemory (phases.List a x list) answer = Unit {0}
MayTakeMemory (phases.Manifests r) answer = Unit {0}
MayTakeMemory m answer = ⊥

-- the snapshot was found absent at its first read, or at its second after a file that it names
pub data IsGone (a : LogAskedView) (own : List Event) : Type 0 where
  gone_first : Reads a None own → IsGone a own
  gone_again : (path : List ℕ) → ReadsAgain a path None own → IsGone a own

-- A file is damaged, at the offset: the snapshot's, whose bytes are none; the schema's, where the snapshot names
-- another one than the table's; one that the snapshot names and that is absent, and the snapshot still stands; the list
-- or a manifest, whose bytes have this fault; or a manifest with an entry that no changelog has.
pub data IsDamaged (a : LogAskedView) (path : List ℕ) (place : ℕ) (own : List Event) : Type 0 where
  bad_snapshot : (bytes : List ℕ) → path ≡ snapshot_path a.id → place ≡ 0 → snapshot_in a.id bytes ≡ Err faults.Bad
      → Reads a (Some bytes) own → IsDamaged a path place own
  bad_schema : (x : Snapshot) (bytes : List ℕ) → path ≡ schema_path x.schema_id → place ≡ 0
      → snapshot_in a.id bytes ≡ Ok x → x.schema_id ≢ a.schema.id → Reads a (Some bytes) own
      → IsDamaged a path place own
  is_absent : (bytes : List ℕ) → place ≡ 0 → ReadsAgain a path (Some bytes) own → IsDamaged a path place own
  is_misread : Misreads a (refusals.Damaged path place) own → IsDamaged a path place own
  has_other : (x : Snapshot) (done : List ManifestMeta) (meta : ManifestMeta) (rest : List ManifestMeta)
      (changes own_entries : List Entry) (bytes : List ℕ) → path ≡ manifest_path meta.name → place ≡ 0
      → IsManifestOf a.schema path bytes own_entries → (AllByRecursion IsChangelogEntry own_entries → ⊥)
      → FindsNext a x done meta rest changes (Some bytes) own → IsDamaged a path place own

-- which calls show a refusal
abbrev pub Shows : LogAskedView → Refusal → List Event → Type 0
Shows a refusals.Memory own = MayEnd next_call (DidSoFar a) MayTakeMemory own
Shows a (refusals.StoreFault path) own = IsFailed next_call (DidSoFar a) path own
Shows a (refusals.Expired id) own = (id ≡ a.id) × IsGone a own
Shows a (refusals.Damaged path place) own = IsDamaged a path place own
Shows a (refusals.Unsupported what text) own = Misreads a (refusals.Unsupported what text) own
Shows a other own = ⊥

-- its calls so far, by its phase, where this was asked: at its end they show a refusal
abbrev pub Did : LogAskedView → LogPhase → List Event → Type 0
Did a phases.Over own = (refusal : Refusal) × Shows a refusal own
Did a m own = DidSoFar a m own
