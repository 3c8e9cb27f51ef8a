-- A reader of a changelog: its phases, its calls, and what each answer leads to.
use Rattle.std.specs.Prelude.{◌≡◌, ◌⊎◌, ℕ, ◌+◌, ◌≤◌, List, [], ◌∷◌, ◌++◌, length, Option, None, Some, Ok}
use Rattle.std.specs.List.{AllByRecursion}
use Rattle.pm_values.specs.declared.refusal.Refusal.{Refusal}
use Rattle.pm_values.specs.declared.refusal.Refusal.TheVariants as refusals
use Rattle.pm_store.specs.declared.answer.Answer.{Answer}
use Rattle.pm_store.specs.declared.answer.Answer.TheVariants as answers
use Rattle.pm_store.specs.declared.call.Call.{Call}
use Rattle.pm_store.specs.declared.call.Call.TheVariants as calls
use Rattle.pm_snapshot.specs.Snapshot.{snapshot_in}
use Rattle.pm_snapshot.specs.declared.snapshot.Snapshot.{Snapshot}
use Rattle.pm_model_folder.specs.Paths.{snapshot_path}
use Rattle.pm_manifest.specs.declared.entry.Entry.{Entry}
use Rattle.pm_manifest.specs.declared.entry.ManifestMeta.{ManifestMeta}
use Rattle.pm_model_contents.specs.Lists.{IsChangelogEntry, manifest_path}
use Rattle.pm_read_log.specs.Log.{IsLogOf, LogAskedView, LogReadingView, log_reading_of}
use Rattle.pm_read_table.specs.View.{HaveGroups}
use Rattle.pm_read_table.specs.Reader.{most, IsBad, IsListOf, IsManifestOf, MisreadsList, MisreadsManifest}
use Rattle.pm_read_log.specs.declared.log.Log.{Log}
use Rattle.pm_read_log.specs.declared.log_phase.LogPhase.{LogPhase}
use Rattle.pm_read_log.specs.declared.log_phase.LogPhase.TheVariants as phases

-- ---- its calls

-- its next call, or none at its end
abbrev pub next_call : LogPhase → Option Call
next_call (phases.Snapshot a) = Some (calls.Read (snapshot_path a.id))
next_call (phases.List a x list) = Some (calls.Read (manifest_path list))
next_call (phases.Manifests r) = Some (calls.Read (manifest_path r.next.name))
next_call (phases.Again a path) = Some (calls.Read (snapshot_path a.id))
next_call (phases.Ready l) = None
next_call phases.Over = None

-- how many calls are left at most, where no refusal comes
abbrev pub calls_left : LogPhase → ℕ
calls_left (phases.Snapshot a) = most + 3
calls_left (phases.List a x list) = most + 2
calls_left (phases.Manifests r) = length r.rest + 2
calls_left (phases.Again a path) = 1
calls_left (phases.Ready l) = 0
calls_left phases.Over = 0

-- a changelog that is there can be read: its files have paths
abbrev pub IsLogReader : LogPhase → Type 0
IsLogReader (phases.Ready l) = HaveGroups l.schema l.changes.items
IsLogReader other = Unit {0}

-- the changelog is there to be taken
abbrev pub IsReady : LogPhase → Type 0
IsReady (phases.Ready l) = Unit {0}
IsReady other = ⊥

-- ---- what answers lead to

-- the manifests that were read, with the entries of these, and those that are left: the next of these is to be read, or
-- the changelog is ready
abbrev pub GoesOn : LogAskedView → Snapshot → List ManifestMeta → List ManifestMeta → List Entry → LogPhase → Type 0
GoesOn a x done [] changes later = (l : Log) × IsLogOf a.schema x done changes l × (later ≡ phases.Ready l)
GoesOn a x done (meta ∷ rest) changes later = later ≡ phases.Manifests (log_reading_of a x done meta rest changes)

-- the snapshot was read, which has this changelog list, or none, and then no changelog
abbrev pub Opens : LogAskedView → Snapshot → Option (List ℕ) → LogPhase → Type 0
Opens a x None later = GoesOn a x [] [] [] later
Opens a x (Some list) later = later ≡ phases.List a x list

-- the next manifest has these entries, each of which is a changelog's
abbrev pub TakesOwn : LogReadingView → List Entry → LogPhase → Type 0
TakesOwn r own later =
    AllByRecursion IsChangelogEntry own
    × GoesOn r.asked r.snapshot (r.done ++ r.next ∷ []) r.rest (r.changes ++ own) later

-- the phase after an answer that it goes on with
abbrev pub Goes : LogPhase → Answer → LogPhase → Type 0
Goes (phases.Snapshot a) (answers.Found (Some bytes)) later =
    (x : Snapshot) × (snapshot_in a.id bytes ≡ Ok x) × (x.schema_id ≡ a.schema.id) × Opens a x x.changelog_list later
Goes (phases.List a x list) (answers.Found None) later = later ≡ phases.Again a (manifest_path list)
Goes (phases.List a x list) (answers.Found (Some bytes)) later =
    (metas : List ManifestMeta) × IsListOf (manifest_path list) bytes metas × (length metas ≤ most)
    × GoesOn a x [] metas [] later
Goes (phases.Manifests r) (answers.Found None) later = later ≡ phases.Again r.asked (manifest_path r.next.name)
Goes (phases.Manifests r) (answers.Found (Some bytes)) later =
    (own : List Entry) × IsManifestOf r.asked.schema (manifest_path r.next.name) bytes own × TakesOwn r own later
Goes phase other later = ⊥

-- the manifest has an entry that no changelog has
abbrev pub HasOther : LogReadingView → List ℕ → Refusal → Type 0
HasOther r bytes refusal =
    (own : List Entry) × IsManifestOf r.asked.schema (manifest_path r.next.name) bytes own
    × (AllByRecursion IsChangelogEntry own → ⊥) × (refusal ≡ refusals.Damaged (manifest_path r.next.name) 0)

-- what the bytes of a file that was there reveal: that they are refused, those of the snapshot, of the list or of a
-- manifest
abbrev pub Reveals : LogPhase → Answer → Refusal → Type 0
Reveals (phases.Snapshot a) (answers.Found (Some bytes)) refusal = IsBad a.schema a.id bytes refusal
Reveals (phases.List a x list) (answers.Found (Some bytes)) refusal = MisreadsList (manifest_path list) bytes refusal
Reveals (phases.Manifests r) (answers.Found (Some bytes)) refusal =
    MisreadsManifest r.asked.schema (manifest_path r.next.name) bytes refusal ⊎ HasOther r bytes refusal
Reveals phase other refusal = ⊥

-- The refusal that an answer shows: the snapshot is absent, or a file that was there is refused. Memory may run out
-- where a file was there, or where it is told which one wasn't.
abbrev pub Shown : LogPhase → Answer → Refusal → Type 0
Shown (phases.Snapshot a) (answers.Found None) refusal = refusal ≡ refusals.Expired a.id
Shown (phases.Snapshot a) (answers.Found (Some bytes)) refusal =
    (refusal ≡ refusals.Memory) ⊎ Reveals (phases.Snapshot a) (answers.Found (Some bytes)) refusal
Shown (phases.List a x list) (answers.Found found) refusal =
    (refusal ≡ refusals.Memory) ⊎ Reveals (phases.List a x list) (answers.Found found) refusal
Shown (phases.Manifests r) (answers.Found found) refusal =
    (refusal ≡ refusals.Memory) ⊎ Reveals (phases.Manifests r) (answers.Found found) refusal
Shown (phases.Again a path) (answers.Found None) refusal = refusal ≡ refusals.Expired a.id
Shown (phases.Again a path) (answers.Found (Some bytes)) refusal = refusal ≡ refusals.Damaged path 0
Shown phase other refusal = ⊥
