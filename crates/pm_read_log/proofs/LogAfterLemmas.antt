-- What a reader of a changelog goes on with after an answer, and what it refuses, by what the parts of the code say.
use Rattle.std.proofs.Common.{◌≡◌, ◌⊎◌, inl, inr, ℕ, ◌≤◌, List, [], length, Option, None, Some, Ok, sym, subst, ◌∙◌}
use Rattle.std.specs.List.{AllByRecursion}
use Rattle.pm_values.specs.declared.refusal.Refusal.{Refusal}
use Rattle.pm_values.specs.declared.refusal.Refusal.TheVariants as refusals
use Rattle.pm_store.specs.declared.answer.Answer.TheVariants as answers
use Rattle.pm_record.specs.File.{ReadsFile}
use Rattle.pm_schema.specs.Again.{IsDeclared}
use Rattle.pm_schema.specs.Folder.{FitsPartition}
use Rattle.pm_schema.specs.declared.schema.TableSchema.{TableSchema}
use Rattle.pm_snapshot.specs.declared.snapshot.Snapshot.{Snapshot}
use Rattle.pm_manifest.specs.Entries.{IsEntry, entry_in, has_entry_fields}
use Rattle.pm_manifest.specs.Listed.{has_meta_fields, meta_in}
use Rattle.pm_manifest.specs.Shape.{Shape, shape_of}
use Rattle.pm_manifest.specs.declared.entry.Entry.{Entry}
use Rattle.pm_manifest.specs.declared.entry.ManifestMeta.{ManifestMeta}
use Rattle.pm_model_contents.specs.Lists.{IsChangelogEntry, manifest_path}
use Rattle.pm_read_log.specs.Log.{LogAskedView, LogReadingView}
use Rattle.pm_read_table.specs.View.{HaveGroups}
use Rattle.pm_read_log.specs.LogReader.{Goes, GoesOn, Opens, Shown, TakesOwn}
use Rattle.pm_read_table.specs.Reader.{most, IsListOf, IsManifestOf, MisreadsManifest}
use Rattle.pm_read_log.specs.declared.log_phase.LogPhase.{LogPhase}
use Rattle.pm_read_log.specs.declared.log_phase.LogPhase.TheVariants as phases

pub opens_none : (a : LogAskedView) (x : Snapshot) (o : Option (List ℕ)) (done : List ManifestMeta) (changes : List Entry) (later : LogPhase) → o ≡ None → done ≡ []
    → changes ≡ [] → GoesOn a x done [] changes later → Opens a x o later
opens_none a x o done changes later none first empty on =
    subst (λ (o : Option (List ℕ)). Opens a x o later) (sym none)
    (subst (λ (es : List Entry). GoesOn a x [] [] es later) empty (subst (λ (ms : List ManifestMeta). GoesOn a x ms [] changes later) first on))

pub list_goes : (a : LogAskedView) (x : Snapshot) (list : List ℕ) (found : Option (List ℕ)) (path bytes : List ℕ) (metas : List ManifestMeta) (later : LogPhase)
    → path ≡ manifest_path list → found ≡ Some bytes → ReadsFile has_meta_fields meta_in path bytes (Ok metas) → length metas ≤ most → GoesOn a x [] metas [] later
    → Goes (phases.List a x list) (answers.Found found) later
list_goes a x list found path bytes metas later at is reads within on =
    subst (λ (o : Option (List ℕ)). Goes (phases.List a x list) (answers.Found o) later) (sym is)
    (metas, subst (λ (path : List ℕ). IsListOf path bytes metas) at reads, within, on)

manifest_of : (r : LogReadingView) (s : TableSchema) (path bytes : List ℕ) (own : List Entry) → path ≡ manifest_path r.next.name → s ≡ r.asked.schema
    → IsManifestOf s path bytes own → IsManifestOf r.asked.schema (manifest_path r.next.name) bytes own
manifest_of r s path bytes own at same reads =
    subst (λ (path : List ℕ). IsManifestOf r.asked.schema path bytes own) at (subst (λ (s : TableSchema). IsManifestOf s path bytes own) same reads)

pub file_goes : (r : LogReadingView) (s : TableSchema) (path bytes : List ℕ) (own : List Entry) (later : LogPhase) → path ≡ manifest_path r.next.name
    → s ≡ r.asked.schema → IsManifestOf s path bytes own → TakesOwn r own later → Goes (phases.Manifests r) (answers.Found (Some bytes)) later
file_goes r s path bytes own later at same reads takes = (own, manifest_of r s path bytes own at same reads, takes)

pub file_shown : (r : LogReadingView) (s : TableSchema) (text path bytes : List ℕ) (own : List Entry) (refusal : Refusal) → text ≡ path
    → path ≡ manifest_path r.next.name → s ≡ r.asked.schema → IsManifestOf s text bytes own
    → (refusal ≡ refusals.Memory) ⊎ ((AllByRecursion IsChangelogEntry own → ⊥) × (refusal ≡ refusals.Damaged path 0))
    → Shown (phases.Manifests r) (answers.Found (Some bytes)) refusal
file_shown r s text path bytes own refusal as_path at same reads (inl memory) = inl memory
file_shown r s text path bytes own refusal as_path at same reads (inr (other, is)) =
    inr (inr (own, manifest_of r s text bytes own (as_path ∙ at) same reads, other, subst (λ (path : List ℕ). refusal ≡ refusals.Damaged path 0) at is))

pub file_misread : (r : LogReadingView) (s : TableSchema) (path bytes : List ℕ) (refusal : Refusal) → path ≡ manifest_path r.next.name → s ≡ r.asked.schema
    → MisreadsManifest s path bytes refusal → Shown (phases.Manifests r) (answers.Found (Some bytes)) refusal
file_misread r s path bytes refusal at same bad =
    inr (inl (subst (λ (path : List ℕ). MisreadsManifest r.asked.schema path bytes refusal) at
    (subst (λ (s : TableSchema). MisreadsManifest s path bytes refusal) same bad)))

-- entries of a manifest of the table are of its groups
pub groups_of : (r : LogReadingView) (s : TableSchema) (path bytes : List ℕ) (own : List Entry) → s ≡ r.asked.schema → IsDeclared s
    → ((shape : Shape) (path bytes : List ℕ) (es : List Entry) → ReadsFile has_entry_fields (entry_in shape) path bytes (Ok es)
    → AllByRecursion (IsEntry shape) es)
    → ((s : TableSchema) (es : List Entry) → IsDeclared s → AllByRecursion (IsEntry (shape_of s)) es
    → AllByRecursion (λ (e : Entry). FitsPartition s e.group) es)
    → IsManifestOf s path bytes own → HaveGroups r.asked.schema own
groups_of r s path bytes own same declared manifest entries reads =
    subst (λ (s : TableSchema). HaveGroups s own) same (entries s own declared (manifest (shape_of s) path bytes own reads))
