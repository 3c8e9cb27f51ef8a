-- Which refusals a folder that stands can show a reader of a changelog, whatever others do between its calls.
use Rattle.std.proofs.Common.{◌≡◌, inl, inr, List, ◌++◌, None, Some, IfSome, sym, ◌∙◌, subst}
use Rattle.std.specs.List.{AllByRecursion}
use Rattle.pm_base.proofs.Laws.{AllByRecursion-parts}
use Rattle.pm_values.specs.declared.refusal.Refusal.{Refusal}
use Rattle.pm_store.specs.Answers.{Answers}
use Rattle.pm_store.specs.Files.{Files}
use Rattle.pm_store.specs.declared.answer.Answer.{Answer}
use Rattle.pm_store.specs.declared.answer.Answer.TheVariants as answers
use Rattle.pm_store.specs.declared.call.Call.{Call}
use Rattle.pm_machine.specs.Moves.{IsKept, Truthful}
use Rattle.pm_machine.specs.Running.{Refuses}
use Rattle.pm_machine.proofs.PhaseFacts.{truthful_of_spared}
use Rattle.pm_model_contents.specs.Lists.{IsChangelogEntry, IsManifest, manifest_path}
use Rattle.pm_model_contents.specs.Named.{changelog_list}
use Rattle.pm_model_folder.specs.Ledger.{Past, Stands}
use Rattle.pm_manifest.specs.declared.entry.Entry.{Entry}
use Rattle.pm_read_schema.specs.Beside.{IsTold}
use Rattle.pm_read_log.specs.LogMeaning.{Knows}
use Rattle.pm_read_log.specs.LogReader.{next_call, IsLogReader, Shown}
use Rattle.pm_read_table.specs.Meaning.{MayRefuse}
use Rattle.pm_read_log.specs.declared.log_phase.LogPhase.{LogPhase}
use Rattle.pm_read_log.specs.declared.log_phase.LogPhase.TheVariants as phases
use Rattle.pm_read_table.proofs.CauseLemmas.{OneManifest, at_call, bad_not, expired, gone_snapshot, list_reads, manifest_reads, may_tell, next_of, one_manifest, only_memory}
use Rattle.pm_read_table.proofs.Facts.{OneList, found_stood, stood_contents}
use Rattle.pm_read_table.proofs.FaultLemmas.{file_fault}
use Rattle.pm_read_log.proofs.LogFacts.{changelog_of, next_named, spares}

-- the entries of a manifest within a changelog are a changelog's
each_within : (before own after entries : List Entry) → entries ≡ before ++ (own ++ after) → AllByRecursion IsChangelogEntry entries → AllByRecursion IsChangelogEntry own
each_within before own after entries split each =
    let whole = subst (AllByRecursion IsChangelogEntry) split each in
    (AllByRecursion-parts IsChangelogEntry own after (AllByRecursion-parts IsChangelogEntry before (own ++ after) whole).1).0

cause_at : OneList → OneManifest → (m : LogPhase) (answer : Answer) (refusal : Refusal) (f : Files) (p : Past) → Shown m answer refusal → Stands f p → Knows m f p
    → IfSome (next_call m) (λ call. Answers call answer f → MayRefuse f p refusal)
cause_at lists manifests (phases.Snapshot a) (answers.Found None) refusal f p is stands (table, least, within, bound) = λ told.
    expired f p a.schema a.id refusal table bound (gone_snapshot f a.schema a.id least told) is
cause_at lists manifests (phases.Snapshot a) (answers.Found (Some bytes)) refusal f p (inl is) stands known = λ told. subst (MayRefuse f p) (sym is) tt
cause_at lists manifests (phases.Snapshot a) (answers.Found (Some bytes)) refusal f p (inr bad) stands (table, least, within, bound) = λ told.
    absurd (bad_not f p a.schema a.id bytes refusal stands table least within told bad)
cause_at lists manifests (phases.List a x list) (answers.Found found) refusal f p (inl is) stands known = λ told. subst (MayRefuse f p) (sym is) tt
cause_at lists manifests (phases.List a x list) (answers.Found None) refusal f p (inr none) stands known = λ told. absurd none
cause_at lists manifests (phases.List a x list) (answers.Found (Some bytes)) refusal f p (inr fault) stands (stood, id, named) = λ told.
    let c = stood_contents f p a.schema x stands stood in
    let own = changelog_of p a.schema x c.0 list c.1 named in
    only_memory f p refusal (file_fault _ _ (manifest_path list) bytes refusal fault)
    (list_reads lists (p.stood x.id) list bytes c.0.changelog refusal own.0
    (found_stood f p a.schema x stands stood c.0 c.1 (manifest_path list) (changelog_list list named) bytes told) fault)
cause_at lists manifests (phases.Manifests r) (answers.Found found) refusal f p (inl is) stands known = λ told. subst (MayRefuse f p) (sym is) tt
cause_at lists manifests (phases.Manifests r) (answers.Found None) refusal f p (inr none) stands known = λ told. absurd none
cause_at lists manifests (phases.Manifests r) (answers.Found (Some bytes)) refusal f p (inr (inl fault)) stands (stood, id, reading) = λ told.
    let c = stood_contents f p r.asked.schema r.snapshot stands stood in
    let named = next_named lists p r c.0 c.1 reading in
    let n = next_of (p.stood r.snapshot.id) r.asked.schema r.done r.next r.rest c.0.changes named.2 in
    only_memory f p refusal (file_fault _ _ (manifest_path r.next.name) bytes refusal fault)
    (manifest_reads manifests (p.stood r.snapshot.id) r.asked.schema r.next.name bytes n.own refusal n.is
    (found_stood f p r.asked.schema r.snapshot stands stood c.0 c.1 (manifest_path r.next.name) named.0 bytes told) fault)
cause_at lists manifests (phases.Manifests r) (answers.Found (Some bytes)) refusal f p (inr (inr (own, reads, other, is))) stands (stood, id, reading) = λ told.
    let c = stood_contents f p r.asked.schema r.snapshot stands stood in
    let named = next_named lists p r c.0 c.1 reading in
    let n = next_of (p.stood r.snapshot.id) r.asked.schema r.done r.next r.rest c.0.changes named.2 in
    let file : IsManifest (p.stood r.snapshot.id) r.asked.schema r.next.name own = record {
      bytes = bytes;
      there = found_stood f p r.asked.schema r.snapshot stands stood c.0 c.1 (manifest_path r.next.name) named.0 bytes told;
      read = reads;
    } in
    let same = one_manifest manifests (p.stood r.snapshot.id) r.asked.schema r.next.name n.own own n.is file in
    let all = (changelog_of p r.asked.schema r.snapshot c.0 reading.0 c.1 reading.2).2 in
    absurd (other (subst (AllByRecursion IsChangelogEntry) same (each_within n.before n.own n.after c.0.changes n.split all)))
cause_at lists manifests (phases.Again a path) (answers.Found None) refusal f p is stands gone = λ told.
    expired f p a.schema a.id refusal gone.table gone.known.to (gone_snapshot f a.schema a.id gone.known.after_origin told) is
cause_at lists manifests (phases.Again a path) (answers.Found (Some bytes)) refusal f p is stands gone = λ told.
    absurd (let clash : Some bytes ≡ None = told ∙ gone.absent in cc)
cause_at lists manifests m answer refusal f p shown stands known = absurd shown

pub causes : OneList → OneManifest → (m : LogPhase) (call : Call) (answer : Answer) (refusal : Refusal) (f : Files) (p : Past) → Stands f p → Knows m f p
    → next_call m ≡ Some call → Answers call answer f → Shown m answer refusal → MayRefuse f p refusal
causes lists manifests m call answer refusal f p stands known at told shown =
    at_call (next_call m) call (λ call. Answers call answer f → MayRefuse f p refusal) at (cause_at lists manifests m answer refusal f p shown stands known) told

-- what a refusal tells
pub truthful : OneList → OneManifest → Truthful next_call IsLogReader (Refuses Shown phases.Over) Stands (λ m. IsKept) Knows IsTold
truthful lists manifests = truthful_of_spared next_call IsLogReader Shown phases.Over Stands Knows IsTold spares
    (λ m call answer refusal f p held stands known is told shown.
    may_tell refusal f p (causes lists manifests m call answer refusal f p stands known is told shown))
    (λ f p. tt) (λ path f p. tt)
