-- A reader of a changelog keeps the laws of machines.
use Rattle.std.proofs.Common.{◌≡◌, ◌⊎◌, inl, inr, ℕ, ◌<◌, ◌+◌, suc, List, [], ◌∷◌, ◌++◌, length, Option, None, Some, IsSome, IfSome, Contains, refl, sym, ap, ◌∙◌, subst, arith, append_assoc}
use Rattle.std.specs.List.{AllByRecursion}
use Rattle.std.proofs.lemmas.List.{append-nil}
use Rattle.std.proofs.lemmas.List.Elements.{Contains-append_right}
use Rattle.pm_base.proofs.Laws.{AllByRecursion-append}
use Rattle.pm_values.specs.declared.refusal.Refusal.{Refusal}
use Rattle.pm_values.specs.declared.refusal.Refusal.TheVariants as refusals
use Rattle.pm_store.specs.declared.answer.Answer.{Answer}
use Rattle.pm_store.specs.declared.answer.Answer.TheVariants as answers
use Rattle.pm_store.specs.declared.call.Call.{Call}
use Rattle.pm_store.specs.declared.call.Call.TheVariants as calls
use Rattle.pm_store.specs.Answers.{Answers, MayAnswer}
use Rattle.pm_store.specs.Files.{Files}
use Rattle.pm_store.specs.Images.{MayLeave}
use Rattle.pm_machine.specs.Moves.{IsKept, Sound}
use Rattle.pm_machine.specs.Running.{Refuses, Stops}
use Rattle.pm_machine.specs.Trace.{Event, Recounts, after_answer, answered}
use Rattle.pm_machine.proofs.PhaseFacts.{Spares, image_spared, recounts_of, sound_of_spared}
use Rattle.pm_schema.specs.declared.schema.TableSchema.{TableSchema}
use Rattle.pm_snapshot.specs.declared.snapshot.Snapshot.{Snapshot}
use Rattle.pm_snapshot.proofs.Facts.{id_same}
use Rattle.pm_model_folder.specs.Changes.{Actor}
use Rattle.pm_model_folder.specs.Ledger.{Advances, Past, Stands}
use Rattle.pm_model_folder.specs.Paths.{schema_path, snapshot_path}
use Rattle.pm_model_folder.proofs.Facts.{goes_on}
use Rattle.pm_read_schema.proofs.Facts.{read_effect}
use Rattle.pm_paths.proofs.ListLemmas.{here}
use Rattle.pm_manifest.specs.declared.entry.Entry.{Entry}
use Rattle.pm_manifest.specs.declared.entry.ManifestMeta.{ManifestMeta}
use Rattle.pm_model_contents.specs.Named.{Contents, HasContents, IsNamed, changelog_list, manifest}
use Rattle.pm_model_contents.specs.Lists.{HasChangelog, HaveEntries, IsChangelogEntry, IsList, IsManifest, manifest_path}
use Rattle.pm_read_log.specs.Log.{IsLogOf, LogAskedView, LogReadingView}
use Rattle.pm_read_log.specs.LogMeaning.{IsLogIn, IsReadingOf, Knows}
use Rattle.pm_read_log.specs.LogReader.{calls_left, next_call, Goes, GoesOn, IsLogReader, IsReady, Opens, Shown}
use Rattle.pm_read_log.specs.LogTrace.{Did, DidSoFar, FindsList, Has, HasLog, HasPart, IsDamaged, MayTakeMemory, Misreads, Shows, bad_schema, bad_snapshot, gone_again, gone_first, has_other, is_absent, is_misread, lacks_list, lacks_manifest, misreads_list, misreads_manifest, of_list, without}
use Rattle.pm_read_table.specs.Meaning.{HasGone, Stood}
use Rattle.pm_read_table.specs.Reader.{most, IsListOf, IsManifestOf}
use Rattle.pm_read_table.specs.Trace.{read_file}
use Rattle.pm_read_log.specs.declared.log.Log.{Log}
use Rattle.pm_read_log.specs.declared.log_phase.LogPhase.{LogPhase}
use Rattle.pm_read_log.specs.declared.log_phase.LogPhase.TheVariants as phases
use Rattle.pm_read_table.proofs.Facts.{OneList, damaged_other, entries_push, expired_other, fault_other, found_stood, gone_now, gone_still, have_at, memory_other, one_list, read_push, some_there, stood_contents, stood_new, stood_still, table_still}
use Rattle.pm_read_table.proofs.FaultLemmas.{IsFileFault, file_fault}
use Rattle.pm_read_table.proofs.ListedLemmas.{count_grows}

-- ---- its calls change nothing

pub spares : (m : LogPhase) (f : Files) → IfSome (next_call m) (Spares f)
spares (phases.Snapshot a) f = λ effect. read_effect (snapshot_path a.id) effect f
spares (phases.List a x list) f = λ effect. read_effect (manifest_path list) effect f
spares (phases.Manifests r) f = λ effect. read_effect (manifest_path r.next.name) effect f
spares (phases.Again a path) f = λ effect. read_effect (snapshot_path a.id) effect f
spares (phases.Ready l) f = tt
spares phases.Over f = tt

-- ---- what it knows

log_in : (p : Past) (s : TableSchema) (x : Snapshot) (changes : List Entry) (l : Log) (metas : List ManifestMeta) → IsLogOf s x metas changes l → Stood p s x
    → HasChangelog (p.stood x.id) s x.changelog_list metas changes → IsLogIn p l
log_in p s x changes l metas is stood has =
    subst (λ (s : TableSchema). Stood p s l.snapshot × HasChangelog (p.stood l.snapshot.id) s l.snapshot.changelog_list l.manifests.items l.changes.items) (sym is.schema)
    (subst (λ (y : Snapshot). Stood p s y × HasChangelog (p.stood y.id) s y.changelog_list l.manifests.items l.changes.items) (sym is.snapshot)
    (subst (λ (ms : List ManifestMeta). Stood p s x × HasChangelog (p.stood x.id) s x.changelog_list ms l.changes.items) (sym is.manifests)
    (subst (λ (es : List Entry). Stood p s x × HasChangelog (p.stood x.id) s x.changelog_list metas es) (sym is.entries) (stood, has))))

-- the changelog list that a snapshot names is known with what it named
pub changelog_of : (p : Past) (s : TableSchema) (x : Snapshot) (c : Contents) (list : List ℕ) → HasContents (p.stood x.id) s x c → x.changelog_list ≡ Some list
    → IsList (p.stood x.id) list c.changelog × HaveEntries (p.stood x.id) s c.changelog c.changes × AllByRecursion IsChangelogEntry c.changes
changelog_of p s x c list has is = subst (λ (o : Option (List ℕ)). HasChangelog (p.stood x.id) s o c.changelog c.changes) is has.changelog

-- what is known once manifests were read
knows_on : (f : Files) (p : Past) (a : LogAskedView) (x : Snapshot) (done rest : List ManifestMeta) (changes : List Entry) (new : LogPhase) (list : List ℕ) (metas : List ManifestMeta)
    → GoesOn a x done rest changes new → Stood p a.schema x → x.id ≡ a.id → x.changelog_list ≡ Some list → IsList (p.stood x.id) list metas → metas ≡ done ++ rest
    → HaveEntries (p.stood x.id) a.schema done changes → AllByRecursion IsChangelogEntry changes → Knows new f p
knows_on f p a x done [] changes new list metas (l, log, is) stood id named listed parts have each =
    let whole : metas ≡ done = parts ∙ append-nil done in
    let own : IsList (p.stood x.id) list done = subst (IsList (p.stood x.id) list) whole listed in
    subst (λ (m : LogPhase). Knows m f p) (sym is) (log_in p a.schema x changes l done log stood
    (subst (λ (o : Option (List ℕ)). HasChangelog (p.stood x.id) a.schema o done changes) (sym named) (own, have, each)))
knows_on f p a x done (meta ∷ rest) changes new list metas is stood id named listed parts have each =
    subst (λ (m : LogPhase). Knows m f p) (sym is) (stood, id, (list, metas, named, listed, parts, have, each))

pub opens_known : (f : Files) (p : Past) (a : LogAskedView) (x : Snapshot) (o : Option (List ℕ)) (new : LogPhase) → x.changelog_list ≡ o → Opens a x o new → Stood p a.schema x
    → x.id ≡ a.id → Knows new f p
opens_known f p a x None new none (l, log, is) stood id =
    subst (λ (m : LogPhase). Knows m f p) (sym is) (log_in p a.schema x [] l [] log stood
    (subst (λ (o : Option (List ℕ)). HasChangelog (p.stood x.id) a.schema o [] []) (sym none) (refl, refl)))
opens_known f p a x (Some list) new named is stood id = subst (λ (m : LogPhase). Knows m f p) (sym is) (stood, id, named)

-- the next manifest is one of the snapshot's
pub next_named : OneList → (p : Past) (r : LogReadingView) (c : Contents) → HasContents (p.stood r.snapshot.id) r.asked.schema r.snapshot c → IsReadingOf (p.stood r.snapshot.id) r
    → IsNamed r.asked.schema r.snapshot c (manifest_path r.next.name) × (c.changelog ≡ r.done ++ r.next ∷ r.rest)
    × HaveEntries (p.stood r.snapshot.id) r.asked.schema (r.done ++ r.next ∷ r.rest) c.changes
next_named law p r c has (list, metas, named, listed, parts, have, each) =
    let g : Files = p.stood r.snapshot.id in
    let own = changelog_of p r.asked.schema r.snapshot c list has named in
    let whole : c.changelog ≡ r.done ++ r.next ∷ r.rest = one_list law g list c.changelog metas own.0 listed ∙ parts in
    let lists : Contains c.changelog r.next = subst (λ (metas : List ManifestMeta). Contains metas r.next) (sym whole)
    (Contains-append_right r.done (r.next ∷ r.rest) r.next (here r.next r.rest)) in (
      manifest r.next (inr lists),
      whole,
      subst (λ (metas : List ManifestMeta). HaveEntries g r.asked.schema metas c.changes) whole own.1,
    )

gone_asked : (f : Files) (p : Past) (s : TableSchema) (one other : ℕ) → one ≡ other → HasGone f p s one → HasGone f p s other
gone_asked f p s one other same gone = subst (HasGone f p s) same gone

-- what an answer leads to is known of the same files
pub knows_next : OneList → (m : LogPhase) (answer : Answer) (new : LogPhase) (f : Files) (p : Past) → Goes m answer new → Stands f p → Knows m f p
    → IfSome (next_call m) (λ call. Answers call answer f → Knows new f p)
knows_next law (phases.Snapshot a) (answers.Found (Some bytes)) new f p (x, reads, schema, on) stands (table, least, within, bound) = λ told.
    opens_known f p a x x.changelog_list new refl on (stood_new f p a.schema a.id bytes x stands table least within told reads schema) (id_same a.id bytes x reads)
knows_next law (phases.List a x list) (answers.Found None) new f p is stands (stood, id, named) = λ told.
    let c = stood_contents f p a.schema x stands stood in
    let own = changelog_of p a.schema x c.0 list c.1 named in
    subst (λ (m : LogPhase). Knows m f p) (sym is) (gone_asked f p a.schema x.id a.id id
    (gone_now f p a.schema x stands stood c.0 c.1 (manifest_path list) (changelog_list list named) (some_there (p.stood x.id) (manifest_path list) own.0.bytes own.0.there) told))
knows_next law (phases.List a x list) (answers.Found (Some bytes)) new f p (metas, reads, within, on) stands (stood, id, named) = λ told.
    let c = stood_contents f p a.schema x stands stood in
    let listed : IsList (p.stood x.id) list metas =
    record { bytes = bytes; there = found_stood f p a.schema x stands stood c.0 c.1 (manifest_path list) (changelog_list list named) bytes told; read = reads } in
    knows_on f p a x [] metas [] new list metas on stood id named listed refl refl tt
knows_next law (phases.Manifests r) (answers.Found None) new f p is stands (stood, id, reading) = λ told.
    let c = stood_contents f p r.asked.schema r.snapshot stands stood in
    let named = next_named law p r c.0 c.1 reading in
    subst (λ (m : LogPhase). Knows m f p) (sym is) (gone_asked f p r.asked.schema r.snapshot.id r.asked.id id
    (gone_now f p r.asked.schema r.snapshot stands stood c.0 c.1 (manifest_path r.next.name) named.0
    (have_at (p.stood r.snapshot.id) r.asked.schema r.done r.next r.rest c.0.changes named.2) told))
knows_next law (phases.Manifests r) (answers.Found (Some bytes)) new f p (own, reads, (each, on)) stands (stood, id, (list, metas, named, listed, parts, have, before)) = λ told.
    let c = stood_contents f p r.asked.schema r.snapshot stands stood in
    let is_named = next_named law p r c.0 c.1 (list, metas, named, listed, parts, have, before) in
    let file : IsManifest (p.stood r.snapshot.id) r.asked.schema r.next.name own =
    record { bytes = bytes; there = found_stood f p r.asked.schema r.snapshot stands stood c.0 c.1 (manifest_path r.next.name) is_named.0 bytes told; read = reads } in
    knows_on f p r.asked r.snapshot (r.done ++ r.next ∷ []) r.rest (r.changes ++ own) new list metas on stood id named listed
    (parts ∙ sym (append_assoc r.done (r.next ∷ []) r.rest))
    (entries_push (p.stood r.snapshot.id) r.asked.schema r.done r.next r.changes own have file)
    (AllByRecursion-append IsChangelogEntry r.changes own before each)
knows_next law m answer new f p goes stands known = absurd goes

pub sound : OneList → Sound next_call Goes (Refuses Shown phases.Over) (Stops phases.Over) Stands (λ m. IsKept) Knows
sound law = sound_of_spared next_call Goes Shown phases.Over Stands Knows spares (knows_next law) (λ f p. tt)

-- ---- its calls

part_more : (a : LogAskedView) (x : Snapshot) (done : List ManifestMeta) (meta : ManifestMeta) (rest : List ManifestMeta) (changes later : List Entry) (bytes : List ℕ) (own : List Event)
    → HasPart a x done (meta ∷ rest) changes own → IsManifestOf a.schema (manifest_path meta.name) bytes later → AllByRecursion IsChangelogEntry later
    → HasPart a x (done ++ meta ∷ []) rest (changes ++ later) (own ++ read_file (manifest_path meta.name) (Some bytes) ∷ [])
part_more a x done meta rest changes later bytes own part reads each =
    let event : Event = read_file (manifest_path meta.name) (Some bytes) in record {
      list = part.list;
      bytes = part.bytes;
      lists = part.lists;
      reads = part.reads ++ event ∷ [];
      listed = subst (IsListOf (manifest_path part.list) part.bytes) (sym (append_assoc done (meta ∷ []) rest)) part.listed;
      found = part.found;
      read = read_push a.schema done meta changes later bytes part.reads part.read reads;
      each = AllByRecursion-append IsChangelogEntry changes later part.each each;
      is = ap (λ (own : List Event). own ++ event ∷ []) part.is ∙ append_assoc part.lists part.reads (event ∷ []);
    }

part_first : (a : LogAskedView) (x : Snapshot) (list bytes : List ℕ) (metas : List ManifestMeta) (own : List Event) → IsListOf (manifest_path list) bytes metas
    → FindsList a x list (Some bytes) own → HasPart a x [] metas [] own
part_first a x list bytes metas own reads finds = record {
  list = list;
  bytes = bytes;
  lists = own;
  reads = [];
  listed = reads;
  found = finds;
  read = (refl, refl);
  each = tt;
  is = sym (append-nil own);
}

did_on : (a b : LogAskedView) (x : Snapshot) (done rest : List ManifestMeta) (changes : List Entry) (new : LogPhase) (own : List Event) → b ≡ a → GoesOn b x done rest changes new
    → HasPart b x done rest changes own → Did a new own
did_on a b x done [] changes new own same (l, log, is) part =
    subst (λ (m : LogPhase). Did a m own) (sym is) (subst (λ (a : LogAskedView). HasLog a l own) same (of_list x done changes part log))
did_on a b x done (meta ∷ rest) changes new own same is part = subst (λ (m : LogPhase). Did a m own) (sym is) (same, part)

pub opens_did : (a b : LogAskedView) (x : Snapshot) (o : Option (List ℕ)) (new : LogPhase) (own : List Event) → b ≡ a → x.changelog_list ≡ o → Opens b x o new → Has b x own → Did a new own
opens_did a b x None new own same none (l, log, is) has =
    subst (λ (m : LogPhase). Did a m own) (sym is) (subst (λ (a : LogAskedView). HasLog a l own) same (without x none has log))
opens_did a b x (Some list) new own same named is has = subst (λ (m : LogPhase). Did a m own) (sym is) (same, (has, named))

went_on : (a : LogAskedView) (m : LogPhase) (answer : Answer) (new : LogPhase) (own : List Event) → Goes m answer new → Did a m own
    → IfSome (next_call m) (λ call. MayAnswer call answer → Did a new (own ++ answered call answer ∷ []))
went_on a (phases.Snapshot b) (answers.Found (Some bytes)) new own (x, reads, schema, on) (same, none) = λ may.
    let event : Event = read_file (snapshot_path b.id) (Some bytes) in
    opens_did a b x x.changelog_list new (own ++ event ∷ []) same refl on
    (bytes, reads, schema, ap (λ (own : List Event). own ++ event ∷ []) none)
went_on a (phases.List b x list) (answers.Found None) new own is (same, named) = λ may.
    subst (λ (m : LogPhase). Did a m (own ++ read_file (manifest_path list) None ∷ [])) (sym is) (same, lacks_list x list refl (own, named, refl))
went_on a (phases.List b x list) (answers.Found (Some bytes)) new own (metas, reads, within, on) (same, named) = λ may.
    let now : List Event = own ++ read_file (manifest_path list) (Some bytes) ∷ [] in
    did_on a b x [] metas [] new now same on (part_first b x list bytes metas now reads (own, named, refl))
went_on a (phases.Manifests r) (answers.Found None) new own is (same, part) = λ may.
    subst (λ (m : LogPhase). Did a m (own ++ read_file (manifest_path r.next.name) None ∷ [])) (sym is)
    (same, lacks_manifest r.snapshot r.done r.next r.rest r.changes refl (own, part, refl))
went_on a (phases.Manifests r) (answers.Found (Some bytes)) new own (later, reads, (each, on)) (same, part) = λ may.
    let now : List Event = own ++ read_file (manifest_path r.next.name) (Some bytes) ∷ [] in
    did_on a r.asked r.snapshot (r.done ++ r.next ∷ []) r.rest (r.changes ++ later) new now same on
    (part_more r.asked r.snapshot r.done r.next r.rest r.changes later bytes own part reads each)
went_on a m answer new own goes did = absurd goes

misread : (a b : LogAskedView) (refusal : Refusal) (own : List Event) → b ≡ a → IsFileFault refusal → Shows a refusals.Memory own → Misreads b refusal own → Shows a refusal own
misread a b refusals.Memory own same fault ends bad = ends
misread a b (refusals.Damaged path place) own same fault ends bad = subst (λ (a : LogAskedView). IsDamaged a path place own) same (is_misread bad)
misread a b (refusals.Unsupported what text) own same fault ends bad = subst (λ (a : LogAskedView). Misreads a (refusals.Unsupported what text) own) same bad
misread a b other own same fault ends bad = absurd fault

shown_as : (a b : LogAskedView) (refusal defined : Refusal) (own : List Event) → b ≡ a → refusal ≡ defined → Shows b defined own → Shows a refusal own
shown_as a b refusal defined own same is shows =
    subst (λ (refusal : Refusal). Shows a refusal own) (sym is) (subst (λ (a : LogAskedView). Shows a defined own) same shows)

-- memory ran out after an answer
memory_after : (a : LogAskedView) (m : LogPhase) (call : Call) (answer : Answer) (refusal : Refusal) (own : List Event) → next_call m ≡ Some call → DidSoFar a m own
    → MayTakeMemory m answer → MayAnswer call answer → refusal ≡ refusals.Memory → Shows a refusal (own ++ answered call answer ∷ [])
memory_after a m call answer refusal own next did takes may is =
    subst (λ (refusal : Refusal). Shows a refusal (own ++ answered call answer ∷ [])) (sym is) (after_answer m call answer own did next may takes refl)

refused_on : (a : LogAskedView) (m : LogPhase) (answer : Answer) (refusal : Refusal) (own : List Event) → Shown m answer refusal → Did a m own
    → IfSome (next_call m) (λ call. MayAnswer call answer → Shows a refusal (own ++ answered call answer ∷ []))
refused_on a (phases.Snapshot b) (answers.Found None) refusal own is (same, none) = λ may.
    shown_as a b refusal (refusals.Expired b.id) _ same is (refl, gone_first (ap (λ (own : List Event). own ++ read_file (snapshot_path b.id) None ∷ []) none))
refused_on a (phases.Snapshot b) (answers.Found (Some bytes)) refusal own (inl is) did = λ may.
    memory_after a (phases.Snapshot b) (calls.Read (snapshot_path b.id)) (answers.Found (Some bytes)) refusal own refl did tt may is
refused_on a (phases.Snapshot b) (answers.Found (Some bytes)) refusal own (inr (inl (is, bad))) (same, none) = λ may.
    shown_as a b refusal (refusals.Damaged (snapshot_path b.id) 0) _ same is
    (bad_snapshot bytes refl refl bad (ap (λ (own : List Event). own ++ read_file (snapshot_path b.id) (Some bytes) ∷ []) none))
refused_on a (phases.Snapshot b) (answers.Found (Some bytes)) refusal own (inr (inr (x, is, reads, other))) (same, none) = λ may.
    shown_as a b refusal (refusals.Damaged (schema_path x.schema_id) 0) _ same is
    (bad_schema x bytes refl refl reads other (ap (λ (own : List Event). own ++ read_file (snapshot_path b.id) (Some bytes) ∷ []) none))
refused_on a (phases.List b x list) (answers.Found found) refusal own (inl is) did = λ may.
    memory_after a (phases.List b x list) (calls.Read (manifest_path list)) (answers.Found found) refusal own refl did tt may is
refused_on a (phases.List b x list) (answers.Found None) refusal own (inr none) did = absurd none
refused_on a (phases.List b x list) (answers.Found (Some bytes)) refusal own (inr bad) (same, named) = λ may.
    misread a b refusal _ same (file_fault _ _ (manifest_path list) bytes refusal bad)
    (memory_after a (phases.List b x list) (calls.Read (manifest_path list)) (answers.Found (Some bytes)) refusals.Memory own refl (same, named) tt may refl)
    (misreads_list x list bytes bad (own, named, refl))
refused_on a (phases.Manifests r) (answers.Found found) refusal own (inl is) did = λ may.
    memory_after a (phases.Manifests r) (calls.Read (manifest_path r.next.name)) (answers.Found found) refusal own refl did tt may is
refused_on a (phases.Manifests r) (answers.Found None) refusal own (inr none) did = absurd none
refused_on a (phases.Manifests r) (answers.Found (Some bytes)) refusal own (inr (inl bad)) (same, part) = λ may.
    misread a r.asked refusal _ same (file_fault _ _ (manifest_path r.next.name) bytes refusal bad)
    (memory_after a (phases.Manifests r) (calls.Read (manifest_path r.next.name)) (answers.Found (Some bytes)) refusals.Memory own refl (same, part) tt may refl)
    (misreads_manifest r.snapshot r.done r.next r.rest r.changes bytes bad (own, part, refl))
refused_on a (phases.Manifests r) (answers.Found (Some bytes)) refusal own (inr (inr (later, reads, other, is))) (same, part) = λ may.
    shown_as a r.asked refusal (refusals.Damaged (manifest_path r.next.name) 0) _ same is
    (has_other r.snapshot r.done r.next r.rest r.changes later bytes refl refl reads other (own, part, refl))
refused_on a (phases.Again b path) (answers.Found None) refusal own is (same, lacks) = λ may.
    shown_as a b refusal (refusals.Expired b.id) _ same is (refl, gone_again path (own, lacks, refl))
refused_on a (phases.Again b path) (answers.Found (Some bytes)) refusal own is (same, lacks) = λ may.
    shown_as a b refusal (refusals.Damaged path 0) _ same is (is_absent bytes refl (own, lacks, refl))
refused_on a m answer refusal own shown did = absurd shown

so_far : (a : LogAskedView) (m : LogPhase) (own : List Event) → IsSome (next_call m) → Did a m own → DidSoFar a m own
so_far a (phases.Snapshot b) own called did = did
so_far a (phases.List b x list) own called did = did
so_far a (phases.Manifests r) own called did = did
so_far a (phases.Again b path) own called did = did
so_far a (phases.Ready l) own called did = did
so_far a phases.Over own called did = absurd (let clash = called in cc)

pub recounts : (a : LogAskedView) → Recounts next_call Goes (Refuses Shown phases.Over) (Stops phases.Over) (Did a) (Shows a)
recounts a = recounts_of next_call Goes Shown phases.Over (DidSoFar a) (Did a) MayTakeMemory (Shows a) (so_far a)
    (λ refusal own shows. (refusal, shows)) (λ path own failed. failed) (λ own ends. ends) (went_on a) (refused_on a)

-- ---- how far it has come

-- fewer calls than that are left, and some if the changelog isn't ready
abbrev pub IsAhead : ℕ → LogPhase → Type 0
IsAhead n m = (calls_left m < n) × (IsReady m ⊎ (0 < calls_left m))

on_ahead : (a : LogAskedView) (x : Snapshot) (done rest : List ManifestMeta) (changes : List Entry) (new : LogPhase) (n : ℕ) → length rest + 1 < n → GoesOn a x done rest changes new
    → IsAhead n new
on_ahead a x done [] changes new n below (l, log, is) =
    let one : 0 + 1 < n = below in
    let less : 0 < n = omega (arith, one) in
    subst (IsAhead n) (sym is) (less, inl tt)
on_ahead a x done (meta ∷ rest) changes new n below is =
    let one : suc (length rest) + 1 < n = below in
    let less : length rest + 2 < n = omega (arith, one) in
    let some : 0 < length rest + 2 = omega arith in
    subst (IsAhead n) (sym is) (less, inr some)

pub opens_ahead : (a : LogAskedView) (x : Snapshot) (o : Option (List ℕ)) (new : LogPhase) → Opens a x o new → IsAhead (most + 3) new
opens_ahead a x None new on = on_ahead a x [] [] [] new (most + 3) (omega arith) on
opens_ahead a x (Some list) new is =
    let less : most + 2 < most + 3 = omega arith in
    let some : 0 < most + 2 = omega arith in
    subst (IsAhead (most + 3)) (sym is) (less, inr some)

again_ahead : (a : LogAskedView) (path : List ℕ) (new : LogPhase) (n : ℕ) → 1 < n → new ≡ phases.Again a path → IsAhead n new
again_ahead a path new n below is =
    let some : 0 < 1 = omega arith in
    subst (IsAhead n) (sym is) (below, inr some)

pub goes_ahead : (m : LogPhase) (answer : Answer) (new : LogPhase) → Goes m answer new → IsAhead (calls_left m) new
goes_ahead (phases.Snapshot a) (answers.Found (Some bytes)) new (x, reads, schema, on) = opens_ahead a x x.changelog_list new on
goes_ahead (phases.List a x list) (answers.Found None) new is = again_ahead a (manifest_path list) new (most + 2) (omega arith) is
goes_ahead (phases.List a x list) (answers.Found (Some bytes)) new (metas, reads, within, on) = on_ahead a x [] metas [] new (most + 2) (omega (arith, within)) on
goes_ahead (phases.Manifests r) (answers.Found None) new is = again_ahead r.asked (manifest_path r.next.name) new (length r.rest + 2) (omega arith) is
goes_ahead (phases.Manifests r) (answers.Found (Some bytes)) new (own, reads, (each, on)) =
    on_ahead r.asked r.snapshot (r.done ++ r.next ∷ []) r.rest (r.changes ++ own) new (length r.rest + 2) (omega arith) on
goes_ahead m answer new goes = absurd goes

pub has_call : (m : LogPhase) → 0 < calls_left m → IsSome (next_call m)
has_call (phases.Snapshot a) left = refl
has_call (phases.List a x list) left = refl
has_call (phases.Manifests r) left = refl
has_call (phases.Again a path) left = refl
has_call (phases.Ready l) left = absurd (let none : 0 < 0 = left in omega (arith, none))
has_call phases.Over left = absurd (let none : 0 < 0 = left in omega (arith, none))

-- an answer that it goes on with leaves fewer calls
pub goes : (m : LogPhase) (answer : Answer) (new : LogPhase) → IsLogReader m → Goes m answer new
    → (calls_left new < calls_left m) × (IsReady new ⊎ (0 < calls_left new))
goes m answer new is on = goes_ahead m answer new on

-- ---- laws

-- no answer shows that a snapshot is above the latest
pub never_above : (m : LogPhase) (answer : Answer) (refusal : Refusal) (id latest : ℕ) → Shown m answer refusal → refusal ≡ refusals.NoSnapshot id latest → ⊥
never_above (phases.Snapshot a) (answers.Found None) refusal id latest is other = expired_other refusal a.id id latest is other
never_above (phases.Snapshot a) (answers.Found (Some bytes)) refusal id latest (inl is) other = memory_other refusal id latest is other
never_above (phases.Snapshot a) (answers.Found (Some bytes)) refusal id latest (inr (inl (is, bad))) other = damaged_other refusal (snapshot_path a.id) id latest is other
never_above (phases.Snapshot a) (answers.Found (Some bytes)) refusal id latest (inr (inr (x, is, reads, differs))) other =
    damaged_other refusal (schema_path x.schema_id) id latest is other
never_above (phases.List a x list) (answers.Found found) refusal id latest (inl is) other = memory_other refusal id latest is other
never_above (phases.List a x list) (answers.Found None) refusal id latest (inr none) other = absurd none
never_above (phases.List a x list) (answers.Found (Some bytes)) refusal id latest (inr fault) other =
    fault_other refusal id latest (file_fault _ _ (manifest_path list) bytes refusal fault) other
never_above (phases.Manifests r) (answers.Found found) refusal id latest (inl is) other = memory_other refusal id latest is other
never_above (phases.Manifests r) (answers.Found None) refusal id latest (inr none) other = absurd none
never_above (phases.Manifests r) (answers.Found (Some bytes)) refusal id latest (inr (inl fault)) other =
    fault_other refusal id latest (file_fault _ _ (manifest_path r.next.name) bytes refusal fault) other
never_above (phases.Manifests r) (answers.Found (Some bytes)) refusal id latest (inr (inr (own, reads, no_log, is))) other =
    damaged_other refusal (manifest_path r.next.name) id latest is other
never_above (phases.Again a path) (answers.Found None) refusal id latest is other = expired_other refusal a.id id latest is other
never_above (phases.Again a path) (answers.Found (Some bytes)) refusal id latest is other = damaged_other refusal path id latest is other
never_above m answer refusal id latest shown other = absurd shown

log_still : (other : Actor) (f after : Files) (p q : Past) (l : Log) → Advances other f p after q → IsLogIn p l → IsLogIn q l
log_still other f after p q l advances (stood, has) = (
  stood_still other f after p q l.schema l.snapshot advances stood,
  subst (λ (g : Files). HasChangelog g l.schema l.snapshot.changelog_list l.manifests.items l.changes.items) (sym (advances.same l.snapshot.id stood.known)) has,
)

pub knows_still : (m : LogPhase) (other : Actor) (f after : Files) (p q : Past) → Stands f p → Advances other f p after q → Knows m f p → Knows m after q
knows_still (phases.Snapshot a) other f after p q stands advances (table, least, within, bound) =
    let more = count_grows p.history q.history (goes_on other f after p.history q.history advances.change) in
    (table_still other f after p q a.schema advances table, least, within, omega (arith, bound, more))
knows_still (phases.List a x list) other f after p q stands advances (stood, id, named) =
    (stood_still other f after p q a.schema x advances stood, id, named)
knows_still (phases.Manifests r) other f after p q stands advances (stood, id, reading) = (
  stood_still other f after p q r.asked.schema r.snapshot advances stood,
  id,
  subst (λ (g : Files). IsReadingOf g r) (sym (advances.same r.snapshot.id stood.known)) reading,
)
knows_still (phases.Again a path) other f after p q stands advances gone = gone_still other f after p q a.schema a.id stands advances gone
knows_still (phases.Ready l) other f after p q stands advances known = log_still other f after p q l advances known
knows_still phases.Over other f after p q stands advances known = tt

pub images : (m : LogPhase) (call : Call) (f image : Files) (p : Past) → next_call m ≡ Some call → MayLeave call f image → IsKept f p image p
images m call f image p = image_spared next_call m call f image p (spares m f)
