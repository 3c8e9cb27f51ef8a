-- Which refusals a folder that stands can show a committer.
use Rattle.std.proofs.Common.{◌≡◌, inl, inr, ℕ, ◌≤◌, List, [], ◌∷◌, length-append, Option, None, Some, IsSome, Result, Ok, Err, refl, sym, ap, ◌∙◌, subst, arith}
use Rattle.std.specs.FinMap as map
use Rattle.pm_values.specs.declared.refusal.Refusal.{Refusal}
use Rattle.pm_values.specs.declared.refusal.Refusal.TheVariants as refusals
use Rattle.pm_store.specs.Answers.{Answers, made_at}
use Rattle.pm_store.specs.Files.{Files}
use Rattle.pm_store.specs.declared.answer.Answer.{Answer}
use Rattle.pm_store.specs.declared.answer.Answer.TheVariants as answers
use Rattle.pm_store.specs.declared.answer.Made.TheVariants as created
use Rattle.pm_put.specs.Putter.{create_call}
use Rattle.pm_put.specs.declared.phase.Phase as put_phase
use Rattle.pm_put.specs.declared.phase.Phase.TheVariants as puts
use Rattle.pm_store.specs.declared.call.Call.{Call}
use Rattle.pm_store.specs.declared.call.Call.TheVariants as calls
use Rattle.pm_model_history.specs.History.{Entry, IsTableOf}
use Rattle.pm_schema.specs.declared.schema.TableSchema.{TableSchema}
use Rattle.pm_snapshot.specs.Names.{greatest}
use Rattle.pm_snapshot.specs.Snapshot.{snapshot_in}
use Rattle.pm_snapshot.specs.declared.fault.SnapFault.{SnapFault}
use Rattle.pm_snapshot.specs.declared.fault.SnapFault.TheVariants as faults
use Rattle.pm_snapshot.specs.declared.snapshot.Snapshot.{Snapshot}
use Rattle.pm_manifest.specs.Entries.{entry_in, has_entry_fields}
use Rattle.pm_manifest.specs.Listed.{has_meta_fields, meta_in}
use Rattle.pm_manifest.specs.Live.{Live}
use Rattle.pm_manifest.specs.Shape.{shape_of}
use Rattle.pm_model_contents.specs.Groups.{Overlaps}
use Rattle.pm_model_contents.specs.Lists.{manifest_path}
use Rattle.pm_model_folder.specs.Ledger.{Past, Stands}
use Rattle.pm_model_folder.specs.Paths.{snapshot_path}
use Rattle.pm_model_folder.proofs.Facts.{snapshot-committed}
use Rattle.pm_model_folder.proofs.LedgerFacts.{at-table}
use Rattle.pm_made.proofs.AllowedLemmas.{IsReason, is-reason}
use Rattle.pm_read_table.specs.Asked.{Asked, asked_of}
use Rattle.pm_read_table.specs.Meaning as reader_meaning
use Rattle.pm_read_table.specs.Reader as reader
use Rattle.pm_read_table.specs.Reader.{IsAbove, disorder, overlap}
use Rattle.pm_read_table.specs.declared.asked.Wanted.{Wanted}
use Rattle.pm_read_table.specs.declared.asked.Wanted.TheVariants as wants
use Rattle.pm_read_table.specs.declared.phase.Phase as view_phase
use Rattle.pm_read_table.specs.declared.phase.Phase.TheVariants as readers
use Rattle.pm_read_table.specs.declared.view.View.{View}
use Rattle.pm_read_table.proofs.Facts as reader_facts
use Rattle.pm_read_table.proofs.FaultLemmas.{IsFileFault, file_fault}
use Rattle.pm_commit.specs.Committer.{After, AfterPutter, AfterReader, IsCommitter, Loses, Makes, Reads, Refuses, found_in, manifests_call, newest_of, next_call}
use Rattle.pm_commit.specs.Meaning.{HasOrigin, IsDenied, IsFoundIn, Knows, KnowsIn, MayRefuse, MayRefuseOwn}
use Rattle.pm_commit.specs.Own.{OwnView, begun, begun_after}
use Rattle.pm_commit.specs.Search.{seen_of}
use Rattle.pm_commit.specs.declared.found.Found.{Found}
use Rattle.pm_commit.specs.declared.phase.Phase.{Phase}
use Rattle.pm_commit.specs.declared.phase.Phase.TheVariants as phases
use Rattle.pm_commit.proofs.Facts.{Laws}
use Rattle.pm_commit.proofs.CommitterLemmas.{asked-same}
use Rattle.pm_commit.proofs.OriginLemmas.{origin-on}
use Rattle.pm_commit.proofs.OwnLemmas.{none-taken}
use Rattle.pm_commit.proofs.OutcomeLemmas.{err-ok, heard-refused, read-refused, tried-refused}
use Rattle.pm_commit.proofs.ReadsLemmas.{reads-on}
use Rattle.pm_commit.proofs.TraceLemmas.{some-at}

-- what the law of a reader's causes says
abbrev pub ReaderCauses : Type 0
ReaderCauses = (m : view_phase.Phase) (call : Call) (answer : Answer) (refusal : Refusal) (f : Files) (p : Past) → Stands f p → reader_meaning.Knows m f p
    → reader.next_call m ≡ Some call → Answers call answer f → reader.Shown m answer refusal → reader_meaning.MayRefuse f p refusal

-- ---- a reader of the newest view never misses the snapshot that is asked for

-- the refusal isn't that there is no such snapshot
abbrev pub IsNone : Refusal → Type 0
IsNone (refusals.NoSnapshot id latest) = ⊥
IsNone other = Unit {0}

file-none : (refusal : Refusal) → IsFileFault refusal → IsNone refusal
file-none refusals.Memory is = tt
file-none (refusals.Damaged path place) is = tt
file-none (refusals.Unsupported what text) is = tt
file-none other is = absurd is

is-none : (refusal defined : Refusal) → refusal ≡ defined → IsNone defined → IsNone refusal
is-none refusal defined is none = subst IsNone (sym is) none

overlap-none : (s : TableSchema) (live : Live) (refusal : Refusal) → Overlaps s live refusal → IsNone refusal
overlap-none s live (refusals.NoSnapshot id latest) over = absurd over
overlap-none s live other over = tt

none-above : (w : Wanted) (latest id : ℕ) → w ≡ wants.Entries → IsAbove w latest id → ⊥
none-above w latest id is above = subst (λ (w : Wanted). IsAbove w latest id) is above

pub shown-none : (s : TableSchema) (m : view_phase.Phase) (answer : Answer) (refusal : Refusal) → Reads m s → reader.Shown m answer refusal → IsNone refusal
shown-none s (readers.List a) (answers.Listed names) refusal reads (inl memory) = is-none refusal refusals.Memory memory tt
shown-none s (readers.List a) (answers.Listed names) refusal reads (inr (latest, id, is_latest, above, is)) =
    absurd (none-above a.wanted latest id (ap (λ (a : Asked). a.wanted) (asked-same a (newest_of s) reads.asked)) above)
shown-none s (readers.Origin q) (answers.Found None) refusal reads is = is-none refusal (refusals.Expired 0) is tt
shown-none s (readers.Snapshot q id) (answers.Found None) refusal reads is = is-none refusal (refusals.Expired id) is tt
shown-none s (readers.Snapshot q id) (answers.Found (Some bytes)) refusal reads (inl memory) = is-none refusal refusals.Memory memory tt
shown-none s (readers.Snapshot q id) (answers.Found (Some bytes)) refusal reads (inr (inl (is, bad))) = is-none refusal _ is tt
shown-none s (readers.Snapshot q id) (answers.Found (Some bytes)) refusal reads (inr (inr (x, is, has, other))) = is-none refusal _ is tt
shown-none s (readers.Again a id path) (answers.Found None) refusal reads is = is-none refusal (refusals.Expired id) is tt
shown-none s (readers.Again a id path) (answers.Found (Some bytes)) refusal reads is = is-none refusal (refusals.Damaged path 0) is tt
shown-none s (readers.Base q x) (answers.Found found) refusal reads (inl memory) = is-none refusal refusals.Memory memory tt
shown-none s (readers.Base q x) (answers.Found None) refusal reads (inr none) = absurd none
shown-none s (readers.Base q x) (answers.Found (Some bytes)) refusal reads (inr bad) =
    file-none refusal (file_fault has_meta_fields meta_in (manifest_path x.base_list) bytes refusal bad)
shown-none s (readers.Delta q x base) (answers.Found found) refusal reads (inl memory) = is-none refusal refusals.Memory memory tt
shown-none s (readers.Delta q x base) (answers.Found None) refusal reads (inr none) = absurd none
shown-none s (readers.Delta q x base) (answers.Found (Some bytes)) refusal reads (inr bad) =
    file-none refusal (file_fault has_meta_fields meta_in (manifest_path x.delta_list) bytes refusal bad)
shown-none s (readers.Manifests r) (answers.Found found) refusal reads (inl memory) = is-none refusal refusals.Memory memory tt
shown-none s (readers.Manifests r) (answers.Found None) refusal reads (inr none) = absurd none
shown-none s (readers.Manifests r) (answers.Found (Some bytes)) refusal reads (inr (inl bad)) =
    file-none refusal (file_fault has_entry_fields (entry_in (shape_of r.sought.asked.schema)) (manifest_path r.next.name) bytes refusal bad)
shown-none s (readers.Manifests r) (answers.Found (Some bytes)) refusal reads (inr (inr (own, has, disorder i out is))) = is-none refusal _ is tt
shown-none s (readers.Manifests r) (answers.Found (Some bytes)) refusal reads (inr (inr (own, has, overlap live order left none over))) = overlap-none r.sought.asked.schema live refusal over
shown-none s m answer refusal reads shown = absurd shown

-- ---- reasons

denied-by : (own : OwnView) (f : Files) (p : Past) (refusal : Refusal) → IsReason refusal → IsDenied own p refusal → MayRefuseOwn own f p refusal
denied-by own f p (refusals.Fenced base fence) is denied = denied
denied-by own f p (refusals.CompactTaken file) is (found, base, is_found, at, reason) =
    (none-taken found.newest (record own.author { base = base }) own.intent file reason, (found, base, is_found, at, reason))
denied-by own f p (refusals.Limit which number) is denied = denied
denied-by own f p other is denied = absurd is

forgotten : (own : OwnView) (f : Files) (p : Past) (refusal : Refusal) → refusal ≡ refusals.Memory → MayRefuseOwn own f p refusal
forgotten own f p refusal memory = subst (MayRefuseOwn own f p) (sym memory) tt

-- a try of a commit whose base is set
make-caused : (own : OwnView) (found : Found) (f : Files) (p : Past) (refusal : Refusal) → IsFoundIn p found → Makes own found (Err refusal)
    → MayRefuseOwn own f p refusal
make-caused own found f p refusal is_found (inl memory) = forgotten own f p refusal memory
make-caused own found f p refusal is_found (inr reason) =
    denied-by own f p refusal (is-reason found.newest own.author own.intent refusal reason) (found, own.author.base, is_found, inr refl, reason)

-- and of one that sets it
begin-caused : (own : OwnView) (n : ℕ) (found : Found) (f : Files) (p : Past) (refusal : Refusal) → n ≡ found.newest.id → IsFoundIn p found
    → Makes (begun n own) found (Err refusal) → MayRefuseOwn own f p refusal
begin-caused own n found f p refusal newest is_found = at own.lost refl
  where
    at : (lost : List ℕ) → own.lost ≡ lost → Makes (begun_after lost n own) found (Err refusal) → MayRefuseOwn own f p refusal
    at [] none (inl memory) = forgotten own f p refusal memory
    at [] none (inr reason) =
        denied-by own f p refusal (is-reason found.newest (begun_after [] n own).author own.intent refusal reason) (found, n, is_found, inl (none, newest), reason)
    at (id ∷ lost) some made = make-caused own found f p refusal is_found made

-- ---- a reader's refusals

reader-caused : (own : OwnView) (f : Files) (p : Past) (refusal : Refusal) → IsNone refusal → reader_meaning.MayRefuse f p refusal → MayRefuseOwn own f p refusal
reader-caused own f p refusals.Memory none may = tt
reader-caused own f p (refusals.Expired id) none may = may
reader-caused own f p (refusals.NoSnapshot id latest) none may = absurd none
reader-caused own f p other none may = absurd may

-- ---- the files

-- a file was there
pub met-at : (at : Option (List ℕ)) → created.Exists ≡ made_at at → (bytes : List ℕ) × (at ≡ Some bytes)
met-at None e = absurd (let clash = e in cc)
met-at (Some bytes) e = (bytes, refl)

-- a snapshot that is there reads
pub good-snapshot : (f : Files) (p : Past) (s : TableSchema) (id : ℕ) (bytes : List ℕ) → Stands f p → IsTableOf s p.history → 1 ≤ id → id ≤ greatest
    → Some bytes ≡ map.get f (snapshot_path id) → snapshot_in id bytes ≡ Err faults.Bad → ⊥
good-snapshot f p s id bytes stands is least within told bad =
    let own = at-table f p s stands is in
    let commit = snapshot-committed f s own.0 id own.2 least within (subst (λ (o : Option (List ℕ)). IsSome o) told refl) in
    let same : bytes ≡ commit.there.0 = reader_facts.bytes_same bytes commit.there.0 (told ∙ commit.there.1) in
    read-bad commit.snapshot (sym commit.there.2 ∙ ap (snapshot_in id) (sym same) ∙ bad)
  where
    read-bad : (x : Snapshot) → ◌≡◌ {A = Result Snapshot SnapFault} (Ok x) (Err faults.Bad) → ⊥
    read-bad x e = cc

call-at : (one other : Call) → Some one ≡ Some other → other ≡ one
call-at one other e = cc

pub told-at : (one : Call) (call : Call) (answer : Answer) (f : Files) → Some one ≡ Some call → Answers call answer f → Answers one answer f
told-at one call answer f at told = subst (λ (call : Call). Answers call answer f) (call-at one call at) told

module _ (laws : Laws) (causes : ReaderCauses) (e : Entry) (call : Call) (answer : Answer) (refusal : Refusal) (f : Files) (p : Past) (stands : Stands f p) where
  -- the view is ready after the answer
  pub view-found : (s : TableSchema) (m : view_phase.Phase) (v : View) → Reads m s → reader_meaning.Knows m f p → HasOrigin m → reader.next_call m ≡ Some call
      → Answers call answer f → reader.Goes m answer (readers.Ready v) → IsFoundIn p (found_in v)
  view-found s m v reads reading origin at told goes =
      let reads_v = (reads-on laws.read s m answer (readers.Ready v) reads goes).reads in
      let (later, kept, known) = some-at (reader.next_call m) call _ at ((reader_facts.sound laws.joined laws.lists).went m (readers.Ready v) answer f p goes stands reading) told in
      let stood = subst (λ (q : Past). reader_meaning.IsViewIn q v) kept.past known.1 in
      let has = some-at (reader.next_call m) call _ at (origin-on f p s m answer (readers.Ready v) stands reads reading origin goes) told in
      let wanted = ap (λ (a : Asked). a.wanted) (asked-same (asked_of v.schema v.wanted) (newest_of s) reads_v.asked) in
      record { view = v; is = refl; wanted = wanted; stood = stood; origin = has }

  ready-caused : (own : OwnView) (s : TableSchema) (m to : view_phase.Phase) → Reads m s → reader_meaning.Knows m f p → HasOrigin m → reader.next_call m ≡ Some call
      → Answers call answer f → reader.Goes m answer to → AfterReader own to (Err refusal) → MayRefuseOwn own f p refusal
  ready-caused own s m to reads reading origin at told goes on =
      read-refused (MayRefuseOwn own f p refusal) (reader.Goes m answer) own refusal
      (λ v goes on. tried-refused (MayRefuseOwn own f p refusal) (begun v.id own) v refusal
      (begin-caused own v.id (found_in v) f p refusal refl (view-found s m v reads reading origin at told goes)) on) to goes on

lost-caused : (own : OwnView) (s : TableSchema) (id : ℕ) (f : Files) (p : Past) (refusal : Refusal) → Loses own s id (Err refusal) → MayRefuseOwn own f p refusal
lost-caused own s id f p refusal (last, is) =
    let many = length-append own.lost (id ∷ []) in
    subst (MayRefuseOwn own f p) (sym is) (id, refl, (let eleven = last in omega (arith, many, eleven)))

putter-caused : (own : OwnView) (s : TableSchema) (id : ℕ) (to : put_phase.Phase) (f : Files) (p : Past) (refusal : Refusal) → AfterPutter own s id to (Err refusal)
    → MayRefuseOwn own f p refusal
putter-caused own s id puts.Lost f p refusal on = lost-caused own s id f p refusal on
putter-caused own s id to f p refusal on = absurd (err-ok refusal _ on)

-- what an answer that shows a refusal needs
caused-on : (laws : Laws) (causes : ReaderCauses) (e : Entry) (m : Phase) (call : Call) (answer : Answer) (refusal : Refusal) (f : Files) (p : Past)
    → Stands f p → IsCommitter m → KnowsIn e m f p → next_call m ≡ Some call → Answers call answer f → After m answer (Err refusal) → MayRefuse m f p refusal
caused-on laws causes e (phases.Names own s) call (answers.Listed names) refusal f p stands is known at told (inl memory) = forgotten own f p refusal memory
caused-on laws causes e (phases.Names own s) call (answers.Listed names) refusal f p stands is known at told (inr (path, finds, shown)) =
    subst (MayRefuseOwn own f p) (sym shown) (inl (names.items, told-at manifests_call call (answers.Listed names) f at told, finds))
caused-on laws causes e (phases.View own m) call answer refusal f p stands is (s, reads, known, reading, origin) at told (inl shown) =
    reader-caused own f p refusal (shown-none s m answer refusal reads shown) (causes m call answer refusal f p stands reading at told shown)
caused-on laws causes e (phases.View own m) call answer refusal f p stands is (s, reads, known, reading, origin) at told (inr (to, goes, on)) =
    ready-caused laws causes e call answer refusal f p stands own s m to reads reading origin at told goes on
caused-on laws causes e (phases.Search own q) call (answers.Found None) refusal f p stands is (known, is_found) at told on =
    make-caused own q.found f p refusal is_found on
caused-on laws causes e (phases.Search own q) call (answers.Found (Some bytes)) refusal f p stands is known at told (inl memory) = forgotten own f p refusal memory
caused-on laws causes e (phases.Search own q) call (answers.Found (Some bytes)) refusal f p stands (may, few, ids) (known, is_found) at told (inr (inl (bad, shown))) =
    absurd (good-snapshot f p q.found.schema q.id bytes stands known.is_table ids.0.0 ids.0.1
    (told-at (calls.Read (snapshot_path q.id)) call (answers.Found (Some bytes)) f at told) bad)
caused-on laws causes e (phases.Search own q) call (answers.Found (Some bytes)) refusal f p stands is (known, is_found) at told (inr (inr (x, reads, on))) =
    heard-refused (MayRefuseOwn own f p refusal) own q.found q.left (seen_of own.author x) refusal (λ free on. make-caused own q.found f p refusal is_found on) on
caused-on laws causes e (phases.Put own s id (puts.Create making)) call (answers.Made created.Exists) refusal f p stands is known at told (inl shown) =
    subst (MayRefuseOwn own f p) (sym shown)
    (inr (met-at (map.get f making.next.path) (told-at (create_call making.next) call (answers.Made created.Exists) f at told)))
caused-on laws causes e (phases.Put own s id m) call answer refusal f p stands is known at told (inl shown) = absurd shown
caused-on laws causes e (phases.Put own s id m) call answer refusal f p stands is known at told (inr (to, goes, on)) = putter-caused own s id to f p refusal on
caused-on laws causes e m call answer refusal f p stands is known at told on = absurd on

pub caused : Laws → ReaderCauses → (e : Entry) (m new : Phase) (call : Call) (answer : Answer) (refusal : Refusal) (f : Files) (p : Past)
    → Stands f p → Knows e m f p → next_call m ≡ Some call → Answers call answer f → Refuses m answer refusal new → MayRefuse m f p refusal
caused laws causes e m new call answer refusal f p stands known at told refuses =
    caused-on laws causes e m call answer refusal f p stands known.0 known.1 at told refuses.0
