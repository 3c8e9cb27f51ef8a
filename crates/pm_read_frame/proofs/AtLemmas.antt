-- Where the calls of a reader of a frame lead where each answer is of the same files, which stand for a table.
use Rattle.std.proofs.Common.{◌≡◌, ◌≢◌, ◌⊎◌, inl, inr, ℕ, ◌≤◌, List, [], ◌∷◌, ◌++◌, length, take, Option, None, Some, IsSome, IfSome, Result, Ok, Err, refl, sym, ap, subst, ◌∙◌, append_assoc, append-nil}
use Rattle.std.specs.FinMap as map
use Rattle.std.specs.List.{AllByRecursion}
use Rattle.pm_base.proofs.Laws.{AllByRecursion-parts}
use Rattle.pm_values.specs.declared.record.Stamped.{Stamped}
use Rattle.pm_values.specs.declared.refusal.Refusal.{Refusal}
use Rattle.pm_values.specs.declared.refusal.Refusal.TheVariants as refusals
use Rattle.pm_store.specs.Answers.{Answers}
use Rattle.pm_store.specs.Files.{Files}
use Rattle.pm_store.specs.declared.answer.Answer.{Answer}
use Rattle.pm_store.specs.declared.answer.Answer.TheVariants as answers
use Rattle.pm_store.specs.declared.call.Call.{Call}
use Rattle.pm_machine.specs.Trace.{Event}
use Rattle.pm_record.specs.File.{ReadsFile}
use Rattle.pm_schema.specs.declared.schema.TableSchema.{TableSchema}
use Rattle.pm_snapshot.specs.Names.{greatest}
use Rattle.pm_snapshot.specs.Snapshot.{snapshot_in}
use Rattle.pm_snapshot.specs.declared.fault.SnapFault.{SnapFault}
use Rattle.pm_snapshot.specs.declared.snapshot.Snapshot.{Snapshot}
use Rattle.pm_manifest.specs.Entries.{entry_in, has_entry_fields}
use Rattle.pm_manifest.specs.Listed.{has_meta_fields, meta_in}
use Rattle.pm_manifest.specs.Shape.{shape_of}
use Rattle.pm_manifest.specs.declared.entry.Entry as manifest
use Rattle.pm_manifest.specs.declared.entry.ManifestMeta.{ManifestMeta}
use Rattle.pm_model_contents.specs.Lists.{HasChangelog, HaveEntries, IsChangelogEntry, IsList, IsManifest, manifest_path}
use Rattle.pm_model_history.specs.History.{Entry}
use Rattle.pm_model_following.specs.Following.{frame}
use Rattle.pm_model_folder.specs.Commits.{IsCommitted}
use Rattle.pm_model_folder.specs.Folder.{HasTable}
use Rattle.pm_model_folder.specs.Paths.{schema_path, snapshot_path}
use Rattle.pm_model_folder.proofs.Facts.{snapshot-bounds}
use Rattle.pm_read_schema.proofs.LeadLemmas.{Leads}
use Rattle.pm_read_schema.proofs.StillLemmas.{AreTold}
use Rattle.pm_read_log.specs.Log.{LogAskedView, log_asked_of}
use Rattle.pm_merged_log.specs.Merged.{merged_frame}
use Rattle.pm_read_frame.specs.Meaning.{HasProducer}
use Rattle.pm_read_frame.specs.Taken.{HaveTaken, RefusesFile, file_of, files_of}
use Rattle.pm_read_frame.specs.declared.file.ChangesFile.{ChangesFile}
use Rattle.pm_read_frame.proofs.CauseLemmas.{OpensLaw, refused_not}
use Rattle.pm_read_frame.proofs.ChangeLemmas.{FrameLaws, frame_is}
use Rattle.pm_read_frame.proofs.OneLemmas.{After, CallAt, FileRead, Follows, Given, Goes, ListRead, ManifestRead, OneLaws, OpenedAs, Place, again, files, is_refused, is_taken, list_leads, listing, manifests, opening, opens, over, reads_on}
use Rattle.pm_read_frame.proofs.StoodLemmas.{IsThere, NextOf, its_file, next_of, taken_more}

pub record AtLaws : Type 0 where
  pub one : OneLaws
  pub opened : OpensLaw
  pub frame : FrameLaws

bytes_same : (one other : List ℕ) → Some one ≡ Some other → one ≡ other
bytes_same one other e = cc

absent_not : (o : Option (List ℕ)) (bytes : List ℕ) → o ≡ Some bytes → None ≡ o → ⊥
absent_not o bytes is none = cc

found_some : (o : Option (List ℕ)) (bytes : List ℕ) → Some bytes ≡ o → IsSome o
found_some o bytes is = subst (λ (o : Option (List ℕ)). IsSome o) is refl

same_metas : (xs ys : List ManifestMeta) → ◌≡◌ {A = Result (List ManifestMeta) Refusal} (Ok xs) (Ok ys) → xs ≡ ys
same_metas xs ys is = cc

metas_not : (xs : List ManifestMeta) → ◌≢◌ {A = Result (List ManifestMeta) Refusal} (Ok xs) (Err refusals.Memory)
metas_not xs is = cc

entries_not : (xs : List manifest.Entry) → ◌≢◌ {A = Result (List manifest.Entry) Refusal} (Ok xs) (Err refusals.Memory)
entries_not xs is = cc

module _ (laws : AtLaws) (f : Files) (s : TableSchema) (entries : List Entry) (folder : HasTable f s entries) (id : ℕ) (least : 1 ≤ id) (named : id ≤ greatest) where
  abbrev a : LogAskedView
  a = log_asked_of s id

  -- the snapshot is there, and is that of its entry
  pub record Commit : Type 0 where
    pub committed : IsCommitted f s (take id entries) id
    pub within : id ≤ length entries

  pub commit_of : IsSome (map.get f (snapshot_path id)) → Commit
  commit_of there =
      let bounds = snapshot-bounds f s entries id folder least named there in
      record { committed = bounds.2.committed id bounds.1; within = bounds.1.to }

  -- what is known there
  abbrev pub KnowsAt : Place → Type 0
  KnowsAt opening = Unit {0}
  KnowsAt (listing list) = (c : Commit) × (c.committed.snapshot.changelog_list ≡ Some list)
  KnowsAt (manifests metas es) = (c : Commit) × (later : List manifest.Entry) × HaveEntries f s metas later × (c.committed.contents.changes ≡ es ++ later)
      × AllByRecursion IsChangelogEntry c.committed.contents.changes
  KnowsAt (again path) = ⊥
  KnowsAt (files rest rows) = (c : Commit) × (done : List ChangesFile) × (files_of s c.committed.contents.changes ≡ done ++ rest)
      × HaveTaken f s done [] rows
  KnowsAt (over e) = (e ≡ refusals.Expired id) × (map.get f (snapshot_path id) ≡ None)

  on_at : (c : Commit) (metas : List ManifestMeta) (es later : List manifest.Entry) → HaveEntries f s metas later → c.committed.contents.changes ≡ es ++ later
      → AllByRecursion IsChangelogEntry c.committed.contents.changes → KnowsAt (reads_on a metas es)
  on_at c [] es later none parts each =
      let whole : c.committed.contents.changes ≡ es = parts ∙ ap (λ (later : List manifest.Entry). es ++ later) none ∙ append-nil es in
      (c, [], ap (files_of s) whole, refl)
  on_at c (meta ∷ metas) es later have parts each = (c, later, have, parts, each)

  at : (m : Place) (new : Place) → new ≡ m → KnowsAt m → KnowsAt new
  at m new is known = subst KnowsAt (sym is) known

  -- its changelog list, or none
  opens_at : (c : Commit) (o : Option (List ℕ)) → c.committed.snapshot.changelog_list ≡ o → KnowsAt (opens a o)
  opens_at c None is =
      let none = subst (λ (o : Option (List ℕ)). HasChangelog f s o c.committed.contents.changelog c.committed.contents.changes) is c.committed.has.changelog in
      (c, [], ap (files_of s) none.1, refl)
  opens_at c (Some list) is = (c, is)

  opened_at : (c : Commit) (bytes : List ℕ) (new : Place) → Some bytes ≡ map.get f (snapshot_path id) → OpenedAs a (snapshot_in id bytes) new → KnowsAt new
  opened_at c bytes new told goes =
      let x = c.committed.snapshot in
      let same : bytes ≡ c.committed.there.0 = bytes_same bytes c.committed.there.0 (told ∙ c.committed.there.1) in
      let is : snapshot_in id bytes ≡ Ok x = ap (snapshot_in id) same ∙ c.committed.there.2 in
      by_schema (subst (λ (r : Result Snapshot SnapFault). OpenedAs a r new) is goes)
    where
      by_schema : ((c.committed.snapshot.schema_id ≡ s.id) × (new ≡ opens a c.committed.snapshot.changelog_list))
          ⊎ ((c.committed.snapshot.schema_id ≢ s.id) × (new ≡ over (refusals.Damaged (schema_path c.committed.snapshot.schema_id) 0))) → KnowsAt new
      by_schema (inl (own, is)) = at (opens a c.committed.snapshot.changelog_list) new is (opens_at c c.committed.snapshot.changelog_list refl)
      by_schema (inr (foreign, is)) = absurd (foreign c.committed.schema)

  -- its changelog, where it has a list
  log_at : (c : Commit) (list : List ℕ) → c.committed.snapshot.changelog_list ≡ Some list → IsList f list c.committed.contents.changelog
      × HaveEntries f s c.committed.contents.changelog c.committed.contents.changes × AllByRecursion IsChangelogEntry c.committed.contents.changes
  log_at c list is = subst (λ (o : Option (List ℕ)). HasChangelog f s o c.committed.contents.changelog c.committed.contents.changes) is c.committed.has.changelog

  listed_at : (c : Commit) (list bytes : List ℕ) (new : Place) → c.committed.snapshot.changelog_list ≡ Some list → Some bytes ≡ map.get f (manifest_path list)
      → ListRead a list bytes new → KnowsAt new
  listed_at c list bytes new is told read =
      let log = log_at c list is in
      let metas = c.committed.contents.changelog in
      let same : log.0.bytes ≡ bytes = sym (bytes_same bytes log.0.bytes (told ∙ log.0.there)) in
      let own = subst (λ (bytes : List ℕ). ReadsFile has_meta_fields meta_in (manifest_path list) bytes (Ok metas)) same log.0.read in
      let result : read.result ≡ Ok metas = laws.one.lists has_meta_fields meta_in (manifest_path list) bytes read.result (Ok metas) read.reads own read.other (metas_not metas) in
      at (reads_on a metas []) new (read.is ∙ ap (list_leads a) result) (on_at c metas [] c.committed.contents.changes log.1 refl log.2)

  read_at : (c : Commit) (meta : ManifestMeta) (rest : List ManifestMeta) (es own later : List manifest.Entry) (bytes : List ℕ) (new : Place) → IsManifest f s meta.name own
      → HaveEntries f s rest later → c.committed.contents.changes ≡ es ++ (own ++ later) → AllByRecursion IsChangelogEntry c.committed.contents.changes
      → Some bytes ≡ map.get f (manifest_path meta.name) → ManifestRead a meta rest es bytes new → KnowsAt new
  read_at c meta rest es own later bytes new is have parts each told read = by_entries follows
    where
      same : is.bytes ≡ bytes
      same = sym (bytes_same bytes is.bytes (told ∙ is.there))

      result : read.result ≡ Ok own
      result = laws.one.manifests has_entry_fields (entry_in (shape_of s)) (manifest_path meta.name) bytes read.result (Ok own) read.reads
          (subst (λ (bytes : List ℕ). ReadsFile has_entry_fields (entry_in (shape_of s)) (manifest_path meta.name) bytes (Ok own)) same is.read) read.other (entries_not own)

      follows : (AllByRecursion IsChangelogEntry own × (new ≡ reads_on a rest (es ++ own)))
          ⊎ ((AllByRecursion IsChangelogEntry own → ⊥) × (new ≡ over (refusals.Damaged (manifest_path meta.name) 0)))
      follows = subst (λ (r : Result (List manifest.Entry) Refusal). Follows a meta rest es r new) result read.follows

      each_own : AllByRecursion IsChangelogEntry own
      each_own =
          let all = subst (AllByRecursion IsChangelogEntry) parts each in
          (AllByRecursion-parts IsChangelogEntry own later (AllByRecursion-parts IsChangelogEntry es (own ++ later) all).1).0

      by_entries : (AllByRecursion IsChangelogEntry own × (new ≡ reads_on a rest (es ++ own)))
          ⊎ ((AllByRecursion IsChangelogEntry own → ⊥) × (new ≡ over (refusals.Damaged (manifest_path meta.name) 0))) → KnowsAt new
      by_entries (inl (all, goes)) = at (reads_on a rest (es ++ own)) new goes (on_at c rest (es ++ own) later have (parts ∙ sym (append_assoc es own later)) each)
      by_entries (inr (none, goes)) = absurd (none each_own)

  -- the next file is there
  file_at : (c : Commit) (done : List ChangesFile) (file : ChangesFile) (rest : List ChangesFile) → files_of s c.committed.contents.changes ≡ done ++ file ∷ rest
      → (n : NextOf s c.committed.contents.changes file) × IsThere f s n.entry
  file_at c done file rest parts =
      let n = next_of s c.committed.contents.changes done file rest parts in
      (n, its_file f s c.committed.contents.changes file n c.committed.changes.each)

  taken_at : (c : Commit) (done : List ChangesFile) (file : ChangesFile) (rest : List ChangesFile) (rows : List Stamped) (bytes : List ℕ) (new : Place)
      → files_of s c.committed.contents.changes ≡ done ++ file ∷ rest → HaveTaken f s done [] rows → Some bytes ≡ map.get f file.path
      → FileRead s file rest rows bytes new → KnowsAt new
  taken_at c done file rest rows bytes new parts taken told (is_taken next took is) =
      at (files rest next) new is
      (c, done ++ file ∷ [], parts ∙ sym (append_assoc done (file ∷ []) rest), taken_more f s done file bytes [] rows next taken (sym told) took)
  taken_at c done file rest rows bytes new parts taken told (is_refused e other bad is) =
      let n = file_at c done file rest parts in
      absurd (other (refused_not laws.opened laws.frame.rows f s n.0.entry bytes e n.1
      (subst (λ (file : ChangesFile). map.get f file.path ≡ Some bytes) n.0.is (sym told)) (subst (λ (file : ChangesFile). RefusesFile s file bytes e) n.0.is bad)))

  -- what an answer of the files leads to
  answer_at : (m : Place) (answer : Answer) (new : Place) → After a m answer new → ((call : Call) → CallAt a m call → Answers call answer f → KnowsAt m → KnowsAt new)
  answer_at opening (answers.Found None) new is call made told known =
      let none : None ≡ map.get f (snapshot_path id) = subst (λ (call : Call). Answers call (answers.Found None) f) made told in
      at (over (refusals.Expired id)) new is (refl, sym none)
  answer_at opening (answers.Found (Some bytes)) new goes call made told known =
      let found : Some bytes ≡ map.get f (snapshot_path id) = subst (λ (call : Call). Answers call (answers.Found (Some bytes)) f) made told in
      opened_at (commit_of (found_some (map.get f (snapshot_path id)) bytes found)) bytes new found goes
  answer_at (listing list) (answers.Found None) new is call made told (c, named) =
      let none : None ≡ map.get f (manifest_path list) = subst (λ (call : Call). Answers call (answers.Found None) f) made told in
      let log = log_at c list named in
      absurd (absent_not (map.get f (manifest_path list)) log.0.bytes log.0.there none)
  answer_at (listing list) (answers.Found (Some bytes)) new read call made told (c, named) =
      let found : Some bytes ≡ map.get f (manifest_path list) = subst (λ (call : Call). Answers call (answers.Found (Some bytes)) f) made told in
      listed_at c list bytes new named found read
  answer_at (manifests (meta ∷ rest) es) (answers.Found None) new goes call made told (c, later, (own, others, split, is, have), parts, each) =
      let none : None ≡ map.get f (manifest_path meta.name) = subst (λ (call : Call). Answers call (answers.Found None) f) made told in
      absurd (absent_not (map.get f (manifest_path meta.name)) is.bytes is.there none)
  answer_at (manifests (meta ∷ rest) es) (answers.Found (Some bytes)) new read call made told (c, later, (own, others, split, is, have), parts, each) =
      let found : Some bytes ≡ map.get f (manifest_path meta.name) = subst (λ (call : Call). Answers call (answers.Found (Some bytes)) f) made told in
      read_at c meta rest es own others bytes new is have (parts ∙ ap (λ (later : List manifest.Entry). es ++ later) split) each found read
  answer_at (files (file ∷ rest) rows) (answers.Found None) new is call made told (c, done, parts, taken) =
      let none : None ≡ map.get f file.path = subst (λ (call : Call). Answers call (answers.Found None) f) made told in
      let n = file_at c done file rest parts in
      absurd (absent_not (map.get f (file_of s n.0.entry).path) n.1.1.bytes n.1.1.there (subst (λ (file : ChangesFile). None ≡ map.get f file.path) n.0.is none))
  answer_at (files (file ∷ rest) rows) (answers.Found (Some bytes)) new read call made told (c, done, parts, taken) =
      let found : Some bytes ≡ map.get f file.path = subst (λ (call : Call). Answers call (answers.Found (Some bytes)) f) made told in
      taken_at c done file rest rows bytes new parts taken found read
  answer_at (again path) answer new goes call made told known = absurd known
  answer_at m answer new goes call made told known = absurd goes

  event_at : (m : Place) (call : Call) (answer : Option Answer) (new : Place) → CallAt a m call → Given a m answer new → IfSome answer (λ answer. Answers call answer f)
      → KnowsAt m → KnowsAt new
  event_at m call None new made goes told known = absurd goes
  event_at m call (Some answer) new made goes told known = answer_at m answer new goes call made told known

  pub lead_at : (own : List Event) (m last : Place) → AreTold f own → Leads (Goes a) own m last → KnowsAt m → KnowsAt last
  lead_at [] m last told is known = at m last is known
  lead_at (event ∷ own) m last (one, told) (new, goes, rest) known =
      lead_at own new last told rest (event_at m event.call event.answer new goes.0 goes.1 one known)

  -- all files were read
  pub text_at : (rows : List Stamped) (text : List ℕ) → text ≡ merged_frame s id rows → KnowsAt (files [] rows)
      → (id ≤ length entries) × IsSome (map.get f (snapshot_path id)) × (HasProducer s → text ≡ frame s entries id)
  text_at rows text made (c, done, parts, taken) =
      let whole : files_of s c.committed.contents.changes ≡ done = parts ∙ append-nil done in
      let all : HaveTaken f s (files_of s c.committed.contents.changes) [] rows =
      subst (λ (files : List ChangesFile). HaveTaken f s files [] rows) (sym whole) taken in (
        c.within,
        subst (λ (o : Option (List ℕ)). IsSome o) (sym c.committed.there.1) refl,
        λ some. made ∙ frame_is laws.frame f f s entries id c.committed.contents.changes rows folder c.within c.committed.changes all some,
      )
