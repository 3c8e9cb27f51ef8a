-- What each answer to a reader of a frame leads to, but that memory may run out: so the same calls lead to one place, and
-- show one answer.
use Rattle.std.proofs.Common.{◌≡◌, ◌≢◌, ◌⊎◌, inl, inr, ℕ, List, [], ◌∷◌, ◌++◌, true, Option, None, Some, IsSome, Result, Ok, Err, refl, sym, ap, subst, ◌∙◌, append_assoc, append-nil}
use Rattle.std.specs.List.{AllByRecursion}
use Rattle.pm_base.proofs.Laws.{AllByRecursion-parts}
use Rattle.pm_values.specs.declared.record.Stamped.{Stamped}
use Rattle.pm_values.specs.declared.refusal.Refusal.{Refusal}
use Rattle.pm_values.specs.declared.refusal.Refusal.TheVariants as refusals
use Rattle.pm_store.specs.declared.answer.Answer.{Answer}
use Rattle.pm_store.specs.declared.answer.Answer.TheVariants as answers
use Rattle.pm_store.specs.declared.call.Call.{Call}
use Rattle.pm_store.specs.declared.call.Call.TheVariants as calls
use Rattle.pm_machine.specs.Step.{path_of}
use Rattle.pm_machine.specs.Trace.{Event, faulted}
use Rattle.pm_record.specs.File.{ReadsFile}
use Rattle.pm_run.specs.Reader.{OpensRun, RunView}
use Rattle.pm_run.specs.Rows.{Follow}
use Rattle.pm_run.proofs.OneLemmas.{OneOpening}
use Rattle.pm_run.proofs.OpenedLemmas.{OneFollow, one_opened, one_unopened, opened_not, refused_of}
use Rattle.pm_schema.specs.declared.schema.TableSchema.{TableSchema}
use Rattle.pm_snapshot.specs.Snapshot.{snapshot_in}
use Rattle.pm_snapshot.specs.declared.fault.SnapFault.{SnapFault}
use Rattle.pm_snapshot.specs.declared.snapshot.Snapshot.{Snapshot}
use Rattle.pm_manifest.specs.Entries.{entry_in, has_entry_fields}
use Rattle.pm_manifest.specs.Listed.{has_meta_fields, meta_in}
use Rattle.pm_manifest.specs.Shape.{shape_of}
use Rattle.pm_manifest.specs.declared.entry.Entry.{Entry}
use Rattle.pm_manifest.specs.declared.entry.ManifestMeta.{ManifestMeta}
use Rattle.pm_model_contents.specs.Lists.{IsChangelogEntry, manifest_path}
use Rattle.pm_model_folder.specs.Paths.{schema_path, snapshot_path}
use Rattle.pm_read_schema.proofs.LeadLemmas.{AreOne, Fails, IsAnswered, Leads, all_answered, failed, failed_not, lead_join, lead_step, led, one_failed, one_lead}
use Rattle.pm_read_table.specs.Trace.{HaveRead as ManifestsRead, read_file}
use Rattle.pm_read_table.proofs.CauseLemmas.{OneManifest}
use Rattle.pm_read_table.proofs.Facts.{OneList}
use Rattle.pm_read_log.specs.Log.{LogAskedView, log_asked_of}
use Rattle.pm_read_log.specs.LogReader as log_machine
use Rattle.pm_read_log.specs.LogTrace as log
use Rattle.pm_read_log.specs.LogTrace.{HasLog, bad_schema, bad_snapshot, gone_again, gone_first, has_other, is_absent, is_misread, lacks_list, lacks_manifest, misreads_list, misreads_manifest, of_list, without}
use Rattle.pm_read_log.specs.declared.log.Log.{Log}
use Rattle.pm_read_frame.specs.AllCalls.{DidFrame, Ends}
use Rattle.pm_merged_log.specs.Merged.{merged_frame}
use Rattle.pm_read_frame.specs.Reader.{next_call}
use Rattle.pm_read_frame.specs.Taken.{RefusesFile, Takes, files_of, misread, unopened}
use Rattle.pm_read_frame.specs.Trace.{DidSoFar, FindsNext, HasPart, HaveRead, LacksFile, Misreads, ReadsAgain, ShowsOfFiles}
use Rattle.pm_read_frame.specs.declared.file.ChangesFile.{ChangesFile}

-- ---- the laws of the crates below

pub record OneLaws : Type 0 where
  pub lists : OneList
  pub manifests : OneManifest
  pub opening : OneOpening
  pub rows : OneFollow

-- ---- where calls lead

-- the snapshot is to be read; or its changelog list; or the next of these manifests, after these entries; or the snapshot
-- again, as the file at the path was absent; or the next of these files, after these rows; or the reader was refused
pub data Place : Type 0 where
  opening : Place
  listing : List ℕ → Place
  manifests : List ManifestMeta → List Entry → Place
  again : List ℕ → Place
  files : List ChangesFile → List Stamped → Place
  over : Refusal → Place

-- what a file's bytes lead to
pub data FileRead (s : TableSchema) (file : ChangesFile) (rest : List ChangesFile) (before : List Stamped) (bytes : List ℕ) (new : Place) : Type 0 where
  is_taken : (next : List Stamped) → Takes s file bytes before next → new ≡ files rest next → FileRead s file rest before bytes new
  is_refused : (e : Refusal) → e ≢ refusals.Memory → RefusesFile s file bytes e → new ≡ over e → FileRead s file rest before bytes new

module _ (a : LogAskedView) where
  -- with these manifests left, after these entries
  abbrev pub reads_on : List ManifestMeta → List Entry → Place
  reads_on [] es = files (files_of a.schema es) []
  reads_on (meta ∷ metas) es = manifests (meta ∷ metas) es

  abbrev pub opens : Option (List ℕ) → Place
  opens None = reads_on [] []
  opens (Some list) = listing list

  abbrev pub OpenedAs : Result Snapshot SnapFault → Place → Type 0
  OpenedAs (Ok x) new =
      ((x.schema_id ≡ a.schema.id) × (new ≡ opens x.changelog_list))
      ⊎ ((x.schema_id ≢ a.schema.id) × (new ≡ over (refusals.Damaged (schema_path x.schema_id) 0)))
  OpenedAs (Err fault) new = new ≡ over (refusals.Damaged (snapshot_path a.id) 0)

  abbrev pub list_leads : Result (List ManifestMeta) Refusal → Place
  list_leads (Ok metas) = reads_on metas []
  list_leads (Err e) = over e

  pub record ListRead (list bytes : List ℕ) (new : Place) : Type 0 where
    pub result : Result (List ManifestMeta) Refusal
    pub reads : ReadsFile has_meta_fields meta_in (manifest_path list) bytes result
    pub other : result ≢ Err refusals.Memory
    pub is : new ≡ list_leads result

  abbrev pub Follows : ManifestMeta → List ManifestMeta → List Entry → Result (List Entry) Refusal → Place → Type 0
  Follows meta rest es (Ok own) new =
      (AllByRecursion IsChangelogEntry own × (new ≡ reads_on rest (es ++ own)))
      ⊎ ((AllByRecursion IsChangelogEntry own → ⊥) × (new ≡ over (refusals.Damaged (manifest_path meta.name) 0)))
  Follows meta rest es (Err e) new = new ≡ over e

  pub record ManifestRead (meta : ManifestMeta) (rest : List ManifestMeta) (es : List Entry) (bytes : List ℕ) (new : Place) : Type 0 where
    pub result : Result (List Entry) Refusal
    pub reads : ReadsFile has_entry_fields (entry_in (shape_of a.schema)) (manifest_path meta.name) bytes result
    pub other : result ≢ Err refusals.Memory
    pub follows : Follows meta rest es result new

  -- what an answer leads to
  abbrev pub After : Place → Answer → Place → Type 0
  After opening (answers.Found None) new = new ≡ over (refusals.Expired a.id)
  After opening (answers.Found (Some bytes)) new = OpenedAs (snapshot_in a.id bytes) new
  After (listing list) (answers.Found None) new = new ≡ again (manifest_path list)
  After (listing list) (answers.Found (Some bytes)) new = ListRead list bytes new
  After (manifests (meta ∷ rest) es) (answers.Found None) new = new ≡ again (manifest_path meta.name)
  After (manifests (meta ∷ rest) es) (answers.Found (Some bytes)) new = ManifestRead meta rest es bytes new
  After (again path) (answers.Found None) new = new ≡ over (refusals.Expired a.id)
  After (again path) (answers.Found (Some bytes)) new = new ≡ over (refusals.Damaged path 0)
  After (files (file ∷ rest) rows) (answers.Found None) new = new ≡ again file.path
  After (files (file ∷ rest) rows) (answers.Found (Some bytes)) new = FileRead a.schema file rest rows bytes new
  After m answer new = ⊥

  abbrev pub Given : Place → Option Answer → Place → Type 0
  Given m None new = ⊥
  Given m (Some answer) new = After m answer new

  -- the call that is made there
  abbrev pub CallAt : Place → Call → Type 0
  CallAt opening call = call ≡ calls.Read (snapshot_path a.id)
  CallAt (listing list) call = call ≡ calls.Read (manifest_path list)
  CallAt (manifests (meta ∷ rest) es) call = call ≡ calls.Read (manifest_path meta.name)
  CallAt (again path) call = call ≡ calls.Read (snapshot_path a.id)
  CallAt (files (file ∷ rest) rows) call = call ≡ calls.Read file.path
  CallAt m call = ⊥

  abbrev pub Goes : Place → Event → Place → Type 0
  Goes m event new = CallAt m event.call × Given m event.answer new

  given_answered : (m new : Place) (answer : Option Answer) → Given m answer new → IsSome answer
  given_answered m new None goes = absurd goes
  given_answered m new (Some answer) goes = refl

  -- no call that leads on failed
  pub leads_answered : (own : List Event) (m : Place) → Leads Goes own opening m → AllByRecursion IsAnswered own
  leads_answered own m lead = all_answered Goes (λ m event new goes. given_answered m new event.answer goes.1) own opening m lead

-- ---- they lead to one place

module _ (laws : OneLaws) where
  one_follow : (s : TableSchema) (file : ChangesFile) (bytes : List ℕ) (v w : RunView) (rows others : List Stamped) (end other : Option Refusal)
      → OpensRun s true file.schema_id file.path bytes (Ok v) → OpensRun s true file.schema_id file.path bytes (Ok w)
      → Follow v.opened v.opened.file.first None rows end → Follow w.opened w.opened.file.first None others other → (rows ≡ others) × (end ≡ other)
  one_follow s file bytes v w rows others end other opens opened follow followed =
      one_opened laws.opening laws.rows s true file.schema_id file.path bytes None v w rows others end other opens opened follow followed

  one_taken : (s : TableSchema) (file : ChangesFile) (bytes : List ℕ) (before one other : List Stamped) → Takes s file bytes before one → Takes s file bytes before other → one ≡ other
  one_taken s file bytes before one other (rows, (v, opens, follow), is) (others, (w, opened, followed), was) =
      is ∙ ap (λ (rows : List Stamped). before ++ rows) (one_follow s file bytes v w rows others None None opens opened follow followed).0 ∙ sym was

  end_not : (e : Refusal) → ◌≡◌ {A = Option Refusal} None (Some e) → ⊥
  end_not e is = cc

  one_end_refusal : (e d : Refusal) → ◌≡◌ {A = Option Refusal} (Some e) (Some d) → e ≡ d
  one_end_refusal e d is = cc

  taken_not : (s : TableSchema) (file : ChangesFile) (bytes : List ℕ) (before new : List Stamped) (e : Refusal) → e ≢ refusals.Memory → Takes s file bytes before new → RefusesFile s file bytes e → ⊥
  taken_not s file bytes before new e other (rows, (v, opens, follow), is) (unopened refuses) =
      opened_not laws.opening s true file.schema_id file.path bytes v e other opens (refused_of s file.schema_id file.path bytes e other refuses)
  taken_not s file bytes before new e other (rows, (v, opens, follow), is) (misread w others opened followed) =
      end_not e (one_follow s file bytes v w rows others None (Some e) opens opened follow followed).1

  one_refused : (s : TableSchema) (file : ChangesFile) (bytes : List ℕ) (e d : Refusal) → e ≢ refusals.Memory → d ≢ refusals.Memory → RefusesFile s file bytes e
      → RefusesFile s file bytes d → e ≡ d
  one_refused s file bytes e d other more (unopened refuses) (unopened refused) =
      one_unopened laws.opening s file.schema_id file.path bytes e d other more (refused_of s file.schema_id file.path bytes e other refuses) (refused_of s file.schema_id file.path bytes d more refused)
  one_refused s file bytes e d other more (unopened refuses) (misread w others opened followed) =
      absurd (opened_not laws.opening s true file.schema_id file.path bytes w e other opened (refused_of s file.schema_id file.path bytes e other refuses))
  one_refused s file bytes e d other more (misread v rows opens follow) (unopened refused) =
      absurd (opened_not laws.opening s true file.schema_id file.path bytes v d more opens (refused_of s file.schema_id file.path bytes d more refused))
  one_refused s file bytes e d other more (misread v rows opens follow) (misread w others opened followed) =
      one_end_refusal e d (one_follow s file bytes v w rows others (Some e) (Some d) opens opened follow followed).1

  one_file : (s : TableSchema) (file : ChangesFile) (rest : List ChangesFile) (before : List Stamped) (bytes : List ℕ) (one other : Place) → FileRead s file rest before bytes one
      → FileRead s file rest before bytes other → one ≡ other
  one_file s file rest before bytes one other (is_taken next took is) (is_taken also taken was) =
      is ∙ ap (λ (rows : List Stamped). files rest rows) (one_taken s file bytes before next also took taken) ∙ sym was
  one_file s file rest before bytes one other (is_taken next took is) (is_refused e not_memory refused was) = absurd (taken_not s file bytes before next e not_memory took refused)
  one_file s file rest before bytes one other (is_refused e not_memory refused is) (is_taken next took was) = absurd (taken_not s file bytes before next e not_memory took refused)
  one_file s file rest before bytes one other (is_refused e not_memory refused is) (is_refused d nor_memory denied was) =
      is ∙ ap over (one_refused s file bytes e d not_memory nor_memory refused denied) ∙ sym was

module _ (laws : OneLaws) (a : LogAskedView) where
  one_opened_as : (result : Result Snapshot SnapFault) (one other : Place) → OpenedAs a result one → OpenedAs a result other → one ≡ other
  one_opened_as (Ok x) one other (inl (own, p)) (inl (also, q)) = p ∙ sym q
  one_opened_as (Ok x) one other (inl (own, p)) (inr (foreign, q)) = absurd (foreign own)
  one_opened_as (Ok x) one other (inr (foreign, p)) (inl (own, q)) = absurd (foreign own)
  one_opened_as (Ok x) one other (inr (foreign, p)) (inr (also, q)) = p ∙ sym q
  one_opened_as (Err fault) one other p q = p ∙ sym q

  one_list_read : (list bytes : List ℕ) (one other : Place) → ListRead a list bytes one → ListRead a list bytes other → one ≡ other
  one_list_read list bytes one other p q =
      p.is ∙ ap (list_leads a) (laws.lists has_meta_fields meta_in (manifest_path list) bytes p.result q.result p.reads q.reads p.other q.other) ∙ sym q.is

  one_follows : (meta : ManifestMeta) (rest : List ManifestMeta) (es : List Entry) (result : Result (List Entry) Refusal) (one other : Place)
      → Follows a meta rest es result one → Follows a meta rest es result other → one ≡ other
  one_follows meta rest es (Ok own) one other (inl (each, p)) (inl (also, q)) = p ∙ sym q
  one_follows meta rest es (Ok own) one other (inl (each, p)) (inr (none, q)) = absurd (none each)
  one_follows meta rest es (Ok own) one other (inr (none, p)) (inl (each, q)) = absurd (none each)
  one_follows meta rest es (Ok own) one other (inr (none, p)) (inr (also, q)) = p ∙ sym q
  one_follows meta rest es (Err e) one other p q = p ∙ sym q

  one_manifest_read : (meta : ManifestMeta) (rest : List ManifestMeta) (es : List Entry) (bytes : List ℕ) (one other : Place) → ManifestRead a meta rest es bytes one
      → ManifestRead a meta rest es bytes other → one ≡ other
  one_manifest_read meta rest es bytes one other p q =
      let same = laws.manifests has_entry_fields (entry_in (shape_of a.schema)) (manifest_path meta.name) bytes p.result q.result p.reads q.reads p.other q.other in
      one_follows meta rest es q.result one other (subst (λ (r : Result (List Entry) Refusal). Follows a meta rest es r one) same p.follows) q.follows

  one_after : (m : Place) (answer : Answer) (one other : Place) → After a m answer one → After a m answer other → one ≡ other
  one_after opening (answers.Found None) one other p q = p ∙ sym q
  one_after opening (answers.Found (Some bytes)) one other p q = one_opened_as (snapshot_in a.id bytes) one other p q
  one_after (listing list) (answers.Found None) one other p q = p ∙ sym q
  one_after (listing list) (answers.Found (Some bytes)) one other p q = one_list_read list bytes one other p q
  one_after (manifests (meta ∷ rest) es) (answers.Found None) one other p q = p ∙ sym q
  one_after (manifests (meta ∷ rest) es) (answers.Found (Some bytes)) one other p q = one_manifest_read meta rest es bytes one other p q
  one_after (again path) (answers.Found None) one other p q = p ∙ sym q
  one_after (again path) (answers.Found (Some bytes)) one other p q = p ∙ sym q
  one_after (files (file ∷ rest) rows) (answers.Found None) one other p q = p ∙ sym q
  one_after (files (file ∷ rest) rows) (answers.Found (Some bytes)) one other p q = one_file laws a.schema file rest rows bytes one other p q
  one_after m answer one other p q = absurd p

  one_given : (m : Place) (answer : Option Answer) (one other : Place) → Given a m answer one → Given a m answer other → one ≡ other
  one_given m None one other p q = absurd p
  one_given m (Some answer) one other p q = one_after m answer one other p q

  pub are_one : AreOne (Goes a)
  are_one m event one other p q = one_given m event.answer one other p.1 q.1

-- ---- how far they have come

module _ (a : LogAskedView) where
  abbrev pub LeadsTo : List Event → Place → Type 0
  LeadsTo own m = Leads (Goes a) own opening m

  metas_not : (metas : List ManifestMeta) → ◌≢◌ {A = Result (List ManifestMeta) Refusal} (Ok metas) (Err refusals.Memory)
  metas_not metas is = cc

  entries_not : (es : List Entry) → ◌≢◌ {A = Result (List Entry) Refusal} (Ok es) (Err refusals.Memory)
  entries_not es is = cc

  step : (own earlier : List Event) (m new : Place) (event : Event) → own ≡ earlier ++ event ∷ [] → LeadsTo earlier m → Goes a m event new → LeadsTo own new
  step own earlier m new event is lead goes = led (Goes a) own (earlier ++ event ∷ []) opening new is (lead_step (Goes a) earlier opening m new event lead goes)

  reads_lead : (found : Option (List ℕ)) (own : List Event) (new : Place) → log.Reads a found own → After a opening (answers.Found found) new → LeadsTo own new
  reads_lead found own new is goes = led (Goes a) own (read_file (snapshot_path a.id) found ∷ []) opening new is (new, (refl, goes), refl)

  has_lead : (x : Snapshot) (own : List Event) → log.Has a x own → LeadsTo own (opens a x.changelog_list)
  has_lead x own (bytes, reads, schema, at) =
      reads_lead (Some bytes) own (opens a x.changelog_list) at
      (subst (λ (r : Result Snapshot SnapFault). OpenedAs a r (opens a x.changelog_list)) (sym reads) (inl (schema, refl)))

  pub named_lead : (x : Snapshot) (list : List ℕ) (own : List Event) → log.HasName a x list own → LeadsTo own (listing list)
  named_lead x list own (has, named) = subst (λ (o : Option (List ℕ)). LeadsTo own (opens a o)) named (has_lead x own has)

  list_lead : (x : Snapshot) (list : List ℕ) (found : Option (List ℕ)) (own : List Event) (new : Place) → log.FindsList a x list found own
      → After a (listing list) (answers.Found found) new → LeadsTo own new
  list_lead x list found own new (earlier, named, is) goes =
      step own earlier (listing list) new (read_file (manifest_path list) found) is (named_lead x list earlier named) (refl, goes)

  -- manifests were read, of which the entries are a changelog's
  have_lead : (metas rest : List ManifestMeta) (before es : List Entry) (own : List Event) → ManifestsRead a.schema metas es own → AllByRecursion IsChangelogEntry es
      → Leads (Goes a) own (reads_on a (metas ++ rest) before) (reads_on a rest (before ++ es))
  have_lead [] rest before es own (none, quiet) each =
      led (Goes a) own [] (reads_on a rest before) (reads_on a rest (before ++ es)) quiet
      (ap (λ (es : List Entry). reads_on a rest (before ++ es)) none ∙ ap (reads_on a rest) (append-nil before))
  have_lead (meta ∷ metas) rest before es own (bytes, first, later, events, reads, split, is, more) each =
      let parts = AllByRecursion-parts IsChangelogEntry first later (subst (AllByRecursion IsChangelogEntry) split each) in
      let read : ManifestRead a meta (metas ++ rest) before bytes (reads_on a (metas ++ rest) (before ++ first)) =
      record { result = Ok first; reads = reads; other = entries_not first; follows = inl (parts.0, refl) } in
      let same : reads_on a rest ((before ++ first) ++ later) ≡ reads_on a rest (before ++ es) =
      ap (reads_on a rest) (append_assoc before first later ∙ ap (λ (es : List Entry). before ++ es) (sym split)) in
      led (Goes a) own (read_file (manifest_path meta.name) (Some bytes) ∷ events) (manifests (meta ∷ (metas ++ rest)) before) (reads_on a rest (before ++ es)) is (
        reads_on a (metas ++ rest) (before ++ first),
        (refl, read),
        subst (λ (m : Place). Leads (Goes a) events (reads_on a (metas ++ rest) (before ++ first)) m) same (have_lead metas rest (before ++ first) later events more parts.1),
      )

  pub log_part_lead : (x : Snapshot) (done rest : List ManifestMeta) (es : List Entry) (own : List Event) → log.HasPart a x done rest es own → LeadsTo own (reads_on a rest es)
  log_part_lead x done rest es own part =
      let first : LeadsTo part.lists (reads_on a (done ++ rest) []) =
      list_lead x part.list (Some part.bytes) part.lists (reads_on a (done ++ rest) []) part.found
      (record { result = Ok (done ++ rest); reads = part.listed; other = metas_not (done ++ rest); is = refl }) in
      led (Goes a) own (part.lists ++ part.reads) opening (reads_on a rest es) part.is
      (lead_join (Goes a) part.lists part.reads opening (reads_on a (done ++ rest) []) (reads_on a rest es) first (have_lead done rest [] es part.reads part.read part.each))

  next_lead : (x : Snapshot) (done : List ManifestMeta) (meta : ManifestMeta) (rest : List ManifestMeta) (es : List Entry) (found : Option (List ℕ)) (own : List Event)
      (new : Place) → log.FindsNext a x done meta rest es found own → After a (manifests (meta ∷ rest) es) (answers.Found found) new → LeadsTo own new
  next_lead x done meta rest es found own new (earlier, part, is) goes =
      step own earlier (manifests (meta ∷ rest) es) new (read_file (manifest_path meta.name) found) is (log_part_lead x done (meta ∷ rest) es earlier part) (refl, goes)

  pub lacks_lead : (path : List ℕ) (own : List Event) → log.LacksFile a path own → LeadsTo own (again path)
  lacks_lead path own (lacks_list x list at finds) = list_lead x list None own (again path) finds (ap again at)
  lacks_lead path own (lacks_manifest x done meta rest es at finds) = next_lead x done meta rest es None own (again path) finds (ap again at)

  again_lead : (path : List ℕ) (found : Option (List ℕ)) (own : List Event) (new : Place) → log.ReadsAgain a path found own
      → After a (again path) (answers.Found found) new → LeadsTo own new
  again_lead path found own new (earlier, lacks, is) goes = step own earlier (again path) new (read_file (snapshot_path a.id) found) is (lacks_lead path earlier lacks) (refl, goes)

  -- ---- the files

  pub log_schema : (l : Log) (own : List Event) → HasLog a l own → l.schema ≡ a.schema
  log_schema l own (without x none has is) = is.schema
  log_schema l own (of_list x metas es part is) = is.schema

  abbrev at_files : Log → Place
  at_files l = files (files_of a.schema l.changes.items) []

  log_files : (l : Log) (es : List Entry) → l.changes.items ≡ es → reads_on a [] es ≡ at_files l
  log_files l es are = ap (λ (es : List Entry). files (files_of a.schema es) []) (sym are)

  pub log_lead : (l : Log) (own : List Event) → HasLog a l own → LeadsTo own (at_files l)
  log_lead l own (without x none has is) =
      subst (LeadsTo own) (log_files l [] is.entries)
      (subst (λ (o : Option (List ℕ)). LeadsTo own (opens a o)) none (has_lead x own has))
  log_lead l own (of_list x metas es part is) =
      subst (LeadsTo own) (log_files l es is.entries) (log_part_lead x metas [] es own part)

  files_lead : (done rest : List ChangesFile) (old new : List Stamped) (own : List Event) → HaveRead a.schema done old new own
      → Leads (Goes a) own (files (done ++ rest) old) (files rest new)
  files_lead [] rest old new own (same, none) = led (Goes a) own [] (files rest old) (files rest new) none (ap (λ (rows : List Stamped). files rest rows) same)
  files_lead (file ∷ done) rest old new own (bytes, middle, events, took, is, more) =
      led (Goes a) own (read_file file.path (Some bytes) ∷ events) (files (file ∷ (done ++ rest)) old) (files rest new) is
      (files (done ++ rest) middle, (refl, is_taken middle took refl), files_lead done rest middle new events more)

  pub part_lead : (l : Log) (rows : List Stamped) (rest : List ChangesFile) (own : List Event) → HasPart a l rows rest own → LeadsTo own (files rest rows)
  part_lead l rows rest own part =
      let schema = log_schema l part.first part.logged in
      let parts : files_of a.schema l.changes.items ≡ part.done ++ rest =
      ap (λ (s : TableSchema). files_of s l.changes.items) (sym schema) ∙ part.parts in
      let first : LeadsTo part.first (files (part.done ++ rest) []) =
      subst (λ (left : List ChangesFile). LeadsTo part.first (files left [])) parts (log_lead l part.first part.logged) in
      let read : HaveRead a.schema part.done [] rows part.reads =
      subst (λ (s : TableSchema). HaveRead s part.done [] rows part.reads) schema part.read in
      led (Goes a) own (part.first ++ part.reads) opening (files rest rows) part.is
      (lead_join (Goes a) part.first part.reads opening (files (part.done ++ rest) []) (files rest rows) first
      (files_lead part.done rest [] rows part.reads read))

  file_lead : (l : Log) (rows : List Stamped) (file : ChangesFile) (rest : List ChangesFile) (found : Option (List ℕ)) (own : List Event) (new : Place)
      → FindsNext a l rows file rest found own → After a (files (file ∷ rest) rows) (answers.Found found) new → LeadsTo own new
  file_lead l rows file rest found own new (earlier, part, is) goes =
      step own earlier (files (file ∷ rest) rows) new (read_file file.path found) is (part_lead l rows (file ∷ rest) earlier part) (refl, goes)

  pub absent_lead : (path : List ℕ) (own : List Event) → LacksFile a path own → LeadsTo own (again path)
  absent_lead path own lacks = file_lead lacks.log lacks.rows lacks.file lacks.rest None own (again path) lacks.absent (ap again lacks.is_path)

  reread_lead : (path : List ℕ) (found : Option (List ℕ)) (own : List Event) (new : Place) → ReadsAgain a path found own
      → After a (again path) (answers.Found found) new → LeadsTo own new
  reread_lead path found own new (earlier, lacks, is) goes = step own earlier (again path) new (read_file (snapshot_path a.id) found) is (absent_lead path earlier lacks) (refl, goes)

  -- ---- what they show

  -- memory ran out; or the last call failed; or they lead to this answer
  pub data IsShown (made : Result (List ℕ) Refusal) (own : List Event) : Type 0 where
    of_memory : made ≡ Err refusals.Memory → IsShown made own
    of_failure : (e : Refusal) → made ≡ Err e → Fails e own → IsShown made own
    of_refusal : (e : Refusal) → made ≡ Err e → LeadsTo own (over e) → IsShown made own
    of_frame : (rows : List Stamped) → made ≡ Ok (merged_frame a.schema a.id rows) → LeadsTo own (files [] rows) → IsShown made own

  refused_at : (e : Refusal) (own : List Event) → LeadsTo own (over e) → IsShown (Err e) own
  refused_at e own lead = of_refusal e refl lead

  damaged_at : (path at : List ℕ) (place : ℕ) (own : List Event) → path ≡ at → place ≡ 0 → LeadsTo own (over (refusals.Damaged at 0)) → IsShown (Err (refusals.Damaged path place)) own
  damaged_at path at place own is first lead =
      refused_at (refusals.Damaged path place) own
      (subst (λ (path : List ℕ). LeadsTo own (over (refusals.Damaged path place))) (sym is)
      (subst (λ (place : ℕ). LeadsTo own (over (refusals.Damaged at place))) (sym first) lead))

  log_misreads : (e : Refusal) (own : List Event) → e ≢ refusals.Memory → log.Misreads a e own → IsShown (Err e) own
  log_misreads e own other (misreads_list x list bytes fault finds) =
      refused_at e own (list_lead x list (Some bytes) own (over e) finds
      (record { result = Err e; reads = fault; other = λ is. other (metas_fault e is); is = refl }))
    where
      metas_fault : (e : Refusal) → ◌≡◌ {A = Result (List ManifestMeta) Refusal} (Err e) (Err refusals.Memory) → e ≡ refusals.Memory
      metas_fault e is = cc
  log_misreads e own other (misreads_manifest x done meta rest es bytes fault finds) =
      refused_at e own (next_lead x done meta rest es (Some bytes) own (over e) finds
      (record { result = Err e; reads = fault; other = λ is. other (entries_fault e is); follows = refl }))
    where
      entries_fault : (e : Refusal) → ◌≡◌ {A = Result (List Entry) Refusal} (Err e) (Err refusals.Memory) → e ≡ refusals.Memory
      entries_fault e is = cc

  pub damaged_not : (path : List ℕ) (place : ℕ) → refusals.Damaged path place ≢ refusals.Memory
  damaged_not path place is = cc

  pub unsupported_not : (what text : List ℕ) → refusals.Unsupported what text ≢ refusals.Memory
  unsupported_not what text is = cc

  log_damaged : (path : List ℕ) (place : ℕ) (own : List Event) → log.IsDamaged a path place own → IsShown (Err (refusals.Damaged path place)) own
  log_damaged path place own (bad_snapshot bytes at first bad reads) =
      damaged_at path (snapshot_path a.id) place own at first
      (reads_lead (Some bytes) own (over (refusals.Damaged (snapshot_path a.id) 0)) reads
      (subst (λ (r : Result Snapshot SnapFault). OpenedAs a r (over (refusals.Damaged (snapshot_path a.id) 0))) (sym bad) refl))
  log_damaged path place own (bad_schema x bytes at first read other reads) =
      damaged_at path (schema_path x.schema_id) place own at first
      (reads_lead (Some bytes) own (over (refusals.Damaged (schema_path x.schema_id) 0)) reads
      (subst (λ (r : Result Snapshot SnapFault). OpenedAs a r (over (refusals.Damaged (schema_path x.schema_id) 0))) (sym read) (inr (other, refl))))
  log_damaged path place own (is_absent bytes first reads) =
      damaged_at path path place own refl first (again_lead path (Some bytes) own (over (refusals.Damaged path 0)) reads refl)
  log_damaged path place own (is_misread misreads) = log_misreads (refusals.Damaged path place) own (damaged_not path place) misreads
  log_damaged path place own (has_other x done meta rest es later bytes at first reads other finds) =
      damaged_at path (manifest_path meta.name) place own at first
      (next_lead x done meta rest es (Some bytes) own (over (refusals.Damaged (manifest_path meta.name) 0)) finds
      (record {
        result = Ok later;
        reads = subst (λ (path : List ℕ). ReadsFile has_entry_fields (entry_in (shape_of a.schema)) path bytes (Ok later)) at reads;
        other = entries_not later;
        follows = inr (other, refl);
      }))

  expired_at : (id : ℕ) (own : List Event) → id ≡ a.id → LeadsTo own (over (refusals.Expired a.id)) → IsShown (Err (refusals.Expired id)) own
  expired_at id own is lead = refused_at (refusals.Expired id) own (subst (λ (id : ℕ). LeadsTo own (over (refusals.Expired id))) (sym is) lead)

  log_gone : (own : List Event) → log.IsGone a own → LeadsTo own (over (refusals.Expired a.id))
  log_gone own (gone_first reads) = reads_lead None own (over (refusals.Expired a.id)) reads refl
  log_gone own (gone_again path reads) = again_lead path None own (over (refusals.Expired a.id)) reads refl

  log_shown : (e : Refusal) (own : List Event) → log.Shows a e own → IsShown (Err e) own
  log_shown refusals.Memory own shows = of_memory refl
  log_shown (refusals.StoreFault path) own fails = of_failure (refusals.StoreFault path) refl (failed log_machine.next_call (log.DidSoFar a) path own fails)
  log_shown (refusals.Expired id) own (is, gone) = expired_at id own is (log_gone own gone)
  log_shown (refusals.Damaged path place) own damaged = log_damaged path place own damaged
  log_shown (refusals.Unsupported what text) own misreads = log_misreads (refusals.Unsupported what text) own (unsupported_not what text) misreads
  log_shown other own shows = absurd shows

  files_misread : (e : Refusal) (own : List Event) → e ≢ refusals.Memory → Misreads a e own → IsShown (Err e) own
  files_misread e own other (l, rows, file, rest, bytes, bad, (earlier, part, is)) =
      refused_at e own (file_lead l rows file rest (Some bytes) own (over e) (earlier, part, is)
      (is_refused e other (subst (λ (s : TableSchema). RefusesFile s file bytes e) (log_schema l part.first part.logged) bad) refl))

  files_shown : (e : Refusal) (own : List Event) → ShowsOfFiles a e own → IsShown (Err e) own
  files_shown refusals.Memory own shows = of_memory refl
  files_shown (refusals.StoreFault path) own fails = of_failure (refusals.StoreFault path) refl (failed next_call (DidSoFar a) path own fails)
  files_shown (refusals.Expired id) own (is, path, reads) = expired_at id own is (reread_lead path None own (over (refusals.Expired a.id)) reads refl)
  files_shown (refusals.Damaged path place) own (inl (first, bytes, reads)) =
      damaged_at path path place own refl first (reread_lead path (Some bytes) own (over (refusals.Damaged path 0)) reads refl)
  files_shown (refusals.Damaged path place) own (inr misreads) = files_misread (refusals.Damaged path place) own (damaged_not path place) misreads
  files_shown (refusals.Unsupported what text) own misreads = files_misread (refusals.Unsupported what text) own (unsupported_not what text) misreads
  files_shown other own shows = absurd shows

  pub is_shown : (made : Result (List ℕ) Refusal) (own : List Event) → Ends a made own → IsShown made own
  is_shown (Ok text) own (l, rows, part, is) =
      of_frame rows (ap Ok (is ∙ ap (λ (s : TableSchema). merged_frame s a.id rows) (log_schema l part.first part.logged))) (part_lead l rows [] own part)
  is_shown (Err e) own (inl shows) = log_shown e own shows
  is_shown (Err e) own (inr shows) = files_shown e own shows

  -- ---- one answer

  -- two answers are one, or memory ran out
  abbrev AreAlike : Result (List ℕ) Refusal → Result (List ℕ) Refusal → Type 0
  AreAlike one other = (one ≡ other) ⊎ ((one ≡ Err refusals.Memory) ⊎ (other ≡ Err refusals.Memory))

  same_errs : (one other : Result (List ℕ) Refusal) (e d : Refusal) → one ≡ Err e → other ≡ Err d → e ≡ d → AreAlike one other
  same_errs one other e d is was same = inl (is ∙ ap Err same ∙ sym was)

  over_same : (e d : Refusal) → over e ≡ over d → e ≡ d
  over_same e d is = cc

  over_not : (e : Refusal) (rows : List Stamped) → over e ≡ files [] rows → ⊥
  over_not e rows is = cc

  files_same : (rows other : List Stamped) → files [] rows ≡ files [] other → rows ≡ other
  files_same rows other is = cc

  module _ (laws : OneLaws) (own : List Event) where
    one_place : (m n : Place) → LeadsTo own m → LeadsTo own n → m ≡ n
    one_place m n lead leads = one_lead (Goes a) (are_one laws a) own opening m n lead leads

    one_shown : (one other : Result (List ℕ) Refusal) → IsShown one own → IsShown other own → AreAlike one other
    one_shown one other (of_memory memory) was = inr (inl memory)
    one_shown one other is (of_memory memory) = inr (inr memory)
    one_shown one other (of_failure e is fails) (of_failure d was failed) = same_errs one other e d is was (one_failed e d own fails failed)
    one_shown one other (of_failure e is fails) (of_refusal d was lead) = absurd (failed_not e own fails (leads_answered a own (over d) lead))
    one_shown one other (of_failure e is fails) (of_frame rows was lead) = absurd (failed_not e own fails (leads_answered a own (files [] rows) lead))
    one_shown one other (of_refusal e is lead) (of_failure d was fails) = absurd (failed_not d own fails (leads_answered a own (over e) lead))
    one_shown one other (of_refusal e is lead) (of_refusal d was leads) = same_errs one other e d is was (over_same e d (one_place (over e) (over d) lead leads))
    one_shown one other (of_refusal e is lead) (of_frame rows was leads) = absurd (over_not e rows (one_place (over e) (files [] rows) lead leads))
    one_shown one other (of_frame rows is lead) (of_failure d was fails) = absurd (failed_not d own fails (leads_answered a own (files [] rows) lead))
    one_shown one other (of_frame rows is lead) (of_refusal d was leads) = absurd (over_not d rows (one_place (over d) (files [] rows) leads lead))
    one_shown one other (of_frame rows is lead) (of_frame more was leads) =
        inl (is ∙ ap (λ (rows : List Stamped). Ok (merged_frame a.schema a.id rows)) (files_same rows more (one_place (files [] rows) (files [] more) lead leads)) ∙ sym was)

  -- where the last call failed the answer says so
  failed_answer : (own : List Event) (made : Result (List ℕ) Refusal) (e : Refusal) → Fails e own → IsShown made own → (made ≡ Err refusals.Memory) ⊎ (made ≡ Err e)
  failed_answer own made e fails (of_memory memory) = inl memory
  failed_answer own made e fails (of_failure d was failing) = inr (was ∙ ap Err (one_failed d e own failing fails))
  failed_answer own made e fails (of_refusal d was lead) = absurd (failed_not e own fails (leads_answered a own (over d) lead))
  failed_answer own made e fails (of_frame rows was lead) = absurd (failed_not e own fails (leads_answered a own (files [] rows) lead))

pub one_answer : OneLaws → (s : TableSchema) (id : ℕ) (own : List Event) (one other : Result (List ℕ) Refusal) → DidFrame s id one own → DidFrame s id other own
    → (one ≡ other) ⊎ ((one ≡ Err refusals.Memory) ⊎ (other ≡ Err refusals.Memory))
one_answer laws s id own one other did does =
    one_shown (log_asked_of s id) laws own one other (is_shown (log_asked_of s id) one own did) (is_shown (log_asked_of s id) other own does)

pub failed_frame : (s : TableSchema) (id : ℕ) (earlier : List Event) (call : Call) (made : Result (List ℕ) Refusal) → DidFrame s id made (earlier ++ faulted call ∷ [])
    → (made ≡ Err refusals.Memory) ⊎ (made ≡ Err (refusals.StoreFault (path_of call)))
failed_frame s id earlier call made did =
    failed_answer (log_asked_of s id) (earlier ++ faulted call ∷ []) made (refusals.StoreFault (path_of call)) (earlier, call, refl, refl)
    (is_shown (log_asked_of s id) made (earlier ++ faulted call ∷ []) did)
