-- Where the calls of a reader of a changelog lead: to one place, but that memory may run out. It is that of
-- pm_read_frame/proofs/OneLemmas.antt without the files of a frame.
use Rattle.std.proofs.Common.{◌≡◌, ◌≢◌, ◌⊎◌, inl, inr, ℕ, List, [], ◌∷◌, ◌++◌, Option, None, Some, IsSome, Result, Ok, Err, refl, sym, ap, subst, ◌∙◌, append_assoc, append-nil}
use Rattle.std.specs.List.{AllByRecursion}
use Rattle.pm_base.proofs.Laws.{AllByRecursion-parts}
use Rattle.pm_values.specs.declared.refusal.Refusal.{Refusal}
use Rattle.pm_values.specs.declared.refusal.Refusal.TheVariants as refusals
use Rattle.pm_store.specs.declared.answer.Answer.{Answer}
use Rattle.pm_store.specs.declared.answer.Answer.TheVariants as answers
use Rattle.pm_machine.specs.Trace.{Event}
use Rattle.pm_record.specs.File.{ReadsFile}
use Rattle.pm_snapshot.specs.Snapshot.{snapshot_in}
use Rattle.pm_snapshot.specs.declared.fault.SnapFault.{SnapFault}
use Rattle.pm_snapshot.specs.declared.snapshot.Snapshot.{Snapshot}
use Rattle.pm_manifest.specs.Entries.{entry_in, has_entry_fields}
use Rattle.pm_manifest.specs.Listed.{has_meta_fields, meta_in}
use Rattle.pm_manifest.specs.Shape.{shape_of}
use Rattle.pm_manifest.specs.declared.entry.Entry.{Entry}
use Rattle.pm_manifest.specs.declared.entry.ManifestMeta.{ManifestMeta}
use Rattle.pm_model_contents.specs.Lists.{IsChangelogEntry, manifest_path}
use Rattle.pm_model_folder.specs.Paths.{schema_path, snapshot_path}
use Rattle.pm_read_schema.proofs.LeadLemmas.{AreOne, Leads, all_answered, failed, lead_join, lead_step, led}
use Rattle.pm_read_table.specs.Trace.{HaveRead, read_file}
use Rattle.pm_read_table.proofs.OneLemmas as view
use Rattle.pm_read_log.specs.Log.{LogAskedView}
use Rattle.pm_read_log.specs.LogReader.{next_call}
use Rattle.pm_read_log.specs.LogTrace as log
use Rattle.pm_read_log.specs.LogTrace.{DidSoFar, HasLog, bad_schema, bad_snapshot, gone_again, gone_first, has_other, is_absent, is_misread, lacks_list, lacks_manifest, misreads_list, misreads_manifest, of_list, without}
use Rattle.pm_read_log.specs.declared.log.Log.{Log}
use Rattle.pm_expire.proofs.PartLemmas.{AreAnswered, HasLed, IsPart, IsShown, lead_part, of_end, of_failure, of_memory}

-- ---- where calls lead

-- the snapshot is to be read; or its changelog list; or the next of these manifests, after these entries; or the snapshot
-- again, as the file at the path was absent; or all were read; or the reader was refused
pub data Place : Type 0 where
  opening : Place
  listing : List ℕ → Place
  manifests : List ManifestMeta → List Entry → Place
  again : List ℕ → Place
  all_read : Place
  over : Refusal → Place

module _ (a : LogAskedView) where
  -- with these manifests left, after these entries
  abbrev reads_on : List ManifestMeta → List Entry → Place
  reads_on [] es = all_read
  reads_on (meta ∷ metas) es = manifests (meta ∷ metas) es

  abbrev opens : Option (List ℕ) → Place
  opens None = all_read
  opens (Some list) = listing list

  abbrev OpenedAs : Result Snapshot SnapFault → Place → Type 0
  OpenedAs (Ok x) new =
      ((x.schema_id ≡ a.schema.id) × (new ≡ opens x.changelog_list))
      ⊎ ((x.schema_id ≢ a.schema.id) × (new ≡ over (refusals.Damaged (schema_path x.schema_id) 0)))
  OpenedAs (Err fault) new = new ≡ over (refusals.Damaged (snapshot_path a.id) 0)

  abbrev list_leads : Result (List ManifestMeta) Refusal → Place
  list_leads (Ok metas) = reads_on metas []
  list_leads (Err e) = over e

  pub record ListRead (list bytes : List ℕ) (new : Place) : Type 0 where
    pub result : Result (List ManifestMeta) Refusal
    pub reads : ReadsFile has_meta_fields meta_in (manifest_path list) bytes result
    pub other : result ≢ Err refusals.Memory
    pub is : new ≡ list_leads result

  abbrev Follows : ManifestMeta → List ManifestMeta → List Entry → Result (List Entry) Refusal → Place → Type 0
  Follows meta rest es (Ok own) new =
      (AllByRecursion IsChangelogEntry own × (new ≡ reads_on rest (es ++ own)))
      ⊎ ((AllByRecursion IsChangelogEntry own → ⊥) × (new ≡ over (refusals.Damaged (manifest_path meta.name) 0)))
  Follows meta rest es (Err e) new = new ≡ over e

  pub record ManifestRead (meta : ManifestMeta) (rest : List ManifestMeta) (es : List Entry) (bytes : List ℕ) (new : Place) : Type 0 where
    pub result : Result (List Entry) Refusal
    pub reads : ReadsFile has_entry_fields (entry_in (shape_of a.schema)) (manifest_path meta.name) bytes result
    pub other : result ≢ Err refusals.Memory
    pub follows : Follows meta rest es result new

  -- what an answer leads to
  abbrev After : Place → Answer → Place → Type 0
  After opening (answers.Found None) new = new ≡ over (refusals.Expired a.id)
  After opening (answers.Found (Some bytes)) new = OpenedAs (snapshot_in a.id bytes) new
  After (listing list) (answers.Found None) new = new ≡ again (manifest_path list)
  After (listing list) (answers.Found (Some bytes)) new = ListRead list bytes new
  After (manifests (meta ∷ rest) es) (answers.Found None) new = new ≡ again (manifest_path meta.name)
  After (manifests (meta ∷ rest) es) (answers.Found (Some bytes)) new = ManifestRead meta rest es bytes new
  After (again path) (answers.Found None) new = new ≡ over (refusals.Expired a.id)
  After (again path) (answers.Found (Some bytes)) new = new ≡ over (refusals.Damaged path 0)
  After m answer new = ⊥

  abbrev Given : Place → Option Answer → Place → Type 0
  Given m None new = ⊥
  Given m (Some answer) new = After m answer new

  abbrev pub Goes : Place → Event → Place → Type 0
  Goes m event new = Given m event.answer new

  given_answered : (m new : Place) (answer : Option Answer) → Given m answer new → IsSome answer
  given_answered m new None goes = absurd goes
  given_answered m new (Some answer) goes = refl

  -- no call that leads on failed
  leads_answered : (own : List Event) (m : Place) → Leads Goes own opening m → AreAnswered own
  leads_answered own m lead = all_answered Goes (λ m event new goes. given_answered m new event.answer goes) own opening m lead

  -- ---- where they end

  abbrev IsEnd : Place → Type 0
  IsEnd all_read = Unit {0}
  IsEnd (over e) = Unit {0}
  IsEnd m = ⊥

  given_not : (answer : Option Answer) (m new : Place) → ((answer : Answer) → After m answer new → ⊥) → Given m answer new → ⊥
  given_not None m new none goes = goes
  given_not (Some answer) m new none goes = none answer goes

  ends_stay : (m new : Place) (event : Event) → IsEnd m → Goes m event new → ⊥
  ends_stay all_read new event ends goes = given_not event.answer all_read new (λ answer goes. goes) goes
  ends_stay (over e) new event ends goes = given_not event.answer (over e) new (λ answer goes. goes) goes
  ends_stay m new event ends goes = absurd ends

  abbrev IsAll : Unit {0} → Place → Type 0
  IsAll u all_read = Unit {0}
  IsAll u m = ⊥

  abbrev IsOver : Refusal → Place → Type 0
  IsOver e (over d) = e ≡ d
  IsOver e m = ⊥

  all_ends : (u : Unit {0}) (m : Place) → IsAll u m → IsEnd m
  all_ends u all_read is = tt
  all_ends u m is = absurd is

  over_ends : (e : Refusal) (m : Place) → IsOver e m → IsEnd m
  over_ends e (over d) is = tt
  over_ends e m is = absurd is

  one_over : (e d : Refusal) (m : Place) → IsOver e m → IsOver d m → e ≡ d
  one_over e d (over other) is was = is ∙ sym was
  one_over e d m is was = absurd is

  all_not_over : (u : Unit {0}) (e : Refusal) (m : Place) → IsAll u m → IsOver e m → ⊥
  all_not_over u e all_read is over_it = over_it
  all_not_over u e m is over_it = absurd is

  -- the calls of a changelog that was read, and those that are refused
  abbrev pub HasAll : Unit {0} → List Event → Type 0
  HasAll u own = HasLed Goes opening IsAll u own

  abbrev pub EndsLog : Refusal → List Event → Type 0
  EndsLog e own = HasLed Goes opening IsOver e own

-- ---- they lead to one place

module _ (laws : view.OneLaws) (a : LogAskedView) where
  one_opened_as : (result : Result Snapshot SnapFault) (one other : Place) → OpenedAs a result one → OpenedAs a result other → one ≡ other
  one_opened_as (Ok x) one other (inl (own, p)) (inl (also, q)) = p ∙ sym q
  one_opened_as (Ok x) one other (inl (own, p)) (inr (foreign, q)) = absurd (foreign own)
  one_opened_as (Ok x) one other (inr (foreign, p)) (inl (own, q)) = absurd (foreign own)
  one_opened_as (Ok x) one other (inr (foreign, p)) (inr (also, q)) = p ∙ sym q
  one_opened_as (Err fault) one other p q = p ∙ sym q

  one_list_read : (list bytes : List ℕ) (one other : Place) → ListRead a list bytes one → ListRead a list bytes other → one ≡ other
  one_list_read list bytes one other p q =
      p.is ∙ ap (list_leads a) (laws.lists has_meta_fields meta_in (manifest_path list) bytes p.result q.result p.reads q.reads p.other q.other) ∙ sym q.is

  one_follows : (meta : ManifestMeta) (rest : List ManifestMeta) (es : List Entry) (result : Result (List Entry) Refusal) (one other : Place)
      → Follows a meta rest es result one → Follows a meta rest es result other → one ≡ other
  one_follows meta rest es (Ok own) one other (inl (each, p)) (inl (also, q)) = p ∙ sym q
  one_follows meta rest es (Ok own) one other (inl (each, p)) (inr (none, q)) = absurd (none each)
  one_follows meta rest es (Ok own) one other (inr (none, p)) (inl (each, q)) = absurd (none each)
  one_follows meta rest es (Ok own) one other (inr (none, p)) (inr (also, q)) = p ∙ sym q
  one_follows meta rest es (Err e) one other p q = p ∙ sym q

  one_manifest_read : (meta : ManifestMeta) (rest : List ManifestMeta) (es : List Entry) (bytes : List ℕ) (one other : Place)
      → ManifestRead a meta rest es bytes one → ManifestRead a meta rest es bytes other → one ≡ other
  one_manifest_read meta rest es bytes one other p q =
      let same =
      laws.manifests has_entry_fields (entry_in (shape_of a.schema)) (manifest_path meta.name) bytes p.result q.result p.reads q.reads p.other q.other in
      one_follows meta rest es q.result one other (subst (λ (r : Result (List Entry) Refusal). Follows a meta rest es r one) same p.follows) q.follows

  one_after : (m : Place) (answer : Answer) (one other : Place) → After a m answer one → After a m answer other → one ≡ other
  one_after opening (answers.Found None) one other p q = p ∙ sym q
  one_after opening (answers.Found (Some bytes)) one other p q = one_opened_as (snapshot_in a.id bytes) one other p q
  one_after (listing list) (answers.Found None) one other p q = p ∙ sym q
  one_after (listing list) (answers.Found (Some bytes)) one other p q = one_list_read list bytes one other p q
  one_after (manifests (meta ∷ rest) es) (answers.Found None) one other p q = p ∙ sym q
  one_after (manifests (meta ∷ rest) es) (answers.Found (Some bytes)) one other p q = one_manifest_read meta rest es bytes one other p q
  one_after (again path) (answers.Found None) one other p q = p ∙ sym q
  one_after (again path) (answers.Found (Some bytes)) one other p q = p ∙ sym q
  one_after m answer one other p q = absurd p

  one_given : (m : Place) (answer : Option Answer) (one other : Place) → Given a m answer one → Given a m answer other → one ≡ other
  one_given m None one other p q = absurd p
  one_given m (Some answer) one other p q = one_after m answer one other p q

  are_one : AreOne (Goes a)
  are_one m event one other p q = one_given m event.answer one other p q

  pub log_part : IsPart (HasAll a) (EndsLog a)
  log_part = lead_part (Goes a) opening (IsAll a) (IsOver a) (IsEnd a) (record {
    are_one = are_one;
    stays = ends_stay a;
    answered = leads_answered a;
    at_ends = all_ends a;
    over_ends = over_ends a;
    one_at = λ u w m is was. refl;
    one_over = one_over a;
    not_over = all_not_over a;
  })

-- ---- how far they have come

module _ (a : LogAskedView) where
  abbrev LeadsTo : List Event → Place → Type 0
  LeadsTo own m = Leads (Goes a) own opening m

  metas_not : (metas : List ManifestMeta) → ◌≢◌ {A = Result (List ManifestMeta) Refusal} (Ok metas) (Err refusals.Memory)
  metas_not metas is = cc

  entries_not : (es : List Entry) → ◌≢◌ {A = Result (List Entry) Refusal} (Ok es) (Err refusals.Memory)
  entries_not es is = cc

  step : (own earlier : List Event) (m new : Place) (event : Event) → own ≡ earlier ++ event ∷ [] → LeadsTo earlier m → Goes a m event new → LeadsTo own new
  step own earlier m new event is lead goes = led (Goes a) own (earlier ++ event ∷ []) opening new is (lead_step (Goes a) earlier opening m new event lead goes)

  first_lead : (found : Option (List ℕ)) (own : List Event) (new : Place) → log.Reads a found own → After a opening (answers.Found found) new → LeadsTo own new
  first_lead found own new is goes = led (Goes a) own (read_file (snapshot_path a.id) found ∷ []) opening new is (new, goes, refl)

  has_lead : (x : Snapshot) (own : List Event) → log.Has a x own → LeadsTo own (opens a x.changelog_list)
  has_lead x own (bytes, reads, schema, at) =
      first_lead (Some bytes) own (opens a x.changelog_list) at
      (subst (λ (r : Result Snapshot SnapFault). OpenedAs a r (opens a x.changelog_list)) (sym reads) (inl (schema, refl)))

  named_lead : (x : Snapshot) (list : List ℕ) (own : List Event) → log.HasName a x list own → LeadsTo own (listing list)
  named_lead x list own (has, named) = subst (λ (o : Option (List ℕ)). LeadsTo own (opens a o)) named (has_lead x own has)

  list_lead : (x : Snapshot) (list : List ℕ) (found : Option (List ℕ)) (own : List Event) (new : Place) → log.FindsList a x list found own
      → After a (listing list) (answers.Found found) new → LeadsTo own new
  list_lead x list found own new (earlier, named, is) goes =
      step own earlier (listing list) new (read_file (manifest_path list) found) is (named_lead x list earlier named) goes

  -- manifests were read, of which the entries are a changelog's
  have_lead : (metas rest : List ManifestMeta) (before es : List Entry) (own : List Event) → HaveRead a.schema metas es own → AllByRecursion IsChangelogEntry es
      → Leads (Goes a) own (reads_on a (metas ++ rest) before) (reads_on a rest (before ++ es))
  have_lead [] rest before es own (none, quiet) each =
      led (Goes a) own [] (reads_on a rest before) (reads_on a rest (before ++ es)) quiet
      (ap (λ (es : List Entry). reads_on a rest (before ++ es)) none ∙ ap (reads_on a rest) (append-nil before))
  have_lead (meta ∷ metas) rest before es own (bytes, first, later, events, reads, split, is, more) each =
      let parts = AllByRecursion-parts IsChangelogEntry first later (subst (AllByRecursion IsChangelogEntry) split each) in
      let read : ManifestRead a meta (metas ++ rest) before bytes (reads_on a (metas ++ rest) (before ++ first)) =
      record { result = Ok first; reads = reads; other = entries_not first; follows = inl (parts.0, refl) } in
      let same : reads_on a rest ((before ++ first) ++ later) ≡ reads_on a rest (before ++ es) =
      ap (reads_on a rest) (append_assoc before first later ∙ ap (λ (es : List Entry). before ++ es) (sym split)) in
      let then = have_lead metas rest (before ++ first) later events more parts.1 in
      led (Goes a) own (read_file (manifest_path meta.name) (Some bytes) ∷ events) (manifests (meta ∷ (metas ++ rest)) before)
      (reads_on a rest (before ++ es)) is (
        reads_on a (metas ++ rest) (before ++ first),
        read,
        subst (λ (m : Place). Leads (Goes a) events (reads_on a (metas ++ rest) (before ++ first)) m) same then,
      )

  part_lead : (x : Snapshot) (done rest : List ManifestMeta) (es : List Entry) (own : List Event) → log.HasPart a x done rest es own
      → LeadsTo own (reads_on a rest es)
  part_lead x done rest es own part =
      let first : LeadsTo part.lists (reads_on a (done ++ rest) []) =
      list_lead x part.list (Some part.bytes) part.lists (reads_on a (done ++ rest) []) part.found
      (record { result = Ok (done ++ rest); reads = part.listed; other = metas_not (done ++ rest); is = refl }) in
      led (Goes a) own (part.lists ++ part.reads) opening (reads_on a rest es) part.is
      (lead_join (Goes a) part.lists part.reads opening (reads_on a (done ++ rest) []) (reads_on a rest es) first
      (have_lead done rest [] es part.reads part.read part.each))

  next_lead : (x : Snapshot) (done : List ManifestMeta) (meta : ManifestMeta) (rest : List ManifestMeta) (es : List Entry) (found : Option (List ℕ))
      (own : List Event) (new : Place) → log.FindsNext a x done meta rest es found own → After a (manifests (meta ∷ rest) es) (answers.Found found) new → LeadsTo own new
  next_lead x done meta rest es found own new (earlier, part, is) goes =
      step own earlier (manifests (meta ∷ rest) es) new (read_file (manifest_path meta.name) found) is (part_lead x done (meta ∷ rest) es earlier part) goes

  lacks_lead : (path : List ℕ) (own : List Event) → log.LacksFile a path own → LeadsTo own (again path)
  lacks_lead path own (lacks_list x list at finds) = list_lead x list None own (again path) finds (ap again at)
  lacks_lead path own (lacks_manifest x done meta rest es at finds) = next_lead x done meta rest es None own (again path) finds (ap again at)

  again_lead : (path : List ℕ) (found : Option (List ℕ)) (own : List Event) (new : Place) → log.ReadsAgain a path found own
      → After a (again path) (answers.Found found) new → LeadsTo own new
  again_lead path found own new (earlier, lacks, is) goes =
      step own earlier (again path) new (read_file (snapshot_path a.id) found) is (lacks_lead path earlier lacks) goes

  -- all of it was read
  pub log_all : (l : Log) (own : List Event) → HasLog a l own → HasAll a tt own
  log_all l own (without x none has is) = (all_read, subst (λ (o : Option (List ℕ)). LeadsTo own (opens a o)) none (has_lead x own has), tt)
  log_all l own (of_list x metas es part is) = (all_read, part_lead x metas [] es own part, tt)

  -- ---- what they show

  abbrev Shown : Refusal → List Event → Type 0
  Shown e own = IsShown (λ (e : Refusal). e) (EndsLog a) e own

  refused_at : (e : Refusal) (own : List Event) → LeadsTo own (over e) → Shown e own
  refused_at e own lead = of_end (over e, lead, refl)

  damaged_at : (path at : List ℕ) (place : ℕ) (own : List Event) → path ≡ at → place ≡ 0 → LeadsTo own (over (refusals.Damaged at 0))
      → Shown (refusals.Damaged path place) own
  damaged_at path at place own is first lead =
      refused_at (refusals.Damaged path place) own
      (subst (λ (path : List ℕ). LeadsTo own (over (refusals.Damaged path place))) (sym is)
      (subst (λ (place : ℕ). LeadsTo own (over (refusals.Damaged at place))) (sym first) lead))

  metas_fault : (e : Refusal) → ◌≡◌ {A = Result (List ManifestMeta) Refusal} (Err e) (Err refusals.Memory) → e ≡ refusals.Memory
  metas_fault e is = cc

  entries_fault : (e : Refusal) → ◌≡◌ {A = Result (List Entry) Refusal} (Err e) (Err refusals.Memory) → e ≡ refusals.Memory
  entries_fault e is = cc

  misread : (e : Refusal) (own : List Event) → e ≢ refusals.Memory → log.Misreads a e own → Shown e own
  misread e own other (misreads_list x list bytes fault finds) =
      refused_at e own (list_lead x list (Some bytes) own (over e) finds
      (record { result = Err e; reads = fault; other = λ is. other (metas_fault e is); is = refl }))
  misread e own other (misreads_manifest x done meta rest es bytes fault finds) =
      refused_at e own (next_lead x done meta rest es (Some bytes) own (over e) finds
      (record { result = Err e; reads = fault; other = λ is. other (entries_fault e is); follows = refl }))

  damaged_not : (path : List ℕ) (place : ℕ) → refusals.Damaged path place ≢ refusals.Memory
  damaged_not path place is = cc

  unsupported_not : (what text : List ℕ) → refusals.Unsupported what text ≢ refusals.Memory
  unsupported_not what text is = cc

  damaged : (path : List ℕ) (place : ℕ) (own : List Event) → log.IsDamaged a path place own → Shown (refusals.Damaged path place) own
  damaged path place own (bad_snapshot bytes at first bad reads) =
      damaged_at path (snapshot_path a.id) place own at first
      (first_lead (Some bytes) own (over (refusals.Damaged (snapshot_path a.id) 0)) reads
      (subst (λ (r : Result Snapshot SnapFault). OpenedAs a r (over (refusals.Damaged (snapshot_path a.id) 0))) (sym bad) refl))
  damaged path place own (bad_schema x bytes at first read other reads) =
      damaged_at path (schema_path x.schema_id) place own at first
      (first_lead (Some bytes) own (over (refusals.Damaged (schema_path x.schema_id) 0)) reads
      (subst (λ (r : Result Snapshot SnapFault). OpenedAs a r (over (refusals.Damaged (schema_path x.schema_id) 0))) (sym read) (inr (other, refl))))
  damaged path place own (is_absent bytes first reads) =
      damaged_at path path place own refl first (again_lead path (Some bytes) own (over (refusals.Damaged path 0)) reads refl)
  damaged path place own (is_misread misreads) = misread (refusals.Damaged path place) own (damaged_not path place) misreads
  damaged path place own (has_other x done meta rest es later bytes at first reads other finds) =
      damaged_at path (manifest_path meta.name) place own at first
      (next_lead x done meta rest es (Some bytes) own (over (refusals.Damaged (manifest_path meta.name) 0)) finds
      (record {
        result = Ok later;
        reads = subst (λ (path : List ℕ). ReadsFile has_entry_fields (entry_in (shape_of a.schema)) path bytes (Ok later)) at reads;
        other = entries_not later;
        follows = inr (other, refl);
      }))

  gone : (own : List Event) → log.IsGone a own → LeadsTo own (over (refusals.Expired a.id))
  gone own (gone_first reads) = first_lead None own (over (refusals.Expired a.id)) reads refl
  gone own (gone_again path reads) = again_lead path None own (over (refusals.Expired a.id)) reads refl

  pub log_shown : (e : Refusal) (own : List Event) → log.Shows a e own → Shown e own
  log_shown refusals.Memory own shows = of_memory refl
  log_shown (refusals.StoreFault path) own fails = of_failure (refusals.StoreFault path) refl (failed next_call (DidSoFar a) path own fails)
  log_shown (refusals.Expired id) own (is, is_gone) =
      refused_at (refusals.Expired id) own (subst (λ (id : ℕ). LeadsTo own (over (refusals.Expired id))) (sym is) (gone own is_gone))
  log_shown (refusals.Damaged path place) own is_damaged = damaged path place own is_damaged
  log_shown (refusals.Unsupported what text) own misreads = misread (refusals.Unsupported what text) own (unsupported_not what text) misreads
  log_shown other own shows = absurd shows
