-- Which refusals a folder that stands can show a reader, whatever others do between its calls.
use Rattle.std.proofs.Common.{◌≡◌, ◌≢◌, inl, inr, ℕ, zero, suc, ◌≤◌, ◌<◌, List, [], ◌∷◌, ◌++◌, length, Bool, Option, None, Some, IsSome, IfSome, IsSomeAnd, Result, Ok, Err, refl, sym, ap, ◌∙◌, subst, arith, append_assoc}
use Rattle.std.specs.FinMap as map
use Rattle.std.proofs.lemmas.List.{append-nil}
use Rattle.pm_values.specs.declared.file_meta.FileMeta.{FileMeta}
use Rattle.pm_values.specs.declared.refusal.Refusal.{Refusal}
use Rattle.pm_values.specs.declared.refusal.Refusal.TheVariants as refusals
use Rattle.pm_store.specs.declared.answer.Answer.{Answer}
use Rattle.pm_store.specs.declared.answer.Answer.TheVariants as answers
use Rattle.pm_store.specs.declared.call.Call.{Call}
use Rattle.pm_store.specs.Answers.{Answers}
use Rattle.pm_store.specs.Files.{Files, IsListing}
use Rattle.pm_machine.specs.Moves.{IsKept, Truthful}
use Rattle.pm_machine.specs.Running.{Refuses}
use Rattle.pm_machine.proofs.PhaseFacts.{truthful_of_spared}
use Rattle.pm_model_history.specs.History.{IsTableOf}
use Rattle.pm_schema.specs.declared.schema.TableSchema.{TableSchema}
use Rattle.pm_snapshot.specs.Names.{greatest}
use Rattle.pm_snapshot.specs.Snapshot.{snapshot_in}
use Rattle.pm_snapshot.specs.declared.fault.SnapFault.{SnapFault}
use Rattle.pm_snapshot.specs.declared.fault.SnapFault.TheVariants as faults
use Rattle.pm_snapshot.specs.declared.snapshot.Snapshot.{Snapshot}
use Rattle.pm_avro_schema.specs.Avro.{Avro}
use Rattle.pm_record.specs.File.{Reading, ReadsFile}
use Rattle.pm_manifest.specs.Entries.{entry_in, has_entry_fields}
use Rattle.pm_manifest.specs.Listed.{has_meta_fields, meta_in}
use Rattle.pm_manifest.specs.Live.{AreInOrder, Leaves, Live, live_after}
use Rattle.pm_manifest.specs.Shape.{shape_of}
use Rattle.pm_manifest.specs.declared.entry.Entry.{Entry}
use Rattle.pm_manifest.specs.declared.entry.ManifestMeta.{ManifestMeta}
use Rattle.pm_model_contents.specs.Groups.{Overlaps}
use Rattle.pm_model_contents.specs.Lists.{HaveEntries, IsList, IsManifest, manifest_path, none_live}
use Rattle.pm_model_contents.specs.Named.{Contents, HasContents, base_list, delta_list}
use Rattle.pm_model_contents.specs.Runs.{AreFilesOf}
use Rattle.pm_model_folder.specs.Commits.{IsCommitted, live_in}
use Rattle.pm_model_folder.specs.Ledger.{Past, Stands, count_of}
use Rattle.pm_model_folder.specs.Meaning.{HasSnapshotAt}
use Rattle.pm_model_folder.specs.Paths.{named_origin, snapshot_file, snapshot_folder, snapshot_path}
use Rattle.pm_model_folder.proofs.Facts.{snapshot-committed, some-none}
use Rattle.pm_model_folder.proofs.LedgerFacts.{at-table}
use Rattle.pm_paths.specs.Ids.{IsLatest}
use Rattle.pm_paths.proofs.ListedLemmas.{latest_is}
use Rattle.pm_read_schema.specs.Beside.{IsTold}
use Rattle.pm_read_table.specs.Asked.{Asked}
use Rattle.pm_read_table.specs.Meaning.{IsReadingOf, Knows, MayRefuse, Stood}
use Rattle.pm_read_table.specs.Reader.{next_call, IsAbove, IsBad, IsViewer, MisreadsList, MisreadsManifest, RefusesEntries, Shown, disorder, overlap}
use Rattle.pm_read_table.specs.Reading.{ReadingView, live_of}
use Rattle.pm_read_table.specs.declared.asked.Wanted.{Wanted}
use Rattle.pm_read_table.specs.declared.asked.Wanted.TheVariants as wants
use Rattle.pm_read_table.specs.declared.phase.Phase.{Phase}
use Rattle.pm_read_table.specs.declared.phase.Phase.TheVariants as phases
use Rattle.pm_read_table.proofs.Facts.{Joined, OneList, bytes_same, found_stood, leaves_more, next_named, one_list, one_snapshot, order_same, some_there, spares, stood_contents}
use Rattle.pm_read_table.proofs.FaultLemmas.{IsFileFault, file_fault}
use Rattle.pm_read_table.proofs.TwoLemmas.{first_in, two_in}

-- what the laws of readings say of manifests, and of the files of a snapshot
abbrev pub OneManifest : Type 0
OneManifest = (takes : Avro → Bool) (reads : Reading Entry) (path bytes : List ℕ) (a b : Result (List Entry) Refusal)
    → ReadsFile takes reads path bytes a → ReadsFile takes reads path bytes b → a ≢ Err refusals.Memory → b ≢ Err refusals.Memory → a ≡ b

abbrev pub OneContents : Type 0
OneContents = (f : Files) (s : TableSchema) (x : Snapshot) (c d : Contents) → HasContents f s x c → HasContents f s x d → c ≡ d

pub record ReaderLaws : Type 0 where
  pub joined : Joined
  pub lists : OneList
  pub manifests : OneManifest
  pub contents : OneContents

-- a fault of bytes that have none can only be that memory ran out
pub only_memory : (f : Files) (p : Past) (e : Refusal) → IsFileFault e → (e ≢ refusals.Memory → ⊥) → MayRefuse f p e
only_memory f p refusals.Memory fault never = tt
only_memory f p (refusals.Damaged path place) fault never = absurd (never (λ e. cc))
only_memory f p (refusals.Unsupported what text) fault never = absurd (never (λ e. cc))
only_memory f p other fault never = absurd fault

-- ---- a list or a manifest that stood is read without a fault

fault_clash : {X : Type 0} (xs : List X) (e : Refusal) → ◌≢◌ {A = Result (List X) Refusal} (Ok xs) (Err e)
fault_clash xs e same = cc

err_other : {X : Type 0} (e : Refusal) → e ≢ refusals.Memory → ◌≢◌ {A = Result (List X) Refusal} (Err e) (Err refusals.Memory)
err_other e other same = other (let it : e ≡ refusals.Memory = cc in it)

pub list_reads : OneList → (g : Files) (name bytes : List ℕ) (xs : List ManifestMeta) (e : Refusal) → IsList g name xs → map.get g (manifest_path name) ≡ Some bytes
    → MisreadsList (manifest_path name) bytes e → e ≢ refusals.Memory → ⊥
list_reads law g name bytes xs e list found fault other =
    let same : bytes ≡ list.bytes = bytes_same bytes list.bytes (sym found ∙ list.there) in
    fault_clash xs e (law has_meta_fields meta_in (manifest_path name) list.bytes (Ok xs) (Err e) list.read
    (subst (λ (bytes : List ℕ). MisreadsList (manifest_path name) bytes e) same fault) (fault_clash xs refusals.Memory) (err_other e other))

pub manifest_reads : OneManifest → (g : Files) (s : TableSchema) (name bytes : List ℕ) (xs : List Entry) (e : Refusal) → IsManifest g s name xs
    → map.get g (manifest_path name) ≡ Some bytes → MisreadsManifest s (manifest_path name) bytes e → e ≢ refusals.Memory → ⊥
manifest_reads law g s name bytes xs e is found fault other =
    let same : bytes ≡ is.bytes = bytes_same bytes is.bytes (sym found ∙ is.there) in
    fault_clash xs e (law has_entry_fields (entry_in (shape_of s)) (manifest_path name) is.bytes (Ok xs) (Err e) is.read
    (subst (λ (bytes : List ℕ). MisreadsManifest s (manifest_path name) bytes e) same fault) (fault_clash xs refusals.Memory) (err_other e other))

entries_same : (xs ys : List Entry) → ◌≡◌ {A = Result (List Entry) Refusal} (Ok xs) (Ok ys) → xs ≡ ys
entries_same xs ys e = cc

pub one_manifest : OneManifest → (g : Files) (s : TableSchema) (name : List ℕ) (xs ys : List Entry) → IsManifest g s name xs → IsManifest g s name ys → xs ≡ ys
one_manifest law g s name xs ys one two =
    let same : two.bytes ≡ one.bytes = bytes_same two.bytes one.bytes (sym two.there ∙ one.there) in
    entries_same xs ys (law has_entry_fields (entry_in (shape_of s)) (manifest_path name) one.bytes (Ok xs) (Ok ys) one.read
    (subst (λ (bytes : List ℕ). ReadsFile has_entry_fields (entry_in (shape_of s)) (manifest_path name) bytes (Ok ys)) same two.read)
    (fault_clash xs refusals.Memory) (fault_clash ys refusals.Memory))

pub one_entries : OneManifest → (g : Files) (s : TableSchema) (metas : List ManifestMeta) (xs ys : List Entry) → HaveEntries g s metas xs → HaveEntries g s metas ys → xs ≡ ys
one_entries law g s [] xs ys one two = one ∙ sym two
one_entries law g s (meta ∷ metas) xs ys (own, later, split, is, have) (more, others, parts, reads, has) =
    split ∙ ap (λ (es : List Entry). es ++ later) (one_manifest law g s meta.name own more is reads)
    ∙ ap (λ (es : List Entry). more ++ es) (one_entries law g s metas later others have has) ∙ sym parts

-- ---- the next manifest

-- entries come before those of the next manifest, and others after them
pub record Next (g : Files) (s : TableSchema) (done : List ManifestMeta) (meta : ManifestMeta) (es : List Entry) : Type 0 where
  pub before : List Entry
  pub own : List Entry
  pub after : List Entry
  pub split : es ≡ before ++ (own ++ after)
  pub have : HaveEntries g s done before
  pub is : IsManifest g s meta.name own

pub next_of : (g : Files) (s : TableSchema) (done : List ManifestMeta) (meta : ManifestMeta) (rest : List ManifestMeta) (es : List Entry)
    → HaveEntries g s (done ++ meta ∷ rest) es → Next g s done meta es
next_of g s [] meta rest es (own, later, split, is, have) = record { before = []; own = own; after = later; split = split; have = refl; is = is }
next_of g s (first ∷ done) meta rest es (own, later, split, is, have) =
    let n = next_of g s done meta rest later have in record {
      before = own ++ n.before;
      own = n.own;
      after = n.after;
      split = split ∙ ap (λ (es : List Entry). own ++ es) n.split ∙ sym (append_assoc own n.before (n.own ++ n.after));
      have = (own, n.before, refl, is, n.have);
      is = n.is;
    }

-- the entries of the manifest that is read next can follow those before it
module _ (laws : ReaderLaws) (p : Past) (r : ReadingView) (c : Contents) (has : HasContents (p.stood r.snapshot.id) r.sought.asked.schema r.snapshot c) where
  abbrev g : Files
  g = p.stood r.snapshot.id

  abbrev s : TableSchema
  s = r.sought.asked.schema

  lists_of : (base delta : List ManifestMeta) → IsList g r.snapshot.base_list base → IsList g r.snapshot.delta_list delta → c.base ++ c.delta ≡ base ++ delta
  lists_of base delta one two =
      ap (λ (metas : List ManifestMeta). metas ++ c.delta) (one_list laws.lists g r.snapshot.base_list c.base base has.table.base_list one)
      ∙ ap (λ (metas : List ManifestMeta). base ++ metas) (one_list laws.lists g r.snapshot.delta_list c.delta delta has.table.delta_list two)

  pub next_in : IsReadingOf g r → Next g s r.done r.next c.entries
  next_in (base, delta, entries, one, two, parts, have, order, left, keeps) =
      next_of g s r.done r.next r.rest c.entries
      (subst (λ (metas : List ManifestMeta). HaveEntries g s metas c.entries) (lists_of base delta one two ∙ parts) has.table.have)

  pub in_order : IsReadingOf g r → (own : List Entry) → IsManifest g s r.next.name own → AreInOrder (live_of r.files) own
  in_order (base, delta, entries, one, two, parts, have, order, left, keeps) own is =
      let n = next_in (base, delta, entries, one, two, parts, have, order, left, keeps) in
      let first : n.before ≡ entries = one_entries laws.manifests g s r.done n.before entries n.have have in
      let next : n.own ≡ own = one_manifest laws.manifests g s r.next.name n.own own n.is is in
      let split : c.entries ≡ entries ++ (own ++ n.after) =
      n.split ∙ ap (λ (es : List Entry). es ++ (n.own ++ n.after)) first ∙ ap (λ (own : List Entry). entries ++ (own ++ n.after)) next in
      let whole = subst (AreInOrder none_live) split has.table.order in
      let mine = (laws.joined.1 none_live entries (own ++ n.after)).0 whole in
      let two = (laws.joined.1 (live_after none_live entries) own n.after).0 mine.1 in
      order_same (live_after none_live entries) (live_of r.files) own (λ id. sym (left id)) two.0

  -- where it is the last, what is live after it are the live files of the snapshot
  pub live_is : IsReadingOf g r → (own : List Entry) (live : Live) → IsManifest g s r.next.name own → r.rest ≡ [] → AreInOrder (live_of r.files) own
      → Leaves (live_of r.files) own live → live_in c ≡ live
  live_is (base, delta, entries, one, two, parts, have, order, left, keeps) own live is ended later then_left =
      let n = next_in (base, delta, entries, one, two, parts, have, order, left, keeps) in
      let none : r.done ++ r.next ∷ r.rest ≡ r.done ++ r.next ∷ [] = ap (λ (rest : List ManifestMeta). r.done ++ r.next ∷ rest) ended in
      let whole : c.base ++ c.delta ≡ r.done ++ r.next ∷ [] = lists_of base delta one two ∙ parts ∙ none in
      let first : HaveEntries g s (r.done ++ r.next ∷ []) c.entries =
      subst (λ (metas : List ManifestMeta). HaveEntries g s metas c.entries) whole has.table.have in
      let all : HaveEntries g s (r.done ++ r.next ∷ []) (entries ++ own) = pushed r.done entries have in
      let same : c.entries ≡ entries ++ own = one_entries laws.manifests g s (r.done ++ r.next ∷ []) c.entries (entries ++ own) first all in
      let leaves : Leaves none_live (entries ++ own) live = leaves_more laws.joined entries own (live_of r.files) live left then_left in
      λ i id. (ap (λ (es : List Entry). live_after none_live es id) same ∙ sym (leaves id)) i
    where
      pushed : (metas : List ManifestMeta) (es : List Entry) → HaveEntries g s metas es → HaveEntries g s (metas ++ r.next ∷ []) (es ++ own)
      pushed [] es empty = subst (λ (es : List Entry). HaveEntries g s (r.next ∷ []) (es ++ own)) (sym empty) (own, [], sym (append-nil own), is, refl)
      pushed (first ∷ metas) es (here, more, split, read, rest) =
          (here, more ++ own, ap (λ (es : List Entry). es ++ own) split ∙ append_assoc here more own, read, pushed metas more rest)

-- ---- each answer

-- the snapshot is of the table as it stood
committed_at : (f : Files) (p : Past) (s : TableSchema) (x : Snapshot) → Stands f p → Stood p s x
    → (entries : List _) × IsCommitted (p.stood x.id) s entries x.id
committed_at f p s x stands stood =
    let own = at-table f p s stands stood.table in (_, own.3.committed x.id stood.known)

no_overlaps : OneContents → (f : Files) (p : Past) (s : TableSchema) (x : Snapshot) (c : Contents) (live : Live) (refusal : Refusal) → Stands f p → Stood p s x
    → HasContents (p.stood x.id) s x c → live_in c ≡ live → Overlaps s live refusal → MayRefuse f p refusal
no_overlaps one f p s x c live refusals.Memory stands stood has is over = tt
no_overlaps one f p s x c live (refusals.Damaged path place) stands stood has is (first, g, files, file, are, overlaps, at, below) =
    let commit = (committed_at f p s x stands stood).1 in
    let same : commit.snapshot ≡ x = one_snapshot (p.stood x.id) x.id commit.snapshot x commit.there stood.was in
    let equal : commit.contents ≡ c =
    one (p.stood x.id) s x commit.contents c (subst (λ (y : Snapshot). HasContents (p.stood x.id) s y commit.contents) same commit.has) has in
    let runs = (commit.groups g).own in
    let own : AreFilesOf live g runs.files = subst (λ (l : Live). AreFilesOf l g runs.files) (ap live_in equal ∙ is) runs.own in
    let o = overlaps.overlaps in
    let both = first_in o.0 file files o.1 in
    absurd (runs.disjoint o.0 file (two_in o.0 file runs.files ((own.exact o.0).1 ((are.exact o.0).0 both.0)) ((own.exact file).1 ((are.exact file).0 both.1))
    (λ same. are.apart o.0 file o.1 o.2.level (ap (λ (m : FileMeta). m.name) same))) o.2)
no_overlaps one f p s x c live other stands stood has is over = absurd over

-- the id that is above the latest
above_latest : (w : Wanted) (latest id : ℕ) → IsAbove w latest id → latest < id
above_latest wants.Newest latest id above = absurd above
above_latest wants.Entries latest id above = absurd above
above_latest (wants.Whole asked) latest id above = absurd above
above_latest (wants.At asked) latest id (is, above) = omega (arith, is, above)

list_cause : (f : Files) (p : Past) (a : Asked) (names : List (List ℕ)) (latest id : ℕ) (refusal : Refusal) → Stands f p → IsTableOf a.schema p.history
    → IsListing snapshot_folder names f → IsLatest names latest → IsAbove a.wanted latest id → refusal ≡ refusals.NoSnapshot id latest → MayRefuse f p refusal
list_cause f p a names latest id refusal stands table listing newest above is =
    let own = at-table f p a.schema stands table in
    let count : count_of p.history ≡ length own.0 = ap count_of own.1 in
    subst (MayRefuse f p) (sym is) (latest_is f a.schema own.0 own.2 latest names newest listing ∙ sym count, above_latest a.wanted latest id above)

gone_origin : (f : Files) (o : Option (List ℕ)) → None ≡ map.get f (snapshot_file (named_origin o)) → IsSomeAnd o (λ origin. IsSome (map.get f (snapshot_file origin))) → ⊥
gone_origin f None none there = there
gone_origin f (Some name) none there = some-none (map.get f (snapshot_file name)) there (sym none)

pub gone_snapshot : (f : Files) (s : TableSchema) (id : ℕ) → 1 ≤ id → None ≡ map.get f (snapshot_path id) → HasSnapshotAt f s id → ⊥
gone_snapshot f s zero least none there = omega (arith, least)
gone_snapshot f s (suc id) least none there = some-none (map.get f (snapshot_path (suc id))) there (sym none)

pub expired : (f : Files) (p : Past) (s : TableSchema) (id : ℕ) (refusal : Refusal) → IsTableOf s p.history → id ≤ count_of p.history → (HasSnapshotAt f s id → ⊥)
    → refusal ≡ refusals.Expired id → MayRefuse f p refusal
expired f p s id refusal table within absent is =
    subst (MayRefuse f p) (sym is) (record { schema = s; table = table; within = within; absent = absent })

-- the bytes of a snapshot that is there are those of one of the table
pub bad_not : (f : Files) (p : Past) (s : TableSchema) (id : ℕ) (bytes : List ℕ) (refusal : Refusal) → Stands f p → IsTableOf s p.history → 1 ≤ id → id ≤ greatest
    → Some bytes ≡ map.get f (snapshot_path id) → IsBad s id bytes refusal → ⊥
bad_not f p s id bytes refusal stands table least within found bad =
    let own = at-table f p s stands table in
    let is = snapshot-committed f s own.0 id own.2 least within (some_there f (snapshot_path id) bytes (sym found)) in
    let same : bytes ≡ is.there.0 = bytes_same bytes is.there.0 (found ∙ is.there.1) in
    let reads : snapshot_in id bytes ≡ Ok is.snapshot = ap (snapshot_in id) same ∙ is.there.2 in
    at is.snapshot reads is.schema bad
  where
    at : (y : Snapshot) → snapshot_in id bytes ≡ Ok y → y.schema_id ≡ s.id → IsBad s id bytes refusal → ⊥
    at y reads schema (inl (is, none)) =
        let clash : ◌≡◌ {A = Result Snapshot SnapFault} (Err faults.Bad) (Ok y) = sym none ∙ reads in cc
    at y reads schema (inr (x, is, read, other)) =
        let same : ◌≡◌ {A = Result Snapshot SnapFault} (Ok x) (Ok y) = sym read ∙ reads in
        let equal : x ≡ y = cc in
        other (ap (λ (x : Snapshot). x.schema_id) equal ∙ schema)

-- the next manifest shows nothing of its files but that memory ran out
entries_cause : ReaderLaws → (f : Files) (p : Past) (r : ReadingView) (own : List Entry) (c : Contents) (refusal : Refusal) → Stands f p
    → Stood p r.sought.asked.schema r.snapshot → HasContents (p.stood r.snapshot.id) r.sought.asked.schema r.snapshot c
    → IsReadingOf (p.stood r.snapshot.id) r → IsManifest (p.stood r.snapshot.id) r.sought.asked.schema r.next.name own
    → RefusesEntries r (manifest_path r.next.name) own refusal → MayRefuse f p refusal
entries_cause laws f p r own c refusal stands stood has reading is (disorder i (e, at, cannot) same) =
    absurd (cannot (in_order laws p r c has reading own is i e at))
entries_cause laws f p r own c refusal stands stood has reading is (overlap live order left ended over) =
    no_overlaps laws.contents f p r.sought.asked.schema r.snapshot c live refusal stands stood has (live_is laws p r c has reading own live is ended order left) over

cause_at : ReaderLaws → (m : Phase) (answer : Answer) (refusal : Refusal) (f : Files) (p : Past) → Shown m answer refusal → Stands f p → Knows m f p
    → IfSome (next_call m) (λ call. Answers call answer f → MayRefuse f p refusal)
cause_at laws (phases.List a) (answers.Listed names) refusal f p (inl is) stands known = λ told. subst (MayRefuse f p) (sym is) tt
cause_at laws (phases.List a) (answers.Listed names) refusal f p (inr (latest, id, newest, above, is)) stands known = λ told.
    list_cause f p a names.items latest id refusal stands known told newest above is
cause_at laws (phases.Origin q) (answers.Found None) refusal f p is stands (table, sought) = λ told.
    expired f p q.asked.schema 0 refusal table (omega arith) (gone_origin f q.asked.schema.origin told) is
cause_at laws (phases.Snapshot q id) (answers.Found None) refusal f p is stands (table, least, within, sought) = λ told.
    expired f p q.asked.schema id refusal table sought.within (gone_snapshot f q.asked.schema id least told) is
cause_at laws (phases.Snapshot q id) (answers.Found (Some bytes)) refusal f p (inl is) stands known = λ told. subst (MayRefuse f p) (sym is) tt
cause_at laws (phases.Snapshot q id) (answers.Found (Some bytes)) refusal f p (inr bad) stands (table, least, within, sought) = λ told.
    absurd (bad_not f p q.asked.schema id bytes refusal stands table least within told bad)
cause_at laws (phases.Base q x) (answers.Found found) refusal f p (inl is) stands known = λ told. subst (MayRefuse f p) (sym is) tt
cause_at laws (phases.Base q x) (answers.Found None) refusal f p (inr none) stands known = λ told. absurd none
cause_at laws (phases.Base q x) (answers.Found (Some bytes)) refusal f p (inr fault) stands (stood, sought) = λ told.
    let c = stood_contents f p q.asked.schema x stands stood in
    only_memory f p refusal (file_fault _ _ (manifest_path x.base_list) bytes refusal fault)
    (list_reads laws.lists (p.stood x.id) x.base_list bytes c.0.base refusal c.1.table.base_list
    (found_stood f p q.asked.schema x stands stood c.0 c.1 (manifest_path x.base_list) base_list bytes told) fault)
cause_at laws (phases.Delta q x base) (answers.Found found) refusal f p (inl is) stands known = λ told. subst (MayRefuse f p) (sym is) tt
cause_at laws (phases.Delta q x base) (answers.Found None) refusal f p (inr none) stands known = λ told. absurd none
cause_at laws (phases.Delta q x base) (answers.Found (Some bytes)) refusal f p (inr fault) stands (stood, one, sought) = λ told.
    let c = stood_contents f p q.asked.schema x stands stood in
    only_memory f p refusal (file_fault _ _ (manifest_path x.delta_list) bytes refusal fault)
    (list_reads laws.lists (p.stood x.id) x.delta_list bytes c.0.delta refusal c.1.table.delta_list
    (found_stood f p q.asked.schema x stands stood c.0 c.1 (manifest_path x.delta_list) delta_list bytes told) fault)
cause_at laws (phases.Manifests r) (answers.Found found) refusal f p (inl is) stands known = λ told. subst (MayRefuse f p) (sym is) tt
cause_at laws (phases.Manifests r) (answers.Found None) refusal f p (inr none) stands known = λ told. absurd none
cause_at laws (phases.Manifests r) (answers.Found (Some bytes)) refusal f p (inr (inl fault)) stands (stood, reading, sought) = λ told.
    let c = stood_contents f p r.sought.asked.schema r.snapshot stands stood in
    let n = next_in laws p r c.0 c.1 reading in
    let named = next_named laws.lists p r reading.0 reading.1 c.0 c.1 reading.3 reading.4 reading.5 in
    only_memory f p refusal (file_fault _ _ (manifest_path r.next.name) bytes refusal fault)
    (manifest_reads laws.manifests (p.stood r.snapshot.id) r.sought.asked.schema r.next.name bytes n.own refusal n.is
    (found_stood f p r.sought.asked.schema r.snapshot stands stood c.0 c.1 (manifest_path r.next.name) named.0 bytes told) fault)
cause_at laws (phases.Manifests r) (answers.Found (Some bytes)) refusal f p (inr (inr (own, reads, refuses))) stands (stood, reading, sought) = λ told.
    let c = stood_contents f p r.sought.asked.schema r.snapshot stands stood in
    let named = next_named laws.lists p r reading.0 reading.1 c.0 c.1 reading.3 reading.4 reading.5 in
    let file : IsManifest (p.stood r.snapshot.id) r.sought.asked.schema r.next.name own = record {
      bytes = bytes;
      there = found_stood f p r.sought.asked.schema r.snapshot stands stood c.0 c.1 (manifest_path r.next.name) named.0 bytes told;
      read = reads;
    } in
    entries_cause laws f p r own c.0 refusal stands stood c.1 reading file refuses
cause_at laws (phases.Again a id path) (answers.Found None) refusal f p is stands gone = λ told.
    expired f p a.schema id refusal gone.table gone.known.to (gone_snapshot f a.schema id gone.known.after_origin told) is
cause_at laws (phases.Again a id path) (answers.Found (Some bytes)) refusal f p is stands gone = λ told.
    absurd (let clash : Some bytes ≡ None = told ∙ gone.absent in cc)
cause_at laws m answer refusal f p shown stands known = absurd shown

pub at_call : (o : Option Call) (call : Call) (P : Call → Type 0) → o ≡ Some call → IfSome o P → P call
at_call None call P is if = cc
at_call (Some own) call P is if = let same : own ≡ call = cc in subst P same if

pub causes : ReaderLaws → (m : Phase) (call : Call) (answer : Answer) (refusal : Refusal) (f : Files) (p : Past) → Stands f p → Knows m f p
    → next_call m ≡ Some call → Answers call answer f → Shown m answer refusal → MayRefuse f p refusal
causes laws m call answer refusal f p stands known at told shown =
    at_call (next_call m) call (λ call. Answers call answer f → MayRefuse f p refusal) at (cause_at laws m answer refusal f p shown stands known) told

-- ---- what a refusal tells

pub may_tell : (refusal : Refusal) (f : Files) (p : Past) → MayRefuse f p refusal → IsTold refusal f p
may_tell refusals.Memory f p may = tt
may_tell (refusals.NoSnapshot id latest) f p (is, above) = (above, is)
may_tell (refusals.Expired id) f p may = may
may_tell other f p may = absurd may

pub truthful : ReaderLaws → Truthful next_call IsViewer (Refuses Shown phases.Over) Stands (λ m. IsKept) Knows IsTold
truthful laws = truthful_of_spared next_call IsViewer Shown phases.Over Stands Knows IsTold spares
    (λ m call answer refusal f p held stands known is told shown. may_tell refusal f p (causes laws m call answer refusal f p stands known is told shown))
    (λ f p. tt) (λ path f p. tt)
