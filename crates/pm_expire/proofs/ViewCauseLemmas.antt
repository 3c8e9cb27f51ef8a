-- What the calls show of a reader of a whole view that read a snapshot which is there with its files, as nobody else acts: out of memory or
-- a fault of the store alone.
use Rattle.std.proofs.Common.{◌≡◌, ◌≢◌, inl, inr, ℕ, ◌≤◌, List, [], ◌∷◌, ◌++◌, Bool, Option, None, Some, Result, Ok, Err, refl, sym, ap, subst, ◌∙◌, arith, append_assoc}
use Rattle.std.specs.FinMap as map
use Rattle.std.specs.List.{AllByRecursion}
use Rattle.std.proofs.lemmas.List.{append-nil}
use Rattle.pm_base.proofs.Laws.{AllByRecursion-parts}
use Rattle.pm_values.specs.declared.file_meta.FileMeta.{FileMeta}
use Rattle.pm_values.specs.declared.refusal.Refusal.{Refusal}
use Rattle.pm_values.specs.declared.refusal.Refusal.TheVariants as refusals
use Rattle.pm_store.specs.Files.{Files}
use Rattle.pm_machine.specs.Trace.{Event}
use Rattle.pm_model_history.specs.History.{Entry as HistoryEntry}
use Rattle.pm_schema.specs.declared.schema.TableSchema.{TableSchema}
use Rattle.pm_snapshot.specs.Snapshot.{snapshot_in}
use Rattle.pm_snapshot.specs.declared.fault.SnapFault.{SnapFault}
use Rattle.pm_snapshot.specs.declared.fault.SnapFault.TheVariants as faults
use Rattle.pm_snapshot.specs.declared.snapshot.Snapshot.{Snapshot}
use Rattle.pm_avro_schema.specs.Avro.{Avro}
use Rattle.pm_record.specs.File.{Reading, ReadsFile}
use Rattle.pm_manifest.specs.Entries.{entry_in, has_entry_fields}
use Rattle.pm_manifest.specs.Listed.{has_meta_fields, meta_in}
use Rattle.pm_manifest.specs.Live.{AreInOrder, IsOutOfOrder, Leaves, Live, live_after}
use Rattle.pm_manifest.specs.Shape.{shape_of}
use Rattle.pm_manifest.specs.declared.entry.Entry.{Entry}
use Rattle.pm_manifest.specs.declared.entry.ManifestMeta.{ManifestMeta}
use Rattle.pm_model_contents.specs.Groups.{Overlaps}
use Rattle.pm_model_contents.specs.Lists.{HasChangelog, HaveEntries, IsChangelogEntry, IsList, IsManifest, manifest_path, none_live}
use Rattle.pm_model_contents.specs.Named.{Contents, HasContents}
use Rattle.pm_model_contents.specs.Runs.{AreFilesOf}
use Rattle.pm_model_folder.specs.Commits.{IsCommitted, live_in}
use Rattle.pm_model_folder.specs.Paths.{origin_path, snapshot_path}
use Rattle.pm_model_folder.proofs.HoldLemmas.{one-snapshot}
use Rattle.pm_read_schema.proofs.StillLemmas.{AreTold, IsTold, told_last}
use Rattle.pm_read_table.specs.Asked.{Asked}
use Rattle.pm_read_table.specs.Reader.{MisreadsList, MisreadsManifest}
use Rattle.pm_read_table.specs.Trace as reader
use Rattle.pm_read_table.specs.Trace.{FindsBase, FindsDelta, FindsNext, Has, HasBase, HasDelta, HasPart, HaveRead, IsDamaged, IsGone, LacksFile, Misreads, Reads, ReadsAgain, bad_schema, bad_snapshot, gone_again, gone_origin, gone_snapshot, is_absent, is_disordered, is_misread, is_overlap, lacks_base, lacks_delta, lacks_manifest, misreads_base, misreads_delta, misreads_manifest, read_file}
use Rattle.pm_read_table.specs.declared.view.View.{View}
use Rattle.pm_read_table.proofs.Facts.{Joined, OneList, order_same}
use Rattle.pm_read_table.proofs.TwoLemmas.{first_in, two_in}
use Rattle.pm_read_log.specs.Log.{LogAskedView, log_asked_of}
use Rattle.pm_read_log.specs.LogTrace as log
use Rattle.pm_read_whole.specs.Trace as whole
use Rattle.pm_read_whole.specs.Trace.{Follows, read_first, view_asked}

-- ---- laws of crates below

-- of the answers that a manifest may have, only out of memory isn't the one that it has
abbrev pub OneManifest : Type 0
OneManifest = (takes : Avro → Bool) (reads : Reading Entry) (path bytes : List ℕ) (a b : Result (List Entry) Refusal)
    → ReadsFile takes reads path bytes a → ReadsFile takes reads path bytes b → a ≢ Err refusals.Memory → b ≢ Err refusals.Memory → a ≡ b

pub record ReadLaws : Type 0 where
  pub joined : Joined
  pub lists : OneList
  pub manifests : OneManifest

-- a refusal that needs no file: memory ran out, or the store failed
abbrev pub IsOfStore : Refusal → Type 0
IsOfStore refusals.Memory = Unit {0}
IsOfStore (refusals.StoreFault path) = Unit {0}
IsOfStore other = ⊥

-- ---- what is read in one way

bytes_same : (one other : List ℕ) → Some one ≡ Some other → one ≡ other
bytes_same one other e = cc

some_gone : (found : Option (List ℕ)) (bytes : List ℕ) → found ≡ Some bytes → None ≡ found → ⊥
some_gone found bytes is none = cc

metas_same : (xs ys : List ManifestMeta) → ◌≡◌ {A = Result (List ManifestMeta) Refusal} (Ok xs) (Ok ys) → xs ≡ ys
metas_same xs ys e = cc

metas_or : (xs : List ManifestMeta) (e : Refusal) → ◌≢◌ {A = Result (List ManifestMeta) Refusal} (Ok xs) (Err e)
metas_or xs e same = cc

metas_fault : (e : Refusal) → e ≢ refusals.Memory → ◌≢◌ {A = Result (List ManifestMeta) Refusal} (Err e) (Err refusals.Memory)
metas_fault e other same = other (let it : e ≡ refusals.Memory = cc in it)

entries_same : (xs ys : List Entry) → ◌≡◌ {A = Result (List Entry) Refusal} (Ok xs) (Ok ys) → xs ≡ ys
entries_same xs ys e = cc

entries_or : (xs : List Entry) (e : Refusal) → ◌≢◌ {A = Result (List Entry) Refusal} (Ok xs) (Err e)
entries_or xs e same = cc

entries_fault : (e : Refusal) → e ≢ refusals.Memory → ◌≢◌ {A = Result (List Entry) Refusal} (Err e) (Err refusals.Memory)
entries_fault e other same = other (let it : e ≡ refusals.Memory = cc in it)

damaged_not : (path : List ℕ) (place : ℕ) → refusals.Damaged path place ≢ refusals.Memory
damaged_not path place e = cc

unsupported_not : (what text : List ℕ) → refusals.Unsupported what text ≢ refusals.Memory
unsupported_not what text e = cc

told_parts : (f : Files) (own more : List Event) → AreTold f (own ++ more) → AreTold f own × AreTold f more
told_parts f own more told = AllByRecursion-parts (IsTold f) own more told

-- what each of the entries is those of one manifest are
each_within : (before first after es : List Entry) → es ≡ before ++ (first ++ after) → AllByRecursion IsChangelogEntry es → AllByRecursion IsChangelogEntry first
each_within before first after es split all =
    let parts = AllByRecursion-parts IsChangelogEntry before (first ++ after) (subst (AllByRecursion IsChangelogEntry) split all) in
    (AllByRecursion-parts IsChangelogEntry first after parts.1).0

-- a snapshot that is there with its files
module _ (laws : ReadLaws) (f : Files) (s : TableSchema) (entries : List HistoryEntry) (id : ℕ) (least : 1 ≤ id) (own : IsCommitted f s entries id) where
  abbrev a : LogAskedView
  a = log_asked_of s id

  abbrev asked : Asked
  asked = view_asked a

  abbrev c : Contents
  c = own.contents

  one_list : (name : List ℕ) (xs ys : List ManifestMeta) → IsList f name xs → IsList f name ys → xs ≡ ys
  one_list name xs ys one two =
      let same : two.bytes ≡ one.bytes = bytes_same two.bytes one.bytes (sym two.there ∙ one.there) in
      metas_same xs ys (laws.lists has_meta_fields meta_in (manifest_path name) one.bytes (Ok xs) (Ok ys) one.read
      (subst (λ (bytes : List ℕ). ReadsFile has_meta_fields meta_in (manifest_path name) bytes (Ok ys)) same two.read) (metas_or xs refusals.Memory) (metas_or ys refusals.Memory))

  list_reads : (name bytes : List ℕ) (xs : List ManifestMeta) (e : Refusal) → e ≢ refusals.Memory → IsList f name xs → Some bytes ≡ map.get f (manifest_path name)
      → MisreadsList (manifest_path name) bytes e → ⊥
  list_reads name bytes xs e other list found fault =
      let same : bytes ≡ list.bytes = bytes_same bytes list.bytes (found ∙ list.there) in
      metas_or xs e (laws.lists has_meta_fields meta_in (manifest_path name) list.bytes (Ok xs) (Err e) list.read
      (subst (λ (bytes : List ℕ). MisreadsList (manifest_path name) bytes e) same fault) (metas_or xs refusals.Memory) (metas_fault e other))

  one_manifest : (name : List ℕ) (xs ys : List Entry) → IsManifest f s name xs → IsManifest f s name ys → xs ≡ ys
  one_manifest name xs ys one two =
      let same : two.bytes ≡ one.bytes = bytes_same two.bytes one.bytes (sym two.there ∙ one.there) in
      entries_same xs ys (laws.manifests has_entry_fields (entry_in (shape_of s)) (manifest_path name) one.bytes (Ok xs) (Ok ys) one.read
      (subst (λ (bytes : List ℕ). ReadsFile has_entry_fields (entry_in (shape_of s)) (manifest_path name) bytes (Ok ys)) same two.read) (entries_or xs refusals.Memory) (entries_or ys refusals.Memory))

  manifest_reads : (name bytes : List ℕ) (xs : List Entry) (e : Refusal) → e ≢ refusals.Memory → IsManifest f s name xs → Some bytes ≡ map.get f (manifest_path name)
      → MisreadsManifest s (manifest_path name) bytes e → ⊥
  manifest_reads name bytes xs e other is found fault =
      let same : bytes ≡ is.bytes = bytes_same bytes is.bytes (found ∙ is.there) in
      entries_or xs e (laws.manifests has_entry_fields (entry_in (shape_of s)) (manifest_path name) is.bytes (Ok xs) (Err e) is.read
      (subst (λ (bytes : List ℕ). MisreadsManifest s (manifest_path name) bytes e) same fault) (entries_or xs refusals.Memory) (entries_fault e other))

  one_entries : (metas : List ManifestMeta) (xs ys : List Entry) → HaveEntries f s metas xs → HaveEntries f s metas ys → xs ≡ ys
  one_entries [] xs ys one two = one ∙ sym two
  one_entries (meta ∷ metas) xs ys (first, later, split, is, have) (more, others, parts, reads, has) =
      split ∙ ap (λ (es : List Entry). es ++ later) (one_manifest meta.name first more is reads) ∙ ap (λ (es : List Entry). more ++ es) (one_entries metas later others have has) ∙ sym parts

  -- the next manifest
  record Next (done : List ManifestMeta) (meta : ManifestMeta) (es : List Entry) : Type 0 where
    before : List Entry
    first : List Entry
    after : List Entry
    split : es ≡ before ++ (first ++ after)
    have : HaveEntries f s done before
    is : IsManifest f s meta.name first

  next_of : (done : List ManifestMeta) (meta : ManifestMeta) (rest : List ManifestMeta) (es : List Entry) → HaveEntries f s (done ++ meta ∷ rest) es → Next done meta es
  next_of [] meta rest es (first, later, split, is, have) = record { before = []; first = first; after = later; split = split; have = refl; is = is }
  next_of (one ∷ done) meta rest es (first, later, split, is, have) =
      let n = next_of done meta rest later have in record {
        before = first ++ n.before;
        first = n.first;
        after = n.after;
        split = split ∙ ap (λ (es : List Entry). first ++ es) n.split ∙ sym (append_assoc first n.before (n.first ++ n.after));
        have = (first, n.before, refl, is, n.have);
        is = n.is;
      }

  -- ---- the snapshot

  abbrev At : Snapshot → Type 0
  At x = own.snapshot ≡ x

  contents : (x : Snapshot) → At x → HasContents f s x c
  contents x at = subst (λ (y : Snapshot). HasContents f s y c) at own.has

  bad_at : (bytes : List ℕ) → Some bytes ≡ map.get f (snapshot_path id) → snapshot_in id bytes ≡ Err faults.Bad → ⊥
  bad_at bytes found bad =
      let same : bytes ≡ own.there.0 = bytes_same bytes own.there.0 (found ∙ own.there.1) in
      let clash : ◌≡◌ {A = Result Snapshot SnapFault} (Err faults.Bad) (Ok own.snapshot) = sym bad ∙ ap (snapshot_in id) same ∙ own.there.2 in
      cc

  is_at : (x : Snapshot) (bytes : List ℕ) → Some bytes ≡ map.get f (snapshot_path id) → snapshot_in id bytes ≡ Ok x → At x
  is_at x bytes found is = one-snapshot f id own.snapshot x own.there (bytes, sym found, is)

  schema_at : (x : Snapshot) (bytes : List ℕ) → Some bytes ≡ map.get f (snapshot_path id) → snapshot_in id bytes ≡ Ok x → x.schema_id ≡ s.id
  schema_at x bytes found is = subst (λ (y : Snapshot). y.schema_id ≡ s.id) (is_at x bytes found is) own.schema

  never_gone : None ≡ map.get f (snapshot_path id) → ⊥
  never_gone none = some_gone (map.get f (snapshot_path id)) own.there.0 own.there.1 none

  -- ---- what is told of its lists

  reads_at : (k : ℕ) (path : List ℕ) (found : Option (List ℕ)) (did : List Event) → Reads asked k path found did → AreTold f did → (k ≡ id) × (found ≡ map.get f path)
  reads_at k path found did (earlier, (same, none), is) told = (same, (told_last f earlier (read_file path found) (subst (AreTold f) is told)).1)

  snapshot_at : (k : ℕ) (found : Option (List ℕ)) (did : List Event) → Reads asked k (snapshot_path k) found did → AreTold f did
      → (k ≡ id) × (found ≡ map.get f (snapshot_path id))
  snapshot_at k found did reads told =
      let at = reads_at k (snapshot_path k) found did reads told in
      (at.0, at.1 ∙ ap (λ (n : ℕ). map.get f (snapshot_path n)) at.0)

  has_at : (x : Snapshot) (did : List Event) → Has asked x did → AreTold f did → At x
  has_at x did (bytes, after, reads, schema, finds) told =
      let at = snapshot_at x.id (Some bytes) did finds told in
      is_at x bytes at.1 (subst (λ (n : ℕ). snapshot_in n bytes ≡ Ok x) at.0 reads)

  base_at : (x : Snapshot) (found : Option (List ℕ)) (did : List Event) → FindsBase asked x found did → AreTold f did
      → At x × (found ≡ map.get f (manifest_path x.base_list))
  base_at x found did (earlier, has, is) told =
      let parts = told_last f earlier (read_file (manifest_path x.base_list) found) (subst (AreTold f) is told) in
      (has_at x earlier has parts.0, parts.1)

  has_base_at : (x : Snapshot) (base : List ManifestMeta) (did : List Event) → HasBase asked x base did → AreTold f did → At x × IsList f x.base_list base
  has_base_at x base did (bytes, reads, finds) told =
      let at = base_at x (Some bytes) did finds told in
      (at.0, record { bytes = bytes; there = sym at.1; read = reads })

  delta_at : (x : Snapshot) (base : List ManifestMeta) (found : Option (List ℕ)) (did : List Event) → FindsDelta asked x base found did → AreTold f did
      → At x × IsList f x.base_list base × (found ≡ map.get f (manifest_path x.delta_list))
  delta_at x base found did (earlier, has, is) told =
      let parts = told_last f earlier (read_file (manifest_path x.delta_list) found) (subst (AreTold f) is told) in
      let at = has_base_at x base earlier has parts.0 in
      (at.0, at.1, parts.1)

  has_delta_at : (x : Snapshot) (base delta : List ManifestMeta) (did : List Event) → HasDelta asked x base delta did → AreTold f did
      → At x × IsList f x.base_list base × IsList f x.delta_list delta
  has_delta_at x base delta did (bytes, reads, finds) told =
      let at = delta_at x base (Some bytes) did finds told in
      (at.0, at.1, record { bytes = bytes; there = sym at.2; read = reads })

  manifests_at : (metas : List ManifestMeta) (es : List Entry) (did : List Event) → HaveRead s metas es did → AreTold f did → HaveEntries f s metas es
  manifests_at [] es did (none, is) told = none
  manifests_at (meta ∷ metas) es did (bytes, first, later, events, reads, split, is, rest) told =
      let parts : (Some bytes ≡ map.get f (manifest_path meta.name)) × AreTold f events = subst (AreTold f) is told in
      (first, later, split, record { bytes = bytes; there = sym parts.0; read = reads }, manifests_at metas later events rest parts.1)

  -- the manifests that were read, and those that are left, are those of its lists
  record Part (x : Snapshot) (done rest : List ManifestMeta) (es : List Entry) : Type 0 where
    at : At x
    whole_is : c.base ++ c.delta ≡ done ++ rest
    have : HaveEntries f s done es

  part_at : (x : Snapshot) (done rest : List ManifestMeta) (es : List Entry) (did : List Event) → HasPart asked x done rest es did → AreTold f did → Part x done rest es
  part_at x done rest es did part told =
      let halves = told_parts f part.lists part.reads (subst (AreTold f) part.is told) in
      let lists = has_delta_at x part.base part.delta part.lists part.listed halves.0 in
      let table = (contents x lists.0).table in
      record {
        at = lists.0;
        whole_is = ap (λ (metas : List ManifestMeta). metas ++ c.delta) (one_list x.base_list c.base part.base table.base_list lists.1)
            ∙ ap (λ (metas : List ManifestMeta). part.base ++ metas) (one_list x.delta_list c.delta part.delta table.delta_list lists.2)
            ∙ part.parts;
        have = manifests_at done es part.reads part.read halves.1;
      }

  next_at : (x : Snapshot) (done : List ManifestMeta) (meta : ManifestMeta) (rest : List ManifestMeta) (es : List Entry) (found : Option (List ℕ)) (did : List Event)
      → FindsNext asked x done meta rest es found did → AreTold f did → Part x done (meta ∷ rest) es × (found ≡ map.get f (manifest_path meta.name))
  next_at x done meta rest es found did (earlier, part, is) told =
      let parts = told_last f earlier (read_file (manifest_path meta.name) found) (subst (AreTold f) is told) in
      (part_at x done (meta ∷ rest) es earlier part parts.0, parts.1)

  next_part : (x : Snapshot) (done : List ManifestMeta) (meta : ManifestMeta) (rest : List ManifestMeta) (es : List Entry) → Part x done (meta ∷ rest) es
      → Next done meta c.entries
  next_part x done meta rest es p =
      next_of done meta rest c.entries (subst (λ (metas : List ManifestMeta). HaveEntries f s metas c.entries) p.whole_is own.has.table.have)

  -- ---- no refusal of the view comes of it

  lacks_at : (k : ℕ) (path : List ℕ) (did : List Event) → LacksFile asked k path did → AreTold f did → ⊥
  lacks_at k path did (lacks_base x same path_is finds) told =
      let at = base_at x None did finds told in
      let list = (contents x at.0).table.base_list in
      some_gone (map.get f (manifest_path x.base_list)) list.bytes list.there at.1
  lacks_at k path did (lacks_delta x base same path_is finds) told =
      let at = delta_at x base None did finds told in
      let list = (contents x at.0).table.delta_list in
      some_gone (map.get f (manifest_path x.delta_list)) list.bytes list.there at.2
  lacks_at k path did (lacks_manifest x done meta rest es same path_is finds) told =
      let at = next_at x done meta rest es None did finds told in
      let is = (next_part x done meta rest es at.0).is in
      some_gone (map.get f (manifest_path meta.name)) is.bytes is.there at.1

  again_at : (k : ℕ) (path : List ℕ) (found : Option (List ℕ)) (did : List Event) → ReadsAgain asked k path found did → AreTold f did → ⊥
  again_at k path found did (earlier, lacks, is) told =
      lacks_at k path earlier lacks (told_last f earlier (read_file (snapshot_path k) found) (subst (AreTold f) is told)).0

  misreads_at : (e : Refusal) (did : List Event) → e ≢ refusals.Memory → Misreads asked e did → AreTold f did → ⊥
  misreads_at e did other (misreads_base x bytes fault finds) told =
      let at = base_at x (Some bytes) did finds told in
      list_reads x.base_list bytes c.base e other (contents x at.0).table.base_list at.1 fault
  misreads_at e did other (misreads_delta x base bytes fault finds) told =
      let at = delta_at x base (Some bytes) did finds told in
      list_reads x.delta_list bytes c.delta e other (contents x at.0).table.delta_list at.2 fault
  misreads_at e did other (misreads_manifest x done meta rest es bytes fault finds) told =
      let at = next_at x done meta rest es (Some bytes) did finds told in
      let n = next_part x done meta rest es at.0 in
      manifest_reads meta.name bytes n.first e other n.is at.1 fault

  gone_at : (k : ℕ) (did : List Event) → IsGone asked k did → AreTold f did → ⊥
  gone_at k did (gone_origin first reads) told =
      let at = (reads_at 0 (origin_path s) None did reads told).0 in
      omega (arith, at, least)
  gone_at k did (gone_snapshot after reads) told = never_gone (snapshot_at k None did reads told).1
  gone_at k did (gone_again path again) told = again_at k path None did again told

  ordered_at : (x : Snapshot) (done : List ManifestMeta) (meta : ManifestMeta) (rest : List ManifestMeta) (es : List Entry) (live : Live) (later : List Entry)
      → Part x done (meta ∷ rest) es → IsManifest f s meta.name later → Leaves none_live es live → AreInOrder live later
  ordered_at x done meta rest es live later p is left =
      let n = next_part x done meta rest es p in
      let first : n.before ≡ es = one_entries done n.before es n.have p.have in
      let next : n.first ≡ later = one_manifest meta.name n.first later n.is is in
      let split : c.entries ≡ es ++ (later ++ n.after) =
      n.split ∙ ap (λ (es : List Entry). es ++ (n.first ++ n.after)) first ∙ ap (λ (more : List Entry). es ++ (more ++ n.after)) next in
      let order = subst (AreInOrder none_live) split own.has.table.order in
      let mine = (laws.joined.1 none_live es (later ++ n.after)).0 order in
      let two = (laws.joined.1 (live_after none_live es) later n.after).0 mine.1 in
      order_same (live_after none_live es) live later (λ id. sym (left id)) two.0

  disordered_at : (live : Live) (later : List Entry) (i : ℕ) → AreInOrder live later → IsOutOfOrder live later i → ⊥
  disordered_at live later i order (e, at, cannot) = cannot (order i e at)

  live_same : (x : Snapshot) (metas : List ManifestMeta) (es : List Entry) (live : Live) → Part x metas [] es → Leaves none_live es live → live_in c ≡ live
  live_same x metas es live p left =
      let whole_is : c.base ++ c.delta ≡ metas = p.whole_is ∙ append-nil metas in
      let have = subst (λ (ms : List ManifestMeta). HaveEntries f s ms c.entries) whole_is own.has.table.have in
      let each : live_after none_live es ≡ live = λ i k. sym (left k) i in
      ap (λ (es : List Entry). live_after none_live es) (one_entries metas c.entries es have p.have) ∙ each

  overlap_at : (x : Snapshot) (metas : List ManifestMeta) (es : List Entry) (live : Live) (path : List ℕ) (place : ℕ) → Part x metas [] es → Leaves none_live es live
      → Overlaps s live (refusals.Damaged path place) → ⊥
  overlap_at x metas es live path place p left (first, g, files, file, are, is, at, below) =
      let runs = (own.groups g).own in
      let exact : AreFilesOf live g runs.files = subst (λ (l : Live). AreFilesOf l g runs.files) (live_same x metas es live p left) runs.own in
      let o = is.overlaps in
      let both = first_in o.0 file files o.1 in
      runs.disjoint o.0 file (two_in o.0 file runs.files ((exact.exact o.0).1 ((are.exact o.0).0 both.0)) ((exact.exact file).1 ((are.exact file).0 both.1))
      (λ same. are.apart o.0 file o.1 o.2.level (ap (λ (m : FileMeta). m.name) same))) o.2

  damaged_at : (path : List ℕ) (place : ℕ) (did : List Event) → IsDamaged asked path place did → AreTold f did → ⊥
  damaged_at path place did (bad_snapshot k bytes after at first bad reads) told =
      let got = reads_at k path (Some bytes) did reads told in
      bad_at bytes (got.1 ∙ ap (map.get f) at ∙ ap (λ (n : ℕ). map.get f (snapshot_path n)) got.0)
      (subst (λ (n : ℕ). snapshot_in n bytes ≡ Err faults.Bad) got.0 bad)
  damaged_at path place did (bad_schema x k bytes after at first is other reads) told =
      let got = snapshot_at k (Some bytes) did reads told in
      other (schema_at x bytes got.1 (subst (λ (n : ℕ). snapshot_in n bytes ≡ Ok x) got.0 is))
  damaged_at path place did (is_absent k bytes first again) told = again_at k path (Some bytes) did again told
  damaged_at path place did (is_misread misreads) told = misreads_at (refusals.Damaged path place) did (damaged_not path place) misreads told
  damaged_at path place did (is_disordered x done meta rest es live bytes later i at first left is out finds) told =
      let got = next_at x done meta rest es (Some bytes) did finds told in
      let read : ReadsFile has_entry_fields (entry_in (shape_of s)) (manifest_path meta.name) bytes (Ok later) =
      subst (λ (path : List ℕ). ReadsFile has_entry_fields (entry_in (shape_of s)) path bytes (Ok later)) at is in
      let file : IsManifest f s meta.name later = record { bytes = bytes; there = sym got.1; read = read } in
      disordered_at live later i (ordered_at x done meta rest es live later got.0 file left) out
  damaged_at path place did (is_overlap x metas es live part left overlaps) told =
      overlap_at x metas es live path place (part_at x metas [] es did part told) left overlaps

  view_of_store : (refusal : Refusal) (did : List Event) → reader.Shows asked refusal did → AreTold f did → IsOfStore refusal
  view_of_store refusals.Memory did shows told = tt
  view_of_store (refusals.StoreFault path) did shows told = tt
  view_of_store (refusals.NoSnapshot k latest) did (names, newest, above, is) told = absurd above
  view_of_store (refusals.Expired k) did gone told = absurd (gone_at k did gone told)
  view_of_store (refusals.Damaged path place) did damaged told = absurd (damaged_at path place did damaged told)
  view_of_store (refusals.Unsupported what text) did misreads told =
      absurd (misreads_at (refusals.Unsupported what text) did (unsupported_not what text) misreads told)
  view_of_store other did shows told = absurd shows

  -- ---- nor of its changelog

  log_read_at : (found : Option (List ℕ)) (did : List Event) → log.Reads a found did → AreTold f did → found ≡ map.get f (snapshot_path id)
  log_read_at found did is told = (subst (AreTold f) is told).0

  log_has_at : (x : Snapshot) (did : List Event) → log.Has a x did → AreTold f did → At x
  log_has_at x did (bytes, reads, schema, is) told = is_at x bytes (log_read_at (Some bytes) did is told) reads

  -- its changelog list has this name, and these manifests with these entries
  changelog_of : (x : Snapshot) (list : List ℕ) → At x → x.changelog_list ≡ Some list → HasChangelog f s (Some list) c.changelog c.changes
  changelog_of x list at named = subst (λ (o : Option (List ℕ)). HasChangelog f s o c.changelog c.changes) named (contents x at).changelog

  record Listed (list : List ℕ) (found : Option (List ℕ)) : Type 0 where
    has : HasChangelog f s (Some list) c.changelog c.changes
    told : found ≡ map.get f (manifest_path list)

  log_list_at : (x : Snapshot) (list : List ℕ) (found : Option (List ℕ)) (did : List Event) → log.FindsList a x list found did → AreTold f did → Listed list found
  log_list_at x list found did (earlier, (has, named), is) told =
      let parts = told_last f earlier (read_file (manifest_path list) found) (subst (AreTold f) is told) in
      record { has = changelog_of x list (log_has_at x earlier has parts.0) named; told = parts.1 }

  -- the manifests of its changelog
  record LogPart (done rest : List ManifestMeta) : Type 0 where
    whole_is : c.changelog ≡ done ++ rest
    have : HaveEntries f s c.changelog c.changes
    each : AllByRecursion IsChangelogEntry c.changes

  log_part_at : (x : Snapshot) (done rest : List ManifestMeta) (es : List Entry) (did : List Event) → log.HasPart a x done rest es did → AreTold f did → LogPart done rest
  log_part_at x done rest es did part told =
      let halves = told_parts f part.lists part.reads (subst (AreTold f) part.is told) in
      let l = log_list_at x part.list (Some part.bytes) part.lists part.found halves.0 in
      record {
        whole_is = one_list part.list c.changelog (done ++ rest) l.has.0 (record { bytes = part.bytes; there = sym l.told; read = part.listed });
        have = l.has.1;
        each = l.has.2;
      }

  record LogNext (meta : ManifestMeta) (found : Option (List ℕ)) : Type 0 where
    first : List Entry
    is : IsManifest f s meta.name first
    each : AllByRecursion IsChangelogEntry first
    told : found ≡ map.get f (manifest_path meta.name)

  log_next_at : (x : Snapshot) (done : List ManifestMeta) (meta : ManifestMeta) (rest : List ManifestMeta) (es : List Entry) (found : Option (List ℕ)) (did : List Event)
      → log.FindsNext a x done meta rest es found did → AreTold f did → LogNext meta found
  log_next_at x done meta rest es found did (earlier, part, is) told =
      let parts = told_last f earlier (read_file (manifest_path meta.name) found) (subst (AreTold f) is told) in
      let p = log_part_at x done (meta ∷ rest) es earlier part parts.0 in
      let n = next_of done meta rest c.changes (subst (λ (metas : List ManifestMeta). HaveEntries f s metas c.changes) p.whole_is p.have) in
      record { first = n.first; is = n.is; each = each_within n.before n.first n.after c.changes n.split p.each; told = parts.1 }

  log_lacks_at : (path : List ℕ) (did : List Event) → log.LacksFile a path did → AreTold f did → ⊥
  log_lacks_at path did (log.lacks_list x list path_is finds) told =
      let l = log_list_at x list None did finds told in
      some_gone (map.get f (manifest_path list)) l.has.0.bytes l.has.0.there l.told
  log_lacks_at path did (log.lacks_manifest x done meta rest es path_is finds) told =
      let n = log_next_at x done meta rest es None did finds told in
      some_gone (map.get f (manifest_path meta.name)) n.is.bytes n.is.there n.told

  log_again_at : (path : List ℕ) (found : Option (List ℕ)) (did : List Event) → log.ReadsAgain a path found did → AreTold f did → ⊥
  log_again_at path found did (earlier, lacks, is) told =
      log_lacks_at path earlier lacks (told_last f earlier (read_file (snapshot_path id) found) (subst (AreTold f) is told)).0

  log_misreads_at : (e : Refusal) (did : List Event) → e ≢ refusals.Memory → log.Misreads a e did → AreTold f did → ⊥
  log_misreads_at e did other (log.misreads_list x list bytes fault finds) told =
      let l = log_list_at x list (Some bytes) did finds told in
      list_reads list bytes c.changelog e other l.has.0 l.told fault
  log_misreads_at e did other (log.misreads_manifest x done meta rest es bytes fault finds) told =
      let n = log_next_at x done meta rest es (Some bytes) did finds told in
      manifest_reads meta.name bytes n.first e other n.is n.told fault

  log_gone_at : (did : List Event) → log.IsGone a did → AreTold f did → ⊥
  log_gone_at did (log.gone_first reads) told = never_gone (log_read_at None did reads told)
  log_gone_at did (log.gone_again path again) told = log_again_at path None did again told

  log_damaged_at : (path : List ℕ) (place : ℕ) (did : List Event) → log.IsDamaged a path place did → AreTold f did → ⊥
  log_damaged_at path place did (log.bad_snapshot bytes at first bad reads) told = bad_at bytes (log_read_at (Some bytes) did reads told) bad
  log_damaged_at path place did (log.bad_schema x bytes at first is other reads) told = other (schema_at x bytes (log_read_at (Some bytes) did reads told) is)
  log_damaged_at path place did (log.is_absent bytes first again) told = log_again_at path (Some bytes) did again told
  log_damaged_at path place did (log.is_misread misreads) told = log_misreads_at (refusals.Damaged path place) did (damaged_not path place) misreads told
  log_damaged_at path place did (log.has_other x done meta rest es entries_read bytes at first is other finds) told =
      let n = log_next_at x done meta rest es (Some bytes) did finds told in
      let read : ReadsFile has_entry_fields (entry_in (shape_of s)) (manifest_path meta.name) bytes (Ok entries_read) =
      subst (λ (path : List ℕ). ReadsFile has_entry_fields (entry_in (shape_of s)) path bytes (Ok entries_read)) at is in
      let same : n.first ≡ entries_read = one_manifest meta.name n.first entries_read n.is (record { bytes = bytes; there = sym n.told; read = read }) in
      other (subst (AllByRecursion IsChangelogEntry) same n.each)

  log_of_store : (refusal : Refusal) (did : List Event) → log.Shows a refusal did → AreTold f did → IsOfStore refusal
  log_of_store refusals.Memory did shows told = tt
  log_of_store (refusals.StoreFault path) did shows told = tt
  log_of_store (refusals.Expired k) did (same, gone) told = absurd (log_gone_at did gone told)
  log_of_store (refusals.Damaged path place) did damaged told = absurd (log_damaged_at path place did damaged told)
  log_of_store (refusals.Unsupported what text) did misreads told =
      absurd (log_misreads_at (refusals.Unsupported what text) did (unsupported_not what text) misreads told)
  log_of_store other did shows told = absurd shows

  follows_of_store : (v : View) (refusal : Refusal) (did : List Event) → Follows a v (log.Shows a refusal) did → AreTold f did → IsOfStore refusal
  follows_of_store v refusal did follows told =
      let first = read_first a follows.bytes in
      let parts = told_parts f (first ∷ follows.rest) follows.later (subst (AreTold f) follows.is told) in
      log_of_store refusal (first ∷ follows.later) follows.logged (parts.0.0, parts.1)

  pub whole_of_store : (refusal : Refusal) (did : List Event) → whole.Shows a refusal did → AreTold f did → IsOfStore refusal
  whole_of_store refusal did (inl shows) told = view_of_store refusal did shows told
  whole_of_store refusal did (inr (v, follows)) told = follows_of_store v refusal did follows told
