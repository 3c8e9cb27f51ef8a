-- What the calls of a reader of a view say of the files that each answer is of, where what they read is of snapshots of a
-- table.
use Rattle.std.proofs.Common.{◌≡◌, ◌≢◌, ◌⊎◌, inl, inr, ℕ, ◌≤◌, List, [], ◌∷◌, ◌++◌, Option, None, Some, IsSome, Result, Ok, Err, sym, ap, subst, ◌∙◌}
use Rattle.std.specs.FinMap as map
use Rattle.std.proofs.lemmas.List.{append-nil}
use Rattle.pm_base.proofs.Laws.{AllByRecursion-parts}
use Rattle.pm_values.specs.declared.file_meta.FileMeta.{FileMeta}
use Rattle.pm_values.specs.declared.refusal.Refusal.{Refusal}
use Rattle.pm_values.specs.declared.refusal.Refusal.TheVariants as refusals
use Rattle.pm_store.specs.Files.{Files}
use Rattle.pm_machine.specs.Trace.{Event}
use Rattle.pm_model_history.specs.History.{Entry as HistoryEntry}
use Rattle.pm_schema.specs.declared.schema.TableSchema.{TableSchema}
use Rattle.pm_snapshot.specs.Snapshot.{snapshot_in}
use Rattle.pm_snapshot.specs.declared.fault.SnapFault.{SnapFault}
use Rattle.pm_snapshot.specs.declared.fault.SnapFault.TheVariants as faults
use Rattle.pm_snapshot.specs.declared.snapshot.Snapshot.{Snapshot}
use Rattle.pm_record.specs.File.{ReadsFile}
use Rattle.pm_manifest.specs.Entries.{entry_in, has_entry_fields}
use Rattle.pm_manifest.specs.Live.{AreInOrder, IsOutOfOrder, Leaves, Live, live_after}
use Rattle.pm_manifest.specs.Shape.{shape_of}
use Rattle.pm_manifest.specs.declared.entry.Entry.{Entry}
use Rattle.pm_manifest.specs.declared.entry.ManifestMeta.{ManifestMeta}
use Rattle.pm_model_contents.specs.Groups.{Overlaps}
use Rattle.pm_model_contents.specs.Lists.{HasEntries, HaveEntries, IsList, IsManifest, manifest_path, none_live}
use Rattle.pm_model_contents.specs.Named.{Contents, HasContents}
use Rattle.pm_model_contents.specs.Runs.{AreFilesOf}
use Rattle.pm_model_folder.specs.Commits.{IsCommitted, live_in}
use Rattle.pm_model_folder.specs.Meaning.{SnapshotAt}
use Rattle.pm_model_folder.specs.Paths.{origin_path, snapshot_path}
use Rattle.pm_read_schema.proofs.StillLemmas.{AreTold, IsTold, told_last}
use Rattle.pm_read_table.specs.Asked.{Asked, asked_of}
use Rattle.pm_read_table.specs.Trace.{FindsBase, FindsDelta, FindsNext, Has, HasBase, HasDelta, HasPart, HaveRead, IsDamaged, IsGone, LacksFile, Lists, Misreads, Reads, ReadsAgain, bad_schema, bad_snapshot, gone_again, gone_origin, gone_snapshot, is_absent, is_disordered, is_misread, is_overlap, lacks_base, lacks_delta, lacks_manifest, misreads_base, misreads_delta, misreads_manifest, read_file}
use Rattle.pm_read_table.specs.declared.asked.Wanted.{Wanted}
use Rattle.pm_read_table.proofs.CauseLemmas.{Next, OneManifest, list_reads, manifest_reads, next_of, one_entries, one_manifest}
use Rattle.pm_read_table.proofs.Facts.{Joined, OneList, bytes_same, one_list, one_snapshot, order_same, some_there}
use Rattle.pm_read_table.proofs.TwoLemmas.{first_in, two_in}

-- ---- laws of crates below

pub record ViewLaws : Type 0 where
  pub joined : Joined
  pub lists : OneList
  pub manifests : OneManifest

-- ---- what is told

pub told_parts : (f : Files) (own more : List Event) → AreTold f (own ++ more) → AreTold f own × AreTold f more
told_parts f own more told = AllByRecursion-parts (IsTold f) own more told

pub some_gone : (found : Option (List ℕ)) (bytes : List ℕ) → found ≡ Some bytes → None ≡ found → ⊥
some_gone found bytes is none = cc

damaged_not : (path : List ℕ) (place : ℕ) → refusals.Damaged path place ≢ refusals.Memory
damaged_not path place e = cc

-- ---- what was read, of what is asked for

module _ (f : Files) (IsSought : ℕ → Type 0) where
  -- the snapshot that is asked for is there
  pub record At (x : Snapshot) : Type 0 where
    pub sought : IsSought x.id
    pub least : 1 ≤ x.id
    pub there : SnapshotAt f x.id x

module _ (f : Files) (s : TableSchema) (IsSought : ℕ → Type 0) where
  -- its lists, and the manifests of them that were read
  pub record Part (x : Snapshot) (done rest : List ManifestMeta) (es : List Entry) : Type 0 where
    pub at : At f IsSought x
    pub base : List ManifestMeta
    pub delta : List ManifestMeta
    pub base_is : IsList f x.base_list base
    pub delta_is : IsList f x.delta_list delta
    pub parts : base ++ delta ≡ done ++ rest
    pub have : HaveEntries f s done es
    pub order : AreInOrder none_live es

  -- all manifests were read, so the lists have these entries
  pub entries_of : (x : Snapshot) (metas : List ManifestMeta) (es : List Entry) → (p : Part x metas [] es) → HasEntries f s x p.base p.delta es
  entries_of x metas es p =
      let whole : p.base ++ p.delta ≡ metas = p.parts ∙ append-nil metas in record {
        base_list = p.base_is;
        delta_list = p.delta_is;
        have = subst (λ (ms : List ManifestMeta). HaveEntries f s ms es) (sym whole) p.have;
        order = p.order;
      }

-- the snapshot that is asked for, or its origin, isn't there
abbrev pub IsAbsent : Files → TableSchema → ℕ → Type 0
IsAbsent f s id = ((id ≡ 0) × (map.get f (origin_path s) ≡ None)) ⊎ ((1 ≤ id) × (map.get f (snapshot_path id) ≡ None))

-- Each snapshot that may be asked for, and is there, was committed, of these entries.
module _ (laws : ViewLaws) (f : Files) (s : TableSchema) (w : Wanted) (IsSought : ℕ → Type 0) (entries_at : ℕ → List HistoryEntry)
    (sought_at : (id : ℕ) (own : List Event) → Lists (asked_of s w) id own → AreTold f own → IsSought id)
    (committed_at : (id : ℕ) → IsSought id → 1 ≤ id → IsSome (map.get f (snapshot_path id)) → IsCommitted f s (entries_at id) id) where
  abbrev a : Asked
  a = asked_of s w

  pub reads_at : (id : ℕ) (path : List ℕ) (found : Option (List ℕ)) (own : List Event) → Reads a id path found own → AreTold f own
      → IsSought id × (found ≡ map.get f path)
  reads_at id path found own (earlier, lists, is) told =
      let parts = told_last f earlier (read_file path found) (subst (AreTold f) is told) in
      (sought_at id earlier lists parts.0, parts.1)

  has_at : (x : Snapshot) (own : List Event) → Has a x own → AreTold f own → At f IsSought x
  has_at x own (bytes, least, reads, schema, did) told =
      let at = reads_at x.id (snapshot_path x.id) (Some bytes) own did told in
      record { sought = at.0; least = least; there = (bytes, sym at.1, reads) }

  committed_of : (id : ℕ) (bytes : List ℕ) → IsSought id → 1 ≤ id → map.get f (snapshot_path id) ≡ Some bytes → IsCommitted f s (entries_at id) id
  committed_of id bytes sought least found = committed_at id sought least (some_there f (snapshot_path id) bytes found)

  pub committed : (x : Snapshot) → At f IsSought x → IsCommitted f s (entries_at x.id) x.id
  committed x at = committed_of x.id at.there.0 at.sought at.least at.there.1

  has_contents : (x : Snapshot) (at : At f IsSought x) → HasContents f s x (committed x at).contents
  has_contents x at =
      let own = committed x at in
      let same : own.snapshot ≡ x = one_snapshot f x.id own.snapshot x own.there at.there in
      subst (λ (y : Snapshot). HasContents f s y own.contents) same own.has

  contents : (x : Snapshot) → At f IsSought x → (c : Contents) × HasContents f s x c
  contents x at = ((committed x at).contents, has_contents x at)

  base_at : (x : Snapshot) (found : Option (List ℕ)) (own : List Event) → FindsBase a x found own → AreTold f own
      → At f IsSought x × (found ≡ map.get f (manifest_path x.base_list))
  base_at x found own (earlier, has, is) told =
      let parts = told_last f earlier (read_file (manifest_path x.base_list) found) (subst (AreTold f) is told) in
      (has_at x earlier has parts.0, parts.1)

  has_base_at : (x : Snapshot) (base : List ManifestMeta) (own : List Event) → HasBase a x base own → AreTold f own
      → At f IsSought x × IsList f x.base_list base
  has_base_at x base own (bytes, reads, finds) told =
      let at = base_at x (Some bytes) own finds told in
      (at.0, record { bytes = bytes; there = sym at.1; read = reads })

  delta_at : (x : Snapshot) (base : List ManifestMeta) (found : Option (List ℕ)) (own : List Event) → FindsDelta a x base found own → AreTold f own
      → At f IsSought x × IsList f x.base_list base × (found ≡ map.get f (manifest_path x.delta_list))
  delta_at x base found own (earlier, has, is) told =
      let parts = told_last f earlier (read_file (manifest_path x.delta_list) found) (subst (AreTold f) is told) in
      let at = has_base_at x base earlier has parts.0 in
      (at.0, at.1, parts.1)

  has_delta_at : (x : Snapshot) (base delta : List ManifestMeta) (own : List Event) → HasDelta a x base delta own → AreTold f own
      → At f IsSought x × IsList f x.base_list base × IsList f x.delta_list delta
  has_delta_at x base delta own (bytes, reads, finds) told =
      let at = delta_at x base (Some bytes) own finds told in
      (at.0, at.1, record { bytes = bytes; there = sym at.2; read = reads })

  manifests_at : (metas : List ManifestMeta) (es : List Entry) (own : List Event) → HaveRead s metas es own → AreTold f own → HaveEntries f s metas es
  manifests_at [] es own (none, is) told = none
  manifests_at (meta ∷ metas) es own (bytes, first, later, events, reads, split, is, rest) told =
      let parts : (Some bytes ≡ map.get f (manifest_path meta.name)) × AreTold f events = subst (AreTold f) is told in
      (first, later, split, record { bytes = bytes; there = sym parts.0; read = reads }, manifests_at metas later events rest parts.1)

  pub part_at : (x : Snapshot) (done rest : List ManifestMeta) (es : List Entry) (own : List Event) → HasPart a x done rest es own → AreTold f own
      → Part f s IsSought x done rest es
  part_at x done rest es own part told =
      let halves = told_parts f part.lists part.reads (subst (AreTold f) part.is told) in
      let lists = has_delta_at x part.base part.delta part.lists part.listed halves.0 in
      record {
        at = lists.0;
        base = part.base;
        delta = part.delta;
        base_is = lists.1;
        delta_is = lists.2;
        parts = part.parts;
        have = manifests_at done es part.reads part.read halves.1;
        order = part.order;
      }

  next_at : (x : Snapshot) (done : List ManifestMeta) (meta : ManifestMeta) (rest : List ManifestMeta) (es : List Entry) (found : Option (List ℕ)) (own : List Event)
      → FindsNext a x done meta rest es found own → AreTold f own
      → Part f s IsSought x done (meta ∷ rest) es × (found ≡ map.get f (manifest_path meta.name))
  next_at x done meta rest es found own (earlier, part, is) told =
      let parts = told_last f earlier (read_file (manifest_path meta.name) found) (subst (AreTold f) is told) in
      (part_at x done (meta ∷ rest) es earlier part parts.0, parts.1)

  -- ---- the next manifest is one of the snapshot's

  whole_of : (x : Snapshot) (done rest : List ManifestMeta) (es : List Entry) (c : Contents) → Part f s IsSought x done rest es → HasContents f s x c
      → HaveEntries f s (done ++ rest) c.entries
  whole_of x done rest es c p has =
      let lists : c.base ++ c.delta ≡ p.base ++ p.delta =
      ap (λ (metas : List ManifestMeta). metas ++ c.delta) (one_list laws.lists f x.base_list c.base p.base has.table.base_list p.base_is)
      ∙ ap (λ (metas : List ManifestMeta). p.base ++ metas) (one_list laws.lists f x.delta_list c.delta p.delta has.table.delta_list p.delta_is) in
      subst (λ (metas : List ManifestMeta). HaveEntries f s metas c.entries) (lists ∙ p.parts) has.table.have

  next_part : (x : Snapshot) (done : List ManifestMeta) (meta : ManifestMeta) (rest : List ManifestMeta) (es : List Entry)
      → Part f s IsSought x done (meta ∷ rest) es → (c : Contents) × HasContents f s x c × Next f s done meta c.entries
  next_part x done meta rest es p =
      let c = contents x p.at in
      (c.0, c.1, next_of f s done meta rest c.0.entries (whole_of x done (meta ∷ rest) es c.0 p c.1))

  -- ---- no refusal comes of it, but that the snapshot has gone

  lacks_at : (id : ℕ) (path : List ℕ) (own : List Event) → LacksFile a id path own → AreTold f own → ⊥
  lacks_at id path own (lacks_base x same path_is finds) told =
      let at = base_at x None own finds told in
      let list = (contents x at.0).1.table.base_list in
      some_gone (map.get f (manifest_path x.base_list)) list.bytes list.there at.1
  lacks_at id path own (lacks_delta x base same path_is finds) told =
      let at = delta_at x base None own finds told in
      let list = (contents x at.0).1.table.delta_list in
      some_gone (map.get f (manifest_path x.delta_list)) list.bytes list.there at.2
  lacks_at id path own (lacks_manifest x done meta rest es same path_is finds) told =
      let at = next_at x done meta rest es None own finds told in
      let is = (next_part x done meta rest es at.0).2.is in
      some_gone (map.get f (manifest_path meta.name)) is.bytes is.there at.1

  again_at : (id : ℕ) (path : List ℕ) (found : Option (List ℕ)) (own : List Event) → ReadsAgain a id path found own → AreTold f own → ⊥
  again_at id path found own (earlier, lacks, is) told =
      lacks_at id path earlier lacks (told_last f earlier (read_file (snapshot_path id) found) (subst (AreTold f) is told)).0

  pub misreads_at : (e : Refusal) (own : List Event) → e ≢ refusals.Memory → Misreads a e own → AreTold f own → ⊥
  misreads_at e own other (misreads_base x bytes fault finds) told =
      let at = base_at x (Some bytes) own finds told in
      let c = contents x at.0 in
      list_reads laws.lists f x.base_list bytes c.0.base e c.1.table.base_list (sym at.1) fault other
  misreads_at e own other (misreads_delta x base bytes fault finds) told =
      let at = delta_at x base (Some bytes) own finds told in
      let c = contents x at.0 in
      list_reads laws.lists f x.delta_list bytes c.0.delta e c.1.table.delta_list (sym at.2) fault other
  misreads_at e own other (misreads_manifest x done meta rest es bytes fault finds) told =
      let at = next_at x done meta rest es (Some bytes) own finds told in
      let n = (next_part x done meta rest es at.0).2 in
      manifest_reads laws.manifests f s meta.name bytes n.own e n.is (sym at.1) fault other

  bad_at : (id : ℕ) (bytes : List ℕ) → IsSought id → 1 ≤ id → Some bytes ≡ map.get f (snapshot_path id) → snapshot_in id bytes ≡ Err faults.Bad → ⊥
  bad_at id bytes sought least found bad =
      let own = committed_of id bytes sought least (sym found) in
      let same : bytes ≡ own.there.0 = bytes_same bytes own.there.0 (found ∙ own.there.1) in
      let clash : ◌≡◌ {A = Result Snapshot SnapFault} (Err faults.Bad) (Ok own.snapshot) = sym bad ∙ ap (snapshot_in id) same ∙ own.there.2 in
      cc

  schema_at : (x : Snapshot) (id : ℕ) (bytes : List ℕ) → IsSought id → 1 ≤ id → Some bytes ≡ map.get f (snapshot_path id) → snapshot_in id bytes ≡ Ok x
      → x.schema_id ≡ s.id
  schema_at x id bytes sought least found is =
      let own = committed_of id bytes sought least (sym found) in
      let same : own.snapshot ≡ x = one_snapshot f id own.snapshot x own.there (bytes, sym found, is) in
      subst (λ (y : Snapshot). y.schema_id ≡ s.id) same own.schema

  ordered_at : (x : Snapshot) (done : List ManifestMeta) (meta : ManifestMeta) (rest : List ManifestMeta) (es : List Entry) (live : Live) (later : List Entry)
      → Part f s IsSought x done (meta ∷ rest) es → IsManifest f s meta.name later → Leaves none_live es live → AreInOrder live later
  ordered_at x done meta rest es live later p is left =
      let c = next_part x done meta rest es p in
      let n = c.2 in
      let first : n.before ≡ es = one_entries laws.manifests f s done n.before es n.have p.have in
      let next : n.own ≡ later = one_manifest laws.manifests f s meta.name n.own later n.is is in
      let split : c.0.entries ≡ es ++ (later ++ n.after) =
      n.split ∙ ap (λ (es : List Entry). es ++ (n.own ++ n.after)) first ∙ ap (λ (own : List Entry). es ++ (own ++ n.after)) next in
      let order = subst (AreInOrder none_live) split c.1.table.order in
      let mine = (laws.joined.1 none_live es (later ++ n.after)).0 order in
      let two = (laws.joined.1 (live_after none_live es) later n.after).0 mine.1 in
      order_same (live_after none_live es) live later (λ id. sym (left id)) two.0

  disordered_at : (live : Live) (later : List Entry) (i : ℕ) → AreInOrder live later → IsOutOfOrder live later i → ⊥
  disordered_at live later i order (e, at, cannot) = cannot (order i e at)

  pub live_of_part : (x : Snapshot) (metas : List ManifestMeta) (es : List Entry) (live : Live) → (p : Part f s IsSought x metas [] es) → Leaves none_live es live
      → live_in (committed x p.at).contents ≡ live
  live_of_part x metas es live p left =
      let c = (committed x p.at).contents in
      let whole = whole_of x metas [] es c p (has_contents x p.at) in
      let have = subst (λ (ms : List ManifestMeta). HaveEntries f s ms c.entries) (append-nil metas) whole in
      let each : live_after none_live es ≡ live = λ i id. sym (left id) i in
      ap (λ (es : List Entry). live_after none_live es) (one_entries laws.manifests f s metas c.entries es have p.have) ∙ each

  overlap_at : (x : Snapshot) (metas : List ManifestMeta) (es : List Entry) (live : Live) (path : List ℕ) (place : ℕ) → Part f s IsSought x metas [] es
      → Leaves none_live es live → Overlaps s live (refusals.Damaged path place) → ⊥
  overlap_at x metas es live path place p left (first, g, files, file, are, is, at, below) =
      let runs = ((committed x p.at).groups g).own in
      let own : AreFilesOf live g runs.files = subst (λ (l : Live). AreFilesOf l g runs.files) (live_of_part x metas es live p left) runs.own in
      let o = is.overlaps in
      let both = first_in o.0 file files o.1 in
      runs.disjoint o.0 file (two_in o.0 file runs.files ((own.exact o.0).1 ((are.exact o.0).0 both.0)) ((own.exact file).1 ((are.exact file).0 both.1))
      (λ same. are.apart o.0 file o.1 o.2.level (ap (λ (m : FileMeta). m.name) same))) o.2

  pub gone_at : (id : ℕ) (own : List Event) → IsGone a id own → AreTold f own → IsSought id × IsAbsent f s id
  gone_at id own (gone_origin first reads) told =
      let at = reads_at 0 (origin_path s) None own reads told in (subst IsSought (sym first) at.0, inl (first, sym at.1))
  gone_at id own (gone_snapshot least reads) told =
      let at = reads_at id (snapshot_path id) None own reads told in (at.0, inr (least, sym at.1))
  gone_at id own (gone_again path again) told = absurd (again_at id path None own again told)

  pub damaged_at : (path : List ℕ) (place : ℕ) (own : List Event) → IsDamaged a path place own → AreTold f own → ⊥
  damaged_at path place own (bad_snapshot id bytes least at first bad reads) told =
      let got = reads_at id path (Some bytes) own reads told in
      bad_at id bytes got.0 least (got.1 ∙ ap (λ (path : List ℕ). map.get f path) at) bad
  damaged_at path place own (bad_schema x id bytes least at first is other reads) told =
      let got = reads_at id (snapshot_path id) (Some bytes) own reads told in
      other (schema_at x id bytes got.0 least got.1 is)
  damaged_at path place own (is_absent id bytes first again) told = again_at id path (Some bytes) own again told
  damaged_at path place own (is_misread misreads) told = misreads_at (refusals.Damaged path place) own (damaged_not path place) misreads told
  damaged_at path place own (is_disordered x done meta rest es live bytes later i at first left is out finds) told =
      let got = next_at x done meta rest es (Some bytes) own finds told in
      let read : ReadsFile has_entry_fields (entry_in (shape_of s)) (manifest_path meta.name) bytes (Ok later) =
      subst (λ (path : List ℕ). ReadsFile has_entry_fields (entry_in (shape_of s)) path bytes (Ok later)) at is in
      let file : IsManifest f s meta.name later = record { bytes = bytes; there = sym got.1; read = read } in
      disordered_at live later i (ordered_at x done meta rest es live later got.0 file left) out
  damaged_at path place own (is_overlap x metas es live part left overlaps) told =
      overlap_at x metas es live path place (part_at x metas [] es own part told) left overlaps
