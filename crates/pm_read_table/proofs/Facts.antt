-- A reader of a view keeps the laws of machines.
use Rattle.std.proofs.Common.{◌≡◌, ◌≢◌, ◌⊎◌, inl, inr, ℕ, ◌<◌, ◌≤◌, ◌+◌, ◌==◌, suc, List, [], ◌∷◌, ◌++◌, length, Bool, true, false, if◌then◌else◌, Option, None, Some, IsSome, IfSome, Result, Ok, Err, Contains, refl, sym, ap, ◌∙◌, ◌↔◌, subst, arith, append_assoc, is_some, take, not}
use Rattle.std.specs.FinMap as map
use Rattle.std.proofs.lemmas.List.{append-nil}
use Rattle.std.proofs.lemmas.List.Elements.{Contains-append_right}
use Rattle.std.proofs.lemmas.Bool.Decides.{nat_tests}
use Rattle.pm_values.specs.declared.refusal.Refusal.{Refusal}
use Rattle.pm_values.specs.declared.refusal.Refusal.TheVariants as refusals
use Rattle.pm_store.specs.declared.answer.Answer.{Answer}
use Rattle.pm_store.specs.declared.answer.Answer.TheVariants as answers
use Rattle.pm_store.specs.declared.call.Call.{Call}
use Rattle.pm_store.specs.declared.call.Call.TheVariants as calls
use Rattle.pm_store.specs.Answers.{Answers, MayAnswer}
use Rattle.pm_store.specs.Files.{Files, IsListing}
use Rattle.pm_store.specs.Images.{MayLeave}
use Rattle.pm_machine.specs.Moves.{IsKept, Sound}
use Rattle.pm_machine.specs.Running.{Refuses, Stops}
use Rattle.pm_machine.specs.Trace.{Event, Recounts, after_answer, answered}
use Rattle.pm_machine.proofs.PhaseFacts.{Spares, image_spared, recounts_of, sound_of_spared}
use Rattle.pm_model_history.specs.History.{IsTableOf}
use Rattle.pm_schema.specs.declared.schema.TableSchema.{TableSchema}
use Rattle.pm_snapshot.specs.Names.{greatest}
use Rattle.pm_snapshot.specs.Snapshot.{snapshot_in}
use Rattle.pm_snapshot.specs.declared.fault.SnapFault.{SnapFault}
use Rattle.pm_snapshot.specs.declared.snapshot.Snapshot.{Snapshot}
use Rattle.pm_snapshot.proofs.Facts.{id_same}
use Rattle.pm_model_folder.specs.Changes.{Actor}
use Rattle.pm_model_folder.specs.Commits.{Needs}
use Rattle.pm_model_folder.specs.Ledger.{Advances, IsKnown, Past, Stands, count_of}
use Rattle.pm_model_folder.specs.Meaning.{SnapshotAt}
use Rattle.pm_model_folder.specs.Paths.{origin_path, schema_path, snapshot_folder, snapshot_path}
use Rattle.pm_model_folder.proofs.Facts.{goes_on}
use Rattle.pm_model_folder.proofs.LedgerFacts.{at-table, stood-read, stood-same, stood-gone, known-still, gone-still}
use Rattle.pm_paths.specs.Ids.{AreIds, IsLatest}
use Rattle.pm_paths.proofs.ListedLemmas.{latest_is}
use Rattle.pm_read_schema.specs.Reader.{snapshots_call}
use Rattle.pm_read_schema.specs.Trace.{Names, listed_snapshots}
use Rattle.pm_read_schema.proofs.Facts.{list_effect, read_effect, still_table}
use Rattle.pm_paths.proofs.ListLemmas.{here}
use Rattle.pm_manifest.specs.Live.{AreInOrder, Leaves, Live, live_after, live_at, id_of}
use Rattle.pm_manifest.specs.declared.entry.Entry.{Entry}
use Rattle.pm_manifest.specs.declared.entry.ManifestMeta.{ManifestMeta}
use Rattle.pm_manifest.specs.declared.file_id.FileId.{FileId}
use Rattle.pm_avro_schema.specs.Avro.{Avro}
use Rattle.pm_record.specs.File.{Reading, ReadsFile}
use Rattle.pm_manifest.specs.Listed.{has_meta_fields, meta_in}
use Rattle.pm_model_contents.specs.Groups.{Overlaps}
use Rattle.pm_model_contents.specs.Named.{Contents, HasContents, IsNamed, base_list, delta_list, manifest}
use Rattle.pm_model_contents.specs.Lists.{HasEntries, HaveEntries, IsList, IsManifest, manifest_path, none_live}
use Rattle.pm_read_table.specs.Reader.{Goes, GoesOn, IsAsked, IsListOf, IsManifestOf, IsReady, IsViewer, Shown, calls_left, disorder, most, next_call, opening, overlap}
use Rattle.pm_read_table.specs.Reading.{Filed, ReadingView, live_of}
use Rattle.pm_read_table.specs.Meaning.{HasGone, IsReadingOf, IsViewIn, view_origin, view_snapshot, Knows, KnowsSought, Stood}
use Rattle.pm_read_table.specs.declared.asked.Wanted.{Wanted}
use Rattle.pm_read_table.specs.declared.asked.Wanted.TheVariants as wants
use Rattle.pm_read_table.specs.Trace.{read_file, HasListed, HasSought, IsSought, Lists, ListsFor, Reads, Has, HaveRead, HasPart, HasView, of_origin, of_snapshot, lacks_base, lacks_delta, lacks_manifest, Misreads, misreads_base, misreads_delta, misreads_manifest, DidSoFar, MayTakeMemory, gone_origin, gone_snapshot, gone_again, IsDamaged, bad_snapshot, bad_schema, is_absent, is_misread, is_disordered, is_overlap, Shows, Did}
use Rattle.pm_read_table.specs.View.{IsOriginView, IsSoughtBy, IsViewOf, kept_for}
use Rattle.pm_read_table.specs.Asked.{Asked, ListsFirst, SoughtView, sought_of}
use Rattle.pm_read_table.specs.declared.phase.Phase.{Phase}
use Rattle.pm_read_table.specs.declared.phase.Phase.TheVariants as phases
use Rattle.pm_read_table.specs.declared.view.View.{View}
use Rattle.pm_read_table.proofs.FaultLemmas.{IsFileFault, file_fault}
use Rattle.pm_read_table.proofs.ListedLemmas.{sought_at, sought_by, sought_new, sought_still}
use Rattle.pm_read_table.proofs.LiveLemmas.{kept_join, kept_none}

-- ---- its calls change nothing

pub spares : (m : Phase) (f : Files) → IfSome (next_call m) (Spares f)
spares (phases.List a) f = λ effect. list_effect snapshot_folder effect f
spares (phases.Origin q) f = λ effect. read_effect (origin_path q.asked.schema) effect f
spares (phases.Snapshot q id) f = λ effect. read_effect (snapshot_path id) effect f
spares (phases.Base q x) f = λ effect. read_effect (manifest_path x.base_list) effect f
spares (phases.Delta q x base) f = λ effect. read_effect (manifest_path x.delta_list) effect f
spares (phases.Manifests r) f = λ effect. read_effect (manifest_path r.next.name) effect f
spares (phases.Again a id path) f = λ effect. read_effect (snapshot_path id) effect f
spares (phases.Ready v) f = tt
spares phases.Over f = tt

-- ---- entries

order_none : AreInOrder none_live []
order_none i e is = absurd (let clash : None ≡ Some e = is in cc)

-- what the law of joined lists of entries says
abbrev pub Joined : Type 0
Joined =
    ((before : Option Entry) (id : FileId) (first later : List Entry) → live_at before id (first ++ later) ≡ live_at (live_at before id first) id later)
    × ((before : Live) (first later : List Entry) → AreInOrder before (first ++ later) ↔ (AreInOrder before first × AreInOrder (live_after before first) later))

-- the order depends on what is live of each file alone
pub order_same : (one other : Live) (own : List Entry) → ((id : FileId) → one id ≡ other id) → AreInOrder one own → AreInOrder other own
order_same one other own same order = λ i e is.
    subst (λ (o : Option Entry). is_some (live_at o (id_of e) (take i own)) ≡ not e.add) (same (id_of e)) (order i e is)

-- the entries of one manifest more can follow those of the manifests before it
order_more : Joined → (entries later : List Entry) (live : Live) → AreInOrder none_live entries → Leaves none_live entries live → AreInOrder live later
    → AreInOrder none_live (entries ++ later)
order_more law entries later live before left order =
    (law.1 none_live entries later).1 (before, order_same live (live_after none_live entries) later left order)

pub leaves_more : Joined → (entries later : List Entry) (mid after : Live) → Leaves none_live entries mid → Leaves mid later after → Leaves none_live (entries ++ later) after
leaves_more law entries later mid after first then_left id =
    then_left id ∙ ap (λ (o : Option Entry). live_at o id later) (first id) ∙ sym (law.0 (none_live id) id entries later)

pub entries_push : (f : Files) (s : TableSchema) (metas : List ManifestMeta) (meta : ManifestMeta) (entries own : List Entry) → HaveEntries f s metas entries
    → IsManifest f s meta.name own → HaveEntries f s (metas ++ meta ∷ []) (entries ++ own)
entries_push f s [] meta entries own none is =
    subst (λ (es : List Entry). HaveEntries f s (meta ∷ []) (es ++ own)) (sym none) (own, [], sym (append-nil own), is, refl)
entries_push f s (first ∷ metas) meta entries own (here, later, split, read, rest) is =
    (here, later ++ own, ap (λ (es : List Entry). es ++ own) split ∙ append_assoc here later own, read, entries_push f s metas meta later own rest is)

-- ---- what it knows

-- the phase in which a snapshot is to be read, by whether it is the origin
opened : (P : Phase → Type 0) (q : SoughtView) (id : ℕ) → (id ≡ 0 → P (phases.Origin q)) → (1 ≤ id → P (phases.Snapshot q id)) → P (opening q id)
opened P q id first later = at (id == 0) refl
  where
    at : (t : Bool) → (id == 0) ≡ t → P (if t then phases.Origin q else phases.Snapshot q id)
    at true is = first (grind (arith, nat_tests))
    at false is = later (grind (arith, nat_tests))

-- an id that is asked for may stand in a name, where the latest does
asked_within : (wanted : Wanted) (latest id : ℕ) → IsAsked wanted latest id → latest ≤ greatest → id ≤ greatest
asked_within wants.Newest latest id is within = subst (λ (n : ℕ). n ≤ greatest) (sym is) within
asked_within wants.Entries latest id is within = subst (λ (n : ℕ). n ≤ greatest) (sym is) within
asked_within (wants.At asked) latest id (is, below) within = omega (arith, is, below, within)
asked_within (wants.Whole asked) latest id is within = absurd is

asked_below : (wanted : Wanted) (latest id : ℕ) → IsAsked wanted latest id → id ≤ latest
asked_below wants.Newest latest id is = omega (arith, is)
asked_below wants.Entries latest id is = omega (arith, is)
asked_below (wants.At asked) latest id (is, below) = omega (arith, is, below)
asked_below (wants.Whole asked) latest id is = absurd is

-- what the law of one reading says of lists
abbrev pub OneList : Type 0
OneList = (takes : Avro → Bool) (reads : Reading ManifestMeta) (path bytes : List ℕ) (a b : Result (List ManifestMeta) Refusal)
    → ReadsFile takes reads path bytes a → ReadsFile takes reads path bytes b → a ≢ Err refusals.Memory → b ≢ Err refusals.Memory → a ≡ b

abbrev some_metas : List ManifestMeta → Result (List ManifestMeta) Refusal
some_metas metas = Ok metas

abbrev no_memory : Result (List ManifestMeta) Refusal
no_memory = Err refusals.Memory

metas_same : (xs ys : List ManifestMeta) → some_metas xs ≡ some_metas ys → xs ≡ ys
metas_same xs ys e = cc

metas_there : (xs : List ManifestMeta) → some_metas xs ≢ no_memory
metas_there xs e = cc

pub bytes_same : (one other : List ℕ) → Some one ≡ Some other → one ≡ other
bytes_same one other e = cc

snapshot_same : (x y : Snapshot) → ◌≡◌ {A = Result Snapshot SnapFault} (Ok x) (Ok y) → x ≡ y
snapshot_same x y e = cc

-- a list is read as one list of manifests at most
pub one_list : OneList → (f : Files) (name : List ℕ) (xs ys : List ManifestMeta) → IsList f name xs → IsList f name ys → xs ≡ ys
one_list law f name xs ys a b =
    let same : b.bytes ≡ a.bytes = bytes_same b.bytes a.bytes (sym b.there ∙ a.there) in
    metas_same xs ys (law has_meta_fields meta_in (manifest_path name) a.bytes (Ok xs) (Ok ys) a.read
    (subst (λ (bytes : List ℕ). IsListOf (manifest_path name) bytes ys) same b.read) (metas_there xs) (metas_there ys))

pub one_snapshot : (f : Files) (id : ℕ) (x y : Snapshot) → SnapshotAt f id x → SnapshotAt f id y → x ≡ y
one_snapshot f id x y (bytes, there, reads) (more, here, again) =
    let same : bytes ≡ more = bytes_same bytes more (sym there ∙ here) in
    snapshot_same x y (sym reads ∙ ap (snapshot_in id) same ∙ again)

pub some_there : (f : Files) (path bytes : List ℕ) → map.get f path ≡ Some bytes → IsSome (map.get f path)
some_there f path bytes there = subst (λ (o : Option (List ℕ)). IsSome o) (sym there) refl

-- a manifest of a snapshot's lists is there
pub have_at : (f : Files) (s : TableSchema) (done : List ManifestMeta) (next : ManifestMeta) (rest : List ManifestMeta) (entries : List Entry)
    → HaveEntries f s (done ++ next ∷ rest) entries → IsSome (map.get f (manifest_path next.name))
have_at f s [] next rest entries (own, later, split, read, have) = some_there f (manifest_path next.name) read.bytes read.there
have_at f s (meta ∷ done) next rest entries (own, later, split, read, have) = have_at f s done next rest later have

-- a snapshot that was read stood so
pub stood_new : (f : Files) (p : Past) (s : TableSchema) (id : ℕ) (bytes : List ℕ) (x : Snapshot) → Stands f p → IsTableOf s p.history → 1 ≤ id → id ≤ greatest
    → Some bytes ≡ map.get f (snapshot_path id) → snapshot_in id bytes ≡ Ok x → x.schema_id ≡ s.id → Stood p s x
stood_new f p s id bytes x stands table least within told reads schema =
    let same : id ≡ x.id = sym (id_same id bytes x reads) in
    let read = stood-read f p s id bytes x stands table least within (sym told) reads in record {
      table = table;
      known = subst (λ (n : ℕ). IsKnown p n) same read.0;
      was = subst (λ (n : ℕ). SnapshotAt (p.stood n) n x) same read.1;
      schema = schema;
    }

-- what its files were
pub stood_contents : (f : Files) (p : Past) (s : TableSchema) (x : Snapshot) → Stands f p → Stood p s x → (c : Contents) × HasContents (p.stood x.id) s x c
stood_contents f p s x stands stood =
    let own = at-table f p s stands stood.table in
    let commit = own.3.committed x.id stood.known in
    let same : commit.snapshot ≡ x = one_snapshot (p.stood x.id) x.id commit.snapshot x commit.there stood.was in
    (commit.contents, subst (λ (y : Snapshot). HasContents (p.stood x.id) s y commit.contents) same commit.has)

module _ (f : Files) (p : Past) (s : TableSchema) (x : Snapshot) (stands : Stands f p) (stood : Stood p s x) (c : Contents)
    (has : HasContents (p.stood x.id) s x c) (path : List ℕ) (named : IsNamed s x c path) where
  needed : Needs (p.stood x.id) s x.id path
  needed = inr (inr (x, c, (stood.was, has), named))

  -- what is found at a path that it names stood there
  pub found_stood : (bytes : List ℕ) → Some bytes ≡ map.get f path → map.get (p.stood x.id) path ≡ Some bytes
  found_stood bytes told = stood-same f p s x.id path bytes stands stood.table stood.known needed (sym told)

  -- where one is absent at which a file stood, it has gone
  pub gone_now : IsSome (map.get (p.stood x.id) path) → None ≡ map.get f path → HasGone f p s x.id
  gone_now there told = record {
    table = stood.table;
    known = stood.known;
    absent = stood-gone f p s x.id path stands stood.table stood.known needed there (sym told);
  }

origin_known : (f : Files) (p : Past) (q : SoughtView) (v : View) → IsOriginView q.asked.schema v → IsSoughtBy q v → IsTableOf q.asked.schema p.history
    → KnowsSought f p q.asked.wanted q.listed 0 → Knows (phases.Ready v) f p
origin_known f p q v view by table sought =
    let all : IsTableOf v.schema p.history × IsOriginView v.schema v =
    subst (λ (s : TableSchema). IsTableOf s p.history × IsOriginView s v) (sym view.schema) (table, view) in
    (all.0, view_origin all.1, sought_by f p q v 0 by view.id sought)

-- what is known once manifests were read
knows_on : (f : Files) (p : Past) (q : SoughtView) (x : Snapshot) (done rest : List ManifestMeta) (files : Filed) (kept : List Entry) (new : Phase) (base delta : List ManifestMeta) (entries : List Entry)
    → GoesOn q x done rest files kept new → Stood p q.asked.schema x → IsList (p.stood x.id) x.base_list base → IsList (p.stood x.id) x.delta_list delta
    → base ++ delta ≡ done ++ rest → HaveEntries (p.stood x.id) q.asked.schema done entries → AreInOrder none_live entries → Leaves none_live entries (live_of files)
    → kept ≡ kept_for q.asked.wanted entries → KnowsSought f p q.asked.wanted q.listed x.id → Knows new f p
knows_on f p q x done [] files kept new base delta entries (v, view, by, is) stood one two parts have order left keeps sought =
    let g : Files = p.stood x.id in
    let whole : base ++ delta ≡ done = parts ∙ append-nil done in
    let contents : HasEntries g q.asked.schema x base delta entries = record {
      base_list = one;
      delta_list = two;
      have = subst (λ (metas : List ManifestMeta). HaveEntries g q.asked.schema metas entries) (sym whole) have;
      order = order;
    } in
    let own : kept ≡ kept_for v.wanted entries = keeps ∙ ap (λ (w : Wanted). kept_for w entries) (sym by.wanted) in
    let seen : IsViewOf q.asked.schema x (base ++ delta) (kept_for v.wanted entries) (live_of files) v =
    subst (λ (metas : List ManifestMeta). IsViewOf q.asked.schema x metas (kept_for v.wanted entries) (live_of files) v) (sym whole)
    (subst (λ (kept : List Entry). IsViewOf q.asked.schema x done kept (live_of files) v) own view) in
    let all : IsTableOf v.schema p.history × Stood p v.schema x × HasEntries g v.schema x base delta entries
    × IsViewOf v.schema x (base ++ delta) (kept_for v.wanted entries) (live_of files) v =
    subst (λ (s : TableSchema). IsTableOf s p.history × Stood p s x × HasEntries g s x base delta entries × IsViewOf s x (base ++ delta) (kept_for v.wanted entries) (live_of files) v)
    (sym view.schema) (stood.table, stood, contents, seen) in
    subst (λ (m : Phase). Knows m f p) (sym is)
    (all.0, view_snapshot x base delta entries (live_of files) all.1 all.2 left all.3, sought_by f p q v x.id by view.id sought)
knows_on f p q x done (meta ∷ rest) files kept new base delta entries is stood one two parts have order left keeps sought =
    subst (λ (m : Phase). Knows m f p) (sym is) (stood, (base, delta, entries, one, two, parts, have, order, left, keeps), sought)

-- the next manifest is one of the snapshot's
pub next_named : OneList → (p : Past) (r : ReadingView) (base delta : List ManifestMeta) (c : Contents) → HasContents (p.stood r.snapshot.id) r.sought.asked.schema r.snapshot c
    → IsList (p.stood r.snapshot.id) r.snapshot.base_list base → IsList (p.stood r.snapshot.id) r.snapshot.delta_list delta → base ++ delta ≡ r.done ++ r.next ∷ r.rest
    → IsNamed r.sought.asked.schema r.snapshot c (manifest_path r.next.name) × IsSome (map.get (p.stood r.snapshot.id) (manifest_path r.next.name))
next_named law p r base delta c has one two parts =
    let g : Files = p.stood r.snapshot.id in
    let first : c.base ≡ base = one_list law g r.snapshot.base_list c.base base has.table.base_list one in
    let second : c.delta ≡ delta = one_list law g r.snapshot.delta_list c.delta delta has.table.delta_list two in
    let whole : c.base ++ c.delta ≡ r.done ++ r.next ∷ r.rest =
    ap (λ (metas : List ManifestMeta). metas ++ c.delta) first ∙ ap (λ (metas : List ManifestMeta). base ++ metas) second ∙ parts in
    let lists : Contains (c.base ++ c.delta) r.next = subst (λ (metas : List ManifestMeta). Contains metas r.next) (sym whole)
    (Contains-append_right r.done (r.next ∷ r.rest) r.next (here r.next r.rest)) in (
      manifest r.next (inl lists),
      have_at g r.sought.asked.schema r.done r.next r.rest c.entries (subst (λ (metas : List ManifestMeta). HaveEntries g r.sought.asked.schema metas c.entries) whole has.table.have),
    )

-- what is kept once one manifest more was read
kept_more : (r : ReadingView) (entries own : List Entry) → r.kept ≡ kept_for r.sought.asked.wanted entries
    → r.kept ++ kept_for r.sought.asked.wanted own ≡ kept_for r.sought.asked.wanted (entries ++ own)
kept_more r entries own keeps =
    ap (λ (es : List Entry). es ++ kept_for r.sought.asked.wanted own) keeps ∙ sym (kept_join r.sought.asked.wanted entries own)

-- the id that is asked for is at most the newest
listed_within : (f : Files) (p : Past) (a : Asked) (latest id : ℕ) (names : List (List ℕ)) → Stands f p → IsTableOf a.schema p.history → IsLatest names latest
    → IsListing snapshot_folder names f → IsAsked a.wanted latest id → id ≤ count_of p.history
listed_within f p a latest id names stands table newest listing asked =
    let own = at-table f p a.schema stands table in
    let count : count_of p.history ≡ length own.0 = ap count_of own.1 in
    let is : latest ≡ length own.0 = latest_is f a.schema own.0 own.2 latest names newest listing in
    let below = asked_below a.wanted latest id asked in
    omega (arith, count, is, below)

-- what an answer leads to is known of the same files
pub knows_next : Joined → OneList → (m : Phase) (answer : Answer) (new : Phase) (f : Files) (p : Past) → Goes m answer new → Stands f p → Knows m f p
    → IfSome (next_call m) (λ call. Answers call answer f → Knows new f p)
knows_next law one_law (phases.List a) (answers.Listed names) new f p (ids, latest, id, are, newest, is_asked, is) stands known = λ told.
    let sought : KnowsSought f p a.wanted ids id = sought_new f p a.schema a.wanted names.items ids latest id stands known are newest told is_asked
    (listed_within f p a latest id names.items stands known newest told is_asked) in
    subst (λ (m : Phase). Knows m f p) (sym is)
    (opened (λ (m : Phase). Knows m f p) (sought_of a ids) id (λ first. (known, sought_at f p a.wanted ids id 0 first sought))
    (λ least. (known, least, asked_within a.wanted latest id is_asked newest.within, sought)))
knows_next law one_law (phases.Origin q) (answers.Found (Some bytes)) new f p (v, view, by, is) stands (table, sought) = λ told.
    subst (λ (m : Phase). Knows m f p) (sym is) (origin_known f p q v view by table sought)
knows_next law one_law (phases.Snapshot q id) (answers.Found (Some bytes)) new f p (x, reads, schema, is) stands (table, least, within, sought) = λ told.
    subst (λ (m : Phase). Knows m f p) (sym is) (
      stood_new f p q.asked.schema id bytes x stands table least within told reads schema,
      sought_at f p q.asked.wanted q.listed id x.id (sym (id_same id bytes x reads)) sought,
    )
knows_next law one_law (phases.Base q x) (answers.Found None) new f p is stands (stood, sought) = λ told.
    let c = stood_contents f p q.asked.schema x stands stood in
    let list = c.1.table.base_list in
    subst (λ (m : Phase). Knows m f p) (sym is)
    (gone_now f p q.asked.schema x stands stood c.0 c.1 (manifest_path x.base_list) base_list (some_there (p.stood x.id) (manifest_path x.base_list) list.bytes list.there) told)
knows_next law one_law (phases.Base q x) (answers.Found (Some bytes)) new f p (base, reads, is) stands (stood, sought) = λ told.
    let c = stood_contents f p q.asked.schema x stands stood in
    subst (λ (m : Phase). Knows m f p) (sym is) (
      stood,
      record { bytes = bytes; there = found_stood f p q.asked.schema x stands stood c.0 c.1 (manifest_path x.base_list) base_list bytes told; read = reads },
      sought,
    )
knows_next law one_law (phases.Delta q x base) (answers.Found None) new f p is stands (stood, one, sought) = λ told.
    let c = stood_contents f p q.asked.schema x stands stood in
    let list = c.1.table.delta_list in
    subst (λ (m : Phase). Knows m f p) (sym is)
    (gone_now f p q.asked.schema x stands stood c.0 c.1 (manifest_path x.delta_list) delta_list (some_there (p.stood x.id) (manifest_path x.delta_list) list.bytes list.there) told)
knows_next law one_law (phases.Delta q x base) (answers.Found (Some bytes)) new f p (delta, reads, (files, left, within, on)) stands (stood, one, sought) = λ told.
    let c = stood_contents f p q.asked.schema x stands stood in
    let two : IsList (p.stood x.id) x.delta_list delta =
    record { bytes = bytes; there = found_stood f p q.asked.schema x stands stood c.0 c.1 (manifest_path x.delta_list) delta_list bytes told; read = reads } in
    knows_on f p q x [] (base.items ++ delta) files [] new base.items delta [] on stood one two refl refl order_none left (kept_none q.asked.wanted)
    sought
knows_next law one_law (phases.Manifests r) (answers.Found None) new f p is stands
    (stood, (base, delta, entries, one, two, parts, have, before, was, keeps), sought) = λ told.
    let c = stood_contents f p r.sought.asked.schema r.snapshot stands stood in
    let named = next_named one_law p r base delta c.0 c.1 one two parts in
    subst (λ (m : Phase). Knows m f p) (sym is)
    (gone_now f p r.sought.asked.schema r.snapshot stands stood c.0 c.1 (manifest_path r.next.name) named.0 named.1 told)
knows_next law one_law (phases.Manifests r) (answers.Found (Some bytes)) new f p (own, reads, (files, order, left, on)) stands
    (stood, (base, delta, entries, one, two, parts, have, before, was, keeps), sought) = λ told.
    let c = stood_contents f p r.sought.asked.schema r.snapshot stands stood in
    let named = next_named one_law p r base delta c.0 c.1 one two parts in
    let file : IsManifest (p.stood r.snapshot.id) r.sought.asked.schema r.next.name own =
    record { bytes = bytes; there = found_stood f p r.sought.asked.schema r.snapshot stands stood c.0 c.1 (manifest_path r.next.name) named.0 bytes told; read = reads } in
    knows_on f p r.sought r.snapshot (r.done ++ r.next ∷ []) r.rest files (r.kept ++ kept_for r.sought.asked.wanted own) new base delta (entries ++ own) on stood one two
    (parts ∙ sym (append_assoc r.done (r.next ∷ []) r.rest))
    (entries_push (p.stood r.snapshot.id) r.sought.asked.schema r.done r.next entries own have file)
    (order_more law entries own (live_of r.files) before was order) (leaves_more law entries own (live_of r.files) (live_of files) was left)
    (kept_more r entries own keeps) sought
knows_next law one_law m answer new f p goes stands known = absurd goes

pub sound : Joined → OneList → Sound next_call Goes (Refuses Shown phases.Over) (Stops phases.Over) Stands (λ m. IsKept) Knows
sound law one_law = sound_of_spared next_call Goes Shown phases.Over Stands Knows spares (knows_next law one_law) (λ f p. tt)

-- ---- its calls

pub read_push : (s : TableSchema) (metas : List ManifestMeta) (meta : ManifestMeta) (entries own : List Entry) (bytes : List ℕ) (events : List Event)
    → HaveRead s metas entries events → IsManifestOf s (manifest_path meta.name) bytes own
    → HaveRead s (metas ++ meta ∷ []) (entries ++ own) (events ++ read_file (manifest_path meta.name) (Some bytes) ∷ [])
read_push s [] meta entries own bytes events (none, quiet) is =
    let event : Event = read_file (manifest_path meta.name) (Some bytes) in
    subst (λ (es : List Entry). HaveRead s (meta ∷ []) (es ++ own) (events ++ event ∷ [])) (sym none)
    (subst (λ (evs : List Event). HaveRead s (meta ∷ []) own (evs ++ event ∷ [])) (sym quiet)
    (bytes, own, [], [], is, sym (append-nil own), refl, (refl, refl)))
read_push s (first ∷ metas) meta entries own bytes events (read, here, later, rest, has, split, comes, more) is =
    let event : Event = read_file (manifest_path meta.name) (Some bytes) in (
      read,
      here,
      later ++ own,
      rest ++ event ∷ [],
      has,
      ap (λ (es : List Entry). es ++ own) split ∙ append_assoc here later own,
      ap (λ (evs : List Event). evs ++ event ∷ []) comes,
      read_push s metas meta later own bytes rest more is,
    )

part_more : Joined → (a : Asked) (x : Snapshot) (done : List ManifestMeta) (meta : ManifestMeta) (rest : List ManifestMeta) (entries later : List Entry) (live : Live)
    (bytes : List ℕ) (own : List Event) → HasPart a x done (meta ∷ rest) entries own → IsManifestOf a.schema (manifest_path meta.name) bytes later
    → Leaves none_live entries live → AreInOrder live later
    → HasPart a x (done ++ meta ∷ []) rest (entries ++ later) (own ++ read_file (manifest_path meta.name) (Some bytes) ∷ [])
part_more law a x done meta rest entries later live bytes own part reads left order =
    let event : Event = read_file (manifest_path meta.name) (Some bytes) in record {
      base = part.base;
      delta = part.delta;
      lists = part.lists;
      reads = part.reads ++ event ∷ [];
      listed = part.listed;
      parts = part.parts ∙ sym (append_assoc done (meta ∷ []) rest);
      read = read_push a.schema done meta entries later bytes part.reads part.read reads;
      order = order_more law entries later live part.order left order;
      is = ap (λ (own : List Event). own ++ event ∷ []) part.is ∙ append_assoc part.lists part.reads (event ∷ []);
    }

has_snapshot : (a : Asked) (id : ℕ) (bytes : List ℕ) (x : Snapshot) (own : List Event) → 1 ≤ id → snapshot_in id bytes ≡ Ok x → x.schema_id ≡ a.schema.id
    → Reads a id (snapshot_path id) (Some bytes) own → Has a x own
has_snapshot a id bytes x own least reads schema did =
    let same : id ≡ x.id = sym (id_same id bytes x reads) in
    (bytes, subst (λ n. 1 ≤ n) same least, subst (λ n. snapshot_in n bytes ≡ Ok x) same reads, schema, subst (λ n. Reads a n (snapshot_path n) (Some bytes) own) same did)

-- what was listed first was so too with a call more
listed_more : (w : Wanted) (ids : List ℕ) (own : List Event) (event : Event) → HasListed w ids own → HasListed w ids (own ++ event ∷ [])
listed_more wants.Newest ids own event (names, later, are, is) = (names, later ++ event ∷ [], are, ap (λ (own : List Event). own ++ event ∷ []) is)
listed_more wants.Entries ids own event (names, later, are, is) = (names, later ++ event ∷ [], are, ap (λ (own : List Event). own ++ event ∷ []) is)
listed_more (wants.At id) ids own event (names, later, are, is) = (names, later ++ event ∷ [], are, ap (λ (own : List Event). own ++ event ∷ []) is)
listed_more (wants.Whole id) ids own event none = none

-- the snapshots were listed, as they are where an id is found among them
lists_now : (w : Wanted) (names : Names) (latest id : ℕ) (own : List Event) → IsLatest names.items latest → IsAsked w latest id → own ≡ listed_snapshots names ∷ []
    → ListsFor w id own
lists_now wants.Newest names latest id own newest asked is = (names, latest, newest, asked, is)
lists_now wants.Entries names latest id own newest asked is = (names, latest, newest, asked, is)
lists_now (wants.At asked_id) names latest id own newest asked is = (names, latest, newest, asked, is)
lists_now (wants.Whole asked_id) names latest id own newest asked is = absurd asked

listed_now : (w : Wanted) (names : Names) (ids : List ℕ) (own : List Event) → ListsFirst w → AreIds names.items ids → own ≡ listed_snapshots names ∷ []
    → HasListed w ids own
listed_now wants.Newest names ids own first are is = (names, [], are, is)
listed_now wants.Entries names ids own first are is = (names, [], are, is)
listed_now (wants.At id) names ids own first are is = (names, [], are, is)
listed_now (wants.Whole id) names ids own first are is = absurd first

-- a view of what was sought
has_sought : (a : Asked) (q : SoughtView) (v : View) (own : List Event) → q.asked ≡ a → HasListed a.wanted q.listed own → IsSoughtBy q v → HasSought a v own
has_sought a q v own same ids by =
    (q.listed, ids, record { wanted = by.wanted ∙ ap (λ (a : Asked). a.wanted) same; listed = by.listed })

did_on : (a : Asked) (q : SoughtView) (x : Snapshot) (done rest : List ManifestMeta) (files : Filed) (kept : List Entry) (new : Phase) (entries : List Entry) (own : List Event)
    → q.asked ≡ a → HasListed a.wanted q.listed own → GoesOn q x done rest files kept new → HasPart q.asked x done rest entries own → Leaves none_live entries (live_of files)
    → kept ≡ kept_for q.asked.wanted entries → Did a new own
did_on a q x done [] files kept new entries own same ids (v, view, sought, is) part left keeps =
    let seen : IsViewOf q.asked.schema x done (kept_for q.asked.wanted entries) (live_of files) v =
    subst (λ (kept : List Entry). IsViewOf q.asked.schema x done kept (live_of files) v) keeps view in
    subst (λ (m : Phase). Did a m own) (sym is)
    (subst (λ (a : Asked). HasView a v own) same (of_snapshot x done entries (live_of files) part left seen), has_sought a q v own same ids sought)
did_on a q x done (meta ∷ rest) files kept new entries own same ids is part left keeps =
    subst (λ (m : Phase). Did a m own) (sym is) ((same, ids), entries, part, left, keeps)

went_on : Joined → (a : Asked) (m : Phase) (answer : Answer) (new : Phase) (own : List Event) → Goes m answer new → Did a m own
    → IfSome (next_call m) (λ call. MayAnswer call answer → Did a new (own ++ answered call answer ∷ []))
went_on law a (phases.List b) (answers.Listed names) new own (ids, latest, id, are, newest, is_asked, is) (same, none, begins) = λ may.
    let now : List Event = own ++ listed_snapshots names ∷ [] in
    let first : now ≡ listed_snapshots names ∷ [] = ap (λ (own : List Event). own ++ listed_snapshots names ∷ []) none in
    let lists : Lists b id now = lists_now b.wanted names latest id now newest is_asked first in
    let sought : IsSought a (sought_of b ids) now = (same, listed_now a.wanted names ids now begins are first) in
    subst (λ (m : Phase). Did a m now) (sym is)
    (opened (λ (m : Phase). Did a m now) (sought_of b ids) id (λ first. (sought, subst (λ n. Lists b n now) first lists)) (λ least. (sought, least, lists)))
went_on law a (phases.Origin q) (answers.Found (Some bytes)) new own (v, view, sought, is) ((same, ids), lists) = λ may.
    let event : Event = read_file (origin_path q.asked.schema) (Some bytes) in
    let now : List Event = own ++ event ∷ [] in
    subst (λ (m : Phase). Did a m now) (sym is)
    (subst (λ (a : Asked). HasView a v now) same (of_origin bytes view (own, lists, refl)), has_sought a q v now same (listed_more a.wanted q.listed own event ids) sought)
went_on law a (phases.Snapshot q id) (answers.Found (Some bytes)) new own (x, reads, schema, is) ((same, ids), least, lists) = λ may.
    let event : Event = read_file (snapshot_path id) (Some bytes) in
    let now : List Event = own ++ event ∷ [] in
    subst (λ (m : Phase). Did a m now) (sym is)
    ((same, listed_more a.wanted q.listed own event ids), has_snapshot q.asked id bytes x now least reads schema (own, lists, refl))
went_on law a (phases.Base q x) (answers.Found None) new own is ((same, ids), has) = λ may.
    let now : List Event = own ++ read_file (manifest_path x.base_list) None ∷ [] in
    subst (λ (m : Phase). Did a m now) (sym is) (same, lacks_base x refl refl (own, has, refl))
went_on law a (phases.Base q x) (answers.Found (Some bytes)) new own (base, reads, is) ((same, ids), has) = λ may.
    let event : Event = read_file (manifest_path x.base_list) (Some bytes) in
    let now : List Event = own ++ event ∷ [] in
    subst (λ (m : Phase). Did a m now) (sym is) ((same, listed_more a.wanted q.listed own event ids), (bytes, reads, (own, has, refl)))
went_on law a (phases.Delta q x base) (answers.Found None) new own is ((same, ids), has) = λ may.
    let now : List Event = own ++ read_file (manifest_path x.delta_list) None ∷ [] in
    subst (λ (m : Phase). Did a m now) (sym is) (same, lacks_delta x base.items refl refl (own, has, refl))
went_on law a (phases.Delta q x base) (answers.Found (Some bytes)) new own (delta, reads, (files, left, within, on)) ((same, ids), has) = λ may.
    let event : Event = read_file (manifest_path x.delta_list) (Some bytes) in
    let now : List Event = own ++ event ∷ [] in
    did_on a q x [] (base.items ++ delta) files [] new [] now same (listed_more a.wanted q.listed own event ids) on (record {
      base = base.items;
      delta = delta;
      lists = now;
      reads = [];
      listed = (bytes, reads, (own, has, refl));
      parts = refl;
      read = (refl, refl);
      order = order_none;
      is = sym (append-nil now);
    }) left (kept_none q.asked.wanted)
went_on law a (phases.Manifests r) (answers.Found None) new own is ((same, ids), entries, part, left, keeps) = λ may.
    let now : List Event = own ++ read_file (manifest_path r.next.name) None ∷ [] in
    subst (λ (m : Phase). Did a m now) (sym is) (same, lacks_manifest r.snapshot r.done r.next r.rest entries refl refl (own, part, refl))
went_on law a (phases.Manifests r) (answers.Found (Some bytes)) new own (later, reads, (files, order, left, on)) ((same, ids), entries, part, was, keeps) = λ may.
    let event : Event = read_file (manifest_path r.next.name) (Some bytes) in
    let now : List Event = own ++ event ∷ [] in
    did_on a r.sought r.snapshot (r.done ++ r.next ∷ []) r.rest files (r.kept ++ kept_for r.sought.asked.wanted later) new (entries ++ later) now same
    (listed_more a.wanted r.sought.listed own event ids) on
    (part_more law r.sought.asked r.snapshot r.done r.next r.rest entries later (live_of r.files) bytes own part reads was order)
    (leaves_more law entries later (live_of r.files) (live_of files) was left) (kept_more r entries later keeps)
went_on law a m answer new own goes did = absurd goes

misread_fault : (a : Asked) (refusal : Refusal) (own : List Event) → Misreads a refusal own → IsFileFault refusal
misread_fault a refusal own (misreads_base x bytes bad finds) = file_fault _ _ (manifest_path x.base_list) bytes refusal bad
misread_fault a refusal own (misreads_delta x base bytes bad finds) = file_fault _ _ (manifest_path x.delta_list) bytes refusal bad
misread_fault a refusal own (misreads_manifest x done meta rest entries bytes bad finds) = file_fault _ _ (manifest_path meta.name) bytes refusal bad

misread : (a b : Asked) (refusal : Refusal) (own : List Event) → b ≡ a → Shows a refusals.Memory own → Misreads b refusal own → Shows a refusal own
misread a b refusals.Memory own same ends is = ends
misread a b (refusals.Damaged path place) own same ends is = subst (λ (a : Asked). IsDamaged a path place own) same (is_misread is)
misread a b (refusals.Unsupported what text) own same ends is = subst (λ (a : Asked). Misreads a (refusals.Unsupported what text) own) same is
misread a b other own same ends is = absurd (misread_fault b other own is)

-- files that overlap are shown
overlapped : (a b : Asked) (x : Snapshot) (metas : List ManifestMeta) (entries : List Entry) (live : Live) (refusal : Refusal) (own : List Event) → b ≡ a
    → Shows a refusals.Memory own → HasPart b x metas [] entries own → Leaves none_live entries live → Overlaps b.schema live refusal → Shows a refusal own
overlapped a b x metas entries live refusals.Memory own same ends part left over = ends
overlapped a b x metas entries live (refusals.Damaged path place) own same ends part left over =
    subst (λ (a : Asked). IsDamaged a path place own) same (is_overlap x metas entries live part left over)
overlapped a b x metas entries live other own same ends part left over = absurd over

-- what another one that asks the same shows
shown_as : (a b : Asked) (refusal defined : Refusal) (own : List Event) → b ≡ a → refusal ≡ defined → Shows b defined own → Shows a refusal own
shown_as a b refusal defined own same is shows =
    subst (λ (refusal : Refusal). Shows a refusal own) (sym is) (subst (λ (a : Asked). Shows a defined own) same shows)

-- memory ran out after an answer
memory_after : (a : Asked) (m : Phase) (call : Call) (answer : Answer) (refusal : Refusal) (own : List Event) → next_call m ≡ Some call → DidSoFar a m own
    → MayTakeMemory m answer → MayAnswer call answer → refusal ≡ refusals.Memory → Shows a refusal (own ++ answered call answer ∷ [])
memory_after a m call answer refusal own next did takes may is =
    subst (λ (refusal : Refusal). Shows a refusal (own ++ answered call answer ∷ [])) (sym is) (after_answer m call answer own did next may takes refl)

manifest_ends : (a : Asked) (r : ReadingView) (bytes : List ℕ) (own : List Event) → DidSoFar a (phases.Manifests r) own
    → MayAnswer (calls.Read (manifest_path r.next.name)) (answers.Found (Some bytes))
    → Shows a refusals.Memory (own ++ read_file (manifest_path r.next.name) (Some bytes) ∷ [])
manifest_ends a r bytes own did may =
    memory_after a (phases.Manifests r) (calls.Read (manifest_path r.next.name)) (answers.Found (Some bytes)) refusals.Memory own refl did tt may refl

refused_on : Joined → (a : Asked) (m : Phase) (answer : Answer) (refusal : Refusal) (own : List Event) → Shown m answer refusal → Did a m own
    → IfSome (next_call m) (λ call. MayAnswer call answer → Shows a refusal (own ++ answered call answer ∷ []))
refused_on law a (phases.List b) (answers.Listed names) refusal own (inl is) did = λ may.
    memory_after a (phases.List b) snapshots_call (answers.Listed names) refusal own refl did tt may is
refused_on law a (phases.List b) (answers.Listed names) refusal own (inr (latest, id, newest, above, is)) (same, none, begins) = λ may.
    shown_as a b refusal (refusals.NoSnapshot id latest) _ same is
    (names, newest, above, ap (λ (own : List Event). own ++ listed_snapshots names ∷ []) none)
refused_on law a (phases.Origin q) (answers.Found None) refusal own is ((same, ids), lists) = λ may.
    shown_as a q.asked refusal (refusals.Expired 0) _ same is (gone_origin refl (own, lists, refl))
refused_on law a (phases.Snapshot q id) (answers.Found None) refusal own is ((same, ids), least, lists) = λ may.
    shown_as a q.asked refusal (refusals.Expired id) _ same is (gone_snapshot least (own, lists, refl))
refused_on law a (phases.Snapshot q id) (answers.Found (Some bytes)) refusal own (inl is) did = λ may.
    memory_after a (phases.Snapshot q id) (calls.Read (snapshot_path id)) (answers.Found (Some bytes)) refusal own refl did tt may is
refused_on law a (phases.Snapshot q id) (answers.Found (Some bytes)) refusal own (inr (inl (is, bad))) ((same, ids), least, lists) = λ may.
    shown_as a q.asked refusal (refusals.Damaged (snapshot_path id) 0) _ same is (bad_snapshot id bytes least refl refl bad (own, lists, refl))
refused_on law a (phases.Snapshot q id) (answers.Found (Some bytes)) refusal own (inr (inr (x, is, reads, other))) ((same, ids), least, lists) = λ may.
    shown_as a q.asked refusal (refusals.Damaged (schema_path x.schema_id) 0) _ same is (bad_schema x id bytes least refl refl reads other (own, lists, refl))
refused_on law a (phases.Base q x) (answers.Found found) refusal own (inl is) did = λ may.
    memory_after a (phases.Base q x) (calls.Read (manifest_path x.base_list)) (answers.Found found) refusal own refl did tt may is
refused_on law a (phases.Base q x) (answers.Found None) refusal own (inr none) did = absurd none
refused_on law a (phases.Base q x) (answers.Found (Some bytes)) refusal own (inr bad) ((same, ids), has) = λ may.
    misread a q.asked refusal _ same
    (memory_after a (phases.Base q x) (calls.Read (manifest_path x.base_list)) (answers.Found (Some bytes)) refusals.Memory own refl ((same, ids), has) tt may refl)
    (misreads_base x bytes bad (own, has, refl))
refused_on law a (phases.Delta q x base) (answers.Found found) refusal own (inl is) did = λ may.
    memory_after a (phases.Delta q x base) (calls.Read (manifest_path x.delta_list)) (answers.Found found) refusal own refl did tt may is
refused_on law a (phases.Delta q x base) (answers.Found None) refusal own (inr none) did = absurd none
refused_on law a (phases.Delta q x base) (answers.Found (Some bytes)) refusal own (inr bad) ((same, ids), has) = λ may.
    misread a q.asked refusal _ same
    (memory_after a (phases.Delta q x base) (calls.Read (manifest_path x.delta_list)) (answers.Found (Some bytes)) refusals.Memory own refl ((same, ids), has) tt may refl)
    (misreads_delta x base.items bytes bad (own, has, refl))
refused_on law a (phases.Manifests r) (answers.Found found) refusal own (inl is) did = λ may.
    memory_after a (phases.Manifests r) (calls.Read (manifest_path r.next.name)) (answers.Found found) refusal own refl did tt may is
refused_on law a (phases.Manifests r) (answers.Found None) refusal own (inr none) did = absurd none
refused_on law a (phases.Manifests r) (answers.Found (Some bytes)) refusal own (inr (inl bad)) ((same, ids), entries, part, was, keeps) = λ may.
    misread a r.sought.asked refusal _ same (manifest_ends a r bytes own ((same, ids), entries, part, was, keeps) may)
    (misreads_manifest r.snapshot r.done r.next r.rest entries bytes bad (own, part, refl))
refused_on law a (phases.Manifests r) (answers.Found (Some bytes)) refusal own (inr (inr (later, reads, disorder i out is))) ((same, ids), entries, part, was, keeps) = λ may.
    shown_as a r.sought.asked refusal (refusals.Damaged (manifest_path r.next.name) 0) _ same is
    (is_disordered r.snapshot r.done r.next r.rest entries (live_of r.files) bytes later i refl refl was reads out (own, part, refl))
refused_on law a (phases.Manifests r) (answers.Found (Some bytes)) refusal own (inr (inr (later, reads, overlap live order left none over))) ((same, ids), entries, part, was, keeps) = λ may.
    let now : List Event = own ++ read_file (manifest_path r.next.name) (Some bytes) ∷ [] in
    overlapped a r.sought.asked r.snapshot (r.done ++ r.next ∷ []) (entries ++ later) live refusal now same
    (manifest_ends a r bytes own ((same, ids), entries, part, was, keeps) may)
    (subst (λ (rest : List ManifestMeta). HasPart r.sought.asked r.snapshot (r.done ++ r.next ∷ []) rest (entries ++ later) now) none
    (part_more law r.sought.asked r.snapshot r.done r.next r.rest entries later (live_of r.files) bytes own part reads was order))
    (leaves_more law entries later (live_of r.files) live was left) over
refused_on law a (phases.Again b id path) (answers.Found None) refusal own is (same, lacks) = λ may.
    shown_as a b refusal (refusals.Expired id) _ same is (gone_again path (own, lacks, refl))
refused_on law a (phases.Again b id path) (answers.Found (Some bytes)) refusal own is (same, lacks) = λ may.
    shown_as a b refusal (refusals.Damaged path 0) _ same is (is_absent id bytes refl (own, lacks, refl))
refused_on law a m answer refusal own shown did = absurd shown

so_far : (a : Asked) (m : Phase) (own : List Event) → IsSome (next_call m) → Did a m own → DidSoFar a m own
so_far a (phases.List b) own called did = did
so_far a (phases.Origin q) own called did = did
so_far a (phases.Snapshot q id) own called did = did
so_far a (phases.Base q x) own called did = did
so_far a (phases.Delta q x base) own called did = did
so_far a (phases.Manifests r) own called did = did
so_far a (phases.Again b id path) own called did = did
so_far a (phases.Ready v) own called did = did
so_far a phases.Over own called did = absurd (let clash = called in cc)

pub recounts : Joined → (a : Asked) → Recounts next_call Goes (Refuses Shown phases.Over) (Stops phases.Over) (Did a) (Shows a)
recounts law a = recounts_of next_call Goes Shown phases.Over (DidSoFar a) (Did a) MayTakeMemory (Shows a) (so_far a)
    (λ refusal own shows. (refusal, shows)) (λ path own failed. failed) (λ own ends. ends) (went_on law a) (refused_on law a)

-- ---- how far it has come

-- fewer calls than that are left, and some if the view isn't ready
abbrev pub IsAhead : ℕ → Phase → Type 0
IsAhead n m = (calls_left m < n) × (IsReady m ⊎ (0 < calls_left m))

on_ahead : (q : SoughtView) (x : Snapshot) (done rest : List ManifestMeta) (files : Filed) (kept : List Entry) (new : Phase) (n : ℕ) → length rest + 1 < n
    → GoesOn q x done rest files kept new → IsAhead n new
on_ahead q x done [] files kept new n below (v, view, sought, is) =
    let one : 0 + 1 < n = below in
    let less : 0 < n = omega (arith, one) in
    subst (IsAhead n) (sym is) (less, inl tt)
on_ahead q x done (meta ∷ rest) files kept new n below is =
    let one : suc (length rest) + 1 < n = below in
    let less : length rest + 2 < n = omega (arith, one) in
    let some : 0 < length rest + 2 = omega arith in
    subst (IsAhead n) (sym is) (less, inr some)

-- with one call left
again_ahead : (a : Asked) (id : ℕ) (path : List ℕ) (new : Phase) (n : ℕ) → 1 < n → new ≡ phases.Again a id path → IsAhead n new
again_ahead a id path new n below is =
    let some : 0 < 1 = omega arith in
    subst (IsAhead n) (sym is) (below, inr some)

pub goes_ahead : (m : Phase) (answer : Answer) (new : Phase) → Goes m answer new → IsAhead (calls_left m) new
goes_ahead (phases.List a) (answers.Listed names) new (ids, latest, id, are, newest, is_asked, is) =
    let one : 1 < most + 5 = omega arith in
    let less : most + 4 < most + 5 = omega arith in
    let some : 0 < 1 = omega arith in
    let more : 0 < most + 4 = omega arith in
    subst (IsAhead (most + 5)) (sym is) (opened (IsAhead (most + 5)) (sought_of a ids) id (λ first. (one, inr some)) (λ least. (less, inr more)))
goes_ahead (phases.Origin q) (answers.Found (Some bytes)) new (v, view, sought, is) =
    let less : 0 < 1 = omega arith in
    subst (IsAhead 1) (sym is) (less, inl tt)
goes_ahead (phases.Snapshot q id) (answers.Found (Some bytes)) new (x, reads, schema, is) =
    let less : most + 3 < most + 4 = omega arith in
    let some : 0 < most + 3 = omega arith in
    subst (IsAhead (most + 4)) (sym is) (less, inr some)
goes_ahead (phases.Base q x) (answers.Found None) new is = again_ahead q.asked x.id (manifest_path x.base_list) new (most + 3) (omega arith) is
goes_ahead (phases.Base q x) (answers.Found (Some bytes)) new (base, reads, is) =
    let less : most + 2 < most + 3 = omega arith in
    let some : 0 < most + 2 = omega arith in
    subst (IsAhead (most + 3)) (sym is) (less, inr some)
goes_ahead (phases.Delta q x base) (answers.Found None) new is = again_ahead q.asked x.id (manifest_path x.delta_list) new (most + 2) (omega arith) is
goes_ahead (phases.Delta q x base) (answers.Found (Some bytes)) new (delta, reads, (files, left, within, on)) =
    on_ahead q x [] (base.items ++ delta) files [] new (most + 2) (omega (arith, within)) on
goes_ahead (phases.Manifests r) (answers.Found None) new is =
    again_ahead r.sought.asked r.snapshot.id (manifest_path r.next.name) new (length r.rest + 2) (omega arith) is
goes_ahead (phases.Manifests r) (answers.Found (Some bytes)) new (own, reads, (files, order, left, on)) =
    on_ahead r.sought r.snapshot (r.done ++ r.next ∷ []) r.rest files (r.kept ++ kept_for r.sought.asked.wanted own) new (length r.rest + 2) (omega arith) on
goes_ahead m answer new goes = absurd goes

-- a reader with calls left has a next one
pub has_call : (m : Phase) → 0 < calls_left m → IsSome (next_call m)
has_call (phases.List a) left = refl
has_call (phases.Origin q) left = refl
has_call (phases.Snapshot q id) left = refl
has_call (phases.Base q x) left = refl
has_call (phases.Delta q x base) left = refl
has_call (phases.Manifests r) left = refl
has_call (phases.Again a id path) left = refl
has_call (phases.Ready v) left = absurd (let none : 0 < 0 = left in omega (arith, none))
has_call phases.Over left = absurd (let none : 0 < 0 = left in omega (arith, none))

-- an answer that it goes on with leaves fewer calls
pub goes : (m : Phase) (answer : Answer) (new : Phase) → IsViewer m → Goes m answer new
    → (calls_left new < calls_left m) × (IsReady new ⊎ (0 < calls_left new))
goes m answer new is on = goes_ahead m answer new on

-- ---- which answers show that a snapshot is above the latest

pub fault_other : (refusal : Refusal) (id latest : ℕ) → IsFileFault refusal → refusal ≡ refusals.NoSnapshot id latest → ⊥
fault_other refusal id latest fault is = subst IsFileFault is fault

pub memory_other : (refusal : Refusal) (id latest : ℕ) → refusal ≡ refusals.Memory → refusal ≡ refusals.NoSnapshot id latest → ⊥
memory_other refusal id latest is other = let clash : refusals.Memory ≡ refusals.NoSnapshot id latest = sym is ∙ other in cc

pub expired_other : (refusal : Refusal) (n id latest : ℕ) → refusal ≡ refusals.Expired n → refusal ≡ refusals.NoSnapshot id latest → ⊥
expired_other refusal n id latest is other = let clash : refusals.Expired n ≡ refusals.NoSnapshot id latest = sym is ∙ other in cc

pub damaged_other : (refusal : Refusal) (path : List ℕ) (id latest : ℕ) → refusal ≡ refusals.Damaged path 0 → refusal ≡ refusals.NoSnapshot id latest → ⊥
damaged_other refusal path id latest is other = let clash : refusals.Damaged path 0 ≡ refusals.NoSnapshot id latest = sym is ∙ other in cc

-- only those to a listing
pub listing_only : (m : Phase) (answer : Answer) (refusal : Refusal) (id latest : ℕ) → Shown m answer refusal → refusal ≡ refusals.NoSnapshot id latest
    → (a : Asked) × (m ≡ phases.List a)
listing_only (phases.List a) answer refusal id latest shown other = (a, refl)
listing_only (phases.Origin q) (answers.Found None) refusal id latest is other = absurd (expired_other refusal 0 id latest is other)
listing_only (phases.Snapshot q n) (answers.Found None) refusal id latest is other = absurd (expired_other refusal n id latest is other)
listing_only (phases.Snapshot q n) (answers.Found (Some bytes)) refusal id latest (inl is) other = absurd (memory_other refusal id latest is other)
listing_only (phases.Snapshot q n) (answers.Found (Some bytes)) refusal id latest (inr (inl (is, bad))) other =
    absurd (damaged_other refusal (snapshot_path n) id latest is other)
listing_only (phases.Snapshot q n) (answers.Found (Some bytes)) refusal id latest (inr (inr (x, is, reads, differs))) other =
    absurd (damaged_other refusal (schema_path x.schema_id) id latest is other)
listing_only (phases.Base q x) (answers.Found found) refusal id latest (inl is) other = absurd (memory_other refusal id latest is other)
listing_only (phases.Base q x) (answers.Found None) refusal id latest (inr none) other = absurd none
listing_only (phases.Base q x) (answers.Found (Some bytes)) refusal id latest (inr fault) other =
    absurd (fault_other refusal id latest (file_fault _ _ (manifest_path x.base_list) bytes refusal fault) other)
listing_only (phases.Delta q x base) (answers.Found found) refusal id latest (inl is) other = absurd (memory_other refusal id latest is other)
listing_only (phases.Delta q x base) (answers.Found None) refusal id latest (inr none) other = absurd none
listing_only (phases.Delta q x base) (answers.Found (Some bytes)) refusal id latest (inr fault) other =
    absurd (fault_other refusal id latest (file_fault _ _ (manifest_path x.delta_list) bytes refusal fault) other)
listing_only (phases.Manifests r) (answers.Found found) refusal id latest (inl is) other = absurd (memory_other refusal id latest is other)
listing_only (phases.Manifests r) (answers.Found None) refusal id latest (inr none) other = absurd none
listing_only (phases.Manifests r) (answers.Found (Some bytes)) refusal id latest (inr (inl fault)) other =
    absurd (fault_other refusal id latest (file_fault _ _ (manifest_path r.next.name) bytes refusal fault) other)
listing_only (phases.Manifests r) (answers.Found (Some bytes)) refusal id latest (inr (inr (own, reads, disorder i out is))) other =
    absurd (damaged_other refusal (manifest_path r.next.name) id latest is other)
listing_only (phases.Manifests r) (answers.Found (Some bytes)) refusal id latest (inr (inr (own, reads, overlap live order left none over))) other =
    absurd (subst (Overlaps r.sought.asked.schema live) other over)
listing_only (phases.Again a n path) (answers.Found None) refusal id latest is other = absurd (expired_other refusal n id latest is other)
listing_only (phases.Again a n path) (answers.Found (Some bytes)) refusal id latest is other = absurd (damaged_other refusal path id latest is other)
listing_only m answer refusal id latest shown other = absurd shown

-- ---- laws

-- there is a table of the schema
pub table_still : (other : Actor) (f after : Files) (p q : Past) (s : TableSchema) → Advances other f p after q → IsTableOf s p.history → IsTableOf s q.history
table_still other f after p q s advances is = still_table s p.history q.history (goes_on other f after p.history q.history advances.change) is

-- the snapshot stood so
pub stood_still : (other : Actor) (f after : Files) (p q : Past) (s : TableSchema) (x : Snapshot) → Advances other f p after q → Stood p s x → Stood q s x
stood_still other f after p q s x advances stood = record {
  table = table_still other f after p q s advances stood.table;
  known = known-still other f after p q x.id advances stood.known;
  was = subst (λ (g : Files). SnapshotAt g x.id x) (sym (advances.same x.id stood.known)) stood.was;
  schema = stood.schema;
}

-- and has gone
pub gone_still : (other : Actor) (f after : Files) (p q : Past) (s : TableSchema) (id : ℕ) → Stands f p → Advances other f p after q → HasGone f p s id → HasGone after q s id
gone_still other f after p q s id stands advances gone = record {
  table = table_still other f after p q s advances gone.table;
  known = known-still other f after p q id advances gone.known;
  absent = gone-still other f after p q s id stands advances gone.table gone.known gone.absent;
}

view_still : (other : Actor) (f after : Files) (p q : Past) (v : View) → Advances other f p after q → IsViewIn p v → IsViewIn q v
view_still other f after p q v advances (view_origin view) = view_origin view
view_still other f after p q v advances (view_snapshot x base delta entries live stood contents left view) =
    view_snapshot x base delta entries live (stood_still other f after p q v.schema x advances stood)
    (subst (λ (g : Files). HasEntries g v.schema x base delta entries) (sym (advances.same x.id stood.known)) contents) left view

pub knows_still : (m : Phase) (other : Actor) (f after : Files) (p q : Past) → Stands f p → Advances other f p after q → Knows m f p → Knows m after q
knows_still (phases.List a) other f after p q stands advances known = table_still other f after p q a.schema advances known
knows_still (phases.Origin s) other f after p q stands advances (known, sought) = (
  table_still other f after p q s.asked.schema advances known,
  sought_still other f after p q s.asked.schema s.asked.wanted s.listed 0 stands advances known sought,
)
knows_still (phases.Snapshot s id) other f after p q stands advances (known, least, within, sought) = (
  table_still other f after p q s.asked.schema advances known,
  least,
  within,
  sought_still other f after p q s.asked.schema s.asked.wanted s.listed id stands advances known sought,
)
knows_still (phases.Base s x) other f after p q stands advances (stood, sought) = (
  stood_still other f after p q s.asked.schema x advances stood,
  sought_still other f after p q s.asked.schema s.asked.wanted s.listed x.id stands advances stood.table sought,
)
knows_still (phases.Delta s x base) other f after p q stands advances (stood, one, sought) = (
  stood_still other f after p q s.asked.schema x advances stood,
  subst (λ (g : Files). IsList g x.base_list base.items) (sym (advances.same x.id stood.known)) one,
  sought_still other f after p q s.asked.schema s.asked.wanted s.listed x.id stands advances stood.table sought,
)
knows_still (phases.Manifests r) other f after p q stands advances (stood, reading, sought) = (
  stood_still other f after p q r.sought.asked.schema r.snapshot advances stood,
  subst (λ (g : Files). IsReadingOf g r) (sym (advances.same r.snapshot.id stood.known)) reading,
  sought_still other f after p q r.sought.asked.schema r.sought.asked.wanted r.sought.listed r.snapshot.id stands advances stood.table sought,
)
knows_still (phases.Again a id path) other f after p q stands advances gone = gone_still other f after p q a.schema id stands advances gone
knows_still (phases.Ready v) other f after p q stands advances (known, view, sought) = (
  table_still other f after p q v.schema advances known,
  view_still other f after p q v advances view,
  sought_still other f after p q v.schema v.wanted v.listed.items v.id stands advances known sought,
)
knows_still phases.Over other f after p q stands advances known = tt

pub again_absent : (a : Asked) (id : ℕ) (path : List ℕ) (found : Option (List ℕ)) (f : Files) (p : Past) → Knows (phases.Again a id path) f p
    → Answers (calls.Read (snapshot_path id)) (answers.Found found) f → found ≡ None
again_absent a id path found f p gone told = told ∙ gone.absent

pub images : (m : Phase) (call : Call) (f image : Files) (p : Past) → next_call m ≡ Some call → MayLeave call f image → IsKept f p image p
images m call f image p = image_spared next_call m call f image p (spares m f)
