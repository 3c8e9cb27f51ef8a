-- What a reader goes on with after an answer, and what it refuses, by what the parts of the code say.
use Rattle.std.proofs.Common.{◌≡◌, ◌⊎◌, inl, inr, ℕ, ◌≤◌, Bool, true, false, not, ◌&&◌, if◌then◌else◌, List, [], ◌∷◌, ◌++◌, length, Option, None, Some, Result, Ok, Err, IfOk, IfErr, Vec, drop, refl, sym, ap, ◌∙◌, subst, arith}
use Rattle.std.specs.Global.{Global}
use Rattle.std.specs.List.{AllByRecursion}
use Rattle.pm_base.proofs.Laws.{AllByRecursion-append}
use Rattle.pm_values.specs.declared.refusal.Refusal.{Refusal}
use Rattle.pm_values.specs.declared.refusal.Refusal.TheVariants as refusals
use Rattle.pm_store.specs.declared.answer.Answer.TheVariants as answers
use Rattle.pm_record.specs.File.{IsMemoryOr, ReadsFile}
use Rattle.pm_schema.specs.Again.{IsDeclared}
use Rattle.pm_schema.specs.Folder.{FitsPartition}
use Rattle.pm_schema.specs.declared.schema.TableSchema.{TableSchema}
use Rattle.pm_snapshot.specs.Snapshot.{snapshot_in}
use Rattle.pm_snapshot.specs.declared.fault.SnapFault.TheVariants as faults
use Rattle.pm_snapshot.specs.declared.snapshot.Snapshot.{Snapshot}
use Rattle.pm_model_folder.specs.Paths.{snapshot_path}
use Rattle.pm_paths.specs.Ids.{AreIds, IsLatest}
use Rattle.pm_manifest.specs.Entries.{IsEntry, entry_in, has_entry_fields}
use Rattle.pm_manifest.specs.Listed.{has_meta_fields, meta_in}
use Rattle.pm_manifest.specs.Shape.{Shape, shape_of}
use Rattle.pm_manifest.specs.Live.{AreInOrder, Leaves, Live, Refuses, id_of}
use Rattle.pm_manifest.specs.declared.entry.Entry.{Entry}
use Rattle.pm_manifest.specs.declared.entry.ManifestMeta.{ManifestMeta}
use Rattle.pm_model_contents.specs.Groups.{AreNamed, HaveFolders, Overlaps}
use Rattle.pm_model_contents.specs.Lists.{manifest_path, none_live}
use Rattle.pm_read_schema.specs.Trace.{Names}
use Rattle.pm_read_table.specs.Asked.{Asked, SoughtView, sought_of}
use Rattle.pm_read_table.specs.View.{HaveGroups}
use Rattle.pm_read_table.specs.Reader.{most, opening, IsAbove, IsAsked, IsListOf, IsManifestOf, MisreadsManifest, Goes, GoesOn, Starts, Takes, Shown, RefusesEntries, disorder, overlap}
use Rattle.pm_read_table.specs.Reading.{Filed, ReadingView, live_of}
use Rattle.pm_read_table.specs.View.{IsOriginView, IsSoughtBy, IsViewOf, has_entry, kept_for, live_entries}
use Rattle.pm_read_table.specs.declared.asked.Wanted.{Wanted}
use Rattle.pm_read_table.specs.declared.asked.Wanted.TheVariants as wants
use Rattle.pm_read_table.proofs.TwoLemmas.{first_in}
use Rattle.pm_read_table.specs.declared.phase.Phase.{Phase}
use Rattle.pm_read_table.specs.declared.phase.Phase.TheVariants as phases
use Rattle.pm_read_table.specs.declared.view.View.{View}

-- ---- what comes of results

pub if_ok : {X E : Type 0} (r : Result X E) (P Q : X → Type 0) → ((x : X) → P x → Q x) → IfOk r P → IfOk r Q
if_ok (Ok x) P Q weaker is = weaker x is
if_ok (Err e) P Q weaker is = is

pub if_err : {X E : Type 0} (r : Result X E) (P Q : E → Type 0) → ((e : E) → P e → Q e) → IfErr r P → IfErr r Q
if_err (Ok x) P Q weaker is = is
if_err (Err e) P Q weaker is = weaker e is

-- ---- the listing

pub list_goes : (a : Asked) (names : Names) (ids : List ℕ) (latest : ℕ) (later : Phase) → AreIds names.items ids → IsLatest names.items latest
    → ((id : ℕ) × IsAsked a.wanted latest id × (later ≡ opening (sought_of a ids) id)) → Goes (phases.List a) (answers.Listed names) later
list_goes a names ids latest later are newest (id, asked, is) = (ids, latest, id, are, newest, asked, is)

pub list_shown : (a : Asked) (names : Names) (latest : ℕ) (refusal : Refusal) → IsLatest names.items latest
    → ((id : ℕ) × IsAbove a.wanted latest id × (refusal ≡ refusals.NoSnapshot id latest)) → Shown (phases.List a) (answers.Listed names) refusal
list_shown a names latest refusal newest (id, above, is) = inr (latest, id, newest, above, is)

-- ---- the origin and the snapshot

pub origin_goes : (q : SoughtView) (found : Option (List ℕ)) (bytes : List ℕ) (v : View) → found ≡ Some bytes → IsOriginView q.asked.schema v → IsSoughtBy q v
    → Goes (phases.Origin q) (answers.Found found) (phases.Ready v)
origin_goes q found bytes v is view sought =
    subst (λ (o : Option (List ℕ)). Goes (phases.Origin q) (answers.Found o) (phases.Ready v)) (sym is) (v, view, sought, refl)

pub bad_snapshot_shown : (q : SoughtView) (id : ℕ) (bytes : List ℕ) (refusal : Refusal) → snapshot_in id bytes ≡ Err faults.Bad
    → IsMemoryOr (refusals.Damaged (snapshot_path id) 0) refusal → Shown (phases.Snapshot q id) (answers.Found (Some bytes)) refusal
bad_snapshot_shown q id bytes refusal bad (inl is) = inl is
bad_snapshot_shown q id bytes refusal bad (inr is) = inr (inl (is, bad))

-- ---- the lists

pub base_goes : (q : SoughtView) (x : Snapshot) (found : Option (List ℕ)) (path bytes : List ℕ) (base : Vec ManifestMeta Global) → path ≡ manifest_path x.base_list
    → found ≡ Some bytes → ReadsFile has_meta_fields meta_in path bytes (Ok base.items)
    → Goes (phases.Base q x) (answers.Found found) (phases.Delta q x base)
base_goes q x found path bytes base at is reads =
    subst (λ (o : Option (List ℕ)). Goes (phases.Base q x) (answers.Found o) (phases.Delta q x base)) (sym is)
    (base, subst (λ (path : List ℕ). IsListOf path bytes base.items) at reads, refl)

pub delta_goes : (q : SoughtView) (x : Snapshot) (base : Vec ManifestMeta Global) (found : Option (List ℕ)) (path bytes : List ℕ) (delta : List ManifestMeta)
    (later : Phase) → path ≡ manifest_path x.delta_list → found ≡ Some bytes → ReadsFile has_meta_fields meta_in path bytes (Ok delta)
    → Starts q x (base.items ++ delta) later → Goes (phases.Delta q x base) (answers.Found found) later
delta_goes q x base found path bytes delta later at is reads starts =
    subst (λ (o : Option (List ℕ)). Goes (phases.Delta q x base) (answers.Found o) later) (sym is)
    (delta, subst (λ (path : List ℕ). IsListOf path bytes delta) at reads, starts)

pub delta_shown : (q : SoughtView) (x : Snapshot) (base : Vec ManifestMeta Global) (found : Option (List ℕ)) (refusal : Refusal) → refusal ≡ refusals.Memory
    → Shown (phases.Delta q x base) (answers.Found found) refusal
delta_shown q x base found refusal memory = inl memory

pub none_named : (files : Filed) → files ≡ [] → AreNamed (live_of files)
none_named files none = subst (λ (files : Filed). AreNamed (live_of files)) (sym none) (λ id e at. absurd (let clash : None ≡ Some e = at in cc))

pub none_folders : (s : TableSchema) (files : Filed) → files ≡ [] → HaveFolders s (live_of files)
none_folders s files none = subst (λ (files : Filed). HaveFolders s (live_of files)) (sym none) (λ id e at. absurd (let clash : None ≡ Some e = at in cc))

none_left : (files : Filed) → files ≡ [] → Leaves none_live [] (live_of files)
none_left files none = subst (λ (files : Filed). Leaves none_live [] (live_of files)) (sym none) (λ id. refl)

pub lists_start : (q : SoughtView) (x : Snapshot) (metas done left : List ManifestMeta) (files : Filed) (kept : List Entry) (later : Phase) → done ≡ [] → left ≡ metas
    → files ≡ [] → kept ≡ [] → length metas ≤ most → GoesOn q x done left files kept later → Starts q x metas later
lists_start q x metas done left files kept later first same none empty within on = (
  files,
  none_left files none,
  within,
  subst (λ (done : List ManifestMeta). GoesOn q x done metas files [] later) first
      (subst (λ (left : List ManifestMeta). GoesOn q x done left files [] later) same
      (subst (λ (kept : List Entry). GoesOn q x done left files kept later) empty on)),
)

-- where no file is live, none overlap
no_overlap : (s : TableSchema) (refusal : Refusal) → Overlaps s (live_of []) refusal → refusal ≡ refusals.Memory
no_overlap s refusals.Memory over = refl
no_overlap s (refusals.Damaged path place) (first, g, files, file, are, is, at, below) =
    let both = first_in is.overlaps.0 file files is.overlaps.1 in
    let entry = (are.exact file).0 both.1 in
    absurd (let clash : None ≡ Some entry.0 = entry.1 in cc)
no_overlap s other over = absurd over

pub lists_refuse : (s : TableSchema) (left : List ManifestMeta) (files : Filed) (refusal : Refusal) → files ≡ []
    → (left ≡ []) × Overlaps s (live_of files) refusal → refusal ≡ refusals.Memory
lists_refuse s left files refusal none (ended, over) = no_overlap s refusal (subst (λ (files : Filed). Overlaps s (live_of files) refusal) none over)

-- ---- the manifests

pub next_on : (q : SoughtView) (x : Snapshot) (done left : List ManifestMeta) (meta : ManifestMeta) (rest : List ManifestMeta) (files : Filed) (kept : List Entry)
    (later : Phase) → left ≡ meta ∷ rest → GoesOn q x done (meta ∷ rest) files kept later → GoesOn q x done left files kept later
next_on q x done left meta rest files kept later is on = subst (λ (left : List ManifestMeta). GoesOn q x done left files kept later) (sym is) on

-- a list that is what is left of it without its first has nothing
pub nothing_left : {X : Type 0} (xs rest : List X) → xs ≡ rest → rest ≡ drop 1 xs → xs ≡ []
nothing_left [] rest all more = refl
nothing_left (x ∷ xs) rest all more = absurd (omega (arith, ap length all, ap length more))

pub ready_on : (q : SoughtView) (x : Snapshot) (done left : List ManifestMeta) (files : Filed) (kept : List Entry) (v : View) → left ≡ []
    → IsViewOf q.asked.schema x done kept (live_of files) v → IsSoughtBy q v → GoesOn q x done left files kept (phases.Ready v)
ready_on q x done left files kept v none view sought =
    subst (λ (left : List ManifestMeta). GoesOn q x done left files kept (phases.Ready v)) (sym none) (v, view, sought, refl)

pub entries_taken : (r own_reading : ReadingView) (own : List Entry) (files : Filed) (done : List ManifestMeta) (kept : List Entry) (later : Phase) → own_reading ≡ r
    → AreInOrder (live_of own_reading.files) own → Leaves (live_of own_reading.files) own (live_of files) → done ≡ own_reading.done ++ own_reading.next ∷ []
    → kept ≡ own_reading.kept ++ kept_for own_reading.sought.asked.wanted own
    → GoesOn own_reading.sought own_reading.snapshot done own_reading.rest files kept later → Takes r own later
entries_taken r inner own files done kept later is order left more keeps on =
    subst (λ (r : ReadingView). Takes r own later) is (
      files,
      order,
      left,
      subst (λ (done : List ManifestMeta). GoesOn inner.sought inner.snapshot done inner.rest files (inner.kept ++ kept_for inner.sought.asked.wanted own) later) more
          (subst (λ (kept : List Entry). GoesOn inner.sought inner.snapshot done inner.rest files kept later) keeps on),
    )

pub entries_refused : (r own_reading : ReadingView) (path : List ℕ) (own : List Entry) (after : Live) (refusal : Refusal) → own_reading ≡ r
    → (refusal ≡ refusals.Memory) ⊎ Refuses path own (live_of own_reading.files) after refusal → (refusal ≡ refusals.Memory) ⊎ RefusesEntries r path own refusal
entries_refused r inner path own after refusal is (inl memory) = inl memory
entries_refused r inner path own after refusals.Memory is (inr refuses) = inl refl
entries_refused r inner path own after (refusals.Damaged at place) is (inr (same, zero_place, i, out, left)) =
    inr (subst (λ (r : ReadingView). RefusesEntries r path own (refusals.Damaged at place)) is
    (disorder i out (ap (λ (path : List ℕ). refusals.Damaged path place) same ∙ ap (λ (place : ℕ). refusals.Damaged path place) zero_place)))
entries_refused r inner path own after other is (inr refuses) = absurd refuses

pub entries_overlap : (r own_reading : ReadingView) (path : List ℕ) (own : List Entry) (files : Filed) (refusal : Refusal) → own_reading ≡ r
    → AreInOrder (live_of own_reading.files) own → Leaves (live_of own_reading.files) own (live_of files)
    → (own_reading.rest ≡ []) × Overlaps own_reading.sought.asked.schema (live_of files) refusal → (refusal ≡ refusals.Memory) ⊎ RefusesEntries r path own refusal
entries_overlap r inner path own files refusal is order left (ended, over) =
    inr (subst (λ (r : ReadingView). RefusesEntries r path own refusal) is (overlap (live_of files) order left ended over))

-- ---- the groups of entries that are kept

kept_groups : (s : TableSchema) (w : Wanted) (own : List Entry) → HaveGroups s own → HaveGroups s (kept_for w own)
kept_groups s wants.Entries own have = have
kept_groups s (wants.Whole id) own have = have
kept_groups s wants.Newest own have = tt
kept_groups s (wants.At id) own have = tt

pub groups_more : (s : TableSchema) (w : Wanted) (kept own all : List Entry) → HaveGroups s kept → HaveGroups s own → all ≡ kept ++ kept_for w own → HaveGroups s all
groups_more s w kept own all before have is =
    subst (HaveGroups s) (sym is) (AllByRecursion-append (λ (e : Entry). FitsPartition s e.group) kept (kept_for w own) before (kept_groups s w own have))

-- the live entries are some of those that are kept
one_group : (s : TableSchema) (e : Entry) (live : List Entry) (t : Bool) → FitsPartition s e.group → HaveGroups s live → HaveGroups s (if t then e ∷ live else live)
one_group s e live true own rest = (own, rest)
one_group s e live false own rest = rest

live_groups : (s : TableSchema) (es : List Entry) → HaveGroups s es → HaveGroups s (live_entries es)
live_groups s [] have = tt
live_groups s (e ∷ es) have = one_group s e (live_entries es) (e.add && not (has_entry (id_of e) es)) have.0 (live_groups s es have.1)

pub groups_live : (s : TableSchema) (es live : List Entry) → HaveGroups s es → live ≡ live_entries es → HaveGroups s live
groups_live s es live have is = subst (HaveGroups s) (sym is) (live_groups s es have)

-- entries of a manifest of the table that a reading is of
pub fit_of : (r : ReadingView) (s : TableSchema) (path bytes : List ℕ) (own : List Entry) → s ≡ r.sought.asked.schema → IsDeclared s
    → ((shape : Shape) (path bytes : List ℕ) (es : List Entry) → ReadsFile has_entry_fields (entry_in shape) path bytes (Ok es)
    → AllByRecursion (IsEntry shape) es)
    → ((s : TableSchema) (es : List Entry) → IsDeclared s → AllByRecursion (IsEntry (shape_of s)) es
    → AllByRecursion (λ (e : Entry). FitsPartition s e.group) es)
    → IsManifestOf s path bytes own → HaveGroups r.sought.asked.schema own
fit_of r s path bytes own same declared manifest entries reads =
    subst (λ (s : TableSchema). HaveGroups s own) same
    (entries s own declared (manifest (shape_of s) path bytes own reads))

-- the file is read as a manifest of the table that a reading is of
manifest_of : (r : ReadingView) (s : TableSchema) (path bytes : List ℕ) (own : List Entry) → path ≡ manifest_path r.next.name → s ≡ r.sought.asked.schema
    → IsManifestOf s path bytes own → IsManifestOf r.sought.asked.schema (manifest_path r.next.name) bytes own
manifest_of r s path bytes own at same reads =
    subst (λ (path : List ℕ). IsManifestOf r.sought.asked.schema path bytes own) at (subst (λ (s : TableSchema). IsManifestOf s path bytes own) same reads)

pub file_goes : (r : ReadingView) (s : TableSchema) (path bytes : List ℕ) (own : List Entry) (later : Phase) → path ≡ manifest_path r.next.name
    → s ≡ r.sought.asked.schema → IsManifestOf s path bytes own → Takes r own later → Goes (phases.Manifests r) (answers.Found (Some bytes)) later
file_goes r s path bytes own later at same reads takes = (own, manifest_of r s path bytes own at same reads, takes)

pub file_shown : (r : ReadingView) (s : TableSchema) (text path bytes : List ℕ) (own : List Entry) (refusal : Refusal) → text ≡ path
    → path ≡ manifest_path r.next.name → s ≡ r.sought.asked.schema → IsManifestOf s text bytes own
    → (refusal ≡ refusals.Memory) ⊎ RefusesEntries r path own refusal → Shown (phases.Manifests r) (answers.Found (Some bytes)) refusal
file_shown r s text path bytes own refusal as_path at same reads (inl memory) = inl memory
file_shown r s text path bytes own refusal as_path at same reads (inr refuses) =
    inr (inr (own, manifest_of r s text bytes own (as_path ∙ at) same reads, subst (λ (path : List ℕ). RefusesEntries r path own refusal) at refuses))

pub file_misread : (r : ReadingView) (s : TableSchema) (path bytes : List ℕ) (refusal : Refusal) → path ≡ manifest_path r.next.name → s ≡ r.sought.asked.schema
    → MisreadsManifest s path bytes refusal → Shown (phases.Manifests r) (answers.Found (Some bytes)) refusal
file_misread r s path bytes refusal at same bad =
    inr (inl (subst (λ (path : List ℕ). MisreadsManifest r.sought.asked.schema path bytes refusal) at
    (subst (λ (s : TableSchema). MisreadsManifest s path bytes refusal) same bad)))
