-- The reader of a try's view goes on with the same table.
use Rattle.pm_base.proofs.Laws.{AllByRecursion-append}
use Rattle.std.proofs.Common.{◌≡◌, ◌⊎◌, inl, inr, ℕ, ◌<◌, ◌≤◌, ◌==◌, Bool, true, false, ◌&&◌, not, if◌then◌else◌, List, [], ◌∷◌, ◌++◌, Contains, None, Some, Ok, sym, ap, ◌∙◌, subst, arith}
use Rattle.std.specs.List.{AllByRecursion}
use Rattle.pm_store.specs.declared.answer.Answer.{Answer}
use Rattle.pm_store.specs.declared.answer.Answer.TheVariants as answers
use Rattle.pm_record.specs.File.{ReadsFile}
use Rattle.pm_schema.specs.declared.schema.TableSchema.{TableSchema}
use Rattle.pm_snapshot.specs.Names.{greatest}
use Rattle.pm_snapshot.specs.declared.snapshot.Snapshot.{Snapshot}
use Rattle.pm_manifest.specs.Entries.{IsEntry, entry_in, has_entry_fields}
use Rattle.pm_manifest.specs.Live.{id_of}
use Rattle.pm_manifest.specs.Shape.{Shape, shape_of}
use Rattle.pm_manifest.specs.declared.entry.Entry.{Entry}
use Rattle.pm_manifest.specs.declared.entry.ManifestMeta.{ManifestMeta}
use Rattle.pm_run.specs.Row.{most_sequence}
use Rattle.pm_read_table.specs.Asked.{Asked, SoughtView, asked_of, sought_of}
use Rattle.pm_paths.proofs.ListLemmas.{here, more}
use Rattle.pm_paths.specs.Ids as listing
use Rattle.pm_read_table.specs.Reader as reader
use Rattle.pm_read_table.specs.Reader.{opening}
use Rattle.pm_read_table.specs.Reading.{Filed}
use Rattle.pm_read_table.specs.View.{has_entry, kept_for, live_entries}
use Rattle.pm_read_table.specs.declared.asked.Wanted.{Wanted}
use Rattle.pm_read_table.specs.declared.asked.Wanted.TheVariants as wants
use Rattle.pm_read_table.specs.declared.phase.Phase as view_phase
use Rattle.pm_read_table.specs.declared.phase.Phase.TheVariants as readers
use Rattle.pm_read_table.specs.declared.view.View.{View}
use Rattle.pm_commit.specs.Committer.{AreIds, AreNumbered, Reads, asked_in, entries_in, listed_in, newest_of}

-- what the law of entries that are read says
abbrev pub EntriesRead : Type 0
EntriesRead = (s : Shape) (path bytes : List ℕ) (es : List Entry) → ReadsFile has_entry_fields (entry_in s) path bytes (Ok es) → AllByRecursion (IsEntry s) es

-- ---- numbers

numbered-of : (s : Shape) (es : List Entry) → AllByRecursion (IsEntry s) es → AreNumbered es
numbered-of s [] all = tt
numbered-of s (e ∷ es) (is, rest) = (is.file.last, numbered-of s es rest)

kept-numbered : (w : Wanted) (es : List Entry) → AreNumbered es → AreNumbered (kept_for w es)
kept-numbered wants.Entries es all = all
kept-numbered (wants.Whole id) es all = all
kept-numbered other es all = tt

live-numbered : (es : List Entry) → AreNumbered es → AreNumbered (live_entries es)
live-numbered [] all = tt
live-numbered (e ∷ es) (is, rest) = by_test (live-numbered es rest) (e.add && not (has_entry (id_of e) es))
  where
    by_test : AreNumbered (live_entries es) → (b : Bool) → AreNumbered (if b then e ∷ live_entries es else live_entries es)
    by_test later true = (is, later)
    by_test later false = later

-- ---- ids

all-of : (P : ℕ → Type 0) (ids : List ℕ) → ((id : ℕ) → Contains ids id → P id) → AllByRecursion P ids
all-of P [] each = tt
all-of P (id ∷ ids) each = (each id (here id ids), all-of P ids (λ later c. each later (more id ids later c)))

listed-ids : (names : List (List ℕ)) (ids : List ℕ) → listing.AreIds names ids → AreIds ids
listed-ids names ids are = all-of (λ (id : ℕ). (1 ≤ id) × (id ≤ greatest)) ids (λ id c. (let bears = (are.exact id).0 c in (bears.0, bears.1)))

-- ---- the reader goes on

-- it reads the table, and is ready or has a call left
pub record IsOn (s : TableSchema) (m : view_phase.Phase) : Type 0 where
  pub reads : Reads m s
  pub left : reader.IsReady m ⊎ (0 < reader.calls_left m)

on-at : (s : TableSchema) (m to : view_phase.Phase) → m ≡ to → asked_in to ≡ Some (newest_of s) → AreNumbered (entries_in to) → AreIds (listed_in to)
    → 0 < reader.calls_left to → IsOn s m
on-at s m to is asked numbers ids left =
    subst (IsOn s) (sym is) (record { reads = record { asked = asked; numbers = numbers; ids = ids }; left = inr left })

ready-at : (s : TableSchema) (a : Asked) (m : view_phase.Phase) (v : View) → m ≡ readers.Ready v → v.schema ≡ a.schema → v.wanted ≡ a.wanted → Some a ≡ Some (newest_of s)
    → AreNumbered v.live.items → AreIds v.listed.items → IsOn s m
ready-at s a m v is schema wanted asked numbers ids =
    let same : Some (asked_of v.schema v.wanted) ≡ Some (newest_of s) =
    ap (λ (t : TableSchema). Some (asked_of t v.wanted)) schema ∙ ap (λ (w : Wanted). Some (asked_of a.schema w)) wanted ∙ asked in
    subst (IsOn s) (sym is) (record { reads = record { asked = same; numbers = numbers; ids = ids }; left = inl tt })

opening-on : (s : TableSchema) (q : SoughtView) (id : ℕ) (m : view_phase.Phase) → Some q.asked ≡ Some (newest_of s) → AreIds q.listed → m ≡ opening q id → IsOn s m
opening-on s q id m asked ids is = by_test (id == 0) is
  where
    by_test : (b : Bool) → m ≡ (if b then readers.Origin q else readers.Snapshot q id) → IsOn s m
    by_test true is = on-at s m (readers.Origin q) is asked tt ids (omega arith)
    by_test false is = on-at s m (readers.Snapshot q id) is asked tt ids (omega arith)

manifests-on : (s : TableSchema) (q : SoughtView) (x : Snapshot) (done rest : List ManifestMeta) (files : Filed) (kept : List Entry) (m : view_phase.Phase)
    → Some q.asked ≡ Some (newest_of s) → AreNumbered kept → AreIds q.listed → reader.GoesOn q x done rest files kept m → IsOn s m
manifests-on s q x done [] files kept m asked numbers ids (v, view, sought, is) =
    ready-at s q.asked m v is view.schema sought.wanted asked (subst AreNumbered (sym view.entries) (live-numbered kept numbers))
    (subst AreIds (sym sought.listed) ids)
manifests-on s q x done (meta ∷ rest) files kept m asked numbers ids is = on-at s m _ is asked numbers ids (omega arith)

pub reads-on : EntriesRead → (s : TableSchema) (r : view_phase.Phase) (answer : Answer) (to : view_phase.Phase) → Reads r s → reader.Goes r answer to → IsOn s to
reads-on law s (readers.List a) (answers.Listed names) to reads (ids, latest, id, are, newest, is_asked, is) =
    opening-on s (sought_of a ids) id to reads.asked (listed-ids names.items ids are) is
reads-on law s (readers.Origin q) (answers.Found (Some bytes)) to reads (v, view, sought, is) =
    ready-at s q.asked to v is view.schema sought.wanted reads.asked (subst AreNumbered (sym view.entries) tt) (subst AreIds (sym sought.listed) reads.ids)
reads-on law s (readers.Snapshot q id) (answers.Found (Some bytes)) to reads (x, has, schema, is) = on-at s to (readers.Base q x) is reads.asked tt reads.ids (omega arith)
reads-on law s (readers.Base q x) (answers.Found None) to reads is = on-at s to _ is reads.asked tt tt (omega arith)
reads-on law s (readers.Base q x) (answers.Found (Some bytes)) to reads (base, has, is) = on-at s to (readers.Delta q x base) is reads.asked tt reads.ids (omega arith)
reads-on law s (readers.Delta q x base) (answers.Found None) to reads is = on-at s to _ is reads.asked tt tt (omega arith)
reads-on law s (readers.Delta q x base) (answers.Found (Some bytes)) to reads (delta, has, (files, left, within, on)) =
    manifests-on s q x [] (base.items ++ delta) files [] to reads.asked tt reads.ids on
reads-on law s (readers.Manifests r) (answers.Found None) to reads is = on-at s to _ is reads.asked tt tt (omega arith)
reads-on law s (readers.Manifests r) (answers.Found (Some bytes)) to reads (own, has, (files, order, left, on)) =
    let fit = numbered-of (shape_of r.sought.asked.schema) own (law (shape_of r.sought.asked.schema) _ bytes own has) in
    let numbers = AllByRecursion-append (λ (e : Entry). e.file.max_seq ≤ most_sequence) r.kept (kept_for r.sought.asked.wanted own) reads.numbers
    (kept-numbered r.sought.asked.wanted own fit) in
    manifests-on s r.sought r.snapshot (r.done ++ r.next ∷ []) r.rest files (r.kept ++ kept_for r.sought.asked.wanted own) to reads.asked numbers reads.ids on
reads-on law s r answer to reads goes = absurd goes
