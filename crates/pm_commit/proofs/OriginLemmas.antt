-- A reader that reads the origin reads one that the table's schema names.
use Rattle.std.proofs.Common.{◌≡◌, ℕ, ◌==◌, Bool, true, false, if◌then◌else◌, List, [], ◌∷◌, ◌++◌, Option, None, Some, IsSome, IfSome, refl, sym, ap, ◌∙◌, subst, eqb-true, arith}
use Rattle.pm_store.specs.Answers.{Answers}
use Rattle.pm_store.specs.declared.answer.Answer.{Answer}
use Rattle.pm_store.specs.declared.answer.Answer.TheVariants as answers
use Rattle.pm_store.specs.Files.{Files, IsListing}
use Rattle.pm_model_history.specs.History.{History, IsTableOf, no_table, table}
use Rattle.pm_schema.specs.declared.schema.TableSchema.{TableSchema}
use Rattle.pm_snapshot.specs.Names.{snapshot_name}
use Rattle.pm_snapshot.specs.declared.snapshot.Snapshot.{Snapshot}
use Rattle.pm_manifest.specs.declared.entry.Entry.{Entry}
use Rattle.pm_manifest.specs.declared.entry.ManifestMeta.{ManifestMeta}
use Rattle.pm_model_folder.specs.Folder.{Folder}
use Rattle.pm_model_folder.specs.Ledger.{Past, Stands}
use Rattle.pm_model_folder.specs.Paths.{snapshot_folder}
use Rattle.pm_model_folder.proofs.Facts.{snapshot-led, unnamed-origin}
use Rattle.pm_paths.specs.Ids.{IsLatest}
use Rattle.pm_read_table.specs.Asked.{Asked, SoughtView, sought_of}
use Rattle.pm_read_table.specs.Meaning as meaning
use Rattle.pm_read_table.specs.Meaning.{Stood}
use Rattle.pm_read_table.specs.Reader as reader
use Rattle.pm_read_table.specs.Reader.{IsAsked, opening}
use Rattle.pm_read_table.specs.Reading.{Filed}
use Rattle.pm_read_table.specs.View.{kept_for}
use Rattle.pm_read_table.specs.declared.asked.Wanted.{Wanted}
use Rattle.pm_read_table.specs.declared.asked.Wanted.TheVariants as wants
use Rattle.pm_read_table.specs.declared.phase.Phase as view_phase
use Rattle.pm_read_table.specs.declared.phase.Phase.TheVariants as readers
use Rattle.pm_commit.specs.Committer.{Reads, newest_of}
use Rattle.pm_commit.specs.Meaning.{HasOrigin}
use Rattle.pm_commit.proofs.CommitterLemmas.{asked-same}

-- where no snapshot is listed, the table has the origin that its schema names
some-origin : (f : Files) (p : Past) (s : TableSchema) (names : List (List ℕ)) (latest : ℕ) → Stands f p → IsTableOf s p.history → IsListing snapshot_folder names f
    → IsLatest names latest → latest ≡ 0 → IsSome s.origin
some-origin f p s names latest stands is listing is_latest first = at s.origin refl
  where
    named : (h : History) → IsTableOf s h → Folder f h → s.origin ≡ None → ⊥
    named no_table is folder none = absurd is
    named (table t entries) is folder none =
        let (k, low, bound, there) = unnamed-origin f t entries folder (ap (λ (u : TableSchema). u.origin) is ∙ none) in
        let most = is_latest.most k bound ((listing.exact (snapshot_name k)).1 (snapshot-led f k bound there)) in
        omega (arith, low, most, first)

    at : (o : Option (List ℕ)) → s.origin ≡ o → IsSome s.origin
    at None none = absurd (named p.history is stands.folder none)
    at (Some name) some = subst (λ (o : Option (List ℕ)). IsSome o) (sym some) refl

opening-origin : (q : SoughtView) (id : ℕ) (to : view_phase.Phase) → (id ≡ 0 → IsSome q.asked.schema.origin) → to ≡ opening q id → HasOrigin to
opening-origin q id to origin is = by_test (id == 0) refl is
  where
    by_test : (b : Bool) → (id == 0) ≡ b → to ≡ (if b then readers.Origin q else readers.Snapshot q id) → HasOrigin to
    by_test true first is = subst HasOrigin (sym is) (origin (eqb-true id 0 first))
    by_test false other is = subst HasOrigin (sym is) tt

-- a view of a snapshot isn't one of the origin
manifests-origin : (p : Past) (q : SoughtView) (x : Snapshot) (done rest : List ManifestMeta) (files : Filed) (kept : List Entry) (to : view_phase.Phase)
    → Stood p q.asked.schema x → reader.GoesOn q x done rest files kept to → HasOrigin to
manifests-origin p q x done [] files kept to stood (v, view, sought, is) =
    subst HasOrigin (sym is) (λ first. (let low = stood.known.after_origin in let same = view.id in absurd (omega (arith, low, same, first))))
manifests-origin p q x done (meta ∷ rest) files kept to stood is = subst HasOrigin (sym is) tt

pub asked-latest : (w : Wanted) (latest id : ℕ) → w ≡ wants.Entries → IsAsked w latest id → id ≡ latest
asked-latest w latest id is asked = subst (λ (w : Wanted). IsAsked w latest id → id ≡ latest) (sym is) (λ same. same) asked

pub origin-on : (f : Files) (p : Past) (s : TableSchema) (m : view_phase.Phase) (answer : Answer) (to : view_phase.Phase) → Stands f p → Reads m s
    → meaning.Knows m f p → HasOrigin m → reader.Goes m answer to → IfSome (reader.next_call m) (λ call. Answers call answer f → HasOrigin to)
origin-on f p s (readers.List a) (answers.Listed names) to stands reads known origin (ids, latest, id, are, is_latest, is_asked, is) = λ told.
    let same : a ≡ newest_of s = asked-same a (newest_of s) reads.asked in
    let wanted = ap (λ (a : Asked). a.wanted) same in
    opening-origin (sought_of a ids) id to
    (λ first. some-origin f p a.schema names.items latest stands known told is_latest (sym (asked-latest a.wanted latest id wanted is_asked) ∙ first)) is
origin-on f p s (readers.Origin q) (answers.Found (Some bytes)) to stands reads known origin (v, view, sought, is) = λ told.
    subst HasOrigin (sym is) (λ first. subst (λ (t : TableSchema). IsSome t.origin) (sym view.schema) origin)
origin-on f p s (readers.Snapshot q id) (answers.Found (Some bytes)) to stands reads known origin (x, has, schema, is) = λ told. subst HasOrigin (sym is) tt
origin-on f p s (readers.Base q x) (answers.Found None) to stands reads known origin is = λ told. subst HasOrigin (sym is) tt
origin-on f p s (readers.Base q x) (answers.Found (Some bytes)) to stands reads known origin (base, has, is) = λ told. subst HasOrigin (sym is) tt
origin-on f p s (readers.Delta q x base) (answers.Found None) to stands reads known origin is = λ told. subst HasOrigin (sym is) tt
origin-on f p s (readers.Delta q x base) (answers.Found (Some bytes)) to stands reads known origin (delta, has, (files, left, within, on)) = λ told.
    manifests-origin p q x [] (base.items ++ delta) files [] to known.0 on
origin-on f p s (readers.Manifests r) (answers.Found None) to stands reads known origin is = λ told. subst HasOrigin (sym is) tt
origin-on f p s (readers.Manifests r) (answers.Found (Some bytes)) to stands reads known origin (own, has, (files, order, left, on)) = λ told.
    manifests-origin p r.sought r.snapshot (r.done ++ r.next ∷ []) r.rest files (r.kept ++ kept_for r.sought.asked.wanted own) to known.0 on
origin-on f p s m answer to stands reads known origin goes = absurd goes
