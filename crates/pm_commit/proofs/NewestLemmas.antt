-- The newest snapshot is there: a view's reader that is alone reads it, and the publish after it takes effect.
use Rattle.std.proofs.Common.{◌≡◌, ◌⊎◌, inl, inr, ℕ, zero, suc, ◌+◌, ◌-◌, ◌≤◌, ◌==◌, nat_le, Bool, true, false, if◌then◌else◌, List, [], ◌∷◌, ◌++◌, Option, None, Some, IsSome, IsSomeAnd, IfSome, refl, sym, ap, ◌∙◌, subst, eqb-true, arith}
use Rattle.std.specs.FinMap as map
use Rattle.std.proofs.lemmas.Bool.Decides.{nat_tests}
use Rattle.std.proofs.lemmas.Option.{IfSome_then}
use Rattle.pm_values.specs.declared.refusal.Refusal.{Refusal}
use Rattle.pm_values.specs.declared.refusal.Refusal.TheVariants as refusals
use Rattle.pm_store.specs.Answers.{Answers, published_at}
use Rattle.pm_store.specs.Files.{Files, IsListing, carried}
use Rattle.pm_store.specs.declared.answer.Answer.{Answer}
use Rattle.pm_store.specs.declared.answer.Answer.TheVariants as answers
use Rattle.pm_store.specs.declared.answer.Published.{Published}
use Rattle.pm_store.specs.declared.answer.Published.TheVariants as published
use Rattle.pm_machine.specs.Moves.{IsKept, Leads}
use Rattle.pm_model_history.specs.History.{IsTableOf}
use Rattle.pm_schema.specs.declared.schema.TableSchema.{TableSchema}
use Rattle.pm_snapshot.specs.Names.{greatest}
use Rattle.pm_snapshot.specs.declared.snapshot.Snapshot.{Snapshot}
use Rattle.pm_snapshot.proofs.Facts.{id_same}
use Rattle.pm_manifest.specs.Entries.{entry_in, has_entry_fields}
use Rattle.pm_manifest.specs.Listed.{has_meta_fields, meta_in}
use Rattle.pm_manifest.specs.Live.{Live}
use Rattle.pm_manifest.specs.Shape.{shape_of}
use Rattle.pm_manifest.specs.declared.entry.Entry as files
use Rattle.pm_manifest.specs.declared.entry.ManifestMeta.{ManifestMeta}
use Rattle.pm_model_contents.specs.Groups.{Overlaps}
use Rattle.pm_model_contents.specs.Lists.{manifest_path}
use Rattle.pm_model_folder.specs.Ledger.{Past, Stands, count_of}
use Rattle.pm_model_folder.specs.Meaning.{HasSnapshotAt}
use Rattle.pm_model_folder.specs.Paths.{named_origin, origin_path, snapshot_file, snapshot_folder, snapshot_path}
use Rattle.pm_model_folder.proofs.Facts.{newest-there, some-none}
use Rattle.pm_model_folder.proofs.LedgerFacts.{at-table, count-is}
use Rattle.pm_paths.specs.Ids.{IsLatest}
use Rattle.pm_paths.proofs.ListedLemmas.{latest_is}
use Rattle.pm_read_table.specs.Asked.{Asked, SoughtView, sought_of}
use Rattle.pm_read_table.specs.Meaning as reader_meaning
use Rattle.pm_read_schema.specs.Beside.{IsExpired}
use Rattle.pm_read_table.specs.Meaning.{HasGone}
use Rattle.pm_read_table.specs.Reader as reader
use Rattle.pm_read_table.specs.Reader.{disorder, opening, overlap}
use Rattle.pm_read_table.specs.Reading.{Filed}
use Rattle.pm_read_table.specs.View.{kept_for}
use Rattle.pm_read_table.specs.declared.phase.Phase as view_phase
use Rattle.pm_read_table.specs.declared.phase.Phase.TheVariants as readers
use Rattle.pm_read_table.proofs.Facts as reader_facts
use Rattle.pm_read_table.proofs.Facts.{Joined, OneList}
use Rattle.pm_read_table.proofs.FaultLemmas.{IsFileFault, file_fault}
use Rattle.pm_commit.specs.Alone.{ReadsNewest}
use Rattle.pm_commit.specs.Committer.{Reads, after_path, newest_of, publishing_of}
use Rattle.pm_put.specs.Putter.{publish_call}
use Rattle.pm_put.specs.Trace.{IsLost}
use Rattle.pm_put.specs.declared.putting.Publishing.{Publishing}
use Rattle.pm_commit.proofs.CommitterLemmas.{asked-same}
use Rattle.pm_commit.proofs.OriginLemmas.{asked-latest}

-- ---- the newest snapshot is there

pub newest-at : (f : Files) (p : Past) (s : TableSchema) → Stands f p → IsTableOf s p.history → HasSnapshotAt f s (count_of p.history)
newest-at f p s stands is =
    let own = at-table f p s stands is in
    subst (HasSnapshotAt f s) (sym (count-is p s own.0 own.1)) (newest-there f s own.0 own.2)

newest-never : (f : Files) (p : Past) (s : TableSchema) (id : ℕ) → Stands f p → IsTableOf s p.history → 1 ≤ id → id ≡ count_of p.history
    → map.get f (snapshot_path id) ≡ None → ⊥
newest-never f p s zero stands table least is absent = omega (arith, least)
newest-never f p s (suc k) stands table least is absent =
    some-none (map.get f (snapshot_path (suc k))) (subst (HasSnapshotAt f s) (sym is) (newest-at f p s stands table)) absent

-- it hasn't expired
pub expired-never : (f : Files) (p : Past) (id : ℕ) → Stands f p → id ≡ count_of p.history → IsExpired f p id → ⊥
expired-never f p id stands is expired =
    expired.absent (subst (HasSnapshotAt f expired.schema) (sym is) (newest-at f p expired.schema stands expired.table))

-- ---- the publish after it takes effect

there-or : (o : Option (List ℕ)) → (o ≡ None) ⊎ IsSome o
there-or None = inl refl
there-or (Some x) = inr refl

-- the next snapshot isn't there
next-absent : (f : Files) (p : Past) (s : TableSchema) (id : ℕ) → Stands f p → IsTableOf s p.history → id ≡ count_of p.history + 1 → id ≤ greatest
    → map.get f (snapshot_path id) ≡ None
next-absent f p s zero stands table is bound = absurd (omega (arith, is))
next-absent f p s (suc k) stands table is bound = elim (there-or (map.get f (snapshot_path (suc k)))) as (λ _. map.get f (snapshot_path (suc k)) ≡ None) [
  | inl none ↦ none
  | inr there ↦ absurd (let own = at-table f p s stands table in
      let size = count-is p s own.0 own.1 in
      let high = ((own.2.snapshots.exact (suc k) bound).0 there).1 in
      omega (arith, is, size, high))
]

-- the path of the one before it is there
after-there : (f : Files) (s : TableSchema) (id : ℕ) → HasSnapshotAt f s id → IsSome (map.get f (after_path s (id + 1)))
after-there f s zero there = at s.origin refl there
  where
    at : (o : Option (List ℕ)) → s.origin ≡ o → IsSomeAnd o (λ origin. IsSome (map.get f (snapshot_file origin))) → IsSome (map.get f (after_path s (0 + 1)))
    at None none is = absurd is
    at (Some name) some is = subst (λ (o : Option (List ℕ)). IsSome (map.get f (snapshot_file (named_origin o)))) (sym some) is
after-there f s (suc k) there =
    subst (λ (path : List ℕ). IsSome (map.get f path)) (sym (at (nat_le (suc k + 1) 1) refl)) there
  where
    at : (b : Bool) → nat_le (suc k + 1) 1 ≡ b → (if b then origin_path s else snapshot_path (suc k + 1 - 1)) ≡ snapshot_path (suc k)
    at true low = absurd (grind (arith, nat_tests))
    at false high = ap snapshot_path (let same : suc k + 1 - 1 ≡ suc k = omega arith in same)

created-at : (a b : Option (List ℕ)) (answer : Published) → a ≡ None → IsSome b → answer ≡ published_at a b → answer ≡ published.Created
created-at None None answer none there told = absurd (let clash = there in cc)
created-at None (Some bytes) answer none there told = told
created-at (Some bytes) b answer none there told = absurd (let clash = none in cc)

pub never-lost : (f : Files) (p : Past) (s : TableSchema) (id : ℕ) (text : List ℕ) (x : Publishing) (answer : Published) → Stands f p → IsTableOf s p.history
    → id ≡ count_of p.history + 1 → id ≤ greatest → x ≡ publishing_of s id text → Answers (publish_call x) (answers.Published answer) f → IsLost answer → ⊥
never-lost f p s id text x answer stands table is bound last told lost =
    let absent = next-absent f p s id stands table is bound in
    let there : IsSome (map.get f (after_path s id)) =
    subst (λ (n : ℕ). IsSome (map.get f (after_path s n))) (sym is) (after-there f s (count_of p.history) (newest-at f p s stands table)) in
    let told_at = subst (λ (y : Publishing). Answers (publish_call y) (answers.Published answer) f) last told in
    subst IsLost (created-at (map.get f (snapshot_path id)) (map.get f (after_path s id)) answer absent there told_at) lost

-- ---- a reader reads it

listed-newest : (f : Files) (p : Past) (s : TableSchema) (latest : ℕ) (names : List (List ℕ)) → Stands f p → IsTableOf s p.history → IsLatest names latest
    → IsListing snapshot_folder names f → latest ≡ count_of p.history
listed-newest f p s latest names stands is is_latest listing =
    let own = at-table f p s stands is in
    latest_is f s own.0 own.2 latest names is_latest listing ∙ sym (count-is p s own.0 own.1)

opening-newest : (n : ℕ) (q : SoughtView) (id : ℕ) (to : view_phase.Phase) → id ≡ n → to ≡ opening q id → ReadsNewest n to
opening-newest n q id to same is = by_test (id == 0) refl is
  where
    by_test : (b : Bool) → (id == 0) ≡ b → to ≡ (if b then readers.Origin q else readers.Snapshot q id) → ReadsNewest n to
    by_test true first is = subst (ReadsNewest n) (sym is) (sym same ∙ eqb-true id 0 first)
    by_test false other is = subst (ReadsNewest n) (sym is) same

manifests-newest : (n : ℕ) (q : SoughtView) (x : Snapshot) (done rest : List ManifestMeta) (entries : Filed) (kept : List files.Entry) (to : view_phase.Phase)
    → x.id ≡ n → reader.GoesOn q x done rest entries kept to → ReadsNewest n to
manifests-newest n q x done [] entries kept to same (v, view, sought, is) = subst (ReadsNewest n) (sym is) (view.id ∙ same)
manifests-newest n q x done (meta ∷ rest) entries kept to same is = subst (ReadsNewest n) (sym is) same

-- none of its files is absent
again-never : (f after : Files) (p : Past) (m : view_phase.Phase) (a : Asked) (id : ℕ) (path : List ℕ) (to : view_phase.Phase) → Stands f p
    → id ≡ count_of p.history → to ≡ readers.Again a id path → Leads IsKept (reader_meaning.Knows to) f p after → ⊥
again-never f after p m a id path to stands same is (later, kept, known) =
    let gone : HasGone after later a.schema id = subst (λ (m : view_phase.Phase). reader_meaning.Knows m after later) is known in
    newest-never f p a.schema id stands (subst (λ (q : Past). IsTableOf a.schema q.history) kept.past gone.table) gone.known.after_origin same
    (sym (kept.files (snapshot_path id)) ∙ gone.absent)

module _ (joined : Joined) (lists : OneList) (f : Files) (p : Past) (s : TableSchema) (n : ℕ) (stands : Stands f p) (many : n ≡ count_of p.history) where
  -- a file that the snapshot names is read, and isn't absent
  found-never : (m : view_phase.Phase) (a : Asked) (id : ℕ) (path : List ℕ) (to : view_phase.Phase) → reader.Goes m (answers.Found None) to
      → reader_meaning.Knows m f p → id ≡ n → to ≡ readers.Again a id path
      → IfSome (reader.next_call m) (λ call. Answers call (answers.Found None) f → ReadsNewest n to)
  found-never m a id path to goes known same is =
      IfSome_then (reader.next_call m) ((reader_facts.sound joined lists).went m to (answers.Found None) f p goes stands known)
      (λ call leads told. absurd (again-never f (carried call f) p m a id path to stands (same ∙ many) is (leads told)))

  pub reads-newest : (m : view_phase.Phase) (answer : Answer) (to : view_phase.Phase) → Reads m s → reader_meaning.Knows m f p → ReadsNewest n m
      → reader.Goes m answer to → IfSome (reader.next_call m) (λ call. Answers call answer f → ReadsNewest n to)
  reads-newest (readers.List a) (answers.Listed names) to reads known newest (ids, latest, id, are, is_latest, is_asked, is) = λ told.
      let wanted = ap (λ (a : Asked). a.wanted) (asked-same a (newest_of s) reads.asked) in
      opening-newest n (sought_of a ids) id to
      (asked-latest a.wanted latest id wanted is_asked ∙ listed-newest f p a.schema latest names.items stands known is_latest told ∙ sym many) is
  reads-newest (readers.Origin q) (answers.Found (Some bytes)) to reads known newest (v, view, sought, is) = λ told.
      subst (ReadsNewest n) (sym is) (view.id ∙ sym newest)
  reads-newest (readers.Snapshot q id) (answers.Found (Some bytes)) to reads known newest (x, has, schema, is) = λ told.
      subst (ReadsNewest n) (sym is) (id_same id bytes x has ∙ newest)
  reads-newest (readers.Base q x) (answers.Found None) to reads known newest is = found-never (readers.Base q x) q.asked x.id (manifest_path x.base_list) to is known newest is
  reads-newest (readers.Base q x) (answers.Found (Some bytes)) to reads known newest (base, has, is) = λ told. subst (ReadsNewest n) (sym is) newest
  reads-newest (readers.Delta q x base) (answers.Found None) to reads known newest is = found-never (readers.Delta q x base) q.asked x.id (manifest_path x.delta_list) to is known newest is
  reads-newest (readers.Delta q x base) (answers.Found (Some bytes)) to reads known newest (delta, has, (entries, left, within, on)) = λ told.
      manifests-newest n q x [] (base.items ++ delta) entries [] to newest on
  reads-newest (readers.Manifests r) (answers.Found None) to reads known newest is =
      found-never (readers.Manifests r) r.sought.asked r.snapshot.id (manifest_path r.next.name) to is known newest is
  reads-newest (readers.Manifests r) (answers.Found (Some bytes)) to reads known newest (own, has, (entries, order, left, on)) = λ told.
      manifests-newest n r.sought r.snapshot (r.done ++ r.next ∷ []) r.rest entries (r.kept ++ kept_for r.sought.asked.wanted own) to newest on
  reads-newest (readers.Again a id path) answer to reads known newest goes = absurd newest
  reads-newest m answer to reads known newest goes = absurd goes

-- ---- what a reader says has gone is the newest

abbrev pub IsOfNewest : ℕ → Refusal → Type 0
IsOfNewest n (refusals.Expired id) = id ≡ n
IsOfNewest n other = Unit {0}

of-newest : (n : ℕ) (refusal defined : Refusal) → refusal ≡ defined → IsOfNewest n defined → IsOfNewest n refusal
of-newest n refusal defined is newest = subst (IsOfNewest n) (sym is) newest

fault-newest : (n : ℕ) (refusal : Refusal) → IsFileFault refusal → IsOfNewest n refusal
fault-newest n (refusals.Expired id) fault = absurd fault
fault-newest n other fault = tt

overlap-newest : (n : ℕ) (s : TableSchema) (live : Live) (refusal : Refusal) → Overlaps s live refusal → IsOfNewest n refusal
overlap-newest n s live (refusals.Expired id) over = absurd over
overlap-newest n s live other over = tt

pub shown-newest : (n : ℕ) (m : view_phase.Phase) (answer : Answer) (refusal : Refusal) → ReadsNewest n m → reader.Shown m answer refusal → IsOfNewest n refusal
shown-newest n (readers.List a) (answers.Listed names) refusal newest (inl memory) = of-newest n refusal refusals.Memory memory tt
shown-newest n (readers.List a) (answers.Listed names) refusal newest (inr (latest, id, is_latest, above, is)) = of-newest n refusal (refusals.NoSnapshot id latest) is tt
shown-newest n (readers.Origin q) (answers.Found None) refusal newest is = of-newest n refusal (refusals.Expired 0) is (sym newest)
shown-newest n (readers.Snapshot q id) (answers.Found None) refusal newest is = of-newest n refusal (refusals.Expired id) is newest
shown-newest n (readers.Snapshot q id) (answers.Found (Some bytes)) refusal newest (inl memory) = of-newest n refusal refusals.Memory memory tt
shown-newest n (readers.Snapshot q id) (answers.Found (Some bytes)) refusal newest (inr (inl (is, bad))) = of-newest n refusal _ is tt
shown-newest n (readers.Snapshot q id) (answers.Found (Some bytes)) refusal newest (inr (inr (x, is, has, other))) = of-newest n refusal _ is tt
shown-newest n (readers.Again a id path) answer refusal newest shown = absurd newest
shown-newest n (readers.Base q x) (answers.Found found) refusal newest (inl memory) = of-newest n refusal refusals.Memory memory tt
shown-newest n (readers.Base q x) (answers.Found None) refusal newest (inr none) = absurd none
shown-newest n (readers.Base q x) (answers.Found (Some bytes)) refusal newest (inr bad) =
    fault-newest n refusal (file_fault has_meta_fields meta_in (manifest_path x.base_list) bytes refusal bad)
shown-newest n (readers.Delta q x base) (answers.Found found) refusal newest (inl memory) = of-newest n refusal refusals.Memory memory tt
shown-newest n (readers.Delta q x base) (answers.Found None) refusal newest (inr none) = absurd none
shown-newest n (readers.Delta q x base) (answers.Found (Some bytes)) refusal newest (inr bad) =
    fault-newest n refusal (file_fault has_meta_fields meta_in (manifest_path x.delta_list) bytes refusal bad)
shown-newest n (readers.Manifests r) (answers.Found found) refusal newest (inl memory) = of-newest n refusal refusals.Memory memory tt
shown-newest n (readers.Manifests r) (answers.Found None) refusal newest (inr none) = absurd none
shown-newest n (readers.Manifests r) (answers.Found (Some bytes)) refusal newest (inr (inl bad)) =
    fault-newest n refusal (file_fault has_entry_fields (entry_in (shape_of r.sought.asked.schema)) (manifest_path r.next.name) bytes refusal bad)
shown-newest n (readers.Manifests r) (answers.Found (Some bytes)) refusal newest (inr (inr (own, has, disorder i out is))) = of-newest n refusal _ is tt
shown-newest n (readers.Manifests r) (answers.Found (Some bytes)) refusal newest (inr (inr (own, has, overlap live order left none over))) =
    overlap-newest n r.sought.asked.schema live refusal over
shown-newest n m answer refusal newest shown = absurd shown
