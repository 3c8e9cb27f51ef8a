-- What the calls of a view's reader say of the files that each answer is of, where the snapshots are listed first.
use Rattle.std.proofs.Common.{◌≡◌, ◌≢◌, inl, inr, ℕ, zero, suc, ◌≤◌, List, [], ◌∷◌, ◌++◌, length, take, Option, None, Some, IsSome, IsSomeAnd, sym, ap, subst, ◌∙◌, arith, refl}
use Rattle.std.specs.FinMap as map
use Rattle.pm_values.specs.declared.refusal.Refusal.{Refusal}
use Rattle.pm_values.specs.declared.refusal.Refusal.TheVariants as refusals
use Rattle.pm_store.specs.declared.call.Call.{Call}
use Rattle.pm_store.specs.Files.{Files, IsListing}
use Rattle.pm_machine.specs.Trace.{Event, faulted}
use Rattle.pm_model_history.specs.History.{Entry as HistoryEntry}
use Rattle.pm_schema.specs.declared.schema.TableSchema.{TableSchema}
use Rattle.pm_snapshot.specs.Names.{greatest}
use Rattle.pm_snapshot.specs.declared.snapshot.Snapshot.{Snapshot}
use Rattle.pm_model_folder.specs.Commits.{IsCommitted, live_in}
use Rattle.pm_model_folder.specs.Folder.{HasTable}
use Rattle.pm_model_folder.specs.Meaning.{HasSnapshotAt}
use Rattle.pm_model_folder.specs.Paths.{named_origin, snapshot_file, snapshot_folder, snapshot_path}
use Rattle.pm_model_folder.proofs.Facts.{snapshot-committed, some-none}
use Rattle.pm_paths.specs.Ids.{IsLatest}
use Rattle.pm_paths.proofs.ListedLemmas.{latest_is}
use Rattle.pm_read_schema.specs.Trace.{Names, listed_snapshots}
use Rattle.pm_read_schema.proofs.StillLemmas.{AreTold}
use Rattle.pm_manifest.specs.Live.{Leaves, Live}
use Rattle.pm_manifest.specs.declared.entry.Entry.{Entry}
use Rattle.pm_manifest.specs.declared.entry.ManifestMeta.{ManifestMeta}
use Rattle.pm_model_contents.specs.Lists.{none_live}
use Rattle.pm_read_table.specs.Asked.{Asked, ListsFirst, asked_of}
use Rattle.pm_read_table.specs.Reader.{IsAsked}
use Rattle.pm_read_table.specs.Trace.{HasPart, IsDamaged, IsGone, Lists, ListsFor, Misreads, Reads}
use Rattle.pm_read_table.specs.declared.asked.Wanted.{Wanted}
use Rattle.pm_read_table.specs.declared.asked.Wanted.TheVariants as wants
use Rattle.pm_read_table.proofs.ViewCallsLemmas as reader
use Rattle.pm_read_table.proofs.ViewCallsLemmas.{At, IsAbsent, Part, ViewLaws}
use Rattle.pm_scan.specs.AllCalls.{path_of}

-- ---- where the last one failed

abbrev pub FailsLast : List Event → Type 0
FailsLast own = (earlier : List Event) × (call : Call) × (own ≡ earlier ++ faulted call ∷ [])

-- ---- what they say of the files

pub asked_up_to : (w : Wanted) (latest id : ℕ) → IsAsked w latest id → id ≤ latest
asked_up_to wants.Newest latest id is = omega (arith, is)
asked_up_to wants.Entries latest id is = omega (arith, is)
asked_up_to (wants.At asked) latest id (is, within) = omega (arith, is, within)
asked_up_to (wants.Whole asked) latest id is = absurd is

-- where the snapshots are listed first, they were
was_listed : (w : Wanted) (id : ℕ) (own : List Event) → ListsFirst w → ListsFor w id own
    → (names : Names) × (latest : ℕ) × IsLatest names.items latest × IsAsked w latest id × (own ≡ listed_snapshots names ∷ [])
was_listed wants.Newest id own first lists = lists
was_listed wants.Entries id own first lists = lists
was_listed (wants.At asked) id own first lists = lists
was_listed (wants.Whole asked) id own first lists = absurd first

module _ (laws : ViewLaws) (f : Files) (s : TableSchema) (entries : List HistoryEntry) (folder : HasTable f s entries) (w : Wanted)
    (lists_first : ListsFirst w) where
  abbrev a : Asked
  a = asked_of s w

  abbrev IsOf : ℕ → Type 0
  IsOf id = IsAsked w (length entries) id

  abbrev up_to : ℕ → List HistoryEntry
  up_to id = take id entries

  lists_at : (id : ℕ) (own : List Event) → Lists a id own → AreTold f own → IsOf id
  lists_at id own lists told =
      let (names, latest, newest, asked, is) = was_listed w id own lists_first lists in
      let listing : IsListing snapshot_folder names.items f = (subst (AreTold f) is told).0 in
      subst (λ (n : ℕ). IsAsked w n id) (latest_is f s entries folder latest names.items newest listing) asked

  committed_at : (id : ℕ) → IsOf id → 1 ≤ id → IsSome (map.get f (snapshot_path id)) → IsCommitted f s (up_to id) id
  committed_at id asked least there =
      let up = asked_up_to w (length entries) id asked in
      let within = folder.snapshots.within in
      snapshot-committed f s entries id folder least (let low : id ≤ greatest = omega (arith, up, within) in low) there

  pub reads_at : (id : ℕ) (path : List ℕ) (found : Option (List ℕ)) (own : List Event) → Reads a id path found own → AreTold f own
      → IsOf id × (found ≡ map.get f path)
  reads_at = reader.reads_at laws f s w IsOf up_to lists_at committed_at

  pub committed : (x : Snapshot) → At f IsOf x → IsCommitted f s (up_to x.id) x.id
  committed = reader.committed laws f s w IsOf up_to lists_at committed_at

  pub part_at : (x : Snapshot) (done rest : List ManifestMeta) (es : List Entry) (own : List Event) → HasPart a x done rest es own → AreTold f own
      → Part f s IsOf x done rest es
  part_at = reader.part_at laws f s w IsOf up_to lists_at committed_at

  pub live_of_part : (x : Snapshot) (metas : List ManifestMeta) (es : List Entry) (live : Live) → (p : Part f s IsOf x metas [] es) → Leaves none_live es live
      → live_in (committed x p.at).contents ≡ live
  unfolding committed
  live_of_part = reader.live_of_part laws f s w IsOf up_to lists_at committed_at

  pub view_misreads_at : (e : Refusal) (own : List Event) → e ≢ refusals.Memory → Misreads a e own → AreTold f own → ⊥
  view_misreads_at = reader.misreads_at laws f s w IsOf up_to lists_at committed_at

  pub view_damaged_at : (path : List ℕ) (place : ℕ) (own : List Event) → IsDamaged a path place own → AreTold f own → ⊥
  view_damaged_at = reader.damaged_at laws f s w IsOf up_to lists_at committed_at

  -- ---- a snapshot whose file is absent isn't there

  origin_gone : (o : Option (List ℕ)) → map.get f (snapshot_file (named_origin o)) ≡ None → IsSomeAnd o (λ origin. IsSome (map.get f (snapshot_file origin))) → ⊥
  origin_gone None none there = there
  origin_gone (Some name) none there = some-none (map.get f (snapshot_file name)) there none

  pub absent_gone : (id : ℕ) → map.get f (path_of s id) ≡ None → HasSnapshotAt f s id → ⊥
  absent_gone zero none there = origin_gone s.origin none there
  absent_gone (suc id) none there = some-none (map.get f (snapshot_path (suc id))) there none

  pub path_is : (id : ℕ) → 1 ≤ id → path_of s id ≡ snapshot_path id
  path_is zero least = absurd (omega (arith, least))
  path_is (suc id) least = refl

  absent_at : (id : ℕ) → IsAbsent f s id → map.get f (path_of s id) ≡ None
  absent_at id (inl (first, none)) = subst (λ (n : ℕ). map.get f (path_of s n) ≡ None) (sym first) none
  absent_at id (inr (least, none)) = ap (map.get f) (path_is id least) ∙ none

  pub view_gone_at : (id : ℕ) (own : List Event) → IsGone a id own → AreTold f own → IsOf id × (map.get f (path_of s id) ≡ None)
  view_gone_at id own gone told =
      let at = reader.gone_at laws f s w IsOf up_to lists_at committed_at id own gone told in (at.0, absent_at id at.1)
