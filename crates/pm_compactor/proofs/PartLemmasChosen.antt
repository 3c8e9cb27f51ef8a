-- What is chosen of a view: groups of the table, of each some runs, which have files.
use Rattle.std.proofs.Common.{◌≡◌, ◌≢◌, ℕ, zero, suc, ◌<◌, ◌≤◌, ◌==◌, Bool, true, false, if◌then◌else◌, List, [], ◌∷◌, ◌++◌, drop, length, length-take, map, min, take, Option, Some, None, IsSome, refl, sym, ap, subst, ◌∙◌, arith}
use Rattle.std.proofs.lemmas.List.{length-map}
use Rattle.std.specs.BTreeMap.{IsOrdered}
use Rattle.std.specs.List.{AllByRecursion}
use Rattle.pm_values.specs.GroupOrder.{group_cmp}
use Rattle.pm_values.specs.declared.group.Group.{Group}
use Rattle.pm_store.specs.declared.answer.Answer.{Answer}
use Rattle.pm_store.specs.declared.answer.Answer.TheVariants as answers
use Rattle.pm_schema.specs.Folder.{FitsPartition}
use Rattle.pm_schema.specs.declared.schema.TableSchema.{TableSchema}
use Rattle.pm_snapshot.specs.declared.snapshot.Snapshot.{Snapshot}
use Rattle.pm_levels.specs.Picking.{picked, top_of}
use Rattle.pm_levels.specs.Runs.{IsRun, RunView}
use Rattle.pm_levels.specs.Sizes.{size_of}
use Rattle.pm_levels.specs.declared.choice.Asked.{Asked}
use Rattle.pm_levels.specs.declared.choice.Pick.{Pick}
use Rattle.pm_levels.specs.declared.choice.PickRule.{PickRule}
use Rattle.pm_manifest.specs.Live.{Live}
use Rattle.pm_manifest.specs.declared.entry.Entry.{Entry}
use Rattle.pm_manifest.specs.declared.entry.ManifestMeta.{ManifestMeta}
use Rattle.pm_model_contents.specs.Groups.{GroupRuns}
use Rattle.pm_read_table.specs.Asked.{SoughtView, sought_of}
use Rattle.pm_read_table.specs.Reader as reader
use Rattle.pm_read_table.specs.Reader.{GoesOn, opening}
use Rattle.pm_read_table.specs.Reading.{Filed, live_of}
use Rattle.pm_read_table.specs.View.{HasFolders, runs_at}
use Rattle.pm_read_table.specs.declared.phase.Phase as view_phase
use Rattle.pm_read_table.specs.declared.phase.Phase.TheVariants as readers
use Rattle.pm_read_table.specs.declared.view.View.{View}
use Rattle.pm_group_files.specs.Jobs.{Grouped}
use Rattle.pm_group_files.proofs.ViewLemmas.{all-weaker, each-found}
use Rattle.pm_choice.specs.Choice.{choices, of_pick}
use Rattle.pm_choice.specs.declared.choice.ChosenGroup.{ChosenGroup}
use Rattle.pm_plan.specs.Planned.{FitChosen}
use Rattle.pm_compactor.specs.Compactor.{TakesFiles}
use Rattle.pm_compactor.proofs.PartLemmasPick.{some-picked}

-- ---- what holds of each group holds of each choice

-- the choice of a group
abbrev choice_of : PickRule → Grouped → Pick → ChosenGroup
choice_of rule e p = record { group = e.0; levels = e.1; take = p.take; out = p.out; whole = p.out == top_of rule }

module _ (asked : Asked) (rule : PickRule) (P : Grouped → Type 0) (Q : ChosenGroup → Type 0)
    (each : (e : Grouped) (p : Pick) → P e → picked (map size_of e.1) asked rule ≡ Some p → Q (choice_of rule e p)) where
  more-chosen : (e : Grouped) (later : List ChosenGroup) (o : Option Pick) → picked (map size_of e.1) asked rule ≡ o → P e → AllByRecursion Q later
      → AllByRecursion Q (of_pick rule e.0 e.1 o ++ later)
  more-chosen e later None is own all = all
  more-chosen e later (Some p) is own all = (each e p own is, all)

  all-chosen : (es : List Grouped) → AllByRecursion P es → AllByRecursion Q (choices asked rule es)
  all-chosen [] all = tt
  all-chosen (e ∷ es) all = more-chosen e (choices asked rule es) (picked (map size_of e.1) asked rule) refl all.0 (all-chosen es all.1)

-- ---- runs go, which have files

-- a group has runs, and each of them has files
abbrev HasFiles : Grouped → Type 0
HasFiles e = (e.1 ≢ []) × AllByRecursion (λ (run : RunView). 0 < length run.files) e.1

take-keeps : {X : Type 0} (P : X → Type 0) (n : ℕ) (xs : List X) → AllByRecursion P xs → AllByRecursion P (take n xs)
take-keeps P zero xs all = tt
take-keeps P (suc n) [] all = tt
take-keeps P (suc n) (x ∷ xs) all = (all.0, take-keeps P n xs all.1)

drop-keeps : {X : Type 0} (P : X → Type 0) (n : ℕ) (xs : List X) → AllByRecursion P xs → AllByRecursion P (drop n xs)
drop-keeps P zero xs all = all
drop-keeps P (suc n) [] all = tt
drop-keeps P (suc n) (x ∷ xs) all = drop-keeps P n xs all.1

some-long : {X : Type 0} (xs : List X) → xs ≢ [] → 1 ≤ length xs
some-long [] some = absurd (some refl)
some-long (x ∷ xs) some = omega arith

take-some : {X : Type 0} (n : ℕ) (xs : List X) → 1 ≤ n → 1 ≤ length xs → take n xs ≢ []
take-some n xs from some none =
    let long : length (take n xs) ≡ min n (length xs) = length-take n xs in
    let zero_long : length (take n xs) ≡ 0 = ap length none in
    absurd (omega (arith, long, zero_long, from, some))

takes-of : (asked : Asked) (rule : PickRule) (e : Grouped) (p : Pick) → HasFiles e → picked (map size_of e.1) asked rule ≡ Some p → TakesFiles (choice_of rule e p)
takes-of asked rule e p has is =
    let long = some-long e.1 has.0 in
    let sizes : length (map size_of e.1) ≡ length e.1 = length-map e.1 size_of in
    let from : 1 ≤ p.take = some-picked rule (map size_of e.1) (omega (arith, long, sizes)) asked p is in record {
      some = take-some p.take e.1 from long;
      each = take-keeps (λ (run : RunView). 0 < length run.files) p.take e.1 has.1;
      others = drop-keeps (λ (run : RunView). 0 < length run.files) p.take e.1 has.1;
    }

-- ---- a view that is ready

-- its groups have runs, as live files do, or there are none
abbrev AreLiveRuns : View → Type 0
AreLiveRuns v = (g : Group) (runs : List RunView) → runs_at v g ≡ Some runs → HasFiles (g, runs)

live-files : (live : Live) (g : Group) (o : Option (List RunView)) (runs : List RunView) → o ≡ Some runs → GroupRuns live g o → HasFiles (g, runs)
live-files live g o runs is has =
    let own : GroupRuns live g (Some runs) = subst (GroupRuns live g) is has in
    (own.1, all-weaker IsRun (λ (run : RunView). 0 < length run.files) runs (λ run r. r.some) own.0.made.each)

same-view : (v w : View) → readers.Ready v ≡ readers.Ready w → v ≡ w
same-view v w e = cc

manifests-live : (q : SoughtView) (x : Snapshot) (done rest : List ManifestMeta) (files : Filed) (kept : List Entry) (v : View)
    → GoesOn q x done rest files kept (readers.Ready v) → AreLiveRuns v
manifests-live q x done [] files kept v (w, view, sought, is) =
    subst AreLiveRuns (sym (same-view v w is)) (λ g runs found. live-files (live_of files) g (runs_at w g) runs found (view.groups g))
manifests-live q x done (meta ∷ rest) files kept v is =
    let clash : readers.Ready v ≡ readers.Manifests _ = is in absurd cc

not-opening : (q : SoughtView) (id : ℕ) (v : View) → readers.Ready v ≡ opening q id → AreLiveRuns v
not-opening q id v is = by_test (id == 0) is
  where
    by_test : (b : Bool) → readers.Ready v ≡ (if b then readers.Origin q else readers.Snapshot q id) → AreLiveRuns v
    by_test true e = absurd cc
    by_test false e = absurd cc

ready-live : (m : view_phase.Phase) (answer : Answer) (v : View) → reader.Goes m answer (readers.Ready v) → AreLiveRuns v
ready-live (readers.List a) (answers.Listed names) v (ids, latest, id, are, newest, is_asked, is) = not-opening (sought_of a ids) id v is
ready-live (readers.Origin q) (answers.Found (Some bytes)) v (w, view, sought, is) =
    subst AreLiveRuns (sym (same-view v w is)) (λ g runs found. absurd (let none : Some runs ≡ None = sym found ∙ view.groups g in cc))
ready-live (readers.Snapshot q id) (answers.Found (Some bytes)) v (x, reads, schema, is) = absurd cc
ready-live (readers.Base q x) (answers.Found None) v is = absurd (let clash : readers.Ready v ≡ readers.Again _ _ _ = is in cc)
ready-live (readers.Base q x) (answers.Found (Some bytes)) v (base, reads, is) = absurd cc
ready-live (readers.Delta q x base) (answers.Found None) v is = absurd (let clash : readers.Ready v ≡ readers.Again _ _ _ = is in cc)
ready-live (readers.Delta q x base) (answers.Found (Some bytes)) v (delta, reads, (files, left, within, on)) =
    manifests-live q x [] (base.items ++ delta) files [] v on
ready-live (readers.Manifests r) (answers.Found None) v is = absurd (let clash : readers.Ready v ≡ readers.Again _ _ _ = is in cc)
ready-live (readers.Manifests r) (answers.Found (Some bytes)) v (own, reads, (files, order, left, on)) =
    manifests-live r.sought r.snapshot (r.done ++ r.next ∷ []) r.rest files _ v on
ready-live m answer v goes = absurd goes

-- ---- what it chooses

pub takes-files : (m : view_phase.Phase) (answer : Answer) (v : View) (asked : Asked) (rule : PickRule) → reader.Goes m answer (readers.Ready v)
    → IsOrdered group_cmp v.groups → AllByRecursion TakesFiles (choices asked rule v.groups.entries)
takes-files m answer v asked rule goes order =
    all-chosen asked rule HasFiles TakesFiles (takes-of asked rule) v.groups.entries
    (each-found (λ g runs. HasFiles (g, runs)) v.groups.entries order (ready-live m answer v goes))

pub fits-chosen : (v : View) (s : TableSchema) (asked : Asked) (rule : PickRule) → v.schema ≡ s → HasFolders v → IsOrdered group_cmp v.groups
    → FitChosen s (choices asked rule v.groups.entries)
fits-chosen v s asked rule same folders order =
    subst (λ (t : TableSchema). FitChosen t (choices asked rule v.groups.entries)) same
    (all-chosen asked rule (λ (e : Grouped). FitsPartition v.schema e.0) (λ (c : ChosenGroup). FitsPartition v.schema c.group) (λ e p fits is. fits) v.groups.entries
    (each-found (λ g runs. FitsPartition v.schema g) v.groups.entries order
    (λ g runs found. folders g (subst (λ (o : Option (List RunView)). IsSome o) (sym found) refl))))
