-- The entries that go are those of live files.
use Rattle.std.proofs.Common.{◌≡◌, ℕ, zero, suc, List, [], ◌∷◌, map, take, refl, subst, arith}
use Rattle.std.specs.List.{AllByRecursion, Contains}
use Rattle.std.proofs.lemmas.List.Elements.{Contains-append_right}
use Rattle.std.proofs.lemmas.List.Sorted.{Contains-permutation, IsPermutation-sym}
use Rattle.pm_base.proofs.Laws.{AllByRecursion-append, AllByRecursion-parts}
use Rattle.pm_values.specs.declared.file_meta.FileMeta.{FileMeta}
use Rattle.pm_values.specs.declared.group.Group.{Group}
use Rattle.pm_schema.specs.declared.schema.TableSchema.{TableSchema}
use Rattle.pm_manifest.specs.Live.{Live}
use Rattle.pm_levels.specs.Runs.{RunView, files_of}
use Rattle.pm_model_contents.specs.Runs.{AreRunsOf, IsLive}
use Rattle.pm_choice.specs.Choice.{live_entry, removed_entries, run_entries, taken_runs, TellLive}
use Rattle.pm_choice.specs.declared.choice.ChosenGroup.{ChosenGroup}

-- ---- of files

-- what holds of each that a list has holds of all
all-had : {X : Type 0} (P : X → Type 0) (xs : List X) → ((x : X) → Contains xs x → P x) → AllByRecursion P xs
all-had P [] each = tt
all-had P (x ∷ xs) each = (each x (zero, omega arith, refl), all-had P xs (λ y has. each y (Contains-append_right (x ∷ []) xs y has)))

all-mapped : {X Y : Type 0} (f : X → Y) (P : Y → Type 0) (xs : List X) → AllByRecursion (λ (x : X). P (f x)) xs → AllByRecursion P (map f xs)
all-mapped f P [] all = tt
all-mapped f P (x ∷ xs) all = (all.0, all-mapped f P xs all.1)

-- what holds of the files of runs holds of those of the newest
all-taken : (P : FileMeta → Type 0) (n : ℕ) (runs : List RunView) → AllByRecursion P (files_of runs) → AllByRecursion P (files_of (take n runs))
all-taken P zero runs all = tt
all-taken P (suc n) [] all = tt
all-taken P (suc n) (run ∷ runs) all =
    let parts = AllByRecursion-parts P run.files (files_of runs) all in
    AllByRecursion-append P run.files (files_of (take n runs)) parts.0 (all-taken P n runs parts.1)

-- ---- of groups

-- a file of a group that is live has this entry
file-live : (s : TableSchema) (live : Live) → TellLive s live → (g : Group) (runs : List RunView) → (own : AreRunsOf live g runs) → (m : FileMeta)
    → Contains (files_of runs) m → IsLive live (live_entry s g m)
file-live s live tells g runs own m has =
    let found = (own.own.exact m).0 (Contains-permutation (files_of runs) own.files m (IsPermutation-sym own.files (files_of runs) own.made.whole) has) in
    let told = tells found.0 found.1 in
    let same : found.0 ≡ live_entry s g m = λ i. record { add = told.0 i; group = found.2 i; buckets = told.1 i; file = found.3 i } in
    subst (IsLive live) same found.1

group-live : (s : TableSchema) (live : Live) → TellLive s live → (c : ChosenGroup) → AreRunsOf live c.group c.levels
    → AllByRecursion (IsLive live) (run_entries s c.group (taken_runs c))
group-live s live tells c own =
    let P : FileMeta → Type 0 = λ m. IsLive live (live_entry s c.group m) in
    all-mapped (live_entry s c.group) (IsLive live) (files_of (taken_runs c))
    (all-taken P c.take c.levels (all-had P (files_of c.levels) (file-live s live tells c.group c.levels own)))

pub removed-live : (s : TableSchema) (live : Live) (chosen : List ChosenGroup) → TellLive s live → AllByRecursion (λ (c : ChosenGroup). AreRunsOf live c.group c.levels) chosen
    → AllByRecursion (IsLive live) (removed_entries s chosen)
removed-live s live [] tells all = tt
removed-live s live (c ∷ chosen) tells all =
    AllByRecursion-append (IsLive live) (run_entries s c.group (taken_runs c)) (removed_entries s chosen) (group-live s live tells c all.0) (removed-live s live chosen tells all.1)
