-- The next numbers of groups, in a map.
use Rattle.std.proofs.Common.{◌≡◌, ◌⊎◌, inl, inr, ℕ, suc, ◌+◌, ◌<◌, ◌≤◌, nat_lt, ◌||◌, max, Bool, true, false, cond, not, List, ◌∷◌, [], ◌++◌, length, length-append, map, Option, Some, unwrap_or, refl, sym, ap, subst, ◌∙◌, append-nil, arith}
use Rattle.std.specs.BTreeMap.{BTreeMap, get_by, is_at}
use Rattle.std.specs.Cmp.{Equal-is}
use Rattle.std.specs.List.{AllByRecursion}
use Rattle.std.specs.Ordering.{eq_by_cmp}
use Rattle.std.proofs.lemmas.Bool.Decides.{nat_tests}
use Rattle.std.proofs.lemmas.List.{length-map}
use Rattle.pm_base.proofs.Laws.{AllByRecursion-append}
use Rattle.pm_values.specs.GroupOrder.{group_cmp}
use Rattle.pm_values.specs.declared.group.Group.{Group}
use Rattle.pm_values.proofs.Lemmas.{group_cmp-IsAntisymmetric}
use Rattle.pm_values.specs.Names.{Naming, counted}
use Rattle.pm_values.specs.declared.record.Change.{Change}
use Rattle.pm_values.specs.declared.refusal.Refusal.{Refusal}
use Rattle.pm_values.specs.declared.refusal.Refusal.TheVariants as refusals
use Rattle.pm_schema.specs.Folder.{FitsPartition}
use Rattle.pm_schema.specs.declared.schema.TableSchema.{TableSchema}
use Rattle.pm_engine.specs.Covers.{Run}
use Rattle.pm_manifest.specs.declared.entry.Entry.{Entry}
use Rattle.pm_model_contents.specs.Lists.{IsChangelogEntry}
use Rattle.pm_run.specs.Row.{most_sequence}
use Rattle.pm_write.specs.Batch.{GroupRows, Groups, logs_in}
use Rattle.pm_write.specs.Files.{AreFilesOfLogs, AreFilesOfRuns, AreNewFiles, RefusesFiles, after_names, exceeds, next_of, next_run, no_sequence}
use Rattle.pm_write.specs.declared.files.NewFile.{NewFile}
use Rattle.pm_made.specs.Delta.{added_entry}
use Rattle.pm_made.specs.Files.{changes_of, data_of}
use Rattle.pm_made.specs.Refusals.{above_numbers, next_number}
use Rattle.pm_made.proofs.LogLemmas.{logs-of}

pub group-is : (a b : Group) → is_at (group_cmp a) b ≡ true → a ≡ b
group-is a b e = group_cmp-IsAntisymmetric a b ((Equal-is (group_cmp a b)).0 e)

greater : (number own : ℕ) → own < number → number ≡ max number own
greater number own below = grind (arith, nat_tests)

kept : (number own : ℕ) → number ≤ own → own ≡ max number own
kept number own most = grind (arith, nat_tests)

-- a group's number is put into the map where it is greater
pub inserted : (old new : BTreeMap Group ℕ) (group : Group) (number : ℕ)
    → ((q : Group) → get_by (group_cmp q) new ≡ cond (is_at (group_cmp group) q) (Some number) (get_by (group_cmp q) old))
    → next_of old group < number → (g : Group) → next_of new g ≡ cond (eq_by_cmp group_cmp group g) (max number (next_of old g)) (next_of old g)
inserted old new group number updates below g =
    ap (λ (o : Option ℕ). unwrap_or o 0) (updates g) ∙ at (is_at (group_cmp group) g) refl
  where
    at : (t : Bool) → is_at (group_cmp group) g ≡ t
        → unwrap_or (cond t (Some number) (get_by (group_cmp g) old)) 0 ≡ cond t (max number (next_of old g)) (next_of old g)
    at true is = greater number (next_of old g) (subst (λ (k : Group). next_of old k < number) (group-is group g is) below)
    at false is = refl

-- and else stays
pub unchanged : (old : BTreeMap Group ℕ) (group : Group) (number : ℕ) → number ≤ next_of old group
    → (g : Group) → next_of old g ≡ cond (eq_by_cmp group_cmp group g) (max number (next_of old g)) (next_of old g)
unchanged old group number most g = at (is_at (group_cmp group) g) refl
  where
    at : (t : Bool) → is_at (group_cmp group) g ≡ t → next_of old g ≡ cond t (max number (next_of old g)) (next_of old g)
    at true is = kept number (next_of old g) (subst (λ (k : Group). number ≤ next_of old k) (group-is group g is) most)
    at false is = refl

-- numbers that are counted from those of the live files
pub same-exceeds : (live : List Entry) (next : BTreeMap Group ℕ) (batch : Groups) → ((g : Group) → next_of next g ≡ next_number live g)
    → exceeds next batch ≡ above_numbers live batch
same-exceeds live next [] counts = refl
same-exceeds live next (e ∷ es) counts =
    ap (λ (n : ℕ). nat_lt (most_sequence + 1) (n + e.1.count) || exceeds next es) (counts e.0)
    ∙ ap (λ (rest : Bool). nat_lt (most_sequence + 1) (next_number live e.0 + e.1.count) || rest) (same-exceeds live next es counts)

-- ---- the new files of a batch

-- a data file of each of its groups
pub runs-many : (s : TableSchema) (names : Naming) (runs : List (Group × Run)) (xs : List NewFile) → AreFilesOfRuns s names runs xs
    → length xs ≡ length runs
runs-many s names [] [] are = refl
runs-many s names [] (x ∷ xs) are = absurd are
runs-many s names (p ∷ runs) [] are = absurd are
runs-many s names (p ∷ runs) (x ∷ xs) are = ap suc (runs-many s (counted names) runs xs are.1)

-- and a changelog file of each that has a log
pub logs-many : (s : TableSchema) (names : Naming) (logs : List (Group × List Change)) (xs : List NewFile) → AreFilesOfLogs s names logs xs
    → length xs ≡ length logs
logs-many s names [] [] are = refl
logs-many s names [] (x ∷ xs) are = absurd are
logs-many s names (p ∷ logs) [] are = absurd are
logs-many s names (p ∷ logs) (x ∷ xs) are = ap suc (logs-many s (counted names) logs xs are.1)

pub data-many : (s : TableSchema) (next : BTreeMap Group ℕ) (names : Naming) (batch : Groups) (xs : List NewFile)
    → (new : AreNewFiles s next names batch xs) → length new.data_files ≡ length batch
data-many s next names batch xs new =
    let mapped = length-map batch (next_run next) in
    let made = runs-many s names (map (next_run next) batch) new.data_files new.runs in
    omega (arith, mapped, made)

pub files-many : (s : TableSchema) (next : BTreeMap Group ℕ) (names : Naming) (batch : Groups) (xs : List NewFile)
    → AreNewFiles s next names batch xs → length xs ≡ length batch + length (logs_in batch)
files-many s next names batch xs new =
    let all = ap (λ (ys : List NewFile). length ys) new.both ∙ length-append new.data_files new.changes in
    let made = data-many s next names batch xs new in
    let changes = logs-many s (after_names (length new.data_files) names) (logs_in batch) new.changes new.logs in
    omega (arith, all, made, changes)

-- the data files are no changelog files
runs-data : (s : TableSchema) (names : Naming) (runs : List (Group × Run)) (xs : List NewFile) → AreFilesOfRuns s names runs xs
    → (ys : List NewFile) → (data_of (xs ++ ys) ≡ xs ++ data_of ys) × (changes_of (xs ++ ys) ≡ changes_of ys)
runs-data s names [] [] are ys = (refl, refl)
runs-data s names [] (x ∷ xs) are ys = absurd are
runs-data s names (p ∷ runs) [] are ys = absurd are
runs-data s names (p ∷ runs) (x ∷ xs) are ys =
    let rest = runs-data s (counted names) runs xs are.1 ys in
    let plain : x.changelog ≡ false = are.0.no_changelog in (
      ap (λ (t : Bool). cond (not t) (x ∷ data_of (xs ++ ys)) (data_of (xs ++ ys))) plain ∙ ap (λ (more : List NewFile). x ∷ more) rest.0,
      ap (λ (t : Bool). cond t (x ∷ changes_of (xs ++ ys)) (changes_of (xs ++ ys))) plain ∙ rest.1,
    )

-- the others are
logs-changes : (s : TableSchema) (names : Naming) (logs : List (Group × List Change)) (xs : List NewFile) → AreFilesOfLogs s names logs xs
    → (data_of xs ≡ []) × (changes_of xs ≡ xs)
logs-changes s names [] [] are = (refl, refl)
logs-changes s names [] (x ∷ xs) are = absurd are
logs-changes s names (p ∷ logs) [] are = absurd are
logs-changes s names (p ∷ logs) (x ∷ xs) are =
    let rest = logs-changes s (counted names) logs xs are.1 in
    let told : x.changelog ≡ true = are.0.changelog in (
      ap (λ (t : Bool). cond (not t) (x ∷ data_of xs) (data_of xs)) told ∙ rest.0,
      ap (λ (t : Bool). cond t (x ∷ changes_of xs) (changes_of xs)) told ∙ ap (λ (more : List NewFile). x ∷ more) rest.1,
    )

pub data-are : (s : TableSchema) (next : BTreeMap Group ℕ) (names : Naming) (batch : Groups) (xs : List NewFile)
    → (new : AreNewFiles s next names batch xs) → data_of xs ≡ new.data_files
data-are s next names batch xs new =
    ap data_of new.both ∙ (runs-data s names (map (next_run next) batch) new.data_files new.runs new.changes).0
    ∙ ap (λ (more : List NewFile). new.data_files ++ more) (logs-changes s (after_names (length new.data_files) names) (logs_in batch) new.changes new.logs).0
    ∙ append-nil new.data_files

pub changes-are : (s : TableSchema) (next : BTreeMap Group ℕ) (names : Naming) (batch : Groups) (xs : List NewFile)
    → (new : AreNewFiles s next names batch xs) → changes_of xs ≡ new.changes
changes-are s next names batch xs new =
    ap changes_of new.both ∙ (runs-data s names (map (next_run next) batch) new.data_files new.runs new.changes).1
    ∙ (logs-changes s (after_names (length new.data_files) names) (logs_in batch) new.changes new.logs).1

-- the entries of changelog files add files at level 0
pub tell-at-zero : (s : TableSchema) (names : Naming) (logs : List (Group × List Change)) (xs : List NewFile) → AreFilesOfLogs s names logs xs
    → AllByRecursion IsChangelogEntry (map (added_entry s) xs)
tell-at-zero s names [] [] are = tt
tell-at-zero s names [] (x ∷ xs) are = absurd are
tell-at-zero s names (p ∷ logs) [] are = absurd are
tell-at-zero s names (p ∷ logs) (x ∷ xs) are =
    (record { add = refl; level = are.0.file.made.meta.levelled }, tell-at-zero s (counted names) logs xs are.1)

-- each is of a group of the batch
runs-folders : (s : TableSchema) (next : BTreeMap Group ℕ) (names : Naming) (batch : Groups) (xs : List NewFile)
    → AreFilesOfRuns s names (map (next_run next) batch) xs → AllByRecursion (λ (e : Group × GroupRows). FitsPartition s e.0) batch
    → AllByRecursion (λ (x : NewFile). FitsPartition s x.group) xs
runs-folders s next names [] [] are fit = tt
runs-folders s next names [] (x ∷ xs) are fit = absurd are
runs-folders s next names (e ∷ es) [] are fit = tt
runs-folders s next names (e ∷ es) (x ∷ xs) are fit = (
  subst (λ (g : Group). FitsPartition s g) (sym are.0.own) fit.0,
  runs-folders s next (counted names) es xs are.1 fit.1,
)

logs-folders : (s : TableSchema) (names : Naming) (logs : List (Group × List Change)) (xs : List NewFile)
    → AreFilesOfLogs s names logs xs → AllByRecursion (λ (p : Group × List Change). FitsPartition s p.0) logs
    → AllByRecursion (λ (x : NewFile). FitsPartition s x.group) xs
logs-folders s names [] [] are fit = tt
logs-folders s names [] (x ∷ xs) are fit = absurd are
logs-folders s names (p ∷ logs) [] are fit = tt
logs-folders s names (p ∷ logs) (x ∷ xs) are fit = (
  subst (λ (g : Group). FitsPartition s g) (sym are.0.own) fit.0,
  logs-folders s (counted names) logs xs are.1 fit.1,
)

pub files-folders : (s : TableSchema) (next : BTreeMap Group ℕ) (names : Naming) (batch : Groups) (xs : List NewFile)
    → AreNewFiles s next names batch xs → AllByRecursion (λ (e : Group × GroupRows). FitsPartition s e.0) batch
    → AllByRecursion (λ (x : NewFile). FitsPartition s x.group) xs
files-folders s next names batch xs new fit =
    subst (AllByRecursion (λ (x : NewFile). FitsPartition s x.group)) (sym new.both)
    (AllByRecursion-append (λ (x : NewFile). FitsPartition s x.group) new.data_files new.changes
    (runs-folders s next names batch new.data_files new.runs fit)
    (logs-folders s (after_names (length new.data_files) names) (logs_in batch) new.changes new.logs (logs-of (λ (g : Group). FitsPartition s g) batch fit)))

-- why they aren't made
abbrev NoFiles : List Entry → Groups → Refusal → Type 0
NoFiles live batch e = (e ≡ refusals.Memory) ⊎ ((above_numbers live batch ≡ true) × (e ≡ no_sequence))

pub no-files : (live : List Entry) (next : BTreeMap Group ℕ) (batch : Groups) (e : Refusal) → ((g : Group) → next_of next g ≡ next_number live g)
    → RefusesFiles next batch e → (e ≡ refusals.Memory) ⊎ ((above_numbers live batch ≡ true) × (e ≡ no_sequence))
no-files live next batch e counts refused = at e refused
  where
    exceeded : (e : Refusal) → (e ≡ no_sequence) × (exceeds next batch ≡ true) → NoFiles live batch e
    exceeded e (is, above) = inr (sym (same-exceeds live next batch counts) ∙ above, is)

    at : (e : Refusal) → RefusesFiles next batch e → NoFiles live batch e
    at refusals.Memory is = inl refl
    at (refusals.Words c) is = exceeded (refusals.Words c) is
    at refusals.SourceFault is = exceeded refusals.SourceFault is
    at (refusals.SinkFault s) is = exceeded (refusals.SinkFault s) is
    at (refusals.StoreFault p) is = exceeded (refusals.StoreFault p) is
    at (refusals.BadLine l w c) is = exceeded (refusals.BadLine l w c) is
    at (refusals.Retraction l c) is = exceeded (refusals.Retraction l c) is
    at refusals.TableExists is = exceeded refusals.TableExists is
    at refusals.NoTable is = exceeded refusals.NoTable is
    at (refusals.Unsupported w t) is = exceeded (refusals.Unsupported w t) is
    at (refusals.Damaged p o) is = exceeded (refusals.Damaged p o) is
    at (refusals.NoSnapshot i l) is = exceeded (refusals.NoSnapshot i l) is
    at (refusals.Expired i) is = exceeded (refusals.Expired i) is
    at (refusals.Contended ids) is = exceeded (refusals.Contended ids) is
    at (refusals.CompactTaken n) is = exceeded (refusals.CompactTaken n) is
    at (refusals.Fenced b f) is = exceeded (refusals.Fenced b f) is
    at (refusals.BelowFloor n f) is = exceeded (refusals.BelowFloor n f) is
    at (refusals.ConsumerMoved f) is = exceeded (refusals.ConsumerMoved f) is
    at refusals.NoChangelog is = exceeded refusals.NoChangelog is
    at (refusals.SessionUsed p) is = exceeded (refusals.SessionUsed p) is
    at (refusals.Limit w n) is = exceeded (refusals.Limit w n) is
    at (refusals.SchemaRule r) is = exceeded (refusals.SchemaRule r) is
