-- The files that a batch adds are at level 0, and have at most as many rows as the batch.
use Rattle.std.proofs.Common.{◌≡◌, ◌≢◌, ℕ, ◌+◌, ◌≤◌, Bool, true, false, true≢false, cond, ◌||◌, List, [], ◌∷◌, length, map, Some}
use Rattle.std.proofs.Common.{refl, sym, arith}
use Rattle.std.specs.BTreeMap.{BTreeMap}
use Rattle.std.specs.List.{AllByRecursion}
use Rattle.std.specs.Ordering.{eq_by_cmp}
use Rattle.std.specs.Set.{is_member}
use Rattle.std.proofs.lemmas.List.{length-map}
use Rattle.std.proofs.lemmas.List.Sums.{sum_by-cons}
use Rattle.std.proofs.lemmas.Map.Keys.{IsDistinct-from_sorted}
use Rattle.std.proofs.lemmas.Map.Made.{length-le_from_is_member}
use Rattle.pm_values.specs.Names.{Naming, counted}
use Rattle.pm_values.specs.Order.{Values, key_cmp, key_equiv}
use Rattle.pm_values.specs.declared.group.Group.{Group}
use Rattle.pm_values.specs.declared.record.Stamped.{Stamped}
use Rattle.pm_schema.specs.declared.schema.TableSchema.{TableSchema}
use Rattle.pm_model_history.specs.Merge.{HistoryRow, key_of, rows_of}
use Rattle.pm_engine.specs.Covers.{CoversAll, IsRising, Run, of_key}
use Rattle.pm_engine.specs.Meaning.{Meaning}
use Rattle.pm_engine.specs.OfSchema.{meaning_of}
use Rattle.pm_model_following.specs.Groups.{rows_in}
use Rattle.pm_manifest.specs.declared.entry.Entry.{Entry}
use Rattle.pm_model_folder.specs.Entries.{rows_in_files}
use Rattle.pm_write.specs.Batch.{GroupRows, Groups, IsBatchOf, held_of, numbered}
use Rattle.pm_write.specs.Files.{IsNewFile, next_of}
use Rattle.pm_write.specs.declared.files.NewFile.{NewFile}
use Rattle.pm_append.specs.Commit.{AddsAtZero}
use Rattle.pm_made.specs.Delta.{added_entry}
use Rattle.pm_append.proofs.FileLemmas.{AreDataFiles}
use Rattle.pm_append.proofs.HeldLemmas.{groups-few, own-held, rows-held, rows_of_groups, some-covered}

-- ---- a run has at most as many rows as it covers

-- a run that has a key has a row of it
key-held : (key : Values) (run : Run) → is_member (eq_by_cmp key_cmp) (map (λ (x : Stamped). x.key) run) key ≡ true → of_key key run ≢ []
key-held key [] member = absurd (true≢false (sym member))
key-held key (x ∷ run) member = at (λ rest. key-held key run rest) (eq_by_cmp key_cmp key x.key) member
  where
    at : (is_member (eq_by_cmp key_cmp) (map (λ (x : Stamped). x.key) run) key ≡ true → of_key key run ≢ []) → (t : Bool)
        → (t || is_member (eq_by_cmp key_cmp) (map (λ (x : Stamped). x.key) run) key) ≡ true
        → cond t (x ∷ of_key key run) (of_key key run) ≢ []
    at later true is none = let no : x ∷ of_key key run ≡ [] = none in cc
    at later false is none = later is none

-- rows of which some have a key have it among their keys
key-among : (primary : List ℕ) (key : Values) (rows : List HistoryRow) → rows_of primary key rows ≢ []
    → is_member (eq_by_cmp key_cmp) (map (λ (r : HistoryRow). key_of primary r.1) rows) key ≡ true
key-among primary key [] some = absurd (some refl)
key-among primary key (r ∷ rows) some = at (λ more. key-among primary key rows more) (eq_by_cmp key_cmp key (key_of primary r.1)) some
  where
    at : (rows_of primary key rows ≢ [] → is_member (eq_by_cmp key_cmp) (map (λ (r : HistoryRow). key_of primary r.1) rows) key ≡ true) → (t : Bool)
        → cond t (r ∷ rows_of primary key rows) (rows_of primary key rows) ≢ []
        → (t || is_member (eq_by_cmp key_cmp) (map (λ (r : HistoryRow). key_of primary r.1) rows) key) ≡ true
    at later true some = refl
    at later false some = later some

run-few : (m : Meaning) (run : Run) (rows : List HistoryRow) → IsRising run → CoversAll m (run ∷ []) rows → length run ≤ length rows
run-few m run rows rising covers =
    let few = length-le_from_is_member key_equiv (map (λ (x : Stamped). x.key) run) (map (λ (r : HistoryRow). key_of m.primary r.1) rows)
    (IsDistinct-from_sorted key_cmp (map (λ (x : Stamped). x.key) run) rising)
    (λ key member. key-among m.primary key rows (some-covered m key run rows covers (key-held key run member))) in
    let left = length-map run (λ (x : Stamped). x.key) in
    let right = length-map rows (λ (r : HistoryRow). key_of m.primary r.1) in
    omega (arith, few, left, right)

-- ---- a batch

module _ (s : TableSchema) (rows : List HistoryRow) (batch : Groups) (is : IsBatchOf s rows batch) (next : BTreeMap Group ℕ) where
  -- the file of a group
  file-few : (names : Naming) (e : Group × GroupRows) (x : NewFile) → held_of e.0 batch ≡ Some e.1
      → IsNewFile s names e.0 (numbered (next_of next e.0) e.1.run) x → x.meta.rows ≤ length (rows_in s e.0 rows)
  file-few names e x held new =
      let of_group = (rows-held s (rows_in s e.0 rows) e.1 (own-held s rows batch e is held)).1 in
      let few = run-few (meaning_of s) e.1.run (rows_in s e.0 rows) of_group.rising of_group.covers in
      let many = new.file.made.meta.count in
      let same = length-map e.1.run (λ (x : Stamped). record x { seq = next_of next e.0 + x.seq }) in
      omega (arith, few, many, same)

  by-groups : (es : Groups) (names : Naming) (xs : List NewFile) → AllByRecursion (λ (e : Group × GroupRows). held_of e.0 batch ≡ Some e.1) es
      → AreDataFiles s next names es xs → rows_in_files (map (added_entry s) xs) ≤ rows_of_groups s rows es
  by-groups [] names [] held new = omega arith
  by-groups [] names (x ∷ xs) held new = absurd new
  by-groups (e ∷ es) names [] held new = absurd new
  by-groups (e ∷ es) names (x ∷ xs) held new =
      let few = file-few names e x held.0 new.0 in
      let rest = by-groups es (counted names) xs held.1 new.1 in
      let sum : rows_in_files (map (added_entry s) (x ∷ xs)) ≡ x.meta.rows + rows_in_files (map (added_entry s) xs) =
      sum_by-cons (λ (z : Entry). z.file.rows) (added_entry s x) (map (added_entry s) xs) in
      omega (arith, sum, few, rest)

  -- the files of all groups have at most as many rows as the batch took
  pub files-few : (names : Naming) (xs : List NewFile) → AllByRecursion (λ (e : Group × GroupRows). held_of e.0 batch ≡ Some e.1) batch
      → AreDataFiles s next names batch xs → rows_in_files (map (added_entry s) xs) ≤ length rows
  files-few names xs held new =
      let own = by-groups batch names xs held new in
      let all = groups-few s batch rows is.ordered in
      omega (arith, own, all)

-- ---- level 0

pub adds-at-zero : (s : TableSchema) (next : BTreeMap Group ℕ) (names : Naming) (batch : Groups) (xs : List NewFile) → AreDataFiles s next names batch xs
    → AllByRecursion AddsAtZero (map (added_entry s) xs)
adds-at-zero s next names [] [] new = tt
adds-at-zero s next names [] (x ∷ xs) new = absurd new
adds-at-zero s next names (e ∷ es) [] new = absurd new
adds-at-zero s next names (e ∷ es) (x ∷ xs) new =
    (record { add = refl; level = new.0.file.made.meta.levelled }, adds-at-zero s next (counted names) es xs new.1)
