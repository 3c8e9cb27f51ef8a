-- The files of a run are read each as its own rows.
use Rattle.std.proofs.Common.{◌≡◌, ℕ, zero, suc, ◌≤◌, true, false, List, [], ◌∷◌, ◌++◌, length, take, drop, None, refl, sym, ap, subst, ◌∙◌, append-nil, arith}
use Rattle.std.specs.List.{AllByRecursion}
use Rattle.std.proofs.lemmas.List.{take-append-drop}
use Rattle.pm_base.proofs.Laws.{AllByRecursion-parts}
use Rattle.pm_schema.specs.declared.schema.TableSchema.{TableSchema}
use Rattle.pm_values.specs.Names.{Naming, counted, name_of}
use Rattle.pm_values.specs.declared.record.Stamped.{Stamped}
use Rattle.pm_run.specs.Order.{are_in_order}
use Rattle.pm_run.specs.Row.{IsOfFile}
use Rattle.pm_run.specs.Rows.{HasRows}
use Rattle.pm_run.specs.Writing.{AreFilesOf, AreRising, IsFileWith, IsRun, bytes_of, data_prefix, suffix}
use Rattle.pm_run.specs.declared.run.RunFile.{RunFile}
use Rattle.pm_run.proofs.OrderLemmas.{in_order-parts, in_order_rising, rising_in_order}
use Rattle.pm_run_writer.specs.Written.{HasNames}
use Rattle.pm_compact.specs.Rewritten.{HaveOwnRows, most_in_file}

-- files of rows are read as one run
abbrev pub ReadsFiles : Type 0
ReadsFiles = (s : TableSchema) (limit level : ℕ) (names : Naming) (rows : List Stamped) (files : List RunFile) → HasNames s → 1 ≤ limit → AreFilesOf s limit level names rows files
    → AllByRecursion (IsOfFile s false) rows → AreRising rows → IsRun s (bytes_of files) rows

-- ---- the first of rows

take_twice : (n : ℕ) (rows : List Stamped) → take n (take n rows) ≡ take n rows
take_twice zero rows = refl
take_twice (suc n) [] = refl
take_twice (suc n) (x ∷ rows) = ap (λ (xs : List Stamped). x ∷ xs) (take_twice n rows)

drop_taken : (n : ℕ) (rows : List Stamped) → drop n (take n rows) ≡ []
drop_taken zero rows = refl
drop_taken (suc n) [] = refl
drop_taken (suc n) (x ∷ rows) = drop_taken n rows

taken_some : (n : ℕ) (rows : List Stamped) → 1 ≤ n → 1 ≤ length rows → 1 ≤ length (take n rows)
taken_some zero rows positive some = absurd (omega arith)
taken_some (suc n) [] positive some = absurd (omega arith)
taken_some (suc n) (x ∷ rows) positive some = omega arith

-- ---- a file

-- each file is read as the next rows, at most so many
abbrev OwnRows : TableSchema → ℕ → List RunFile → List Stamped → Type 0
OwnRows s most [] rows = rows ≡ []
OwnRows s most (f ∷ files) rows = HasRows s false f.bytes (take most rows) × OwnRows s most files (drop most rows)

module _ (reads : ReadsFiles) (s : TableSchema) (differ : HasNames s) (level most : ℕ) (positive : 1 ≤ most) where
  -- the first file has the first rows
  read_first : (names : Naming) (rows : List Stamped) (f : RunFile) → 1 ≤ length rows
      → IsFileWith s level names.session (name_of data_prefix suffix names) (take most rows) f → AllByRecursion (IsOfFile s false) (take most rows)
      → AreRising (take most rows) → HasRows s false f.bytes (take most rows)
  read_first names rows f some is each rising =
      let one : AreFilesOf s most level names (take most rows) (f ∷ []) = (
        taken_some most rows positive some,
        subst (λ (xs : List Stamped). IsFileWith s level names.session (name_of data_prefix suffix names) xs f) (sym (take_twice most rows)) is,
        drop_taken most rows,
      ) in
      let (first, later, split, has, none) = (reads s most level names (take most rows) (f ∷ []) differ positive one each rising).have in
      subst (HasRows s false f.bytes) (sym (split ∙ ap (λ (xs : List Stamped). first ++ xs) none ∙ append-nil first)) has

  read_each : (files : List RunFile) (names : Naming) (rows : List Stamped) → AreFilesOf s most level names rows files → AllByRecursion (IsOfFile s false) rows
      → are_in_order false None rows ≡ true → OwnRows s most files rows
  read_each [] names rows are each order = are
  read_each (f ∷ files) names rows are each order =
      let split = take-append-drop most rows in
      let parts = AllByRecursion-parts (IsOfFile s false) (take most rows) (drop most rows) (subst (AllByRecursion (IsOfFile s false)) (sym split) each) in
      let ordered = in_order-parts false None (take most rows) (drop most rows) (subst (λ (xs : List Stamped). are_in_order false None xs ≡ true) (sym split) order) in (
        read_first names rows f are.0 are.1 parts.0 (in_order_rising (take most rows) ordered.0),
        read_each files (counted names) (drop most rows) are.2 parts.1 ordered.1,
      )

-- all of them, and one by one
pub read_whole : ReadsFiles → (s : TableSchema) (level : ℕ) (names : Naming) (rows : List Stamped) (files : List RunFile) → HasNames s
    → AreFilesOf s most_in_file level names rows files → AllByRecursion (IsOfFile s false) rows → AreRising rows
    → IsRun s (bytes_of files) rows × HaveOwnRows s files rows
read_whole reads s level names rows files differ are each rising = (
  reads s most_in_file level names rows files differ (omega arith) are each rising,
  at files rows (read_each reads s differ level most_in_file (omega arith) files names rows are each (rising_in_order rows rising)),
)
  where
    at : (files : List RunFile) (rows : List Stamped) → OwnRows s most_in_file files rows → HaveOwnRows s files rows
    at [] rows own = own
    at (f ∷ files) rows own = (own.0, at files (drop most_in_file rows) own.1)
