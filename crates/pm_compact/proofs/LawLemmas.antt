-- What the files of a compaction are as a run of its group.
use Rattle.std.proofs.Common.{◌≡◌, ◌↔◌, inl, inr, ℕ, zero, suc, ◌≤◌, Bool, true, false, List, [], ◌∷◌, length, take, drop, refl, sym, subst, arith}
use Rattle.std.specs.List.{AllByRecursion}
use Rattle.pm_schema.specs.declared.schema.TableSchema.{TableSchema}
use Rattle.pm_values.specs.Names.{Naming, counted}
use Rattle.pm_values.specs.declared.record.Stamped.{Stamped}
use Rattle.pm_engine.specs.Covers.{Run}
use Rattle.pm_engine.specs.Meaning.{DropsNoEffect, Meaning}
use Rattle.pm_engine.specs.OfSchema.{meaning_of}
use Rattle.pm_merge.specs.Merge.{IsMerge, Replaces, ReplacesOldest, without_droppable}
use Rattle.pm_merge.specs.Merging.{runs_in}
use Rattle.pm_merge.specs.Source.{Rest}
use Rattle.pm_run.specs.Writing.{AreFilesOf}
use Rattle.pm_run.specs.declared.run.RunFile.{RunFile}
use Rattle.pm_runs.specs.Stand.{top_of}
use Rattle.pm_runs.specs.Succession.{KnownRun, MayTakePlace, TakeOldestPlace, TakePlace, from_oldest, unless_empty}
use Rattle.pm_compact.specs.Made.{IsMadeAt, IsRunOf, TakesPlace, made_run}
use Rattle.pm_compact.specs.Rewritten.{AreRewritten, IsRewritten, most_in_file}

-- ---- parts of rows

taken_within : (n : ℕ) (rows : List Stamped) → length (take n rows) ≤ n
taken_within zero rows = omega arith
taken_within (suc n) [] = omega arith
taken_within (suc n) (x ∷ rows) = omega (arith, taken_within n rows)

taken_some : (n : ℕ) (rows : List Stamped) → 1 ≤ n → 1 ≤ length rows → 1 ≤ length (take n rows)
taken_some zero rows positive some = absurd (omega arith)
taken_some (suc n) [] positive some = absurd (omega arith)
taken_some (suc n) (x ∷ rows) positive some = omega arith

within_most : (a b c : ℕ) → a ≤ b → b ≤ c → a ≤ c
within_most a b c first second = omega arith

-- ---- files

-- no files are those of no rows
none_made : (s : TableSchema) (level : ℕ) (names : Naming) (run : Run) (files : List RunFile) → AreFilesOf s most_in_file level names run files → (files ≡ []) ↔ (run ≡ [])
none_made s level names run [] are = (λ _. are, λ _. refl)
none_made s level names [] (f ∷ files) are = absurd (omega (arith, are.0))
none_made s level names (x ∷ run) (f ∷ files) are = (λ none. cc, λ none. cc)

pub rewritten_none : (s : TableSchema) (m : Meaning) (drop : Bool) (level : ℕ) (names : Naming) (rests : List Rest) (files : List RunFile) → (are : AreRewritten s m drop level names rests files)
    → (files ≡ []) ↔ (are.run ≡ [])
rewritten_none s m drop level names rests files are = none_made s level names are.run files are.files

-- what each file tells
files_made : (s : TableSchema) (most level : ℕ) (names : Naming) (run : Run) (files : List RunFile) → 1 ≤ most → most ≤ most_in_file → AreFilesOf s most level names run files → AllByRecursion (IsMadeAt level) files
files_made s most level names run [] positive within are = tt
files_made s most level names run (f ∷ files) positive within are =
    let count = are.1.meta.count in
    let least = taken_some most run positive are.0 in
    let greatest = taken_within most run in (
      record { level_is = are.1.meta.levelled; some = subst (λ (n : ℕ). 1 ≤ n) (sym count) least; most = subst (λ (n : ℕ). n ≤ most_in_file) (sym count) (within_most (length (take most run)) most most_in_file greatest within) },
      files_made s most level (counted names) (drop most run) files positive within are.2,
    )

pub rewritten_told : (s : TableSchema) (m : Meaning) (drop : Bool) (level : ℕ) (names : Naming) (rests : List Rest) (files : List RunFile) → AreRewritten s m drop level names rests files
    → AllByRecursion (IsMadeAt level) files
rewritten_told s m drop level names rests files are = files_made s most_in_file level names are.run files (omega arith) (omega arith) are.files

-- at most one run, with these files
pub rewritten_one : (level newest : ℕ) (run : Run) (files : List RunFile) → (length (made_run level newest run files) ≤ 1) × AllByRecursion (IsRunOf level newest run files) (made_run level newest run files)
rewritten_one level newest run [] = (omega arith, tt)
rewritten_one level newest run (f ∷ files) = (omega arith, (record { level_is = refl; newest_is = refl; rows_are = refl; files_are = refl; some = λ none. cc }, tt))

-- the rows of the run that files are
made_rows : (s : TableSchema) (level newest : ℕ) (names : Naming) (run : Run) (files : List RunFile) → AreFilesOf s most_in_file level names run files → from_oldest (made_run level newest run files) ≡ unless_empty run
made_rows s level newest names [] [] are = refl
made_rows s level newest names (x ∷ run) [] are = cc
made_rows s level newest names [] (f ∷ files) are = absurd (omega (arith, are.0))
made_rows s level newest names (x ∷ run) (f ∷ files) are = refl

-- ---- what the crates below prove

abbrev pub ReplacesRuns : Type 0
ReplacesRuns = (m : Meaning) (runs : List Run) (run : Run) → IsMerge m runs run → Replaces m runs run

abbrev pub ReplacesOldestRuns : Type 0
ReplacesOldestRuns = (m : Meaning) (runs : List Run) (run : Run) → DropsNoEffect m → IsMerge m runs run → ReplacesOldest m runs (without_droppable m run)

abbrev pub LeavesEmpty : Type 0
LeavesEmpty = (m : Meaning) (old : List Run) (run : Run) → TakePlace m old (run ∷ []) → TakePlace m old (unless_empty run)

abbrev pub LeavesOldestEmpty : Type 0
LeavesOldestEmpty = (m : Meaning) (old : List Run) (run : Run) → TakeOldestPlace m old (run ∷ []) → TakeOldestPlace m old (unless_empty run)

module _ (replaces : ReplacesRuns) (oldest : ReplacesOldestRuns) (place : LeavesEmpty) (oldest_place : LeavesOldestEmpty) where
  -- the run takes the place of the runs
  pub rewritten_place : (m : Meaning) (drop : Bool) (runs : List Run) (run : Run) → DropsNoEffect m → IsRewritten m drop runs run → TakesPlace m drop runs run
  rewritten_place m true runs run none (merged, is, same) =
      oldest_place m runs run (subst (λ (r : Run). TakeOldestPlace m runs (r ∷ [])) (sym same) (oldest m runs merged none is))
  rewritten_place m false runs run none (merged, is, same) =
      let r = replaces m runs merged is in
      place m runs run (subst (λ (r : Run). TakePlace m runs (r ∷ [])) (sym same) (record { some = r.some; all = r.all }))

  pub rewritten_stands : (s : TableSchema) (drop : Bool) (level newest : ℕ) (names : Naming) (rests : List Rest) (files : List RunFile) (taken older : List KnownRun) → DropsNoEffect (meaning_of s)
      → from_oldest taken ≡ runs_in rests → (drop ≡ true → (level ≡ top_of s) × (older ≡ [])) → (are : AreRewritten s (meaning_of s) drop level names rests files)
      → MayTakePlace s level taken older (made_run level newest are.run files)
  rewritten_stands s drop level newest names rests files taken older none from may are =
      by_drop drop may (rewritten_place (meaning_of s) drop (runs_in rests) are.run none are.is)
    where
      rows : from_oldest (made_run level newest are.run files) ≡ unless_empty are.run
      rows = made_rows s level newest names are.run files are.files

      by_drop : (leaves : Bool) → (leaves ≡ true → (level ≡ top_of s) × (older ≡ [])) → TakesPlace (meaning_of s) leaves (runs_in rests) are.run
          → MayTakePlace s level taken older (made_run level newest are.run files)
      by_drop true only takes =
          inr ((only refl).0, (only refl).1, subst (λ (new : List Run). TakeOldestPlace (meaning_of s) (from_oldest taken) new) (sym rows) (subst (λ (old : List Run). TakeOldestPlace (meaning_of s) old (unless_empty are.run)) (sym from) takes))
      by_drop false only takes =
          inl (subst (λ (new : List Run). TakePlace (meaning_of s) (from_oldest taken) new) (sym rows) (subst (λ (old : List Run). TakePlace (meaning_of s) old (unless_empty are.run)) (sym from) takes))
