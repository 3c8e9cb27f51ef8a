-- The one file of a run whose rows are counted from a number.
use Rattle.std.proofs.Common.{◌≡◌, ℕ, suc, ◌+◌, ◌<◌, ◌≤◌, List, [], ◌∷◌, ◌++◌, map, length, take, get_or, false, refl, sym, ap, subst, ◌∙◌, append-nil, arith}
use Rattle.std.specs.List.{AllByRecursion}
use Rattle.std.proofs.Math.Seq.{take-suc}
use Rattle.std.proofs.lemmas.List.{drop_all, map-append, take_all}
use Rattle.pm_values.specs.Names.{Naming, name_of}
use Rattle.pm_values.specs.Order.{Values}
use Rattle.pm_values.specs.declared.kind.Kind.TheVariants as kinds
use Rattle.pm_values.specs.declared.record.Stamped.{Stamped}
use Rattle.pm_schema.specs.declared.schema.TableSchema.{TableSchema}
use Rattle.pm_engine.specs.Covers.{IsRising, Run}
use Rattle.pm_run.specs.Row.{IsOfFile}
use Rattle.pm_run.specs.Rows.{HasRows}
use Rattle.pm_run.specs.Writing.{AreFilesOf, AreRising, HaveRows, IsFileWith, IsRun, bytes_of, data_prefix, suffix}
use Rattle.pm_run.specs.declared.run.RunFile.{RunFile}
use Rattle.pm_run_writer.specs.Written.{HasNames}
use Rattle.pm_write.specs.Batch.{numbered}
use Rattle.pm_write.specs.Files.{IsFileOfRun}
use Rattle.pm_write.specs.Held.{counted_from}

-- some row, where a list has one at an index anyway
pub blank : Stamped
blank = record { key = []; seq = 0; kind = kinds.Insert; row = [] }

-- one row more
pub numbered_more : (n : ℕ) (rows : Run) (i : ℕ) → i < length rows → numbered n (take i rows) ++ counted_from n (get_or rows i blank) ∷ [] ≡ numbered n (take (i + 1) rows)
numbered_more n rows i inside =
    let next : suc i ≡ i + 1 = omega arith in
    sym (map-append (counted_from n) (take i rows) (get_or rows i blank ∷ []))
    ∙ ap (numbered n) (sym (take-suc rows i blank inside))
    ∙ ap (λ (k : ℕ). numbered n (take k rows)) next

keys_numbered : (n : ℕ) (run : Run) → map (λ (x : Stamped). x.key) (numbered n run) ≡ map (λ (x : Stamped). x.key) run
keys_numbered n [] = refl
keys_numbered n (x ∷ xs) = ap (λ (ks : List Values). x.key ∷ ks) (keys_numbered n xs)

rising_numbered : (n : ℕ) (run : Run) → IsRising run → AreRising (numbered n run)
rising_numbered n run rising = rw (keys_numbered n run) rising

-- the only file of rows has them
only_rows : (s : TableSchema) (bytes : List ℕ) (rows : Run) → HaveRows s (bytes ∷ []) rows → HasRows s false bytes rows
only_rows s bytes rows (first, later, whole, has, none) =
    subst (HasRows s false bytes) (sym (whole ∙ ap (λ (xs : Run). first ++ xs) none ∙ append-nil first)) has

-- the file that was written of all rows
pub only_file : (s : TableSchema) (limit : ℕ) (names : Naming) (n : ℕ) (run : Run) (f : RunFile)
    → ((s : TableSchema) (limit level : ℕ) (names : Naming) (rows : List Stamped) (files : List RunFile) → HasNames s → 1 ≤ limit → AreFilesOf s limit level names rows files
    → AllByRecursion (IsOfFile s false) rows → AreRising rows → IsRun s (bytes_of files) rows)
    → HasNames s → 1 ≤ limit → length (numbered n run) ≤ limit → 1 ≤ length (numbered n run) → IsRising run
    → IsFileWith s 0 names.session (name_of data_prefix suffix names) (numbered n run) f → IsFileOfRun s names (numbered n run) f
only_file s limit names n run f law differ positive most some rising file =
    let rows = numbered n run in
    let first : IsFileWith s 0 names.session (name_of data_prefix suffix names) (take limit rows) f =
    subst (λ (xs : Run). IsFileWith s 0 names.session (name_of data_prefix suffix names) xs f) (sym (take_all limit rows most)) file in
    record {
      made = file;
      again = λ all. only_rows s f.bytes rows (law s limit 0 names rows (f ∷ []) differ positive (some, first, drop_all limit rows most) all (rising_numbered n run rising)).have;
    }
