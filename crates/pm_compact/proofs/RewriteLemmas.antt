-- Rows that are given one after another and written, unless they are left out.
use Rattle.std.proofs.Common.{◌≡◌, Bool, true, false, Option, None, Some, is_none, List, [], ◌∷◌, ◌++◌, not, refl, sym, subst}
use Rattle.std.specs.List.{AllByRecursion}
use Rattle.std.proofs.lemmas.List.Elements.{filter-append}
use Rattle.pm_values.specs.declared.record.Stamped.{Stamped}
use Rattle.pm_schema.specs.declared.schema.TableSchema.{TableSchema}
use Rattle.pm_engine.specs.Covers.{IsRising, Run, row_of}
use Rattle.pm_engine.specs.Meaning.{Meaning}
use Rattle.pm_engine.specs.OfSchema.{meaning_of}
use Rattle.pm_merge.specs.Merge.{AreStored, IsMerge, without_droppable}
use Rattle.pm_run.specs.Row.{IsOfFile}
use Rattle.pm_compact.specs.Rewritten.{HaveFileNumbers, kept_rows}
use Rattle.pm_compact.proofs.ReadLemmas.{OwnKinds, StoredAgain, kept_of_file}

-- nothing is kept of no rows
pub kept_none : (m : Meaning) (drop : Bool) → kept_rows m drop [] ≡ []
kept_none m true = refl
kept_none m false = refl

-- a row stands in a place that isn't empty
pub some_stands : (place : Option Stamped) → is_none place ≡ false → (x : Stamped) × (place ≡ Some x)
some_stands None is = cc
some_stands (Some x) is = (x, refl)

pub none_stands : (place : Option Stamped) → is_none place ≡ true → place ≡ None
none_stands None is = refl
none_stands (Some x) is = cc

-- what is kept of rows with one more
pub kept_push : (m : Meaning) (drop : Bool) (run : Run) (x : Stamped) → kept_rows m drop (run ++ x ∷ []) ≡ kept_rows m drop run ++ kept_rows m drop (x ∷ [])
kept_push m true run x = filter-append (λ (s : Stamped). not (m.drops (row_of s))) run (x ∷ [])
kept_push m false run x = refl

-- a droppable row is left out, and any other is kept
pub none_kept : (m : Meaning) (drop : Bool) (x : Stamped) → drop ≡ true → m.drops (row_of x) ≡ true → kept_rows m drop (x ∷ []) ≡ []
none_kept m true x leaves drops = rw drops refl
none_kept m false x leaves drops = let no : false ≡ true = leaves in cc

pub one_kept : (m : Meaning) (drop : Bool) (x : Stamped) → (drop ≡ true → m.drops (row_of x) ≡ false) → kept_rows m drop (x ∷ []) ≡ x ∷ []
one_kept m true x keeps = rw (keeps refl) refl
one_kept m false x keeps = refl

-- of a run that rises the rows that are kept rise
pub kept_rises : ((m : Meaning) (run : Run) → IsRising run → IsRising (without_droppable m run)) → (m : Meaning) (drop : Bool) (run : Run) → IsRising run → IsRising (kept_rows m drop run)
kept_rises rising m true run is = rising m run is
kept_rises rising m false run is = is

-- the rows that are kept of runs of a table's stored rows are ones that its data files can have
pub kept_readable : OwnKinds → StoredAgain → (s : TableSchema) (m : Meaning) (drop : Bool) (runs : List Run) (run : Run) → IsMerge m runs run → m ≡ meaning_of s → AreStored m runs
    → HaveFileNumbers runs → AllByRecursion (IsOfFile s false) (kept_rows m drop run)
kept_readable own_kinds again s m drop runs run merge same stored numbered =
    subst (λ (n : Meaning). AllByRecursion (IsOfFile s false) (kept_rows n drop run)) (sym same)
    (kept_of_file own_kinds again s runs run (subst (λ (n : Meaning). AreStored n runs) same stored) (subst (λ (n : Meaning). IsMerge n runs run) same merge) drop numbered)
