-- Runs whose keys rise.
use Rattle.std.proofs.Common.{◌≡◌, [], ◌∷◌, ◌++◌, List, Vec, All, map, refl, ap, sym, subst}
use Rattle.std.specs.List.{AllByRecursion}
use Rattle.std.specs.declared.alloc.Global.{Global}
use Rattle.std.proofs.lemmas.List.{map-append}
use Rattle.std.proofs.lemmas.List.Elements.{All-push}
use Rattle.pm_values.specs.declared.record.Stamped.{Stamped}
use Rattle.pm_options.specs.declared.kinds.EngineKind.TheVariants as engines
use Rattle.pm_schema.specs.declared.schema.TableSchema.{TableSchema}
use Rattle.pm_engine.specs.Covers.{IsRising, Run}
use Rattle.pm_engines.specs.TableEngine.{HasEngine, Serves}
use Rattle.pm_merge.specs.Merge.{runs_of}
use Rattle.pm_merge.specs.Merging.{runs_in}
use Rattle.pm_run.specs.Form.{Form, form_of}
use Rattle.pm_scan_rows.specs.Stored.{AreGivenFor, rest_of, run_left}
use Rattle.pm_scan_rows.specs.declared.written_rows.WrittenRows.{WrittenRows}

-- one run more
pub rising_push : (runs new : List (Vec Stamped Global)) (run : Vec Stamped Global) → new ≡ runs ++ run ∷ [] → All IsRising (runs_of runs) → IsRising run.items → All IsRising (runs_of new)
rising_push runs new run items before rising =
    subst (λ rs. All IsRising (runs_of rs)) (sym items)
    (subst (All IsRising) (sym (map-append (λ (run : Vec Stamped Global). run.items) runs (run ∷ []))) (All-push IsRising (runs_of runs) run.items before rising))

-- so of runs that were read
pub rising_next : (runs new : List Run) (run : Run) → new ≡ runs ++ run ∷ [] → All IsRising runs → IsRising run → All IsRising new
rising_next runs new run is before rising = subst (All IsRising) (sym is) (All-push IsRising runs run before rising)

rows_left_in : (sources : List WrittenRows) → runs_in (map (λ r. rest_of r.rows) sources) ≡ map (λ r. run_left r.rows) sources
rows_left_in [] = refl
rows_left_in (r ∷ sources) = ap (λ (runs : List Run). run_left r.rows ∷ runs) (rows_left_in sources)

-- what is left of rising runs rises
pub rising_sources : (sources : List WrittenRows) (runs : List Run) → map (λ r. run_left r.rows) sources ≡ runs → All IsRising runs → All IsRising (runs_in (map (λ r. rest_of r.rows) sources))
rising_sources sources runs are rising = subst (All IsRising) (sym (rows_left_in sources)) (subst (All IsRising) (sym are) rising)

-- the form of a schema is that of the files that are written of it
pub given_for : (sources : List WrittenRows) (f : Form) (s : TableSchema) → f ≡ form_of s → AllByRecursion (AreGivenFor f) sources → AllByRecursion (λ r. AreGivenFor (form_of s) r) sources
given_for sources f s same given = subst (λ (h : Form). AllByRecursion (λ r. AreGivenFor h r) sources) same given

-- ---- the engine

-- a schema that names the engine of last rows has one
pub serves_last : (s : TableSchema) → s.options.engine ≡ engines.Deduplicate → HasEngine s
serves_last s is = subst (λ kind. Serves kind s) (sym is) tt
