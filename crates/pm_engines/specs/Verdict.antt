-- The verdict on a row with the name of the column that refuses it.
use Rattle.std.specs.Prelude.{ℕ, List, codes, slice_get}
use Rattle.std.specs.Option.{option_map_or}
use Rattle.pm_values.specs.declared.column.Column.{Column}
use Rattle.pm_values.specs.declared.kind.Kind.{Kind}
use Rattle.pm_schema.specs.declared.schema.TableSchema.{TableSchema}
use Rattle.pm_model_history.specs.Taken.{verdict}
use Rattle.pm_model_history.specs.declared.verdict.Verdict.{Verdict as VerdictByIndex}
use Rattle.pm_model_history.specs.declared.verdict.Verdict.TheVariants as by_index
use Rattle.pm_engines.specs.declared.verdict.Verdict.{Verdict}
use Rattle.pm_engines.specs.declared.verdict.Verdict.TheVariants.{Take, Ignore, Refuse}

-- what stands for a column where a row is refused as a whole
abbrev pub whole : List ℕ
whole = codes "*"

-- the name of the column at the index
abbrev pub name_at : List Column → ℕ → List ℕ
name_at columns index = option_map_or (λ (c : Column). c.name) (slice_get columns index) whole

-- a verdict with the name of the column in the place of its index
abbrev pub named : List Column → VerdictByIndex → Verdict
named columns by_index.Take = Take
named columns by_index.Ignore = Ignore
named columns (by_index.Refuse index) = Refuse (name_at columns index)
named columns by_index.RefuseAll = Refuse whole

-- the verdict of the schema's engine on a row of the kind
abbrev pub verdict_on : TableSchema → Kind → Verdict
verdict_on s kind = named s.columns (verdict s kind)
