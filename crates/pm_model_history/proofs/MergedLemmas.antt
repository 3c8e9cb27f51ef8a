-- What the merged table of a schema has at a key.
use Rattle.std.proofs.Common.{◌≡◌, List, [], false, cond, Some, None, refl, ap, ◌∙◌}
use Rattle.std.specs.FinMap.{get}
use Rattle.pm_values.specs.Order.{Values}
use Rattle.pm_schema.specs.declared.schema.TableSchema.{TableSchema}
use Rattle.pm_options.specs.declared.kinds.EngineKind.TheVariants.{Deduplicate, FirstRow, PartialUpdate, Aggregation}
use Rattle.pm_options.specs.declared.kinds.EngineKind.{EngineKind}
use Rattle.pm_model_history.specs.Merge.{HistoryRow}
use Rattle.pm_model_history.specs.Merged.{primary_of, shows, shows_by, values_of, merged_row, merged}
use Rattle.pm_model_history.proofs.MergeLemmas.{get-rows}

-- with no engine a key without rows shows
shows_by-none : (engine : EngineKind) → shows_by engine [] ≡ false
shows_by-none Deduplicate = refl
shows_by-none FirstRow = refl
shows_by-none PartialUpdate = refl
shows_by-none Aggregation = refl

pub get-table : (s : TableSchema) (rows : List HistoryRow) (q : Values) → get (merged s rows) q ≡ merged_row s rows q
get-table s rows q =
    get-rows (primary_of s) (merged_row s rows) rows q
    (λ e. ap (λ own. cond (shows s own) (Some (values_of s own)) None) e
    ∙ ap (λ b. cond b (Some (values_of s [])) None) (shows_by-none s.options.engine))
