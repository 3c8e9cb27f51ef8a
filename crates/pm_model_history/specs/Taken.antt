-- What an engine takes: the verdict on a row, by its kind alone.
use Rattle.std.specs.Prelude.{ℕ, List, [], ◌∷◌, Bool, true, false, not, ◌&&◌, Option, Some, None, if◌then◌else◌, unwrap_or}
use Rattle.std.specs.List.{position}
use Rattle.pm_options.specs.Entries.{entry_at}
use Rattle.pm_options.specs.declared.kinds.EngineKind.{EngineKind}
use Rattle.pm_options.specs.declared.kinds.EngineKind.TheVariants as engines
use Rattle.pm_options.specs.declared.kinds.Function.{Function}
use Rattle.pm_options.specs.declared.kinds.Function.TheVariants as functions
use Rattle.pm_schema.specs.Rules.{is_among}
use Rattle.pm_schema.specs.declared.schema.TableSchema.{TableSchema}
use Rattle.pm_values.specs.Kind.{retracts}
use Rattle.pm_values.specs.declared.column.Column.{Column}
use Rattle.pm_values.specs.declared.kind.Kind.{Kind}
use Rattle.pm_values.specs.declared.kind.Kind.TheVariants.{Insert}
use Rattle.pm_model_history.specs.declared.verdict.Verdict.{Verdict}
use Rattle.pm_model_history.specs.declared.verdict.Verdict.TheVariants.{Take, Ignore, Refuse, RefuseAll}

-- the column is one of the primary key
abbrev pub is_key : TableSchema → Column → Bool
is_key s c = is_among s.primary c.name

-- the function of a column: the last value that isn't null, where no other is set
abbrev pub function_of : TableSchema → Column → Function
function_of s c = unwrap_or (entry_at c.name s.options.functions) functions.LastNonNullValue

-- the column skips the rows that retract
abbrev pub skips_retractions : TableSchema → Column → Bool
skips_retractions s c = unwrap_or (entry_at c.name s.options.ignore_retract) false

-- the functions that take a row that retracts: one can be subtracted from a sum, and be the last of a column
abbrev pub takes_retractions : Function → Bool
takes_retractions functions.Sum = true
takes_retractions functions.LastValue = true
takes_retractions function = false

-- the column is none of the key, doesn't skip the rows that retract, and its function takes none
abbrev pub refuses_retractions : TableSchema → Column → Bool
refuses_retractions s c =
    not (is_key s c) && (not (skips_retractions s c) && not (takes_retractions (function_of s c)))

-- a row that is refused because of the column at the index, or taken where there is none
abbrev pub refused_at : Option ℕ → Verdict
refused_at None = Take
refused_at (Some index) = Refuse index

-- with partial updates a row that retracts is taken where there is a sequence group
abbrev pub taken_with : List (List ℕ × List (List ℕ)) → Verdict
taken_with [] = RefuseAll
taken_with (group ∷ groups) = Take

-- the verdict of an engine on a row that retracts; aggregation names the first column that refuses it
abbrev pub verdict_by : EngineKind → TableSchema → Verdict
verdict_by engines.Deduplicate s = Take
verdict_by engines.FirstRow s = RefuseAll
verdict_by engines.PartialUpdate s = taken_with s.options.groups
verdict_by engines.Aggregation s = refused_at (position (refuses_retractions s) s.columns)

-- the verdict on a row of the kind: one that adds is taken, and one that retracts may be ignored by an option
abbrev pub verdict : TableSchema → Kind → Verdict
verdict s kind =
    if retracts kind then (if s.options.ignore_delete then Ignore else verdict_by s.options.engine s) else Take

-- the kinds that a row stored for a key may have: with deduplication all, with first rows those that add, else one
abbrev pub stores_by : EngineKind → Kind → Bool
stores_by engines.Deduplicate kind = true
stores_by engines.FirstRow kind = not (retracts kind)
stores_by engine Insert = true
stores_by engine kind = false

-- a row stored for a key of the schema may have the kind
abbrev pub stores : TableSchema → Kind → Bool
stores s kind = stores_by s.options.engine kind
