-- The function of a column: which one a schema gives it, and what it means.
use Rattle.std.specs.Prelude.{Option, Some, None, if◌then◌else◌}
use Rattle.pm_options.specs.declared.kinds.Function.{Function}
use Rattle.pm_options.specs.declared.kinds.Function.TheVariants as names
use Rattle.pm_schema.specs.declared.schema.TableSchema.{TableSchema}
use Rattle.pm_values.specs.declared.column.Column.{Column}
use Rattle.pm_model_history.specs.ColumnValue.{delimiter_of}
use Rattle.pm_model_history.specs.Taken.{function_of, is_key, skips_retractions}
use Rattle.pm_aggregate.specs.Column.{ColumnMeaning}
use Rattle.pm_aggregate.specs.Functions.{all_of, any_of, first_non_null_of, first_of, greatest_of, joined_of}
use Rattle.pm_aggregate.specs.Functions.{last_non_null_of, last_of, least_of, sum_of}
use Rattle.pm_aggregate.specs.declared.column_function.ColumnFunction.{ColumnFunction}
use Rattle.pm_aggregate.specs.declared.column_function.ColumnFunction.TheVariants as functions

-- what a function means
abbrev pub meaning_of : ColumnFunction → ColumnMeaning
meaning_of (functions.Sum f) = sum_of f.kind f.skips
meaning_of (functions.Max f) = greatest_of f.kind f.skips
meaning_of (functions.Min f) = least_of f.kind f.skips
meaning_of (functions.LastValue f) = last_of f.kind
meaning_of (functions.LastNonNullValue f) = last_non_null_of f.kind f.skips
meaning_of (functions.FirstValue f) = first_of f.kind
meaning_of (functions.FirstNonNullValue f) = first_non_null_of f.kind f.skips
meaning_of (functions.ListAgg f) = joined_of f.kind f.skips f.delimiter
meaning_of (functions.BoolAnd f) = all_of f.kind f.skips
meaning_of (functions.BoolOr f) = any_of f.kind f.skips

-- the function of a name, for a column
abbrev pub function_by : Function → TableSchema → Column → ColumnFunction
function_by names.Sum s c = functions.Sum (record { kind = c.kind; skips = skips_retractions s c })
function_by names.Max s c = functions.Max (record { kind = c.kind; skips = skips_retractions s c })
function_by names.Min s c = functions.Min (record { kind = c.kind; skips = skips_retractions s c })
function_by names.LastValue s c = functions.LastValue (record { kind = c.kind })
function_by names.LastNonNullValue s c =
    functions.LastNonNullValue (record { kind = c.kind; skips = skips_retractions s c })
function_by names.FirstValue s c = functions.FirstValue (record { kind = c.kind })
function_by names.FirstNonNullValue s c =
    functions.FirstNonNullValue (record { kind = c.kind; skips = skips_retractions s c })
function_by names.ListAgg s c =
    functions.ListAgg (record { kind = c.kind; skips = skips_retractions s c; delimiter = delimiter_of s c })
function_by names.BoolAnd s c = functions.BoolAnd (record { kind = c.kind; skips = skips_retractions s c })
function_by names.BoolOr s c = functions.BoolOr (record { kind = c.kind; skips = skips_retractions s c })

-- the function that the schema gives to a column outside the key
abbrev pub function_on : TableSchema → Column → Option ColumnFunction
function_on s c = if is_key s c then None else Some (function_by (function_of s c) s c)
