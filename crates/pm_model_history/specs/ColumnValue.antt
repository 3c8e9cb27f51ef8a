-- What a column is worth over all rows of one key, in their order: a closed form for each engine, and for each
-- aggregate function.
use Rattle.std.specs.Prelude.{ℕ, ◌==◌, ℤ, pos, ◌+ℤ◌, neg_ℤ, List, [], ◌∷◌, map, filter, codes, Bool, true, false, not, ◌&&◌, ◌||◌, Option, Some, None, if◌then◌else◌, unwrap_or, slice_get}
use Rattle.std.specs.Int.{Width, w8, w16, w32, w64, int_wrap}
use Rattle.std.specs.List.{filter_map, find, join_by, last_or, list_all, list_any, position_or_len}
use Rattle.std.specs.Option.{option_map, option_map_or}
use Rattle.std.specs.Ordering.{is_le, is_ge}
use Rattle.std.specs.Str.{bytes_eq}
use Rattle.std.specs.declared.cmp.Ordering.{Ordering}
use Rattle.pm_options.specs.Entries.{entry_at}
use Rattle.pm_options.specs.declared.kinds.EngineKind.{EngineKind}
use Rattle.pm_options.specs.declared.kinds.EngineKind.TheVariants as engines
use Rattle.pm_options.specs.declared.kinds.Function.{Function}
use Rattle.pm_options.specs.declared.kinds.Function.TheVariants as functions
use Rattle.pm_schema.specs.Rules.{is_among}
use Rattle.pm_schema.specs.declared.schema.TableSchema.{TableSchema}
use Rattle.pm_values.specs.Kind.{retracts}
use Rattle.pm_values.specs.Order.{Values, value_cmp}
use Rattle.pm_values.specs.declared.column.ColType.{ColType}
use Rattle.pm_values.specs.declared.column.ColType.TheVariants as types
use Rattle.pm_values.specs.declared.column.Column.{Column}
use Rattle.pm_values.specs.declared.value.Value.{Value}
use Rattle.pm_values.specs.declared.value.Value.TheVariants.{Null, Bool as Truth, Int, Text}
use Rattle.pm_model_history.specs.Merge.{HistoryRow, value_at}
use Rattle.pm_model_history.specs.Taken.{is_key, function_of, skips_retractions}

-- ---- values and rows

-- the values of a column in rows
abbrev pub values_at : ℕ → List HistoryRow → Values
values_at index rows = map (λ r. value_at r.1 index) rows

abbrev pub is_null : Value → Bool
is_null Null = true
is_null value = false

-- the values that aren't null
abbrev pub non_null : Values → Values
non_null values = filter (λ value. not (is_null value)) values

-- the first of values, null where there is none
abbrev pub first_value : Values → Value
first_value [] = Null
first_value (value ∷ values) = value

-- the last of values, null where there is none
abbrev pub last_value : Values → Value
last_value values = unwrap_or (last_or None values) Null

-- the rows that add
abbrev pub adding : List HistoryRow → List HistoryRow
adding rows = filter (λ r. not (retracts r.0)) rows

-- the index of the column of that name, the number of the columns where there is none
abbrev pub index_of : TableSchema → List ℕ → ℕ
index_of s name = position_or_len (λ c. bytes_eq c.name name) s.columns

-- ---- partial updates

-- a sequence group: the name of the leading column, and those of the others
abbrev pub SequenceGroup : Type 0
SequenceGroup = List ℕ × List (List ℕ)

-- the column leads the group or is in its list
abbrev pub is_in_group : Column → SequenceGroup → Bool
is_in_group c group = bytes_eq group.0 c.name || is_among group.1 c.name

-- the sequence group of a column
abbrev pub group_of : TableSchema → Column → Option SequenceGroup
group_of s c = find (is_in_group c) s.options.groups

-- the row has a leading value, and none of the rows has a greater one
abbrev pub is_leading : ℕ → List HistoryRow → HistoryRow → Bool
is_leading lead rows r =
    not (is_null (value_at r.1 lead))
    && list_all (λ other. is_le (value_cmp (value_at other.1 lead) (value_at r.1 lead))) rows

-- the last of the rows with the greatest leading value
abbrev pub leading_row : ℕ → List HistoryRow → Option HistoryRow
leading_row lead rows = last_or None (filter (is_leading lead rows) rows)

-- what a group's leading row leaves in a column: a retraction leaves null in all but the leading one
abbrev pub left_by : ℕ → ℕ → HistoryRow → Value
left_by lead index r = if retracts r.0 && not (index == lead) then Null else value_at r.1 index

-- a column of a sequence group has what the leading row leaves, and is null where there is no such row
abbrev pub group_value : ℕ → ℕ → List HistoryRow → Value
group_value lead index rows = option_map_or (left_by lead index) (leading_row lead rows) Null

-- with partial updates, a column in no sequence group has its last value that isn't null of the rows that add
abbrev pub updated_value : TableSchema → ℕ → Option SequenceGroup → List HistoryRow → Value
updated_value s index None rows = last_value (non_null (values_at index (adding rows)))
updated_value s index (Some group) rows = group_value (index_of s group.0) index rows

-- ---- aggregation

-- the width of an integer type; the other types have no sum
abbrev pub width_of : ColType → Width
width_of types.TinyInt = w8
width_of types.SmallInt = w16
width_of types.Int = w32
width_of kind = w64

-- the integer that a value is
abbrev pub integer_in : Value → Option ℤ
integer_in (Int n) = Some n
integer_in value = None

-- what a row adds to a sum: its integer, negated where it retracts
abbrev pub summand : ℕ → HistoryRow → Option ℤ
summand index r =
    option_map (λ n. if retracts r.0 then neg_ℤ n else n) (integer_in (value_at r.1 index))

abbrev pub total : List ℤ → ℤ
total [] = pos 0
total (n ∷ ns) = n +ℤ total ns

-- the sum of integers, as far as it goes into the width, null where there is none
abbrev pub sum_value : Width → List ℤ → Value
sum_value width [] = Null
sum_value width (n ∷ ns) = Int (int_wrap width (total (n ∷ ns)))

-- the value to which all of the values compare so, null where there is none
abbrev pub extreme_value : (Ordering → Bool) → Values → Value
extreme_value holds values =
    unwrap_or (find (λ value. list_all (λ other. holds (value_cmp other value)) values) values) Null

-- the value of the last row, null where it retracts
abbrev pub last_left : ℕ → List HistoryRow → Value
last_left index rows =
    option_map_or (λ r. if retracts r.0 then Null else value_at r.1 index) (last_or None rows) Null

-- the text that a value is
abbrev pub text_in : Value → Option (List ℕ)
text_in (Text text) = Some text
text_in value = None

-- the delimiter of a column, a comma where no other is set
abbrev pub delimiter_of : TableSchema → Column → List ℕ
delimiter_of s c = unwrap_or (entry_at c.name s.options.delimiters) (codes ",")

-- texts with the delimiter between them, null where there is none
abbrev pub joined_value : List ℕ → List (List ℕ) → Value
joined_value delimiter [] = Null
joined_value delimiter (text ∷ texts) = Text (join_by (λ t. t) delimiter (text ∷ texts))

-- the truth that a value is
abbrev pub truth_in : Value → Option Bool
truth_in (Truth b) = Some b
truth_in value = None

-- all of the truths hold, null where there is none
abbrev pub all_value : List Bool → Value
all_value [] = Null
all_value (b ∷ bs) = Truth (list_all (λ t. t) (b ∷ bs))

-- one of the truths holds, null where there is none
abbrev pub any_value : List Bool → Value
any_value [] = Null
any_value (b ∷ bs) = Truth (list_any (λ t. t) (b ∷ bs))

-- the rows that count for a column: without those that retract, where it skips them
abbrev pub counted : TableSchema → Column → List HistoryRow → List HistoryRow
counted s c rows = if skips_retractions s c then adding rows else rows

-- what a function makes of a column over the rows that count
abbrev pub aggregate_by : Function → TableSchema → Column → ℕ → List HistoryRow → Value
aggregate_by functions.Sum s c index rows = sum_value (width_of c.kind) (filter_map (summand index) rows)
aggregate_by functions.Max s c index rows = extreme_value is_le (non_null (values_at index rows))
aggregate_by functions.Min s c index rows = extreme_value is_ge (non_null (values_at index rows))
aggregate_by functions.LastValue s c index rows = last_left index rows
aggregate_by functions.LastNonNullValue s c index rows = last_value (non_null (values_at index rows))
aggregate_by functions.FirstValue s c index rows = first_value (values_at index rows)
aggregate_by functions.FirstNonNullValue s c index rows = first_value (non_null (values_at index rows))
aggregate_by functions.ListAgg s c index rows =
    joined_value (delimiter_of s c) (filter_map text_in (values_at index rows))
aggregate_by functions.BoolAnd s c index rows = all_value (filter_map truth_in (values_at index rows))
aggregate_by functions.BoolOr s c index rows = any_value (filter_map truth_in (values_at index rows))

-- ---- all engines

-- the value of a column outside the key
abbrev pub value_by : EngineKind → TableSchema → Column → ℕ → List HistoryRow → Value
value_by engines.Deduplicate s c index rows = last_value (values_at index rows)
value_by engines.FirstRow s c index rows = first_value (values_at index rows)
value_by engines.PartialUpdate s c index rows = updated_value s index (group_of s c) rows
value_by engines.Aggregation s c index rows = aggregate_by (function_of s c) s c index (counted s c rows)

-- the value of a column that stands at the index; in one of the key all rows have the same
abbrev pub value_in : TableSchema → ℕ → List HistoryRow → Column → Value
value_in s index rows c =
    if is_key s c then last_value (values_at index rows) else value_by s.options.engine s c index rows

-- the value of the column at the index over the rows of one key, in order; null where there is no such column
unfoldable pub column_value : TableSchema → ℕ → List HistoryRow → Value
column_value s index rows = option_map_or (value_in s index rows) (slice_get s.columns index) Null
