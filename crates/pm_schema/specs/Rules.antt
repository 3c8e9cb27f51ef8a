-- The rules of schemas, in their order. Each is a test of the whole schema.
use Rattle.std.specs.Prelude.{ℕ, ◌==◌, ◌&&◌, ◌||◌, not, nat_eq, nat_lt, nat_le, List, [], ◌∷◌, map, length, codes, Bool, true, false, Option, Some, None, if◌then◌else◌}
use Rattle.std.specs.Char.{is_ascii_alphabetic, is_ascii_digit}
use Rattle.std.specs.List.{list_all, list_any, starts_with, count_by}
use Rattle.std.specs.Str.{bytes_eq}
use Rattle.pm_options.specs.Faults.{first_of}
use Rattle.pm_options.specs.declared.kinds.EngineKind.{EngineKind}
use Rattle.pm_options.specs.declared.kinds.EngineKind.TheVariants as engines
use Rattle.pm_options.specs.declared.kinds.Function.{Function}
use Rattle.pm_options.specs.declared.kinds.Function.TheVariants as functions
use Rattle.pm_values.specs.declared.column.ColType.{ColType}
use Rattle.pm_values.specs.declared.column.ColType.TheVariants as types
use Rattle.pm_values.specs.declared.column.Column.{Column}
use Rattle.pm_values.specs.declared.refusal.Refusal.{Refusal}
use Rattle.pm_values.specs.declared.refusal.Refusal.TheVariants.{SchemaRule}
use Rattle.pm_schema.specs.declared.rules.Rule.{Rule}
use Rattle.pm_schema.specs.declared.rules.Rule.TheVariants as rules
use Rattle.pm_schema.specs.declared.schema.TableSchema.{TableSchema}

-- ---- 1: names

-- a letter or `_`
abbrev pub begins_name : ℕ → Bool
begins_name b = is_ascii_alphabetic b || b == 95

-- a letter, a digit or `_`
abbrev pub continues_name : ℕ → Bool
continues_name b = begins_name b || is_ascii_digit b

-- the names of fields of stored records
abbrev pub is_reserved : List ℕ → Bool
is_reserved name =
    starts_with nat_eq name (codes "_KEY_")
    || (bytes_eq name (codes "_SEQUENCE_NUMBER") || bytes_eq name (codes "_VALUE_KIND"))

abbrev pub is_spelled : List ℕ → Bool
is_spelled [] = false
is_spelled (b ∷ bs) = begins_name b && list_all continues_name bs

abbrev pub is_name : List ℕ → Bool
is_name name = is_spelled name && (nat_le (length name) 64 && not (is_reserved name))

-- ---- 2 to 5: keys and ids

-- one of the names
abbrev pub is_among : List (List ℕ) → List ℕ → Bool
is_among names name = list_any (λ other. bytes_eq other name) names

-- no name stands twice
abbrev pub differ : List (List ℕ) → Bool
differ [] = true
differ (name ∷ names) = not (is_among names name) && differ names

abbrev pub ids_differ : List ℕ → Bool
ids_differ [] = true
ids_differ (id ∷ ids) = not (list_any (λ other. other == id) ids) && ids_differ ids

abbrev pub names_of : List Column → List (List ℕ)
names_of columns = map (λ c. c.name) columns

-- a column of that name is NOT NULL
abbrev pub is_required : List Column → List ℕ → Bool
is_required columns name = list_any (λ c. bytes_eq c.name name && not c.nullable) columns

abbrev pub primary_holds : TableSchema → Bool
primary_holds s = nat_lt 0 (length s.primary) && (list_all (is_required s.columns) s.primary && differ s.primary)

-- a name of the primary key is left that isn't one of the partition
abbrev pub partition_holds : TableSchema → Bool
partition_holds s =
    list_all (is_among s.primary) s.partition
    && (differ s.partition && list_any (λ name. not (is_among s.partition name)) s.primary)

abbrev pub ids_hold : TableSchema → Bool
ids_hold s = ids_differ (map (λ c. c.id) s.columns) && list_all (λ c. nat_le c.id s.highest) s.columns

-- ---- 6: the options of columns

-- a column outside the primary key
abbrev pub is_value_column : TableSchema → List ℕ → Bool
is_value_column s name = is_among (names_of s.columns) name && not (is_among s.primary name)

abbrev pub aggregation_holds : TableSchema → Bool
aggregation_holds s =
    list_all (λ e. is_value_column s e.0) s.options.functions
    && (list_all (λ e. is_value_column s e.0) s.options.delimiters
    && list_all (λ e. is_value_column s e.0) s.options.ignore_retract)

-- how many groups have the name in their lists
abbrev pub groups_with : List (List ℕ × List (List ℕ)) → List ℕ → ℕ
groups_with groups name = count_by (λ g. is_among g.1 name) groups

-- a group names columns outside the primary key
abbrev pub group_holds : TableSchema → List ℕ × List (List ℕ) → Bool
group_holds s g = is_value_column s g.0 && list_all (is_value_column s) g.1

-- each group names such columns, no column is in the lists of two groups, and no leading column is in a list
abbrev pub groups_hold : TableSchema → Bool
groups_hold s =
    list_all (group_holds s) s.options.groups
    && (list_all (λ c. nat_le (groups_with s.options.groups c.name) 1) s.columns
    && list_all (λ g. groups_with s.options.groups g.0 == 0) s.options.groups)

-- the options of columns of the chosen engine; those of the others have no effect
abbrev pub fields_hold_by : EngineKind → TableSchema → Bool
fields_hold_by engines.Aggregation s = aggregation_holds s
fields_hold_by engines.PartialUpdate s = groups_hold s
fields_hold_by engine s = true

-- ---- 7: functions and types

abbrev pub is_integer : ColType → Bool
is_integer types.TinyInt = true
is_integer types.SmallInt = true
is_integer types.Int = true
is_integer types.BigInt = true
is_integer kind = false

-- BOOLEAN and BYTES have no greatest value
abbrev pub has_greatest : ColType → Bool
has_greatest types.Boolean = false
has_greatest types.Bytes = false
has_greatest kind = true

abbrev pub is_text : ColType → Bool
is_text types.Text = true
is_text kind = false

abbrev pub is_boolean : ColType → Bool
is_boolean types.Boolean = true
is_boolean kind = false

abbrev pub function_fits : Function → ColType → Bool
function_fits functions.Sum kind = is_integer kind
function_fits functions.Max kind = has_greatest kind
function_fits functions.Min kind = has_greatest kind
function_fits functions.ListAgg kind = is_text kind
function_fits functions.BoolAnd kind = is_boolean kind
function_fits functions.BoolOr kind = is_boolean kind
function_fits function kind = true

-- the function fits each column of that name
abbrev pub fits_columns : List Column → List ℕ × Function → Bool
fits_columns columns e = list_all (λ c. not (bytes_eq c.name e.0) || function_fits e.1 c.kind) columns

abbrev pub functions_hold_by : EngineKind → TableSchema → Bool
functions_hold_by engines.Aggregation s = list_all (fits_columns s.columns) s.options.functions
functions_hold_by engine s = true

-- ---- 8: null

abbrev pub may_be_null : TableSchema → Bool
may_be_null s = list_all (λ c. c.nullable || is_among s.primary c.name) s.columns

abbrev pub nulls_hold_by : EngineKind → TableSchema → Bool
nulls_hold_by engines.PartialUpdate s = may_be_null s
nulls_hold_by engines.Aggregation s = may_be_null s
nulls_hold_by engine s = true

-- ---- the list

-- the schema meets the rule
abbrev pub meets : Rule → TableSchema → Bool
meets rules.Names s = list_all is_name (names_of s.columns)
meets rules.Distinct s = differ (names_of s.columns)
meets rules.Primary s = primary_holds s
meets rules.Partition s = partition_holds s
meets rules.Ids s = ids_hold s
meets rules.Fields s = fields_hold_by s.options.engine s
meets rules.Functions s = functions_hold_by s.options.engine s
meets rules.Nulls s = nulls_hold_by s.options.engine s
meets rules.Retained s = nat_le s.options.retained_min s.options.retained_max

abbrev pub number_of : Rule → ℕ
number_of rules.Names = 1
number_of rules.Distinct = 2
number_of rules.Primary = 3
number_of rules.Partition = 4
number_of rules.Ids = 5
number_of rules.Fields = 6
number_of rules.Functions = 7
number_of rules.Nulls = 8
number_of rules.Retained = 9

abbrev pub all_rules : List Rule
all_rules =
    rules.Names ∷ rules.Distinct ∷ rules.Primary ∷ rules.Partition ∷ rules.Ids ∷ rules.Fields ∷ rules.Functions
    ∷ rules.Nulls ∷ rules.Retained ∷ []

-- the fault of a rule that the schema doesn't meet
abbrev pub broken : TableSchema → Rule → Option Refusal
broken s rule = if meets rule s then None else Some (SchemaRule (number_of rule))

-- the first rule that the schema doesn't meet
abbrev pub rule_fault : TableSchema → Option Refusal
rule_fault s = first_of (broken s) all_rules
