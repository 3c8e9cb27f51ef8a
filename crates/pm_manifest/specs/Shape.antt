-- What of a table's schema its manifests depend on: the columns that partitions, keys and statistics are rows of.
use Rattle.std.specs.Prelude.{◌≡◌, ℕ, List, [], ◌∷◌, length, map, filter, get_or, not, Option, Some, None, is_none}
use Rattle.std.specs.List.{find, list_any, position}
use Rattle.std.specs.Option.{option_map_or, unwrap_or}
use Rattle.std.specs.Str.{bytes_eq}
use Rattle.pm_values.specs.declared.column.Column.{Column}
use Rattle.pm_values.specs.declared.column.ColType.{ColType}
use Rattle.pm_values.specs.declared.column.ColType.TheVariants as types
use Rattle.pm_values.specs.declared.value.Value.{Value}
use Rattle.pm_values.specs.declared.value.Value.TheVariants.{Null}
use Rattle.pm_values.specs.Order.{Values}
use Rattle.pm_schema.specs.declared.schema.TableSchema.{TableSchema}

pub record Shape : Type 0 where
  -- the types of the partition columns, in their order
  pub partition : List ColType
  -- the types of the primary key's other columns, in the key's order
  pub rest : List ColType
  -- the types of all columns
  pub columns : List ColType
  -- of each column of the primary key the index of the partition column that it is, if it is one
  pub places : List (Option ℕ)
  -- the option `bucket`
  pub buckets : ℕ

-- The type of the column with a name. A name that no column has, which no schema's rules allow, stands for a text.
abbrev pub type_of : List Column → List ℕ → ColType
type_of columns name = option_map_or (λ c. c.kind) (find (λ c. bytes_eq c.name name) columns) types.Text

-- the names that aren't among others
abbrev pub apart_from : List (List ℕ) → List (List ℕ) → List (List ℕ)
apart_from others names = filter (λ name. not (list_any (bytes_eq name) others)) names

abbrev pub shape_of : TableSchema → Shape
shape_of s = record {
  partition = map (type_of s.columns) s.partition;
  rest = map (type_of s.columns) (apart_from s.partition s.primary);
  columns = map (λ c. c.kind) s.columns;
  places = map (λ name. position (bytes_eq name) s.partition) s.primary;
  buckets = s.options.bucket;
}

-- `rest` has one type for each column of the primary key that is none of the partition's
abbrev pub HasRest : Shape → Type 0
HasRest s = length (filter is_none s.places) ≡ length s.rest

-- a key of the values of a partition and of the other columns: each column of the primary key has its value
abbrev pub key_of : List (Option ℕ) → Values → Values → Values
key_of [] partition rest = []
key_of (Some i ∷ places) partition rest = get_or partition i Null ∷ key_of places partition rest
key_of (None ∷ places) partition (value ∷ rest) = value ∷ key_of places partition rest
key_of (None ∷ places) partition [] = Null ∷ key_of places partition []

-- the value that is there, else null
abbrev pub or_null : Option Value → Value
or_null value = unwrap_or value Null

-- the values of a key that aren't the partition's
abbrev pub rest_of : List (Option ℕ) → Values → Values
rest_of (None ∷ places) (value ∷ key) = value ∷ rest_of places key
rest_of (Some i ∷ places) (value ∷ key) = rest_of places key
rest_of places key = []
