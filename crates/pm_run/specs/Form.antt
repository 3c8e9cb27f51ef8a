-- What of a table's schema its data files depend on: the columns, those of the key, and the engine.
use Rattle.std.specs.Prelude.{ℕ, List, ◌∷◌, ◌++◌, map, filter, not, codes, false}
use Rattle.std.specs.List.{find}
use Rattle.std.specs.Option.{option_map_or}
use Rattle.std.specs.Str.{bytes_eq}
use Rattle.pm_options.specs.declared.kinds.EngineKind.{EngineKind}
use Rattle.pm_schema.specs.Rules.{is_among}
use Rattle.pm_schema.specs.declared.schema.TableSchema.{TableSchema}
use Rattle.pm_values.specs.declared.column.Column.{Column}
use Rattle.pm_values.specs.declared.column.ColType.TheVariants as types
use Rattle.pm_model_history.specs.ColumnValue.{index_of}
use Rattle.pm_model_history.specs.Merged.{primary_of}
use Rattle.pm_run.specs.declared.form.Field.{Field}

pub record Form : Type 0 where
  -- the fields of the columns
  pub columns : List Field
  -- the fields of the primary key without the partition columns, in the key's order
  pub keys : List Field
  -- of each of these the index of its column
  pub places : List ℕ
  -- the indexes of the primary key's columns, in its order
  pub primary : List ℕ
  pub engine : EngineKind

-- the field of a column
abbrev pub field_of : Column → Field
field_of c = record { name = c.name; kind = c.kind; nullable = c.nullable }

-- the name of the field of a column of the key
abbrev pub key_name : List ℕ → List ℕ
key_name name = codes "_KEY_" ++ name

-- the field of a column of the key
abbrev pub key_field_of : List ℕ → Column → Field
key_field_of name c = record { name = key_name name; kind = c.kind; nullable = c.nullable }

-- the field of a name that no column has, which no schema's rules allow
abbrev pub stray_field : List ℕ → Field
stray_field name = record { name = key_name name; kind = types.Text; nullable = false }

-- the field of the key for the column with a name
abbrev pub key_field : List Column → List ℕ → Field
key_field columns name =
    option_map_or (λ (c : Column). key_field_of name c) (find (λ c. bytes_eq c.name name) columns) (stray_field name)

-- the names that aren't among others
abbrev pub apart_from : List (List ℕ) → List (List ℕ) → List (List ℕ)
apart_from others names = filter (λ name. not (is_among others name)) names

abbrev pub form_of : TableSchema → Form
form_of s = record {
  columns = map field_of s.columns;
  keys = map (key_field s.columns) (apart_from s.partition s.primary);
  places = map (index_of s) (apart_from s.partition s.primary);
  primary = primary_of s;
  engine = s.options.engine;
}

-- the names of fields
abbrev pub names_of : List Field → List (List ℕ)
names_of fields = map (λ (x : Field). x.name) fields

-- the fields of a record that are read, in the order in which they are judged
abbrev pub row_fields : Form → List (List ℕ)
row_fields f = codes "_SEQUENCE_NUMBER" ∷ codes "_VALUE_KIND" ∷ (names_of f.columns ++ names_of f.keys)

-- the fields of a record that is written, in their order
abbrev pub written_fields : Form → List (List ℕ)
written_fields f = names_of f.keys ++ codes "_SEQUENCE_NUMBER" ∷ codes "_VALUE_KIND" ∷ names_of f.columns
