-- Which text declares which schema.
use Rattle.std.specs.Prelude.{◌≡◌, ℕ, ◌≤◌, ℤ, List, [], length, Bool, not, ◌&&◌, Some, None, IsTrue}
use Rattle.std.specs.List.{AllByRecursion, AllZip}
use Rattle.serde_json.specs.Data.{Data}
use Rattle.pm_options.specs.Options.{options_in}
use Rattle.pm_options.specs.Pairs.{pair_fault}
use Rattle.pm_options.specs.Reading.{setting_fault}
use Rattle.pm_values.specs.declared.column.Column.{Column}
use Rattle.pm_schema.specs.ColumnType.{Field, type_text}
use Rattle.pm_schema.specs.Reading.{most_columns, schema_with}
use Rattle.pm_schema.specs.Rules.{all_rules, is_among, meets}
use Rattle.pm_schema.specs.Stated.{Draft, Stated, draft_in, file_in, json_of, schema_path, stated_of, with_missing}
use Rattle.pm_schema.specs.declared.schema.TableSchema.{TableSchema}

-- The field states the column: its id, its name, and the text of its type, to which NOT NULL is added for the names
-- that are required.
pub record IsColumn (required : List (List ℕ)) (field : Field) (c : Column) : Type 0 where
  pub id : c.id ≡ field.0
  pub name : c.name ≡ field.1
  pub text : (nullable : Bool) × (type_text (c.kind, nullable) ≡ field.2)
      × (c.nullable ≡ nullable && not (is_among required field.1))

-- what is stated is the schema: there are at most 64 columns, each setting has a text that its option takes, no pair
-- of options is one that doesn't go together, and the schema meets each rule
pub record Declares (stated : Stated) (columns : List Column) (s : TableSchema) : Type 0 where
  pub few : length stated.fields ≤ most_columns
  pub texts : AllByRecursion (λ setting. setting_fault setting ≡ None) stated.settings
  pub pairs : pair_fault (options_in stated.settings) ≡ None
  pub schema : s ≡ schema_with stated columns (options_in stated.settings)
  pub rules : AllByRecursion (λ rule. IsTrue (meets rule s)) all_rules

-- the text of the file at the path declares the schema
abbrev pub SchemaOf : List ℕ → List ℕ → TableSchema → Type 0
SchemaOf path text s =
    (d : Data) × (stated : Stated) × (columns : List Column)
    × (json_of text ≡ Some d) × (file_in d ≡ Some stated) × (path ≡ schema_path stated.id)
    × AllZip (IsColumn []) stated.fields columns × Declares (with_missing stated) columns s

-- the line is a draft of the schema, with the origin and at the time: the columns of its primary key are NOT NULL
abbrev pub DraftOf : List ℕ → List ℕ → ℤ → TableSchema → Type 0
DraftOf line origin now s =
    (d : Data) × (draft : Draft) × (columns : List Column)
    × (json_of line ≡ Some d) × (draft_in d ≡ Some draft)
    × AllZip (IsColumn draft.primary) (stated_of draft origin now).fields columns
    × Declares (stated_of draft origin now) columns s
