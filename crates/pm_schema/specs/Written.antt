-- The text of a schema's file: compact JSON with the keys in order.
use Rattle.std.specs.Prelude.{ℕ, List, [], ◌∷◌, map, codes, Option, Some, None}
use Rattle.serde_json.specs.Data.{Data, null, number, unsigned, string, array, object, Members, no_members, member, put}
use Rattle.serde_json.specs.Find.{of_integer}
use Rattle.serde_json.specs.View.{items_of}
use Rattle.serde_json.specs.Written.{compact_text}
use Rattle.pm_options.specs.Table.{Setting}
use Rattle.pm_options.specs.Written.{settings_of}
use Rattle.pm_values.specs.declared.column.Column.{Column}
use Rattle.pm_schema.specs.ColumnType.{type_text}
use Rattle.pm_schema.specs.declared.schema.TableSchema.{TableSchema}

-- the object of a field
abbrev pub column_data : Column → Data
column_data c =
    object
    (member (codes "id") (number (unsigned c.id))
    (member (codes "name") (string c.name)
    (member (codes "type") (string (type_text (c.kind, c.nullable))) no_members)))

-- the list of columns
abbrev pub columns_data : List Column → Data
columns_data columns = array (items_of (map column_data columns))

-- the list of texts
abbrev pub texts_data : List (List ℕ) → Data
texts_data texts = array (items_of (map string texts))

-- the members of settings, each at its place in the order of the keys
abbrev pub settings_members : List Setting → Members
settings_members [] = no_members
settings_members (s ∷ ss) = put s.0 (string s.1) (settings_members ss)

-- a text, or null for none
abbrev pub comment_data : Option (List ℕ) → Data
comment_data None = null
comment_data (Some text) = string text

-- the name of the origin, where there is one
abbrev pub with_origin : Option (List ℕ) → Members → Members
with_origin None ms = ms
with_origin (Some text) ms = put (codes "origin") (string text) ms

-- the members of a schema, each at its place in the order of the keys
abbrev pub first_members : TableSchema → Members
first_members s =
    put (codes "options") (object (settings_members (settings_of s.options)))
    (put (codes "id") (number (unsigned s.id))
    (put (codes "highestFieldId") (number (unsigned s.highest))
    (put (codes "fields") (columns_data s.columns)
    (put (codes "comment") (comment_data s.comment) no_members))))

abbrev pub last_members : TableSchema → Members → Members
last_members s ms =
    put (codes "version") (number (unsigned 3))
    (put (codes "timeMillis") (number (of_integer s.time))
    (put (codes "primaryKeys") (texts_data s.primary)
    (put (codes "partitionKeys") (texts_data s.partition) ms)))

abbrev pub schema_members : TableSchema → Members
schema_members s = with_origin s.origin (last_members s (first_members s))

-- the text of a schema's file
unfoldable pub schema_text : TableSchema → List ℕ
schema_text s = compact_text (object (schema_members s))
