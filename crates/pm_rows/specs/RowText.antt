-- The line of a row: a JSON array of the kind and one item for each value.
use Rattle.std.specs.Prelude.{ℕ, List, ◌∷◌, map, codes, ◌&&◌, int_le, if◌then◌else◌}
use Rattle.json.specs.Token.{Token}
use Rattle.json.specs.Tree.{json_tokens}
use Rattle.serde_json.specs.Data.{Data, null, boolean, number, string, array}
use Rattle.serde_json.specs.Find.{of_integer}
use Rattle.serde_json.specs.View.{items_of}
use Rattle.serde_json.specs.Written.{compact_text, outline}
use Rattle.pm_values.specs.Fits.{first_day, last_day}
use Rattle.pm_values.specs.Order.{Values}
use Rattle.pm_values.specs.declared.kind.Kind.{Kind}
use Rattle.pm_values.specs.declared.kind.Kind.TheVariants.{Insert, UpdateBefore, UpdateAfter, Delete}
use Rattle.pm_values.specs.declared.value.Value.{Value}
use Rattle.pm_values.specs.declared.value.Value.TheVariants.{Null, Bool, Int, Text, Bytes, Day, Millis}
use Rattle.pm_value_text.specs.Date.{date_text}
use Rattle.pm_value_text.specs.Hexadecimal.{hex_text}

-- the text of a kind
abbrev pub kind_text : Kind → List ℕ
kind_text Insert = codes "+I"
kind_text UpdateBefore = codes "-U"
kind_text UpdateAfter = codes "+U"
kind_text Delete = codes "-D"

-- the item of a value; null stands for a day before the year 1 or after 9999, which fits no column
abbrev pub item_data : Value → Data
item_data Null = null
item_data (Bool b) = boolean b
item_data (Int n) = number (of_integer n)
item_data (Text text) = string text
item_data (Bytes bytes) = string (hex_text bytes)
item_data (Day day) = if int_le first_day day && int_le day last_day then string (date_text day) else null
item_data (Millis millis) = number (of_integer millis)

-- the array of a row
abbrev pub row_data : Kind → Values → Data
row_data kind values = array (items_of (string (kind_text kind) ∷ map item_data values))

-- the line of a row, without its newline: compact JSON
unfoldable pub row_text : Kind → Values → List ℕ
row_text kind values = compact_text (row_data kind values)

-- Private: the tokens of JSON that has no float
abbrev pub data_tokens : Data → List Token
data_tokens d = json_tokens (outline d)
