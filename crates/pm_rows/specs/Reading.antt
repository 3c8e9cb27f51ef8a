-- What a row line reads as: a kind and one value for each column, or the first fault.
use Rattle.std.specs.Prelude.{ℕ, suc, ◌-◌, ◌^◌, ◌==◌, ◌&&◌, ℤ, pos, neg_ℤ, int_le, List, [], ◌∷◌, length}
use Rattle.std.specs.Prelude.{if◌then◌else◌, Option, Some, None, Result, Ok, Err, ok_or}
use Rattle.std.specs.List.{find}
use Rattle.std.specs.Str.{is_utf8, bytes_eq}
use Rattle.serde_json.specs.Data.{Data, null, boolean, number, string, array, Items, no_items, item}
use Rattle.serde_json.specs.Find.{as_integer}
use Rattle.serde_json.specs.Read.{read}
use Rattle.pm_base.specs.Outcome.{◌>>=◌}
use Rattle.pm_values.specs.Order.{Values}
use Rattle.pm_values.specs.declared.column.ColType.{ColType}
use Rattle.pm_values.specs.declared.column.ColType.TheVariants as types
use Rattle.pm_values.specs.declared.column.Column.{Column}
use Rattle.pm_values.specs.declared.kind.Kind.{Kind}
use Rattle.pm_values.specs.declared.kind.Kind.TheVariants.{Insert, UpdateBefore, UpdateAfter, Delete}
use Rattle.pm_values.specs.declared.refusal.Why.{Why}
use Rattle.pm_values.specs.declared.refusal.Why.TheVariants as why
use Rattle.pm_values.specs.declared.value.Value.{Value}
use Rattle.pm_values.specs.declared.value.Value.TheVariants as values
use Rattle.pm_value_text.specs.Date.{day_in}
use Rattle.pm_value_text.specs.Hexadecimal.{bytes_in}
use Rattle.pm_rows.specs.RowText.{kind_text}
use Rattle.pm_rows.specs.declared.fault.RowFault.{RowFault}
use Rattle.pm_rows.specs.declared.fault.RowFault.TheVariants as faults

-- what is wrong, and the index of the column, from 0; a fault of the whole line has index 0
abbrev pub Fault : Type 0
Fault = Why × ℕ

-- the fault that a call answered; out of memory is none
abbrev pub fault_of : RowFault → Option Fault
fault_of faults.Memory = None
fault_of (faults.Bad fault index) = Some (fault, index)

-- the JSON of a line, which is UTF-8 and nests at most 127 deep
abbrev pub json_in : List ℕ → Result Data Fault
json_in line = ok_or (if is_utf8 line then read line else None) (why.Json, 0)

-- the items one after another
abbrev pub list_of : Items → List Data
list_of no_items = []
list_of (item d ds) = d ∷ list_of ds

-- the items of an array
abbrev pub items_in : Data → Result (List Data) Fault
items_in (array ds) = Ok (list_of ds)
items_in d = Err (why.Array, 0)

-- the kind that a text names
abbrev pub named_kind : List ℕ → Option Kind
named_kind text =
    find (λ kind. bytes_eq (kind_text kind) text) (Insert ∷ UpdateBefore ∷ UpdateAfter ∷ Delete ∷ [])

-- the kind that an item names
abbrev pub kind_in : Data → Result Kind Fault
kind_in (string text) = ok_or (named_kind text) (why.Kind, 0)
kind_in d = Err (why.Kind, 0)

-- an item in a BOOLEAN column
abbrev pub truth_at : ℕ → Data → Result Value Fault
truth_at index (boolean b) = Ok (values.Bool b)
truth_at index d = Err (why.Type, index)

-- An item that is an integer. What JSON reads as a float is none: a number with a point or an
-- exponent, `-0`, and an integer that 64 bits don't hold, with a sign or without.
abbrev pub number_at : ℕ → Data → Result ℤ Fault
number_at index (number n) = ok_or (as_integer n) (why.Type, index)
number_at index d = Err (why.Type, index)

-- the least integer of that many bits, with a sign
abbrev pub least : ℕ → ℤ
least bits = neg_ℤ (pos (2 ^ (bits - 1)))

-- the greatest integer of that many bits, with a sign
abbrev pub greatest : ℕ → ℤ
greatest bits = pos (2 ^ (bits - 1) - 1)

-- an integer from the low one to the high one
abbrev pub within : ℕ → ℤ → ℤ → ℤ → Result ℤ Fault
within index low high z = if int_le low z && int_le z high then Ok z else Err (why.Range, index)

-- an item that is an integer from the low one to the high one
abbrev pub integer_at : ℕ → ℤ → ℤ → Data → Result ℤ Fault
integer_at index low high d = do
  z ← number_at index d
  within index low high z

-- an item in a TINYINT, SMALLINT, INT or BIGINT column, from the low integer to the high one
abbrev pub whole_at : ℕ → ℤ → ℤ → Data → Result Value Fault
whole_at index low high d = do
  n ← integer_at index low high d
  Ok (values.Int n)

-- an item in a TIMESTAMP(3) column: milliseconds
abbrev pub millis_at : ℕ → Data → Result Value Fault
millis_at index d = do
  n ← integer_at index (least 64) (greatest 64) d
  Ok (values.Millis n)

-- an item in a STRING column
abbrev pub text_at : ℕ → Data → Result Value Fault
text_at index (string text) = Ok (values.Text text)
text_at index d = Err (why.Type, index)

-- an item in a BYTES column: an even number of hexadecimal digits
abbrev pub bytes_at : ℕ → Data → Result Value Fault
bytes_at index (string text) = do
  bytes ← ok_or (bytes_in text) (why.Range, index)
  Ok (values.Bytes bytes)
bytes_at index d = Err (why.Type, index)

-- an item in a DATE column: a civil date of ten characters
abbrev pub day_at : ℕ → Data → Result Value Fault
day_at index (string text) = do
  day ← ok_or (day_in text) (why.Range, index)
  Ok (values.Day day)
day_at index d = Err (why.Type, index)

-- an item that isn't null, in a column of the type
abbrev pub value_at : ℕ → ColType → Data → Result Value Fault
value_at index types.Boolean d = truth_at index d
value_at index types.TinyInt d = whole_at index (least 8) (greatest 8) d
value_at index types.SmallInt d = whole_at index (least 16) (greatest 16) d
value_at index types.Int d = whole_at index (least 32) (greatest 32) d
value_at index types.BigInt d = whole_at index (least 64) (greatest 64) d
value_at index types.Text d = text_at index d
value_at index types.Bytes d = bytes_at index d
value_at index types.Date d = day_at index d
value_at index types.Timestamp d = millis_at index d

-- an item in a column at the index
abbrev pub item_at : ℕ → Column → Data → Result Value Fault
item_at index column null = if column.nullable then Ok values.Null else Err (why.Null, index)
item_at index column d = value_at index column.kind d

-- the items in the columns from the index on, each in its own, and the first fault of them
abbrev pub values_at : ℕ → List Column → List Data → Result Values Fault
values_at index [] [] = Ok []
values_at index (column ∷ columns) (d ∷ ds) = do
  value ← item_at index column d
  more ← values_at (suc index) columns ds
  Ok (value ∷ more)
values_at index columns ds = Err (why.Count, 0)

-- the kind and the row of an array's items
abbrev pub row_of_items : List Column → List Data → Result (Kind × Values) Fault
row_of_items columns [] = Err (why.Kind, 0)
row_of_items columns (first ∷ ds) = do
  kind ← kind_in first
  row ← if length ds == length columns then values_at 0 columns ds else Err (why.Count, 0)
  Ok (kind, row)

-- the kind and the row of a line
unfoldable pub row_of : List Column → List ℕ → Result (Kind × Values) Fault
row_of columns line = do
  json ← json_in line
  ds ← items_in json
  row_of_items columns ds
