-- What holds of the lines of all rows.
use Rattle.std.proofs.Common.{◌≡◌, ℕ, suc, ℤ, pos, negsuc, ◌≤ℤ◌, int_le, Bool, ◌&&◌, T, true, cond, List, [], ◌∷◌, length, map, false, Ok, IsUtf8, refl, sym, ap, ◌∙◌, arith, eq-eqb}
use Rattle.std.specs.List.{AllByRecursion}
use Rattle.std.specs.Int.Signed.{le_z_yes}
use Rattle.std.proofs.lemmas.Bool.{and_parts}
use Rattle.std.proofs.lemmas.Float.{T_from_true}
use Rattle.std.proofs.lemmas.Int.{ints}
use Rattle.json.specs.Print.{print}
use Rattle.json.specs.Token.{Token}
use Rattle.json.specs.Tree.{items_tokens}
use Rattle.json.proofs.Printed.Utf8.{IsUtf8-are_ascii}
use Rattle.serde_json.specs.Data.{Data, null, number, string}
use Rattle.serde_json.specs.Find.{of_integer}
use Rattle.serde_json.specs.View.{items_of}
use Rattle.serde_json.specs.Written.{items_outline, compact_text}
use Rattle.serde_json.proofs.Texts.{print-outline}
use Rattle.pm_base.specs.Newline.{IsUnbroken}
use Rattle.pm_values.specs.Fits.{first_day, last_day, IsInType, FitsColumn, Fits}
use Rattle.pm_values.specs.Order.{Values}
use Rattle.pm_values.specs.declared.column.ColType.{ColType}
use Rattle.pm_values.specs.declared.column.ColType.TheVariants as types
use Rattle.pm_values.specs.declared.column.Column.{Column}
use Rattle.pm_values.specs.declared.kind.Kind.{Kind}
use Rattle.pm_values.specs.declared.kind.Kind.TheVariants.{Insert, UpdateBefore, UpdateAfter, Delete}
use Rattle.pm_values.specs.declared.value.Value.{Value}
use Rattle.pm_values.specs.declared.value.Value.TheVariants.{Null, Bool as Truth, Int, Text, Bytes, Day, Millis}
use Rattle.pm_rows.specs.Reading.{kind_in, number_at, least, greatest, integer_at, whole_at, value_at, item_at, values_at, row_of_items, row_of}
use Rattle.pm_rows.specs.RowText.{data_tokens, kind_text, item_data, row_data, row_text}
use Rattle.pm_value_text.specs.Date.{IsDay, date_text}
use Rattle.pm_value_text.specs.Hexadecimal.{hex_text}
use Rattle.pm_value_text.proofs.Lemmas.{bytes_in-hex_text, IsUtf8-hex_text}
use Rattle.pm_value_text.proofs.Lemmas.{day_in-date_text, IsUtf8-date_text}
use Rattle.pm_rows.proofs.ReadLemmas.{json_in-ok, list_of-items_of}
use Rattle.pm_rows.proofs.TextLemmas.{IsAtom, AreAtoms, IsInteger, read-compact_text, IsUtf8-array_text, IsOneLine, IsOneLine-null, IsOneLine-boolean, IsOneLine-integer, IsOneLine-string, IsUnbroken-array_text}

-- ---- the items of a row that fits can be read

IsInteger-in_type : (kind : ColType) (z : ℤ) → IsInType kind (Int z) → IsInteger (of_integer z)
IsInteger-in_type types.TinyInt (pos n) h = omega arith
IsInteger-in_type types.TinyInt (negsuc n) h = omega arith
IsInteger-in_type types.SmallInt (pos n) h = omega arith
IsInteger-in_type types.SmallInt (negsuc n) h = omega arith
IsInteger-in_type types.Int (pos n) h = omega arith
IsInteger-in_type types.Int (negsuc n) h = omega arith
IsInteger-in_type types.BigInt (pos n) h = omega arith
IsInteger-in_type types.BigInt (negsuc n) h = omega arith
IsInteger-in_type other z h = absurd h

IsInteger-millis : (kind : ColType) (z : ℤ) → IsInType kind (Millis z) → IsInteger (of_integer z)
IsInteger-millis types.Timestamp (pos n) h = omega arith
IsInteger-millis types.Timestamp (negsuc n) h = omega arith
IsInteger-millis other z h = absurd h

IsUtf8-in_type : (kind : ColType) (text : List ℕ) → IsInType kind (Text text) → IsUtf8 text
IsUtf8-in_type types.Text text h = h
IsUtf8-in_type other text h = absurd h

either : (P : Data → Type 0) (b : Bool) (x y : Data) → (b ≡ true → P x) → P y → P (cond b x y)
either P true x y h k = h refl
either P false x y h k = k

-- what holds of the text of a day from the year 1 to 9999, and of null, holds of the item of a day
each_day : (P : Data → Type 0) (day : ℤ) → (IsDay day → P (string (date_text day))) → P null → P (item_data (Day day))
each_day P day text h =
    either P (int_le first_day day && int_le day last_day) _ _
    (λ is. let sides = and_parts _ _ is in text (le_z_yes (T_from_true _ sides.0), le_z_yes (T_from_true _ sides.1)))
    h

IsAtom-day : (day : ℤ) → IsAtom (item_data (Day day))
IsAtom-day day = each_day IsAtom day (IsUtf8-date_text day) tt

pub IsAtom-item_data : (column : Column) (v : Value) → FitsColumn column v → IsAtom (item_data v)
IsAtom-item_data column Null h = tt
IsAtom-item_data column (Truth b) h = tt
IsAtom-item_data column (Int z) h = IsInteger-in_type column.kind z h
IsAtom-item_data column (Text text) h = IsUtf8-in_type column.kind text h
IsAtom-item_data column (Bytes bytes) h = IsUtf8-hex_text bytes
IsAtom-item_data column (Day day) h = IsAtom-day day
IsAtom-item_data column (Millis z) h = IsInteger-millis column.kind z h

AreAtoms-item_data : (columns : List Column) (row : Values) → Fits columns row → AreAtoms (map item_data row)
AreAtoms-item_data [] [] h = tt
AreAtoms-item_data [] (v ∷ row) h = absurd h
AreAtoms-item_data (c ∷ columns) [] h = absurd h
AreAtoms-item_data (c ∷ columns) (v ∷ row) h = (IsAtom-item_data c v h.0, AreAtoms-item_data columns row h.1)

IsUtf8-kind_text : (kind : Kind) → IsUtf8 (kind_text kind)
IsUtf8-kind_text Insert = IsUtf8-are_ascii _ refl
IsUtf8-kind_text UpdateBefore = IsUtf8-are_ascii _ refl
IsUtf8-kind_text UpdateAfter = IsUtf8-are_ascii _ refl
IsUtf8-kind_text Delete = IsUtf8-are_ascii _ refl

-- ---- they read as the row

kind_in-kind_text : (kind : Kind) → kind_in (string (kind_text kind)) ≡ Ok kind
kind_in-kind_text Insert = refl
kind_in-kind_text UpdateBefore = refl
kind_in-kind_text UpdateAfter = refl
kind_in-kind_text Delete = refl

number_at-integer : (index : ℕ) (z : ℤ) → number_at index (number (of_integer z)) ≡ Ok z
number_at-integer index (pos n) = refl
number_at-integer index (negsuc n) = refl

is_true : (b : Bool) → T b → b ≡ true
is_true true h = refl
is_true false h = absurd h

integer_at-integer : (index : ℕ) (low high z : ℤ) → low ≤ℤ z → z ≤ℤ high → integer_at index low high (number (of_integer z)) ≡ Ok z
integer_at-integer index low high z above below =
    rw (number_at-integer index z, is_true (int_le low z) above.le, is_true (int_le z high) below.le) refl

whole_at-integer : (index : ℕ) (low high z : ℤ) → low ≤ℤ z → z ≤ℤ high → whole_at index low high (number (of_integer z)) ≡ Ok (Int z)
whole_at-integer index low high z above below = rw (integer_at-integer index low high z above below) refl

value_at-item_data : (index : ℕ) (kind : ColType) (v : Value) → IsInType kind v → value_at index kind (item_data v) ≡ Ok v
value_at-item_data index types.Boolean (Truth b) h = refl
value_at-item_data index types.TinyInt (Int z) h = whole_at-integer index (least 8) (greatest 8) z (omega (arith, ints)) (omega (arith, ints))
value_at-item_data index types.SmallInt (Int z) h = whole_at-integer index (least 16) (greatest 16) z (omega (arith, ints)) (omega (arith, ints))
value_at-item_data index types.Int (Int z) h = whole_at-integer index (least 32) (greatest 32) z (omega (arith, ints)) (omega (arith, ints))
value_at-item_data index types.BigInt (Int z) h = whole_at-integer index (least 64) (greatest 64) z (omega (arith, ints)) (omega (arith, ints))
value_at-item_data index types.Text (Text text) h = refl
value_at-item_data index types.Bytes (Bytes bytes) h = rw (bytes_in-hex_text bytes h) refl
value_at-item_data index types.Date (Day day) h = rw (is_true (int_le first_day day) h.0.le, is_true (int_le day last_day) h.1.le, day_in-date_text day h) refl
value_at-item_data index types.Timestamp (Millis z) h = rw (integer_at-integer index (least 64) (greatest 64) z (omega (arith, ints)) (omega (arith, ints))) refl
value_at-item_data index kind v h = absurd h

IsDay-in_type : (kind : ColType) (day : ℤ) → IsInType kind (Day day) → IsDay day
IsDay-in_type types.Date day h = h
IsDay-in_type other day h = absurd h

pub item_data-day : (day : ℤ) → IsDay day → item_data (Day day) ≡ string (date_text day)
item_data-day day h = rw (is_true (int_le first_day day) h.0.le, is_true (int_le day last_day) h.1.le) refl

-- null stands for a day that fits no column
pub item_data-other_day : (day : ℤ) → (IsDay day → ⊥) → item_data (Day day) ≡ null
item_data-other_day day none =
    elim (int_le first_day day && int_le day last_day) as (λ b. (int_le first_day day && int_le day last_day) ≡ b → cond b (string (date_text day)) null ≡ null) [
      | true ↦ λ is. let sides = and_parts _ _ is in absurd (none (le_z_yes (T_from_true _ sides.0), le_z_yes (T_from_true _ sides.1)))
      | false ↦ λ is. refl
    ] refl

item_at-day : (index : ℕ) (column : Column) (day : ℤ) → IsInType column.kind (Day day) → item_at index column (item_data (Day day)) ≡ Ok (Day day)
item_at-day index column day h =
    let is = item_data-day day (IsDay-in_type column.kind day h) in
    ap (item_at index column) is ∙ sym (ap (value_at index column.kind) is) ∙ value_at-item_data index column.kind (Day day) h

item_at-item_data : (index : ℕ) (column : Column) (v : Value) → FitsColumn column v → item_at index column (item_data v) ≡ Ok v
item_at-item_data index column Null h = rw h refl
item_at-item_data index column (Truth b) h = value_at-item_data index column.kind (Truth b) h
item_at-item_data index column (Int z) h = value_at-item_data index column.kind (Int z) h
item_at-item_data index column (Text text) h = value_at-item_data index column.kind (Text text) h
item_at-item_data index column (Bytes bytes) h = value_at-item_data index column.kind (Bytes bytes) h
item_at-item_data index column (Day day) h = item_at-day index column day h
item_at-item_data index column (Millis z) h = value_at-item_data index column.kind (Millis z) h

values_at-item_data : (index : ℕ) (columns : List Column) (row : Values) → Fits columns row → values_at index columns (map item_data row) ≡ Ok row
values_at-item_data index [] [] h = refl
values_at-item_data index [] (v ∷ row) h = absurd h
values_at-item_data index (c ∷ columns) [] h = absurd h
values_at-item_data index (c ∷ columns) (v ∷ row) h =
    rw (item_at-item_data index c v h.0, values_at-item_data (suc index) columns row h.1) refl

length-row : (columns : List Column) (row : Values) → Fits columns row → length (map item_data row) ≡ length columns
length-row [] [] h = refl
length-row [] (v ∷ row) h = absurd h
length-row (c ∷ columns) [] h = absurd h
length-row (c ∷ columns) (v ∷ row) h = ap suc (length-row columns row h.1)

row_of_items-row : (columns : List Column) (kind : Kind) (row : Values) → Fits columns row → row_of_items columns (string (kind_text kind) ∷ map item_data row) ≡ Ok (kind, row)
row_of_items-row columns kind row fits =
    rw (kind_in-kind_text kind, eq-eqb _ _ (length-row columns row fits), values_at-item_data 0 columns row fits) refl

-- a row that fits is read again from its line
pub row_of-row_text : (columns : List Column) (kind : Kind) (row : Values) → Fits columns row → row_of columns (row_text kind row) ≡ Ok (kind, row)
unfolding row_of row_text
row_of-row_text columns kind row fits =
    let ds = string (kind_text kind) ∷ map item_data row in
    let atoms : AreAtoms ds = (IsUtf8-kind_text kind, AreAtoms-item_data columns row fits) in
    let reads = json_in-ok (compact_text (row_data kind row)) (row_data kind row) (IsUtf8-array_text ds atoms) (read-compact_text ds atoms) in
    rw reads (ap (row_of_items columns) (list_of-items_of ds) ∙ row_of_items-row columns kind row fits)

same_parts : {A B : Type 0} (p q : A × B) → p ≡ q → (p.0 ≡ q.0) × (p.1 ≡ q.1)
same_parts p q e = (ap (λ x. x.0) e, ap (λ x. x.1) e)

-- no two kinds and rows that fit have one line
pub row_text-injective : (columns : List Column) (k l : Kind) (row other : Values) → Fits columns row → Fits columns other → row_text k row ≡ row_text l other → (k ≡ l) × (row ≡ other)
row_text-injective columns k l row other fits also same =
    let again = sym (row_of-row_text columns k row fits) ∙ ap (row_of columns) same ∙ row_of-row_text columns l other also in
    same_parts {A = Kind} {B = Values} (k, row) (l, other) cc

-- ---- the line itself

IsOneLine-item_data : (v : Value) → IsOneLine (item_data v)
IsOneLine-item_data Null = IsOneLine-null
IsOneLine-item_data (Truth b) = IsOneLine-boolean b
IsOneLine-item_data (Int n) = IsOneLine-integer n
IsOneLine-item_data (Text text) = IsOneLine-string text
IsOneLine-item_data (Bytes bytes) = IsOneLine-string (hex_text bytes)
IsOneLine-item_data (Day day) = each_day IsOneLine day (λ _. IsOneLine-string (date_text day)) IsOneLine-null
IsOneLine-item_data (Millis millis) = IsOneLine-integer millis

each_item : (row : Values) → AllByRecursion IsOneLine (map item_data row)
each_item [] = tt
each_item (v ∷ row) = (IsOneLine-item_data v, each_item row)

-- a row is one line
pub IsUnbroken-row_text : (kind : Kind) (row : Values) → IsUnbroken (row_text kind row)
unfolding row_text
IsUnbroken-row_text kind row = IsUnbroken-array_text (string (kind_text kind) ∷ map item_data row) (IsOneLine-string (kind_text kind), each_item row)

-- a row's line isn't blank
pub row_text-begins : (kind : Kind) (row : Values) → (more : List ℕ) × (row_text kind row ≡ 91 ∷ more)
unfolding row_text
row_text-begins kind row = (_, refl)

-- ---- what the printer writes

-- the tokens of the items, with the closing bracket
abbrev pub tokens_from : Values → List Token
tokens_from values = items_tokens (items_outline (items_of (map item_data values)))

-- the tokens of a flat array print as its compact text
pub print-row_data : (kind : Kind) (row : Values) → print (data_tokens (row_data kind row)) ≡ row_text kind row
unfolding row_text
print-row_data kind row = print-outline (row_data kind row)
