-- A row that was read of a line fits its columns.
use Rattle.std.proofs.Common.{◌≡◌, ℕ, suc, ◌==◌, ◌&&◌, ℤ, ◌≤ℤ◌, int_le, List, [], ◌∷◌, length, Bool, true, false, cond, Option, Some, None, Result, Ok, Err, ok_or, IsUtf8, refl, subst, arith}
use Rattle.std.specs.Str.{is_utf8}
use Rattle.std.specs.Int.Signed.{le_z_yes}
use Rattle.std.specs.List.{AllByRecursion}
use Rattle.std.proofs.lemmas.Bool.{and_parts}
use Rattle.std.proofs.lemmas.Float.{T_from_true}
use Rattle.std.proofs.lemmas.Int.{ints}
use Rattle.std.proofs.lemmas.Str.{IsUtf8-from_is_utf8}
use Rattle.serde_json.specs.Data.{Data, null, boolean, number, string, array, object}
use Rattle.serde_json.specs.Read.{read}
use Rattle.pm_base.specs.Outcome.{◌>>=◌}
use Rattle.pm_base.proofs.Laws.{step_ok}
use Rattle.pm_values.specs.Fits.{IsInType, FitsColumn, Fits}
use Rattle.pm_values.specs.Order.{Values}
use Rattle.pm_values.specs.declared.column.ColType.{ColType}
use Rattle.pm_values.specs.declared.column.ColType.TheVariants as types
use Rattle.pm_values.specs.declared.column.Column.{Column}
use Rattle.pm_values.specs.declared.kind.Kind.{Kind}
use Rattle.pm_values.specs.declared.refusal.Why.TheVariants as why
use Rattle.pm_values.specs.declared.value.Value.{Value}
use Rattle.pm_values.specs.declared.value.Value.TheVariants.{Null, Bool as Truth, Int, Text, Bytes, Day, Millis}
use Rattle.pm_value_text.specs.Date.{day_in}
use Rattle.pm_value_text.specs.Hexadecimal.{bytes_in}
use Rattle.pm_value_text.proofs.Lemmas.{bytes_in-some, text-day_in}
use Rattle.pm_rows.specs.Reading.{Fault, json_in, items_in, kind_in, truth_at, number_at, least, greatest, within, integer_at, whole_at, millis_at, text_at, bytes_at, day_at, value_at, item_at, values_at, row_of_items, row_of}
use Rattle.pm_rows.proofs.DocumentLemmas.{IsTextData, AllTextData-read}

-- ---- a reading that gave a value

-- what was found and not refused
found_at : {A : Type 0} (o : Option A) (a : A) (e : Fault) → ok_or o e ≡ Ok a → o ≡ Some a
found_at (Some b) a e is = cc
found_at None a e is = cc

-- an integer within the range is in it
within-range : (index : ℕ) (low high z n : ℤ) → within index low high z ≡ Ok n → (low ≤ℤ n) × (n ≤ℤ high)
within-range index low high z n e =
    let test = int_le low z && int_le z high in
    elim test as (λ b. test ≡ b → cond {A = Result ℤ Fault} b (Ok z) (Err (why.Range, index)) ≡ Ok n → (low ≤ℤ n) × (n ≤ℤ high)) [
      | true ↦ λ is e.
          let same : z ≡ n = cc in
          let sides = and_parts _ _ is in
          subst (λ n. (low ≤ℤ n) × (n ≤ℤ high)) same (le_z_yes (T_from_true _ sides.0), le_z_yes (T_from_true _ sides.1))
      | false ↦ λ is e. cc
    ] refl e

-- ---- the values of the items

truth : (index : ℕ) (d : Data) (v : Value) → truth_at index d ≡ Ok v → IsInType types.Boolean v
truth index (boolean b) v e = let same : Truth b ≡ v = cc in subst (IsInType types.Boolean) same tt
truth index null v e = cc
truth index (number n) v e = cc
truth index (string s) v e = cc
truth index (array ds) v e = cc
truth index (object ms) v e = cc

text : (index : ℕ) (d : Data) (v : Value) → IsTextData d → text_at index d ≡ Ok v → IsInType types.Text v
text index (string s) v utf8 e = let same : Text s ≡ v = cc in subst (IsInType types.Text) same utf8
text index null v utf8 e = cc
text index (boolean b) v utf8 e = cc
text index (number n) v utf8 e = cc
text index (array ds) v utf8 e = cc
text index (object ms) v utf8 e = cc

-- an integer that is read is in its range
integer : (index : ℕ) (low high : ℤ) (d : Data) (n : ℤ) → integer_at index low high d ≡ Ok n → (low ≤ℤ n) × (n ≤ℤ high)
integer index low high d n e =
    let parts = step_ok (number_at index d) (within index low high) n e in
    within-range index low high parts.0 n parts.2

whole : (index : ℕ) (low high : ℤ) (d : Data) (v : Value) → whole_at index low high d ≡ Ok v → (n : ℤ) × (Int n ≡ v) × (low ≤ℤ n) × (n ≤ℤ high)
whole index low high d v e =
    let parts = step_ok (integer_at index low high d) (λ n. Ok (Int n)) v e in
    let range = integer index low high d parts.0 parts.1 in
    (parts.0, cc, range.0, range.1)

millis : (index : ℕ) (d : Data) (v : Value) → millis_at index d ≡ Ok v → IsInType types.Timestamp v
millis index d v e =
    let parts = step_ok (integer_at index (least 64) (greatest 64) d) (λ n. Ok (Millis n)) v e in
    let range = integer index (least 64) (greatest 64) d parts.0 parts.1 in
    let same : Millis parts.0 ≡ v = cc in
    subst (IsInType types.Timestamp) same (omega (arith, ints))

bytes : (index : ℕ) (d : Data) (v : Value) → bytes_at index d ≡ Ok v → IsInType types.Bytes v
bytes index (string s) v e =
    let parts = step_ok {B = Value} (ok_or (bytes_in s) (why.Range, index)) (λ bytes. Ok (Bytes bytes)) v e in
    let same : Bytes parts.0 ≡ v = cc in
    subst (IsInType types.Bytes) same (bytes_in-some s parts.0 (found_at (bytes_in s) parts.0 (why.Range, index) parts.1)).1
bytes index null v e = cc
bytes index (boolean b) v e = cc
bytes index (number n) v e = cc
bytes index (array ds) v e = cc
bytes index (object ms) v e = cc

day : (index : ℕ) (d : Data) (v : Value) → day_at index d ≡ Ok v → IsInType types.Date v
day index (string s) v e =
    let parts = step_ok {B = Value} (ok_or (day_in s) (why.Range, index)) (λ day. Ok (Day day)) v e in
    let same : Day parts.0 ≡ v = cc in
    subst (IsInType types.Date) same (text-day_in s parts.0 (found_at (day_in s) parts.0 (why.Range, index) parts.1)).0
day index null v e = cc
day index (boolean b) v e = cc
day index (number n) v e = cc
day index (array ds) v e = cc
day index (object ms) v e = cc

IsInType-value_at : (index : ℕ) (kind : ColType) (d : Data) (v : Value) → IsTextData d → value_at index kind d ≡ Ok v → IsInType kind v
IsInType-value_at index types.Boolean d v utf8 e = truth index d v e
IsInType-value_at index types.TinyInt d v utf8 e = let is = whole index (least 8) (greatest 8) d v e in subst (IsInType types.TinyInt) is.1 (omega (arith, ints))
IsInType-value_at index types.SmallInt d v utf8 e = let is = whole index (least 16) (greatest 16) d v e in subst (IsInType types.SmallInt) is.1 (omega (arith, ints))
IsInType-value_at index types.Int d v utf8 e = let is = whole index (least 32) (greatest 32) d v e in subst (IsInType types.Int) is.1 (omega (arith, ints))
IsInType-value_at index types.BigInt d v utf8 e = let is = whole index (least 64) (greatest 64) d v e in subst (IsInType types.BigInt) is.1 (omega (arith, ints))
IsInType-value_at index types.Text d v utf8 e = text index d v utf8 e
IsInType-value_at index types.Bytes d v utf8 e = bytes index d v e
IsInType-value_at index types.Date d v utf8 e = day index d v e
IsInType-value_at index types.Timestamp d v utf8 e = millis index d v e

null_value : (index : ℕ) (column : Column) (v : Value) (b : Bool) → column.nullable ≡ b → cond {A = Result Value Fault} b (Ok Null) (Err (why.Null, index)) ≡ Ok v → FitsColumn column v
null_value index column v true is e = let same : Null ≡ v = cc in subst (FitsColumn column) same is
null_value index column v false is e = cc

-- a value that isn't null fits where it is of the column's type
not_null : (column : Column) (v : Value) → IsInType column.kind v → FitsColumn column v
not_null column Null h = absurd (no_null column.kind h)
  where
    no_null : (kind : ColType) → IsInType kind Null → ⊥
    no_null types.Boolean h = h
    no_null other h = h
not_null column (Truth b) h = h
not_null column (Int n) h = h
not_null column (Text words) h = h
not_null column (Bytes bytes) h = h
not_null column (Day day) h = h
not_null column (Millis n) h = h

FitsColumn-item_at : (index : ℕ) (column : Column) (d : Data) (v : Value) → IsTextData d → item_at index column d ≡ Ok v → FitsColumn column v
FitsColumn-item_at index column null v utf8 e = null_value index column v column.nullable refl e
FitsColumn-item_at index column (boolean b) v utf8 e = not_null column v (IsInType-value_at index column.kind (boolean b) v utf8 e)
FitsColumn-item_at index column (number n) v utf8 e = not_null column v (IsInType-value_at index column.kind (number n) v utf8 e)
FitsColumn-item_at index column (string s) v utf8 e = not_null column v (IsInType-value_at index column.kind (string s) v utf8 e)
FitsColumn-item_at index column (array ds) v utf8 e = not_null column v (IsInType-value_at index column.kind (array ds) v utf8 e)
FitsColumn-item_at index column (object ms) v utf8 e = not_null column v (IsInType-value_at index column.kind (object ms) v utf8 e)

Fits-step : (column : Column) (columns : List Column) (one : Result Value Fault) (more : Result Values Fault) (row : Values)
    → ((v : Value) → one ≡ Ok v → FitsColumn column v) → ((row : Values) → more ≡ Ok row → Fits columns row)
    → (one >>= λ v. more >>= λ row. Ok (v ∷ row)) ≡ Ok row → Fits (column ∷ columns) row
Fits-step column columns (Err fault) more row first later e = cc
Fits-step column columns (Ok v) (Err fault) row first later e = cc
Fits-step column columns (Ok v) (Ok rest) row first later e =
    let same : v ∷ rest ≡ row = cc in
    subst (Fits (column ∷ columns)) same (first v refl, later rest refl)

Fits-values_at : (index : ℕ) (columns : List Column) (ds : List Data) (row : Values) → AllByRecursion IsTextData ds → values_at index columns ds ≡ Ok row → Fits columns row
Fits-values_at index [] [] row utf8 e = let same : [] ≡ row = cc in subst (Fits []) same tt
Fits-values_at index [] (d ∷ ds) row utf8 e = cc
Fits-values_at index (column ∷ columns) [] row utf8 e = cc
Fits-values_at index (column ∷ columns) (d ∷ ds) row utf8 e =
    Fits-step column columns (item_at index column d) (values_at (suc index) columns ds) row
    (λ v. FitsColumn-item_at index column d v utf8.0) (λ row. Fits-values_at (suc index) columns ds row utf8.1) e

-- ---- the whole line

-- a line that reads as JSON is UTF-8
read_line : (line : List ℕ) (d : Data) (utf8 : Bool) → is_utf8 line ≡ utf8 → ok_or {E = Fault} (cond utf8 (read line) None) (why.Json, 0) ≡ Ok d → IsUtf8 line × (read line ≡ Some d)
read_line line d true is e = (IsUtf8-from_is_utf8 line is, found_at (read line) d (why.Json, 0) e)
read_line line d false is e = cc

counted : (columns : List Column) (ds : List Data) (same : Bool) (row : Values) → AllByRecursion IsTextData ds
    → cond {A = Result Values Fault} same (values_at 0 columns ds) (Err (why.Count, 0)) ≡ Ok row → Fits columns row
counted columns ds true row utf8 e = Fits-values_at 0 columns ds row utf8 e
counted columns ds false row utf8 e = cc

Fits-row_of_items : (columns : List Column) (ds : List Data) (r : Kind × Values) → AllByRecursion IsTextData ds → row_of_items columns ds ≡ Ok r → Fits columns r.1
Fits-row_of_items columns [] r utf8 e = cc
Fits-row_of_items columns (first ∷ ds) r utf8 e =
    let kind = step_ok {B = Kind × Values} (kind_in first) _ r e in
    let row = step_ok {B = Kind × Values} _ (λ (row : Values). Ok (kind.0, row)) r kind.2 in
    let same : (kind.0, row.0) ≡ r = cc in
    subst (λ (r : Kind × Values). Fits columns r.1) same (counted columns ds (length ds == length columns) row.0 utf8.1 row.1)

-- a row that was read fits
pub Fits-row_of : (columns : List Column) (line : List ℕ) (r : Kind × Values) → row_of columns line ≡ Ok r → Fits columns r.1
unfolding row_of
Fits-row_of columns line r e =
    let json = step_ok {B = Kind × Values} (json_in line) _ r e in
    let items = step_ok {B = Kind × Values} (items_in json.0) (row_of_items columns) r json.2 in
    let text = read_line line json.0 (is_utf8 line) refl json.1 in
    Fits-row_of_items columns items.0 r (AllTextData-read line json.0 items.0 text.0 text.1 items.1) items.2
