-- The stages of a reading, against what `serde_json` answers.
use Rattle.std.proofs.Common.{◌≡◌, ℕ, suc, ◌+◌, ◌<◌, List, [], ◌∷◌, ◌++◌, length, get_or, drop, map, Bool, true, false, Some, None, Result, Ok, Err, IsUtf8, refl, sym, ap, ◌∙◌, append_assoc, add-one, drop-cons}
use Rattle.std.specs.Str.{is_utf8}
use Rattle.std.proofs.lemmas.Str.{is_utf8-from_IsUtf8, IsUtf8-from_is_utf8}
use Rattle.serde_json.specs.Data.{Data, null, boolean, number, string, array, object}
use Rattle.serde_json.specs.Find.{as_array}
use Rattle.serde_json.specs.Read.{read}
use Rattle.serde_json.specs.View.{items_of, view}
use Rattle.serde_json.specs.declared.value.Value.{Value as Json}
use Rattle.pm_values.specs.Fits.{Fits, FitsColumn}
use Rattle.pm_values.specs.Order.{Values}
use Rattle.pm_values.specs.declared.column.Column.{Column}
use Rattle.pm_values.specs.declared.refusal.Why.TheVariants as why
use Rattle.pm_values.specs.declared.value.Value.{Value}
use Rattle.pm_base.specs.Outcome.{◌>>=◌}
use Rattle.pm_rows.specs.Reading.{Fault, json_in, list_of, items_in, item_at, values_at}

-- ---- the JSON of a line

pub json_in-ok : (line : List ℕ) (d : Data) → IsUtf8 line → read line ≡ Some d → json_in line ≡ Ok d
json_in-ok line d utf8 is = rw (is_utf8-from_IsUtf8 line utf8, is)

refused_at : (line : List ℕ) (b : Bool) → is_utf8 line ≡ b → (IsUtf8 line → read line ≡ None) → json_in line ≡ Err (why.Json, 0)
refused_at line true is none = rw (is, none (IsUtf8-from_is_utf8 line is))
refused_at line false is none = rw is

pub json_in-err : (line : List ℕ) → (IsUtf8 line → read line ≡ None) → json_in line ≡ Err (why.Json, 0)
json_in-err line none = refused_at line (is_utf8 line) refl none

-- ---- the items of an array

pub list_of-items_of : (ds : List Data) → list_of (items_of ds) ≡ ds
list_of-items_of [] = refl
list_of-items_of (d ∷ ds) = ap (λ l. d ∷ l) (list_of-items_of ds)

pub items_in-as_array : (d : Data) (ds : List Data) → Some (items_of ds) ≡ as_array d → items_in d ≡ Ok ds
items_in-as_array null ds is = cc
items_in-as_array (boolean b) ds is = cc
items_in-as_array (number n) ds is = cc
items_in-as_array (string s) ds is = cc
items_in-as_array (array items) ds is = let same : items_of ds ≡ items = cc in ap Ok (ap list_of (sym same) ∙ list_of-items_of ds)
items_in-as_array (object ms) ds is = cc

-- ---- the values of the items, one column after another

-- what is read, after the values so far
abbrev pub prefixed : Values → Result Values Fault → Result Values Fault
prefixed before reading = reading >>= λ more. Ok (before ++ more)

prefixed-prefixed : (before : Values) (v : Value) (reading : Result Values Fault) → prefixed before (reading >>= λ more. Ok (v ∷ more)) ≡ prefixed (before ++ v ∷ []) reading
prefixed-prefixed before v (Ok more) = ap Ok (sym (append_assoc before (v ∷ []) more))
prefixed-prefixed before v (Err e) = refl

-- the readings from the index on begin with that at the index
at_index : (index : ℕ) (columns : List Column) (items : List Json) (column : Column) (json : Json) → index < length columns → index < length items → column ≡ get_or columns index column → json ≡ get_or items index json
    → values_at index (drop index columns) (map view (drop index items)) ≡ values_at index (column ∷ drop (suc index) columns) (view json ∷ map view (drop (suc index) items))
at_index index columns items column json here there is was =
    rw (drop-cons columns index column, drop-cons items index json, ← is, ← was) refl

pub values_at-ok : (index : ℕ) (columns : List Column) (items : List Json) (column : Column) (json : Json) (before : Values) (v : Value)
    → index < length columns → index < length items → column ≡ get_or columns index column → json ≡ get_or items index json → item_at index column (view json) ≡ Ok v
    → prefixed (before ++ v ∷ []) (values_at (index + 1) (drop (index + 1) columns) (map view (drop (index + 1) items))) ≡ prefixed before (values_at index (drop index columns) (map view (drop index items)))
values_at-ok index columns items column json before v here there is was reads =
    rw (add-one, at_index index columns items column json here there is was, reads)
    (sym (prefixed-prefixed before v (values_at (suc index) (drop (suc index) columns) (map view (drop (suc index) items)))))

pub values_at-err : (index : ℕ) (columns : List Column) (items : List Json) (column : Column) (json : Json) (before : Values) (e : Fault)
    → index < length columns → index < length items → column ≡ get_or columns index column → json ≡ get_or items index json → item_at index column (view json) ≡ Err e
    → prefixed before (values_at index (drop index columns) (map view (drop index items))) ≡ Err e
values_at-err index columns items column json before e here there is was reads =
    rw (at_index index columns items column json here there is was, reads) refl

pub Fits-push : (columns : List Column) (values : Values) (column : Column) (v : Value) → Fits columns values → FitsColumn column v → Fits (columns ++ column ∷ []) (values ++ v ∷ [])
Fits-push [] [] column v fits this = (this, tt)
Fits-push [] (w ∷ values) column v fits this = absurd fits
Fits-push (c ∷ columns) [] column v fits this = absurd fits
Fits-push (c ∷ columns) (w ∷ values) column v fits this = (fits.0, Fits-push columns values column v fits.1 this)
