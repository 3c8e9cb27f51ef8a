-- Data that have the types of fields, and values that fit them.
use Rattle.std.specs.Prelude.{◌≤◌, List, [], ◌∷◌, IsTrue}
use Rattle.pm_avro_data.specs.Datum.{Data}
use Rattle.pm_avro_data.specs.HasType.{HasType}
use Rattle.pm_model_history.specs.Merge.{key_of}
use Rattle.pm_values.specs.Fits.{IsInType}
use Rattle.pm_values.specs.Order.{Values}
use Rattle.pm_values.specs.declared.record.Stamped.{Stamped}
use Rattle.pm_values.specs.declared.value.Value.{Value}
use Rattle.pm_values.specs.declared.value.Value.TheVariants.{Null}
use Rattle.pm_run.specs.declared.form.Field.{Field}
use Rattle.pm_run.specs.Form.{Form}
use Rattle.pm_run.specs.Kinds.{field_type}
use Rattle.pm_run.specs.Row.{most_sequence, values_data}

-- one datum for each field, and each has the field's type
abbrev pub HaveFields : List Field → List Data → Type 0
HaveFields [] [] = Unit {0}
HaveFields (x ∷ fields) (d ∷ ds) = HasType (field_type x) d × HaveFields fields ds
HaveFields fields ds = ⊥

-- a row has one value for each column, of the column's type, and a number within the greatest; no other is written
pub record IsWritable (f : Form) (x : Stamped) : Type 0 where
  pub columns : HaveFields f.columns (values_data f.columns x.row)
  pub keys : HaveFields f.keys (values_data f.keys (key_of f.places x.row))
  pub numbered : x.seq ≤ most_sequence

-- a value fits a field
abbrev pub FitsField : Field → Value → Type 0
FitsField x Null = IsTrue x.nullable
FitsField x value = IsInType x.kind value

-- each value fits its field
abbrev pub FitFields : List Field → Values → Type 0
FitFields [] [] = Unit {0}
FitFields (x ∷ fields) (value ∷ values) = FitsField x value × FitFields fields values
FitFields fields values = ⊥
