-- Values that are written of a row are read as the same.
use Rattle.std.proofs.Common.{◌≡◌, ℕ, suc, ◌+◌, ◌≤◌, ℤ, pos, negsuc, ◌≤ℤ◌, int_le, min, Bool, true, false, T, List, [], ◌∷◌, ◌++◌, map, Some, Ok, refl, sym, ap, subst, arith}
use Rattle.std.specs.Prelude.{if◌then◌else◌}
use Rattle.std.specs.Cmp.{tied_itself}
use Rattle.std.specs.List.{AllByRecursion, position_or_len}
use Rattle.std.specs.Ordering.{is_eq}
use Rattle.std.specs.Str.{bytes_eq}
use Rattle.std.proofs.lemmas.Bool.{le-leb}
use Rattle.std.proofs.lemmas.Int.{ints}
use Rattle.pm_avro_schema.specs.Avro.{Avro}
use Rattle.pm_avro_data.specs.Datum.{Data, int, long}
use Rattle.pm_avro_data.specs.HasType.{HasType}
use Rattle.pm_model_history.specs.Merge.{key_of, value_at}
use Rattle.pm_model_history.specs.Taken.{stores_by}
use Rattle.pm_options.specs.declared.kinds.EngineKind.{EngineKind}
use Rattle.pm_options.specs.declared.kinds.EngineKind.TheVariants as engines
use Rattle.pm_schema.specs.declared.schema.TableSchema.{TableSchema}
use Rattle.pm_record.specs.Record.{type_of_field}
use Rattle.pm_values.specs.Fits.{Fits, FitsColumn, IsInType, first_day, last_day}
use Rattle.pm_values.specs.Kind.{code_of}
use Rattle.pm_values.specs.Order.{Values, value_total}
use Rattle.pm_values.specs.declared.column.ColType.{ColType}
use Rattle.pm_values.specs.declared.column.ColType.TheVariants as types
use Rattle.pm_values.specs.declared.column.Column.{Column}
use Rattle.pm_values.specs.declared.kind.Kind.{Kind}
use Rattle.pm_values.specs.declared.kind.Kind.TheVariants.{Insert, UpdateBefore, UpdateAfter, Delete}
use Rattle.pm_values.specs.declared.value.Value.{Value}
use Rattle.pm_values.specs.declared.value.Value.TheVariants.{Null, Bool as Truth, Int as Whole, Text as Words, Bytes as Octets, Day, Millis}
use Rattle.pm_run.specs.declared.form.Field.{Field}
use Rattle.pm_run.specs.declared.slot.Fit.TheVariants.{Plain, Optional}
use Rattle.pm_run.specs.declared.slot.Slot.{Slot}
use Rattle.pm_run.specs.Form.{field_of, key_field, key_field_of}
use Rattle.pm_run.specs.Kinds.{field_type, fit_of, or_null, slot_of, slots_of, value_type}
use Rattle.pm_run.specs.Row.{agree, kind_in, may_stand, most_sequence, optional_data, optional_in, row_kind, scalar_data, scalar_in, sequence_in, stored_kind, value_by, value_data, value_in, values_data, values_in}
use Rattle.pm_run.specs.Typed.{FitFields, FitsField, HaveFields}

is_true : (b : Bool) → T b → b ≡ true
is_true true h = refl
is_true false h = absurd h

-- ---- one value

whole_back : (low high z : ℤ) → low ≤ℤ z → z ≤ℤ high → (int_le low z ≡ true) × (int_le z high ≡ true)
whole_back low high z above below = (is_true (int_le low z) above.le, is_true (int_le z high) below.le)

tiny_back : (z : ℤ) → IsInType types.TinyInt (Whole z) → (int_le (negsuc 127) z ≡ true) × (int_le z (pos 127) ≡ true)
tiny_back z h = whole_back (negsuc 127) (pos 127) z (omega (arith, ints)) (omega (arith, ints))

small_back : (z : ℤ) → IsInType types.SmallInt (Whole z) → (int_le (negsuc 32767) z ≡ true) × (int_le z (pos 32767) ≡ true)
small_back z h = whole_back (negsuc 32767) (pos 32767) z (omega (arith, ints)) (omega (arith, ints))

scalar_back : (kind : ColType) (value : Value) → IsInType kind value → scalar_in kind (scalar_data kind value) ≡ Some value
scalar_back types.Boolean (Truth b) h = refl
scalar_back types.TinyInt (Whole z) h = let r = tiny_back z h in rw (r.0, r.1) refl
scalar_back types.SmallInt (Whole z) h = let r = small_back z h in rw (r.0, r.1) refl
scalar_back types.Int (Whole z) h = refl
scalar_back types.BigInt (Whole z) h = refl
scalar_back types.Text (Words bs) h = refl
scalar_back types.Bytes (Octets bs) h = refl
scalar_back types.Date (Day z) h = rw (is_true (int_le first_day z) h.0.le, is_true (int_le z last_day) h.1.le) refl
scalar_back types.Timestamp (Millis z) h = refl
scalar_back kind value h = absurd h

-- a value that isn't null isn't written as null
optional_back : (s : Slot) (kind : ColType) (value : Value) → s.kind ≡ kind → IsInType kind value → optional_in s (scalar_data kind value) ≡ Ok value
optional_back s types.Boolean (Truth b) is h = rw is refl
optional_back s types.TinyInt (Whole z) is h = let r = tiny_back z h in rw (is, r.0, r.1) refl
optional_back s types.SmallInt (Whole z) is h = let r = small_back z h in rw (is, r.0, r.1) refl
optional_back s types.Int (Whole z) is h = rw is refl
optional_back s types.BigInt (Whole z) is h = rw is refl
optional_back s types.Text (Words bs) is h = rw is refl
optional_back s types.Bytes (Octets bs) is h = rw is refl
optional_back s types.Date (Day z) is h = rw (is, is_true (int_le first_day z) h.0.le, is_true (int_le z last_day) h.1.le) refl
optional_back s types.Timestamp (Millis z) is h = rw is refl
optional_back s kind value is h = absurd h

plain_fit : (kind : ColType) → fit_of kind (value_type kind) ≡ Plain
plain_fit types.Boolean = refl
plain_fit types.TinyInt = refl
plain_fit types.SmallInt = refl
plain_fit types.Int = refl
plain_fit types.BigInt = refl
plain_fit types.Text = refl
plain_fit types.Bytes = refl
plain_fit types.Date = refl
plain_fit types.Timestamp = refl

optional_fit : (kind : ColType) → fit_of kind (or_null (value_type kind)) ≡ Optional
optional_fit types.Boolean = refl
optional_fit types.TinyInt = refl
optional_fit types.SmallInt = refl
optional_fit types.Int = refl
optional_fit types.BigInt = refl
optional_fit types.Text = refl
optional_fit types.Bytes = refl
optional_fit types.Date = refl
optional_fit types.Timestamp = refl

-- a value that may be null
null_back : (s : Slot) (value : Value) → s.nullable ≡ true → FitsField (record { name = []; kind = s.kind; nullable = true }) value
    → value_by Optional s (optional_data s.kind value) ≡ Ok value
null_back s Null nullable h = rw nullable refl
null_back s (Truth b) nullable h = optional_back s s.kind (Truth b) refl h
null_back s (Whole z) nullable h = optional_back s s.kind (Whole z) refl h
null_back s (Words bs) nullable h = optional_back s s.kind (Words bs) refl h
null_back s (Octets bs) nullable h = optional_back s s.kind (Octets bs) refl h
null_back s (Day z) nullable h = optional_back s s.kind (Day z) refl h
null_back s (Millis z) nullable h = optional_back s s.kind (Millis z) refl h

-- a value that may not
plain_in : (name : List ℕ) (kind : ColType) (value : Value) → FitsField (record { name = name; kind = kind; nullable = false }) value → IsInType kind value
plain_in name kind Null h = let no : false ≡ true = h in cc
plain_in name kind (Truth b) h = h
plain_in name kind (Whole z) h = h
plain_in name kind (Words bs) h = h
plain_in name kind (Octets bs) h = h
plain_in name kind (Day z) h = h
plain_in name kind (Millis z) h = h

fits_unnamed : (name : List ℕ) (kind : ColType) (value : Value) → FitsField (record { name = name; kind = kind; nullable = true }) value
    → FitsField (record { name = []; kind = kind; nullable = true }) value
fits_unnamed name kind Null h = h
fits_unnamed name kind (Truth b) h = h
fits_unnamed name kind (Whole z) h = h
fits_unnamed name kind (Words bs) h = h
fits_unnamed name kind (Octets bs) h = h
fits_unnamed name kind (Day z) h = h
fits_unnamed name kind (Millis z) h = h

by_nullable : (name : List ℕ) (kind : ColType) (nullable : Bool) (value : Value) → FitsField (record { name = name; kind = kind; nullable = nullable }) value
    → value_in (record { kind = kind; nullable = nullable; fit = fit_of kind (if nullable then or_null (value_type kind) else value_type kind) })
    (if nullable then optional_data kind value else scalar_data kind value)
    ≡ Ok value
by_nullable name kind true value h =
    rw (optional_fit kind) (null_back (record { kind = kind; nullable = true; fit = Optional }) value refl (fits_unnamed name kind value h))
by_nullable name kind false value h = rw (plain_fit kind, scalar_back kind value (plain_in name kind value h)) refl

-- the value of a field of a written record is read as the same
pub value_back : (t : Avro) (x : Field) (value : Value) → type_of_field x.name t ≡ Some (field_type x) → FitsField x value → value_in (slot_of t x) (value_data x value) ≡ Ok value
value_back t x value typed h = rw typed (by_nullable x.name x.kind x.nullable value h)

-- ---- many values

-- each field has its type in records of a type
abbrev pub AreTyped : Avro → List Field → Type 0
AreTyped t fields = AllByRecursion (λ (x : Field). type_of_field x.name t ≡ Some (field_type x)) fields

pub values_back : (t : Avro) (fields : List Field) (values : Values) (rest : List Data) → AreTyped t fields → FitFields fields values
    → values_in (slots_of t fields) (values_data fields values ++ rest) ≡ Ok (values, rest)
values_back t [] [] rest typed fit = refl
values_back t [] (value ∷ values) rest typed fit = absurd fit
values_back t (x ∷ fields) [] rest typed fit = absurd fit
values_back t (x ∷ fields) (value ∷ values) rest typed fit =
    rw (value_back t x value typed.0 fit.0, values_back t fields values rest typed.1 fit.1) refl

-- ---- the values of a row and of its key

fit_field : (c : Column) (value : Value) → FitsColumn c value → FitsField (field_of c) value
fit_field c Null h = h
fit_field c (Truth b) h = h
fit_field c (Whole z) h = h
fit_field c (Words bs) h = h
fit_field c (Octets bs) h = h
fit_field c (Day z) h = h
fit_field c (Millis z) h = h

pub fit_fields : (columns : List Column) (row : Values) → Fits columns row → FitFields (map field_of columns) row
fit_fields [] [] h = tt
fit_fields [] (value ∷ row) h = absurd h
fit_fields (c ∷ columns) [] h = absurd h
fit_fields (c ∷ columns) (value ∷ row) h = (fit_field c value h.0, fit_fields columns row h.1)

fit_key : (name : List ℕ) (c : Column) (value : Value) → FitsColumn c value → FitsField (key_field_of name c) value
fit_key name c Null h = h
fit_key name c (Truth b) h = h
fit_key name c (Whole z) h = h
fit_key name c (Words bs) h = h
fit_key name c (Octets bs) h = h
fit_key name c (Day z) h = h
fit_key name c (Millis z) h = h

one_more : (n : ℕ) → 1 + n ≡ suc n
one_more n = omega arith

-- the value at a column's index fits the field of the key
module _ (name : List ℕ) where
  abbrev at : List Column → ℕ
  at columns = position_or_len (λ (c : Column). bytes_eq c.name name) columns

  pub key_fits : (columns : List Column) (row : Values) → Fits columns row → HasType (field_type (key_field columns name)) (value_data (key_field columns name) (value_at row (at columns)))
      → FitsField (key_field columns name) (value_at row (at columns))
  key_fits [] [] h typed = absurd typed
  key_fits [] (value ∷ row) h typed = absurd h
  key_fits (c ∷ columns) [] h typed = absurd h
  key_fits (c ∷ columns) (value ∷ row) h typed = by_name (bytes_eq c.name name) refl typed (key_fits columns row h.1)
    where
      by_name : (b : Bool) → bytes_eq c.name name ≡ b
          → HasType (field_type (key_field (c ∷ columns) name)) (value_data (key_field (c ∷ columns) name) (value_at (value ∷ row) (at (c ∷ columns))))
          → (HasType (field_type (key_field columns name)) (value_data (key_field columns name) (value_at row (at columns))) → FitsField (key_field columns name) (value_at row (at columns)))
          → FitsField (key_field (c ∷ columns) name) (value_at (value ∷ row) (at (c ∷ columns)))
      by_name true is here later = rw is (fit_key name c value h.0)
      by_name false is here later =
          let x : Field = key_field columns name in
          let v : Value = value_at row (at columns) in
          let field : key_field (c ∷ columns) name ≡ x = rw is refl in
          let same : value_at (value ∷ row) (at (c ∷ columns)) ≡ v = rw is (ap (value_at (value ∷ row)) (one_more (at columns))) in
          let typed : HasType (field_type x) (value_data x v) =
          subst (λ (y : Field). HasType (field_type y) (value_data y v)) field
          (subst (λ (w : Value). HasType (field_type (key_field (c ∷ columns) name)) (value_data (key_field (c ∷ columns) name) w)) same here) in
          subst (λ (w : Value). FitsField (key_field (c ∷ columns) name) w) (sym same)
          (subst (λ (y : Field). FitsField y v) (sym field) (later typed))

pub keys_fit : (columns : List Column) (row : Values) (names : List (List ℕ)) → Fits columns row
    → HaveFields (map (key_field columns) names) (values_data (map (key_field columns) names) (key_of (map (λ name. at name columns) names) row))
    → FitFields (map (key_field columns) names) (key_of (map (λ name. at name columns) names) row)
keys_fit columns row [] h typed = tt
keys_fit columns row (name ∷ names) h typed = (key_fits name columns row h typed.0, keys_fit columns row names h typed.1)

-- they agree with the row's
pub agree_own : (places : List ℕ) (row : Values) → agree places row (key_of places row) ≡ true
agree_own [] row = refl
agree_own (i ∷ places) row = rw (ap is_eq (tied_itself value_total (value_at row i)), agree_own places row) refl

-- ---- the number and the kind

nearest_back : (most n : ℕ) → n ≤ most → min n most ≡ n
nearest_back most n le = omega (arith, le)

pub sequence_back : (changes : Bool) (n : ℕ) → n ≤ most_sequence → sequence_in changes (long (pos n)) ≡ Ok n
sequence_back true n le = rw (nearest_back most_sequence n le) refl
sequence_back false n le = rw (le-leb n most_sequence le) refl

pub kind_back : (kind : Kind) → kind_in (int (pos (code_of kind))) ≡ Ok kind
kind_back Insert = refl
kind_back UpdateBefore = refl
kind_back UpdateAfter = refl
kind_back Delete = refl

-- a kind that may stand in a file is kept
stored_back : (engine : EngineKind) (kind : Kind) → stores_by engine kind ≡ true → stored_kind engine kind ≡ Ok kind
stored_back engines.Deduplicate kind e = refl
stored_back engines.FirstRow Insert e = refl
stored_back engines.FirstRow UpdateAfter e = refl
stored_back engines.FirstRow UpdateBefore e = cc
stored_back engines.FirstRow Delete e = cc
stored_back engines.PartialUpdate Insert e = refl
stored_back engines.PartialUpdate UpdateAfter e = cc
stored_back engines.PartialUpdate UpdateBefore e = cc
stored_back engines.PartialUpdate Delete e = cc
stored_back engines.Aggregation Insert e = refl
stored_back engines.Aggregation UpdateAfter e = cc
stored_back engines.Aggregation UpdateBefore e = cc
stored_back engines.Aggregation Delete e = cc

pub kept_back : (changes : Bool) (s : TableSchema) (kind : Kind) → may_stand changes s kind ≡ true → row_kind changes s.options.engine kind ≡ Ok kind
kept_back true s kind e = refl
kept_back false s kind e = stored_back s.options.engine kind e
