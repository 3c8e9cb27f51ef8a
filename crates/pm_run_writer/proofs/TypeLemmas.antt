-- The types that are written are ones that are read, and what is written is of them.
use Rattle.std.proofs.Common.{◌≡◌, ℕ, ◌≤◌, Bool, true, false, List, [], ◌∷◌, ◌++◌, map, refl, sym, ap, ◌∙◌, arith}
use Rattle.std.specs.Prelude.{not, ◌&&◌, ◌||◌, codes, if◌then◌else◌}
use Rattle.std.specs.List.{list_any, AllByRecursion}
use Rattle.std.specs.Str.{bytes_eq}
use Rattle.std.proofs.lemmas.Bool.{and_parts}
use Rattle.std.proofs.lemmas.List.{map-append}
use Rattle.pm_base.proofs.Laws.{AllByRecursion-append}
use Rattle.pm_avro_schema.specs.Avro as avro
use Rattle.pm_avro_schema.specs.Avro.{Avro, takes_no_byte, take_no_byte}
use Rattle.pm_avro_schema.specs.Readable.{IsReadable, KeepsBounds, FieldsKeepBounds, fields_levels, has_name, levels}
use Rattle.pm_avro_schema.specs.View.{fields_of}
use Rattle.pm_avro_data.specs.Datum.{Data, items_of}
use Rattle.pm_avro_data.specs.HasType.{HasType, HaveTypes}
use Rattle.pm_record.specs.Record.{all_differ}
use Rattle.pm_values.specs.declared.column.ColType.{ColType}
use Rattle.pm_values.specs.declared.column.ColType.TheVariants as types
use Rattle.pm_values.specs.declared.record.Stamped.{Stamped}
use Rattle.pm_run.specs.declared.form.Field.{Field}
use Rattle.pm_run.specs.Form.{Form, names_of, written_fields}
use Rattle.pm_run.specs.Kinds.{or_null, run_type, typed_field, value_type}
use Rattle.pm_run.specs.Row.{row_data}
use Rattle.pm_run.specs.Typed.{HaveFields, IsWritable}

abbrev Named : Type 0
Named = List ℕ × Avro

is_false : (b : Bool) → not b ≡ true → b ≡ false
is_false true is = let no : false ≡ true = is in cc
is_false false is = refl

any_name : (name : List ℕ) (fields : List Named) → list_any (bytes_eq name) (map (λ (p : Named). p.0) fields) ≡ has_name name (fields_of fields)
any_name name [] = refl
any_name name (p ∷ fields) = ap (λ (b : Bool). bytes_eq name p.0 || b) (any_name name fields)

-- ---- bounds and levels

-- a type within a record that is read
record IsSimple (t : Avro) : Type 0 where
  bounds : KeepsBounds t 1
  low : levels t ≤ 1

bounded : (fields : List Named) → all_differ (map (λ (p : Named). p.0) fields) ≡ true → AllByRecursion (λ (p : Named). IsSimple p.1) fields → FieldsKeepBounds (fields_of fields) 1
bounded [] differ each = tt
bounded (p ∷ fields) differ each =
    let parts = and_parts (not (list_any (bytes_eq p.0) (map (λ (q : Named). q.0) fields))) (all_differ (map (λ (q : Named). q.0) fields)) differ in
    (sym (any_name p.0 fields) ∙ is_false (list_any (bytes_eq p.0) (map (λ (q : Named). q.0) fields)) parts.0, each.0.bounds, bounded fields parts.1 each.1)

low_levels : (fields : List Named) → AllByRecursion (λ (p : Named). IsSimple p.1) fields → fields_levels (fields_of fields) ≤ 2
low_levels [] each = omega arith
low_levels (p ∷ fields) each = let low = each.0.low in omega (arith, low_levels fields each.1)

simple_value : (kind : ColType) (n : ℕ) → KeepsBounds (value_type kind) n × (levels (value_type kind) ≡ 0)
simple_value types.Boolean n = (tt, refl)
simple_value types.TinyInt n = (tt, refl)
simple_value types.SmallInt n = (tt, refl)
simple_value types.Int n = (tt, refl)
simple_value types.BigInt n = (tt, refl)
simple_value types.Text n = (tt, refl)
simple_value types.Bytes n = (tt, refl)
simple_value types.Date n = (tt, refl)
simple_value types.Timestamp n = (tt, refl)

simple_by : (nullable : Bool) (kind : ColType) → IsSimple (if nullable then or_null (value_type kind) else value_type kind)
simple_by true kind =
    let low = (simple_value kind 0).1 in
    record { bounds = (tt, ((simple_value kind 2).0, tt)); low = omega arith }
simple_by false kind = let low = (simple_value kind 0).1 in record { bounds = (simple_value kind 1).0; low = omega arith }

all_simple : (fields : List Field) → AllByRecursion (λ (p : Named). IsSimple p.1) (map typed_field fields)
all_simple [] = tt
all_simple (x ∷ fields) = (simple_by x.nullable x.kind, all_simple fields)

abbrev run_fields : Form → List Named
run_fields f = map typed_field f.keys ++ (codes "_SEQUENCE_NUMBER", avro.long) ∷ (codes "_VALUE_KIND", avro.int) ∷ map typed_field f.columns

names_typed : (fields : List Field) → map (λ (p : Named). p.0) (map typed_field fields) ≡ names_of fields
names_typed [] = refl
names_typed (x ∷ fields) = ap (λ (ns : List (List ℕ)). x.name ∷ ns) (names_typed fields)

names_run : (f : Form) → map (λ (p : Named). p.0) (run_fields f) ≡ written_fields f
names_run f =
    map-append (λ (p : Named). p.0) (map typed_field f.keys) ((codes "_SEQUENCE_NUMBER", avro.long) ∷ (codes "_VALUE_KIND", avro.int) ∷ map typed_field f.columns)
    ∙ rw (names_typed f.keys, names_typed f.columns) refl

simple_run : (f : Form) → AllByRecursion (λ (p : Named). IsSimple p.1) (run_fields f)
simple_run f =
    AllByRecursion-append (λ (p : Named). IsSimple p.1) (map typed_field f.keys) ((codes "_SEQUENCE_NUMBER", avro.long) ∷ (codes "_VALUE_KIND", avro.int) ∷ map typed_field f.columns)
    (all_simple f.keys) (record { bounds = tt; low = omega arith }, (record { bounds = tt; low = omega arith }, all_simple f.columns))

pub run_readable : (f : Form) → all_differ (written_fields f) ≡ true → IsReadable (run_type f)
run_readable f differ = record {
  bounds = bounded (run_fields f) (ap all_differ (names_run f) ∙ differ) (simple_run f);
  levels = omega (arith, low_levels (run_fields f) (simple_run f));
}

and_false : (b : Bool) → (b && false) ≡ false
and_false true = refl
and_false false = refl

takes_after : (first later : List Named) (name : List ℕ) → take_no_byte (fields_of (first ++ (name, avro.long) ∷ later)) ≡ false
takes_after [] later name = refl
takes_after (p ∷ first) later name = rw (takes_after first later name) (and_false (takes_no_byte p.1))

pub run_takes : (f : Form) → takes_no_byte (run_type f) ≡ false
run_takes f = takes_after (map typed_field f.keys) ((codes "_VALUE_KIND", avro.int) ∷ map typed_field f.columns) (codes "_SEQUENCE_NUMBER")

-- ---- data have the types

have_after : (fields : List Field) (ds : List Data) (more : List Named) (es : List Data) → HaveFields fields ds → HaveTypes (fields_of more) (items_of es)
    → HaveTypes (fields_of (map typed_field fields ++ more)) (items_of (ds ++ es))
have_after [] [] more es have later = later
have_after [] (d ∷ ds) more es have later = absurd have
have_after (x ∷ fields) [] more es have later = absurd have
have_after (x ∷ fields) (d ∷ ds) more es have later = (have.0, have_after fields ds more es have.1 later)

have_types : (fields : List Field) (ds : List Data) → HaveFields fields ds → HaveTypes (fields_of (map typed_field fields)) (items_of ds)
have_types [] [] have = tt
have_types [] (d ∷ ds) have = absurd have
have_types (x ∷ fields) [] have = absurd have
have_types (x ∷ fields) (d ∷ ds) have = (have.0, have_types fields ds have.1)

pub row_typed : (f : Form) (x : Stamped) → IsWritable f x → HasType (run_type f) (row_data f x)
row_typed f x h = have_after f.keys _ _ _ h.keys (tt, (tt, have_types f.columns _ h.columns))
