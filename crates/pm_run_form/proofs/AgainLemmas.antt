-- What is written of a row is read as the same.
use Rattle.std.proofs.Common.{◌≡◌, ℕ, ◌≤◌, Bool, true, List, [], ◌∷◌, ◌++◌, map, Some, Ok, refl, sym, ap, subst, ◌∙◌, pos, append_assoc, append-nil}
use Rattle.std.specs.Prelude.{codes, is_some}
use Rattle.std.specs.List.{AllByRecursion}
use Rattle.std.proofs.lemmas.List.{map-append}
use Rattle.pm_base.proofs.Laws.{AllByRecursion-append}
use Rattle.pm_avro_schema.specs.Avro as avro
use Rattle.pm_avro_schema.specs.Avro.{Avro}
use Rattle.pm_avro_schema.specs.View.{fields_of}
use Rattle.pm_avro_data.specs.Datum.{Data, int, items_of, long, record_of}
use Rattle.pm_model_history.specs.Merge.{key_of}
use Rattle.pm_record.specs.Record.{all_differ, all_indexes, all_values, index_in, selected, type_of_field}
use Rattle.pm_schema.specs.declared.schema.TableSchema.{TableSchema}
use Rattle.pm_values.specs.Kind.{code_of}
use Rattle.pm_values.specs.declared.record.Stamped.{Stamped}
use Rattle.pm_run.specs.declared.form.Field.{Field}
use Rattle.pm_run.specs.Form.{Form, form_of, names_of, row_fields, written_fields}
use Rattle.pm_run.specs.Kinds.{field_type, has_row_fields, run_type, slots_of, typed_field}
use Rattle.pm_run.specs.Row.{IsOfFile, most_sequence, row_data, row_in, row_kind, values_data, values_in}
use Rattle.pm_run.specs.Typed.{FitFields, HaveFields, IsWritable}
use Rattle.pm_run_form.proofs.CellLemmas.{Cell, all_indexed, all_values-append, data_in, field_of_cell, fields_in, indexes_found, items_in, names_in, types_found, values_found}
use Rattle.pm_run_form.proofs.ValueLemmas.{AreTyped, agree_own, fit_fields, kept_back, kind_back, keys_fit, sequence_back, values_back}

-- ---- the cells of a row's record

abbrev cells_of : List Field → List Data → List Cell
cells_of [] ds = []
cells_of (x ∷ fields) [] = []
cells_of (x ∷ fields) (d ∷ ds) = record { name = x.name; kind = field_type x; datum = d } ∷ cells_of fields ds

cells_fields : (fields : List Field) (ds : List Data) → HaveFields fields ds → map field_of_cell (cells_of fields ds) ≡ map typed_field fields
cells_fields [] [] have = refl
cells_fields [] (d ∷ ds) have = refl
cells_fields (x ∷ fields) [] have = absurd have
cells_fields (x ∷ fields) (d ∷ ds) have = ap (λ (ps : List (List ℕ × Avro)). typed_field x ∷ ps) (cells_fields fields ds have.1)

cells_data : (fields : List Field) (ds : List Data) → HaveFields fields ds → data_in (cells_of fields ds) ≡ ds
cells_data [] [] have = refl
cells_data [] (d ∷ ds) have = absurd have
cells_data (x ∷ fields) [] have = absurd have
cells_data (x ∷ fields) (d ∷ ds) have = ap (λ (es : List Data). d ∷ es) (cells_data fields ds have.1)

cells_names : (fields : List Field) (ds : List Data) → HaveFields fields ds → names_in (cells_of fields ds) ≡ names_of fields
cells_names [] [] have = refl
cells_names [] (d ∷ ds) have = refl
cells_names (x ∷ fields) [] have = absurd have
cells_names (x ∷ fields) (d ∷ ds) have = ap (λ (ns : List (List ℕ)). x.name ∷ ns) (cells_names fields ds have.1)

cells_typed : (t : Avro) (fields : List Field) (ds : List Data) → HaveFields fields ds
    → AllByRecursion (λ (c : Cell). type_of_field c.name t ≡ Some c.kind) (cells_of fields ds) → AreTyped t fields
cells_typed t [] [] have each = tt
cells_typed t [] (d ∷ ds) have each = absurd have
cells_typed t (x ∷ fields) [] have each = absurd have
cells_typed t (x ∷ fields) (d ∷ ds) have each = (each.0, cells_typed t fields ds have.1 each.1)

abbrev number_cell : ℕ → Cell
number_cell n = record { name = codes "_SEQUENCE_NUMBER"; kind = avro.long; datum = long (pos n) }

abbrev kind_cell : ℕ → Cell
kind_cell n = record { name = codes "_VALUE_KIND"; kind = avro.int; datum = int (pos n) }

module _ (f : Form) (x : Stamped) (writable : IsWritable f x) where
  abbrev key_data : List Data
  key_data = values_data f.keys (key_of f.places x.row)

  abbrev column_data : List Data
  column_data = values_data f.columns x.row

  abbrev keys : List Cell
  keys = cells_of f.keys key_data

  abbrev columns : List Cell
  columns = cells_of f.columns column_data

  abbrev heads : List Cell
  heads = number_cell x.seq ∷ kind_cell (code_of x.kind) ∷ []

  abbrev rest : List Cell
  rest = number_cell x.seq ∷ kind_cell (code_of x.kind) ∷ columns

  abbrev cells : List Cell
  cells = keys ++ rest

  type_is : run_type f ≡ avro.record_of (fields_in cells)
  type_is =
      let make : List (List ℕ × Avro) → Avro = λ ps. avro.record_of (fields_of ps) in
      let tail : List (List ℕ × Avro) → List (List ℕ × Avro) = λ ps. map typed_field f.keys ++ (codes "_SEQUENCE_NUMBER", avro.long) ∷ (codes "_VALUE_KIND", avro.int) ∷ ps in
      let head : List (List ℕ × Avro) → List (List ℕ × Avro) = λ ps. ps ++ map field_of_cell rest in
      sym (ap make (map-append field_of_cell keys rest ∙ ap head (cells_fields f.keys key_data writable.keys) ∙ ap tail (cells_fields f.columns column_data writable.columns)))

  data_is : row_data f x ≡ record_of (items_in cells)
  data_is =
      let make : List Data → Data = λ ds. record_of (items_of ds) in
      let tail : List Data → List Data = λ ds. key_data ++ long (pos x.seq) ∷ int (pos (code_of x.kind)) ∷ ds in
      let head : List Data → List Data = λ ds. ds ++ data_in rest in
      sym (ap make (map-append (λ (c : Cell). c.datum) keys rest ∙ ap head (cells_data f.keys key_data writable.keys) ∙ ap tail (cells_data f.columns column_data writable.columns)))

  names_are : names_in cells ≡ written_fields f
  names_are =
      let tail : List (List ℕ) → List (List ℕ) = λ ns. names_of f.keys ++ codes "_SEQUENCE_NUMBER" ∷ codes "_VALUE_KIND" ∷ ns in
      let head : List (List ℕ) → List (List ℕ) = λ ns. ns ++ names_in rest in
      map-append (λ (c : Cell). c.name) keys rest ∙ ap head (cells_names f.keys key_data writable.keys) ∙ ap tail (cells_names f.columns column_data writable.columns)

  -- the names that are read
  names_read : names_in rest ++ names_in keys ≡ row_fields f
  names_read =
      let first : List (List ℕ) → List (List ℕ) = λ ns. codes "_SEQUENCE_NUMBER" ∷ codes "_VALUE_KIND" ∷ (ns ++ names_in keys) in
      let last : List (List ℕ) → List (List ℕ) = λ ns. codes "_SEQUENCE_NUMBER" ∷ codes "_VALUE_KIND" ∷ (names_of f.columns ++ ns) in
      ap first (cells_names f.columns column_data writable.columns) ∙ ap last (cells_names f.keys key_data writable.keys)

  module _ (differ : all_differ (written_fields f) ≡ true) where
    cells_differ : all_differ (names_in cells) ≡ true
    cells_differ = ap all_differ names_are ∙ differ

    -- what is selected
    abbrev taken : List Data
    taken = long (pos x.seq) ∷ int (pos (code_of x.kind)) ∷ (column_data ++ key_data)

    selected_is : selected (row_fields f) (run_type f) (row_data f x) ≡ Some taken
    selected_is =
        let first = values_found cells cells_differ keys rest [] (ap (λ (cs : List Cell). keys ++ cs) (sym (append-nil rest))) in
        let last = values_found cells cells_differ [] keys rest refl in
        let all = all_values-append (names_in rest) (names_in keys) (fields_in cells) (items_in cells) (data_in rest) (data_in keys) first last in
        let found : all_values (row_fields f) (fields_in cells) (items_in cells) ≡ Some taken =
        subst (λ (ns : List (List ℕ)). all_values ns (fields_in cells) (items_in cells) ≡ Some taken) names_read (all ∙ ap Some same_data) in
        subst (λ (t : Avro). selected (row_fields f) t (row_data f x) ≡ Some taken) (sym type_is)
        (subst (λ (d : Data). selected (row_fields f) (avro.record_of (fields_in cells)) d ≡ Some taken) (sym data_is) found)
      where
        same_data : data_in rest ++ data_in keys ≡ taken
        same_data = rw (cells_data f.columns column_data writable.columns, cells_data f.keys key_data writable.keys) refl

    typed_keys : AreTyped (run_type f) f.keys
    typed_keys =
        subst (λ (t : Avro). AreTyped t f.keys) (sym type_is)
        (cells_typed (avro.record_of (fields_in cells)) f.keys key_data writable.keys (types_found cells cells_differ [] keys rest refl))

    typed_columns : AreTyped (run_type f) f.columns
    typed_columns =
        subst (λ (t : Avro). AreTyped t f.columns) (sym type_is)
        (cells_typed (avro.record_of (fields_in cells)) f.columns column_data writable.columns (types_found cells cells_differ (keys ++ heads) columns [] here))
      where
        here : cells ≡ (keys ++ heads) ++ (columns ++ [])
        here = ap (λ (cs : List Cell). keys ++ number_cell x.seq ∷ kind_cell (code_of x.kind) ∷ cs) (sym (append-nil columns)) ∙ sym (append_assoc keys heads (columns ++ []))

    -- a row that fits is read as the same
    pub row_back : (changes : Bool) → FitFields f.columns x.row → FitFields f.keys (key_of f.places x.row) → x.seq ≤ most_sequence → row_kind changes f.engine x.kind ≡ Ok x.kind
        → x.key ≡ key_of f.primary x.row → row_in f changes (run_type f) (row_data f x) ≡ Ok x
    row_back changes fit key_fit numbered kept own =
        rw (
          selected_is,
          sequence_back changes x.seq numbered,
          kind_back x.kind,
          values_back (run_type f) f.columns x.row key_data typed_columns fit,
          key_back,
          agree_own f.places x.row,
          kept,
          ← own,
        ) refl
      where
        key_back : values_in (slots_of (run_type f) f.keys) key_data ≡ Ok (key_of f.places x.row, [])
        key_back = subst (λ (ds : List Data). values_in (slots_of (run_type f) f.keys) ds ≡ Ok (key_of f.places x.row, [])) (append-nil key_data)
            (values_back (run_type f) f.keys (key_of f.places x.row) [] typed_keys key_fit)

  -- its type has all fields that are read
  pub run_has : has_row_fields f (run_type f) ≡ true
  run_has =
      let first = indexes_found cells keys rest [] (ap (λ (cs : List Cell). keys ++ cs) (sym (append-nil rest))) in
      let last = indexes_found cells [] keys rest refl in
      let each = AllByRecursion-append (λ (name : List ℕ). is_some (index_in name (fields_in cells)) ≡ true) (names_in rest) (names_in keys) first last in
      subst (λ (t : Avro). has_row_fields f t ≡ true) (sym type_is)
      (subst (λ (ns : List (List ℕ)). is_some (all_indexes ns (fields_in cells)) ≡ true) names_read
      (all_indexed (fields_in cells) (names_in rest ++ names_in keys) each))

-- a row that a file can have is read as the same
module _ (s : TableSchema) (differ : all_differ (written_fields (form_of s)) ≡ true) (changes : Bool) where
  pub row_read : (x : Stamped) → IsWritable (form_of s) x → IsOfFile s changes x → row_in (form_of s) changes (run_type (form_of s)) (row_data (form_of s) x) ≡ Ok x
  row_read x writable h =
      row_back (form_of s) x writable differ changes (fit_fields s.columns x.row h.fits)
      (keys_fit s.columns x.row _ h.fits writable.keys) h.numbered (kept_back changes s x.kind h.kept) h.own
