-- Rows that are read of data in memory, one after another.
use Rattle.std.proofs.Common.{◌≡◌, ℕ, Bool, List, [], ◌∷◌, ◌++◌, map, Option, None, Some, option_map, Ok, Err, refl, sym, ap, subst, ◌∙◌, append_assoc}
use Rattle.std.specs.Prelude.{is_some, true, false}
use Rattle.std.specs.List.{AllByRecursion}
use Rattle.std.proofs.lemmas.List.{map-append}
use Rattle.pm_base.proofs.Laws.{AllByRecursion-parts}
use Rattle.pm_avro_schema.specs.Avro.{Avro}
use Rattle.pm_avro_data.specs.Datum.{Data, view}
use Rattle.pm_avro_data.specs.HasType.{HasType}
use Rattle.pm_avro_data.specs.declared.datum.Datum.{Datum}
use Rattle.pm_record.specs.File.{misfit_refusal}
use Rattle.pm_record.specs.Record.{indexes_in}
use Rattle.pm_record.specs.declared.misfit.Misfit.{Misfit}
use Rattle.pm_values.specs.Order.{Values}
use Rattle.pm_values.specs.declared.record.Stamped.{Stamped}
use Rattle.pm_run_records.specs.declared.row_reader.RowReader.{RowReader}
use Rattle.pm_run.specs.Form.{Form, row_fields}
use Rattle.pm_run.specs.Kinds.{has_row_fields, slots_of}
use Rattle.pm_run.specs.Order.{last_key}
use Rattle.pm_run_records.specs.RowReader.{reader_by, reader_in}
use Rattle.pm_run.specs.Rows.{Opened, all_judged, judged, placed, row_after, then_refused}
use Rattle.pm_run.proofs.FollowLemmas.{judged-push, judged-refused}

-- ---- the reader of a type

-- what a reader of a type has
pub record IsReader (r : RowReader) (t : Avro) : Type 0 where
  pub fields : indexes_in (row_fields r.form) t ≡ Some r.fields
  pub columns : slots_of t r.form.columns ≡ r.columns
  pub keys : slots_of t r.form.keys ≡ r.keys

pub reader_parts : (r : RowReader) (t : Avro) → Some r ≡ reader_in r.form r.changes t → IsReader r t
reader_parts r t found = by_found (indexes_in (row_fields r.form) t) refl found
  where
    by_found : (is : Option (List ℕ)) → indexes_in (row_fields r.form) t ≡ is → Some r ≡ option_map (reader_by r.form r.changes t) is → IsReader r t
    by_found None e is = cc
    by_found (Some indexes) e is =
        let same : reader_by r.form r.changes t indexes ≡ r = cc in
        record {
          fields = e ∙ ap Some (ap (λ (q : RowReader). q.fields) same);
          columns = ap (λ (q : RowReader). q.columns) same;
          keys = ap (λ (q : RowReader). q.keys) same;
        }

-- the reader of a form in a type that has its fields
pub record IsReaderOf (r : RowReader) (f : Form) (changes : Bool) (t : Avro) : Type 0 where
  pub form : r.form ≡ f
  pub changed : r.changes ≡ changes
  pub has : has_row_fields f t ≡ true

pub reader_of : (r : RowReader) (f : Form) (changes : Bool) (t : Avro) → Some r ≡ reader_in f changes t → IsReaderOf r f changes t
reader_of r f changes t found = by_found (indexes_in (row_fields f) t) refl found
  where
    by_found : (is : Option (List ℕ)) → indexes_in (row_fields f) t ≡ is → Some r ≡ option_map (reader_by f changes t) is → IsReaderOf r f changes t
    by_found None e is = cc
    by_found (Some indexes) e is =
        let same : reader_by f changes t indexes ≡ r = cc in
        record {
          form = sym (ap (λ (q : RowReader). q.form) same);
          changed = sym (ap (λ (q : RowReader). q.changes) same);
          has = ap is_some e;
        }

-- it is that of its own form
pub reader_again : (r : RowReader) (f : Form) (changes : Bool) (t u : Avro) → Some r ≡ reader_in f changes t → t ≡ u → Some r ≡ reader_in r.form r.changes u
reader_again r f changes t u found same =
    let p = reader_of r f changes t found in
    found ∙ ap (λ (g : Form). reader_in g changes t) (sym p.form) ∙ ap (λ (b : Bool). reader_in r.form b t) (sym p.changed) ∙ ap (reader_in r.form r.changes) same

pub no_reader : (f : Form) (changes : Bool) (t : Avro) → None ≡ reader_in f changes t → has_row_fields f t ≡ false
no_reader f changes t none = by_found (indexes_in (row_fields f) t) refl none
  where
    by_found : (is : Option (List ℕ)) → indexes_in (row_fields f) t ≡ is → None ≡ option_map (reader_by f changes t) is → has_row_fields f t ≡ false
    by_found None e is = ap is_some e
    by_found (Some indexes) e is = let no : None ≡ Some (reader_by f changes t indexes) = is in cc

-- ---- data in memory

-- those that are done, and those that are left, which begin with one
module _ (all done left rest : List Datum) (datum : Datum) (parts : done ++ left ≡ all) (first : left ≡ datum ∷ rest) where
  pub one_done : (done ++ datum ∷ []) ++ rest ≡ all
  one_done = append_assoc done (datum ∷ []) rest ∙ ap (λ (ds : List Datum). done ++ ds) (sym first) ∙ parts

  parted : map view all ≡ map view done ++ view datum ∷ map view rest
  parted = ap (map view) (sym parts ∙ ap (λ (ds : List Datum). done ++ ds) first) ∙ map-append view done (datum ∷ rest)

  -- it has the type that all have
  pub one_typed : (t : Avro) → AllByRecursion (HasType t) (map view all) → HasType t (view datum)
  one_typed t each = (AllByRecursion-parts (HasType t) (map view done) (view datum ∷ map view rest) (subst (AllByRecursion (HasType t)) parted each)).1.0

  module _ (o : Opened) (before : Option Values) (offset : ℕ) (rows : List Stamped) (f : Form) (changes : Bool) (t : Avro) where
    -- it is a row: one more is read
    pub read_push : (x : Stamped) → o.form ≡ f → o.changes ≡ changes → o.file.kind ≡ t → judged o before (placed offset (map view done)) ≡ all_judged rows
        → row_after f changes t (last_key before rows) (view datum) ≡ Ok x → judged o before (placed offset (map view (done ++ datum ∷ []))) ≡ all_judged (rows ++ x ∷ [])
    read_push x a b k e read =
        let more : placed offset (map view (done ++ datum ∷ [])) ≡ placed offset (map view done) ++ (offset, view datum) ∷ [] =
        ap (placed offset) (map-append view done (datum ∷ [])) ∙ map-append (λ (d : Data). (offset, d)) (map view done) (view datum ∷ []) in
        ap (judged o before) more ∙ judged-push o (placed offset (map view done)) before rows offset (view datum) x e (rw (a, b, k) read)

    -- it is refused, and so the rows end
    pub read_refused : (misfit : Misfit) → o.form ≡ f → o.changes ≡ changes → o.file.kind ≡ t → judged o before (placed offset (map view done)) ≡ all_judged rows
        → row_after f changes t (last_key before rows) (view datum) ≡ Err misfit → judged o before (placed offset (map view all)) ≡ then_refused rows (misfit_refusal o.path offset misfit)
    read_refused misfit a b k e read =
        let whole : placed offset (map view all) ≡ placed offset (map view done) ++ (offset, view datum) ∷ placed offset (map view rest) =
        ap (placed offset) parted ∙ map-append (λ (d : Data). (offset, d)) (map view done) (view datum ∷ map view rest) in
        ap (judged o before) whole ∙ judged-refused o (placed offset (map view done)) (placed offset (map view rest)) before rows offset (view datum) misfit e (rw (a, b, k) read)
