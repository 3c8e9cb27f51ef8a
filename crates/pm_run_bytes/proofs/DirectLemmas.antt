-- Rows that are read straight from bytes are those of the data that the bytes are.
use Rattle.std.proofs.Common.{◌≡◌, ℕ, ◌+◌, ◌-◌, ◌<◌, ◌≤◌, pos, Bool, true, List, [], ◌∷◌, ◌++◌, length, get_or, map, take, drop, Option, None, Some, Ok, refl, sym, ap, subst, ◌∙◌, append_assoc, arith}
use Rattle.std.proofs.lemmas.List.{append-nil, length-append, length-drop, length-take-le, map-append, take_all, take-append-drop, drop_at}
use Rattle.std.proofs.Math.Seq.{take-append_seam}
use Rattle.pm_avro_schema.specs.Avro as avro
use Rattle.pm_avro_schema.specs.Avro.{Avro}
use Rattle.pm_avro_schema.specs.View.{fields_of}
use Rattle.std.specs.Prelude.{IfSome, IsTrue}
use Rattle.std.specs.Borrow.{Bor}
use Rattle.pm_values.specs.Fits.{IsInType}
use Rattle.pm_values.specs.declared.column.ColType.{ColType}
use Rattle.pm_values.specs.declared.column.ColType.TheVariants as types
use Rattle.pm_values.specs.declared.value.Value.TheVariants.{Null, Bool as Truth, Int as Whole, Text as Words, Bytes as Octets, Day, Millis}
use Rattle.pm_row_slots.specs.Seen.{seen_value}
use Rattle.pm_row_slots.specs.declared.seen.Seen.{Seen}
use Rattle.pm_avro_data.specs.Datum as datum
use Rattle.pm_avro_data.specs.Datum.{Data, boolean, int, items_of, long, record_of, text}
use Rattle.pm_avro_data.specs.IsDatum.{AreFields, AreItems, IsDatum}
use Rattle.pm_avro_data.specs.Number.{IsInt, IsLong}
use Rattle.pm_avro_data.specs.Writing.{ItemsFit, encoding, items_encoding}
use Rattle.pm_avro_data.proofs.Facts.{Follows, datum_follows, datum_typed}
use Rattle.pm_avro_file.specs.Container.{IsBlock, magic, metadata}
use Rattle.pm_avro_file.specs.Reader.{HasBlock, IsOpened, Reader}
use Rattle.pm_model_history.specs.Merge.{key_of}
use Rattle.pm_values.specs.Kind.{code_of}
use Rattle.pm_values.specs.Order.{Values}
use Rattle.pm_values.specs.declared.record.Stamped.{Stamped}
use Rattle.pm_values.specs.declared.value.Value.{Value}
use Rattle.pm_run.specs.declared.form.Field.{Field}
use Rattle.pm_run_bytes.specs.declared.direct.Direct.{Direct}
use Rattle.pm_run_bytes.specs.Direct.{AreCells, AreRows, HasContent, IsCell, IsDirect, IsRow, IsWrittenRow}
use Rattle.pm_run.specs.Form.{Form}
use Rattle.pm_run.specs.Kinds.{field_type, run_type, typed_field}
use Rattle.pm_run.specs.Order.{last_key, may_follow}
use Rattle.pm_run.specs.Row.{agree, most_sequence, optional_data, row_data, row_in, row_kind, scalar_data, value_data, values_data}
use Rattle.pm_run.specs.Rows.{Opened, all_judged, judged, placed}
use Rattle.pm_run.specs.Typed.{FitFields, FitsField, HaveFields, IsWritable}
use Rattle.pm_run_scalars.specs.Leaf.{IsScalar, IsWrittenScalar}
use Rattle.pm_run_scalars.specs.Spelled.{IsSpelled}
use Rattle.pm_run_scalars.proofs.SpelledLemmas.{spelled_null, spelled_second}
use Rattle.pm_run_form.proofs.AgainLemmas.{row_back}
use Rattle.pm_run.proofs.FollowLemmas.{judged-push}
use Rattle.pm_run_form.proofs.LoopLemmas.{take_next}
use Rattle.pm_run_form.proofs.RowLemmas.{agreed_keys}

-- ---- values of fields

-- data of fields, and then those of others
fields_joined : (fs gs : List (List ℕ × Avro)) (ds es : List Data) (source middle rest : List ℕ) → AreFields (fields_of fs) (items_of ds) source middle
    → AreFields (fields_of gs) (items_of es) middle rest → AreFields (fields_of (fs ++ gs)) (items_of (ds ++ es)) source rest
fields_joined [] gs [] es source middle rest first later = subst (λ (bs : List ℕ). AreFields (fields_of gs) (items_of es) bs rest) (sym first) later
fields_joined [] gs (d ∷ ds) es source middle rest first later = absurd first
fields_joined (f ∷ fs) gs [] es source middle rest first later = absurd first
fields_joined (f ∷ fs) gs (d ∷ ds) es source middle rest first later = (first.0, first.1, fields_joined fs gs ds es first.0 middle rest first.2 later)

pub no_cells : (source : List ℕ) → AreCells [] [] source source
no_cells source = (refl, tt, record { spelled = refl; fits = tt })

-- ---- values as they are written

by_nullable : (x : Field) (value : Value) → IsTrue x.nullable → value_data x value ≡ optional_data x.kind value
by_nullable x value some = rw some refl

pub null_spelled : (x : Field) (source rest : List ℕ) → IsTrue x.nullable → source ≡ 0 ∷ rest → IsSpelled source rest (value_data x Null)
null_spelled x source rest some is = subst (λ (d : Data). IsSpelled source rest d) (sym (by_nullable x Null some)) (spelled_null source rest is)

or_spelled : (kind : ColType) (value : Value) (source middle rest : List ℕ) → source ≡ 2 ∷ middle → IsInType kind value → IsSpelled middle rest (scalar_data kind value) → IsSpelled source rest (optional_data kind value)
or_spelled types.Boolean (Truth b) source middle rest is h w = spelled_second (boolean b) source middle rest is w
or_spelled types.TinyInt (Whole z) source middle rest is h w = spelled_second (int z) source middle rest is w
or_spelled types.SmallInt (Whole z) source middle rest is h w = spelled_second (int z) source middle rest is w
or_spelled types.Int (Whole z) source middle rest is h w = spelled_second (int z) source middle rest is w
or_spelled types.BigInt (Whole z) source middle rest is h w = spelled_second (long z) source middle rest is w
or_spelled types.Text (Words bs) source middle rest is h w = spelled_second (text bs) source middle rest is w
or_spelled types.Bytes (Octets bs) source middle rest is h w = spelled_second (datum.bytes bs) source middle rest is w
or_spelled types.Date (Day z) source middle rest is h w = spelled_second (int z) source middle rest is w
or_spelled types.Timestamp (Millis z) source middle rest is h w = spelled_second (long z) source middle rest is w
or_spelled kind value source middle rest is h w = absurd h

-- so of a value that was read after the index of its branch
pub second_spelled : (x : Field) (source middle : List ℕ) (read : Option (Seen × Bor (List ℕ))) → IsTrue x.nullable → source ≡ 2 ∷ middle → IfSome read (λ y. IsScalar x.kind (seen_value y.0) middle y.1.now)
    → IfSome read (λ y. IsWrittenScalar x.kind (seen_value y.0) middle y.1.now) → IfSome read (λ y. IsSpelled source y.1.now (value_data x (seen_value y.0)))
second_spelled x source middle None some is scalar written = tt
second_spelled x source middle (Some y) some is scalar written =
    subst (λ (d : Data). IsSpelled source y.1.now d) (sym (by_nullable x (seen_value y.0) some)) (or_spelled x.kind (seen_value y.0) source middle y.1.now is scalar.1 written)

pub cell_both : (x : Field) (source : List ℕ) (read : Option (Seen × Bor (List ℕ))) → IfSome read (λ y. IsDatum (field_type x) (value_data x (seen_value y.0)) source y.1.now × FitsField x (seen_value y.0))
    → IfSome read (λ y. IsSpelled source y.1.now (value_data x (seen_value y.0))) → IfSome read (λ y. IsCell x (seen_value y.0) source y.1.now)
cell_both x source None cell written = tt
cell_both x source (Some y) cell written = (cell.0, cell.1, written)

-- the bytes of data and of others after them
encoded_joined : (ds es : List Data) → items_encoding (items_of (ds ++ es)) ≡ items_encoding (items_of ds) ++ items_encoding (items_of es)
encoded_joined [] es = refl
encoded_joined (d ∷ ds) es = ap (λ (bs : List ℕ). encoding d ++ bs) (encoded_joined ds es) ∙ sym (append_assoc (encoding d) (items_encoding (items_of ds)) (items_encoding (items_of es)))

fit_joined : (ds es : List Data) → ItemsFit (items_of ds) → ItemsFit (items_of es) → ItemsFit (items_of (ds ++ es))
fit_joined [] es first later = later
fit_joined (d ∷ ds) es first later = (first.0, fit_joined ds es first.1 later)

-- data that are spelled one after another
pub spelled_joined : (ds es : List Data) (source middle rest : List ℕ) → IsSpelled source middle (record_of (items_of ds)) → IsSpelled middle rest (record_of (items_of es)) → IsSpelled source rest (record_of (items_of (ds ++ es)))
spelled_joined ds es source middle rest first later = record {
  spelled =
      first.spelled ∙ ap (λ (bs : List ℕ). items_encoding (items_of ds) ++ bs) later.spelled
      ∙ sym (append_assoc (items_encoding (items_of ds)) (items_encoding (items_of es)) rest)
      ∙ ap (λ (bs : List ℕ). bs ++ rest) (sym (encoded_joined ds es));
  fits = fit_joined ds es first.fits later.fits;
}

-- one datum
spelled_one : (d : Data) (source rest : List ℕ) → IsSpelled source rest d → IsSpelled source rest (record_of (items_of (d ∷ [])))
spelled_one d source rest one = record {
  spelled = one.spelled ∙ ap (λ (bs : List ℕ). bs ++ rest) (sym (append-nil (encoding d)));
  fits = (one.fits, tt);
}

values_push : (fields : List Field) (values : Values) (x : Field) (value : Value) → FitFields fields values → values_data (fields ++ x ∷ []) (values ++ value ∷ []) ≡ values_data fields values ++ value_data x value ∷ []
values_push [] [] x value fit = refl
values_push [] (v ∷ values) x value fit = absurd fit
values_push (y ∷ fields) [] x value fit = absurd fit
values_push (y ∷ fields) (v ∷ values) x value fit = ap (λ (ds : List Data). value_data y v ∷ ds) (values_push fields values x value fit.1)

fit_push : (fields : List Field) (values : Values) (x : Field) (value : Value) → FitFields fields values → FitsField x value → FitFields (fields ++ x ∷ []) (values ++ value ∷ [])
fit_push [] [] x value fit one = (one, tt)
fit_push [] (v ∷ values) x value fit one = absurd fit
fit_push (y ∷ fields) [] x value fit one = absurd fit
fit_push (y ∷ fields) (v ∷ values) x value fit one = (fit.0, fit_push fields values x value fit.1 one)

-- one more value
pub cells_push : (fields : List Field) (values : Values) (x : Field) (value : Value) (source middle rest : List ℕ) → AreCells fields values source middle → IsCell x value middle rest
    → AreCells (fields ++ x ∷ []) (values ++ value ∷ []) source rest
cells_push fields values x value source middle rest cells cell = (
  rw (map-append typed_field fields (x ∷ []), values_push fields values x value cells.1)
      (fields_joined (map typed_field fields) (typed_field x ∷ []) (values_data fields values) (value_data x value ∷ []) source middle rest cells.0 (rest, cell.0, refl)),
  fit_push fields values x value cells.1 cell.1,
  subst (λ (ds : List Data). IsSpelled source rest (record_of (items_of ds))) (sym (values_push fields values x value cells.1))
      (spelled_joined (values_data fields values) (value_data x value ∷ []) source middle rest cells.2 (spelled_one (value_data x value) middle rest cell.2)),
)

-- all values
pub cells_next : (fields : List Field) (i : ℕ) (values more : Values) (x : Field) (value : Value) (source middle rest : List ℕ) → i < length fields → x ≡ get_or fields i x
    → more ≡ values ++ value ∷ [] → AreCells (take i fields) values source middle → IsCell x value middle rest → AreCells (take (i + 1) fields) more source rest
cells_next fields i values more x value source middle rest lt is pushed cells cell =
    rw (take_next fields i x lt is, pushed) (cells_push (take i fields) values x value source middle rest cells cell)

pub cells_end : (fields : List Field) (i : ℕ) (values : Values) (source rest : List ℕ) → length fields ≤ i → AreCells (take i fields) values source rest → AreCells fields values source rest
cells_end fields i values source rest le cells = rw (take_all i fields le) at cells

-- they have the types of their fields
have_types : (fields : List Field) (ds : List Data) (source rest : List ℕ) → AreFields (fields_of (map typed_field fields)) (items_of ds) source rest → HaveFields fields ds
have_types [] [] source rest h = tt
have_types [] (d ∷ ds) source rest h = absurd h
have_types (x ∷ fields) [] source rest h = absurd h
have_types (x ∷ fields) (d ∷ ds) source rest h = (datum_typed (field_type x) d source h.0 h.1, have_types fields ds h.0 rest h.2)

-- ---- a row

module _ (f : Form) (x : Stamped) (values : Values) (source a b c rest : List ℕ) where
  -- the values of the key, the number, the kind and the values of the columns are the row's
  pub row_read : AreCells f.keys values source a → IsLong (pos x.seq) a b → x.seq ≤ most_sequence → IsInt (pos (code_of x.kind)) b c → AreCells f.columns x.row c rest
      → agree f.places x.row values ≡ true → x.key ≡ key_of f.primary x.row → (changes : Bool) → row_kind changes f.engine x.kind ≡ Ok x.kind → IsRow f changes x source rest
  row_read keys number within kind columns agrees own changes kept t written = (
    row_data f x,
    subst (λ (u : Avro). IsDatum u (row_data f x) source rest) (sym written.kind) whole,
    subst (λ (u : Avro). row_in f changes u (row_data f x) ≡ Ok x) (sym written.kind)
        (row_back f x writable written.differ changes columns.1 key.1 within kept own),
  )
    where
      key : AreCells f.keys (key_of f.places x.row) source a
      key = subst (λ (vs : Values). AreCells f.keys vs source a) (agreed_keys f.places x.row values agrees) keys

      writable : IsWritable f x
      writable = record {
        columns = have_types f.columns (values_data f.columns x.row) c rest columns.0;
        keys = have_types f.keys (values_data f.keys (key_of f.places x.row)) source a key.0;
        numbered = within;
      }

      whole : IsDatum (run_type f) (row_data f x) source rest
      whole = fields_joined (map typed_field f.keys) _ (values_data f.keys (key_of f.places x.row)) _ source a rest key.0 (b, number, (c, kind, columns.0))

-- the bytes that were read are those that are written of the row
pub row_written : (f : Form) (x : Stamped) (values : Values) (source a b c rest : List ℕ) → AreCells f.keys values source a → IsSpelled a b (long (pos x.seq)) → x.seq ≤ most_sequence
    → IsSpelled b c (int (pos (code_of x.kind))) → AreCells f.columns x.row c rest → agree f.places x.row values ≡ true → IsWrittenRow f x source rest
row_written f x values source a b c rest keys number within kind columns agrees = record {
  writable = record {
    columns = have_types f.columns (values_data f.columns x.row) c rest columns.0;
    keys = have_types f.keys (values_data f.keys (key_of f.places x.row)) source a key.0;
    numbered = within;
  };
  written = spelled_joined (values_data f.keys (key_of f.places x.row)) (long (pos x.seq) ∷ int (pos (code_of x.kind)) ∷ values_data f.columns x.row) source a rest key.2 later;
}
  where
    key : AreCells f.keys (key_of f.places x.row) source a
    key = subst (λ (vs : Values). AreCells f.keys vs source a) (agreed_keys f.places x.row values agrees) keys

    later : IsSpelled a rest (record_of (items_of (long (pos x.seq) ∷ int (pos (code_of x.kind)) ∷ values_data f.columns x.row)))
    later =
        spelled_joined (long (pos x.seq) ∷ []) (int (pos (code_of x.kind)) ∷ values_data f.columns x.row) a b rest (spelled_one (long (pos x.seq)) a b number)
        (spelled_joined (int (pos (code_of x.kind)) ∷ []) (values_data f.columns x.row) b c rest (spelled_one (int (pos (code_of x.kind))) b c kind) columns.2)

-- ---- rows

pub no_rows : (f : Form) (changes : Bool) (before : Option Values) (source : List ℕ) → AreRows f changes before [] source source
no_rows f changes before source o offset form kind written = ([], refl, refl, refl)

items_push : {X : Type 0} (P : X → List ℕ → List ℕ → Type 0) (xs : List X) (x : X) (source middle rest : List ℕ) → AreItems P xs source middle → P x middle rest → AreItems P (xs ++ x ∷ []) source rest
items_push P [] x source middle rest h p = (rest, subst (λ (s : List ℕ). P x s rest) (sym h) p, refl)
items_push P (y ∷ xs) x source middle rest h p = (h.0, h.1, items_push P xs x h.0 middle rest h.2 p)

-- one more row
pub rows_push : (f : Form) (changes : Bool) (before : Option Values) (rows : List Stamped) (x : Stamped) (source middle rest : List ℕ) → AreRows f changes before rows source middle
    → IsRow f changes x middle rest → may_follow changes (last_key before rows) x.key ≡ true → AreRows f changes before (rows ++ x ∷ []) source rest
rows_push f changes before rows x source middle rest so_far row follows o offset form kind written =
    let (ds, many, items, is) = so_far o offset form kind written in
    let (d, datum, read) = row o.file.kind written in (
      ds ++ d ∷ [],
      omega (arith, many, length-append ds (d ∷ []), length-append rows (x ∷ [])),
      items_push (IsDatum o.file.kind) ds d source middle rest items datum,
      ap (judged o before) (map-append (λ (e : Data). (offset, e)) ds (d ∷ []))
          ∙ judged-push o (placed offset ds) before rows offset d x is (rw (form, kind, read, follows) refl),
    )

pub rows_more : (f : Form) (changes : Bool) (before : Option Values) (rows more : List Stamped) (x : Stamped) (source middle rest : List ℕ) → more ≡ rows ++ x ∷ []
    → AreRows f changes before rows source middle → IsRow f changes x middle rest → true ≡ may_follow changes (last_key before rows) x.key → AreRows f changes before more source rest
rows_more f changes before rows more x source middle rest pushed so_far row follows =
    subst (λ (xs : List Stamped). AreRows f changes before xs source rest) (sym pushed) (rows_push f changes before rows x source middle rest so_far row (sym follows))

-- ---- a block

-- a rest that stands at the end is what is left after the bytes before it
at_end : (source rest : List ℕ) → Follows source rest → drop (length source - length rest) source ≡ rest
at_end source rest f =
    let len : length source ≡ length f.prefix + length rest = ap length f.parts ∙ length-append f.prefix rest in
    let n : length source - length rest ≡ length f.prefix = omega arith in
    ap (λ (k : ℕ). drop k source) n ∙ ap (drop (length f.prefix)) f.parts ∙ drop_at f.prefix rest (length f.prefix) refl

module _ (bytes : List ℕ) (offset count size : ℕ) (middle left marker rest : List ℕ) (counted : IsLong (pos count) (drop offset bytes) middle) (sized : IsLong (pos size) middle left)
    (marked : drop size left ≡ marker ++ rest) where
  left_parts : left ≡ take size left ++ (marker ++ rest)
  left_parts = sym (take-append-drop size left) ∙ ap (λ (bs : List ℕ). take size left ++ bs) marked

  follows : Follows bytes rest
  follows =
      let p = datum_follows avro.long (long (pos count)) (drop offset bytes) middle counted in
      let q = datum_follows avro.long (long (pos size)) middle left sized in
      let parts : bytes ≡ take offset bytes ++ (p.prefix ++ (q.prefix ++ (take size left ++ (marker ++ rest)))) =
      sym (take-append-drop offset bytes) ∙ ap (λ (bs : List ℕ). take offset bytes ++ bs) (p.parts ∙ ap (λ (bs : List ℕ). p.prefix ++ bs) (q.parts ∙ ap (λ (bs : List ℕ). q.prefix ++ bs) left_parts)) in
      record { prefix = take offset bytes ++ (p.prefix ++ (q.prefix ++ (take size left ++ marker))); parts = parts ∙ sym (simp append_assoc) }

  pub rest_within : length rest ≤ length bytes
  rest_within = omega (arith, ap length follows.parts, length-append follows.prefix rest)

  pub content_read : (d : Direct) (content : List ℕ) → content ≡ take size left → marker ≡ d.marker.items → count ≤ size → size ≤ length left → HasContent d bytes offset count content (length bytes - length rest)
  content_read d content is mark le room =
      let whole : length content ≡ size = ap length is ∙ length-take-le size left room in
      record {
        middle = middle;
        left = left;
        within = omega arith;
        counted = counted;
        sized = subst (λ (n : ℕ). IsLong (pos n) middle left) (sym whole) sized;
        fits = omega (arith, whole, le);
        marked = left_parts ∙ ap (λ (bs : List ℕ). bs ++ (marker ++ rest)) (sym is) ∙ ap (λ (m : List ℕ). content ++ (m ++ rest)) mark
            ∙ ap (λ (bs : List ℕ). content ++ (d.marker.items ++ bs)) (sym (at_end bytes rest follows));
      }

-- the block with this content
content_block : (d : Direct) (bytes : List ℕ) (offset count : ℕ) (content : List ℕ) (next : ℕ) → HasContent d bytes offset count content next → (r : Reader) (ds : List Data) → r.bytes ≡ bytes
    → d.marker.items ≡ r.marker → length ds ≡ count → AreItems (IsDatum r.kind) ds content [] → HasBlock r.kind r.marker r.bytes offset ds next
content_block d bytes offset count content next has r ds same mark many items =
    let block : IsBlock r.kind d.marker.items ds (drop offset bytes) (drop next bytes) = record {
      middle = has.middle;
      left = has.left;
      content = content;
      count = subst (λ (n : ℕ). IsLong (pos n) (drop offset bytes) has.middle) (sym many) has.counted;
      size = has.sized;
      within = omega (arith, many, has.fits);
      each = items;
      marked = has.marked;
    } in
    let here : HasBlock r.kind d.marker.items bytes offset ds next = record { within = has.within; block = block } in
    subst (λ (bs : List ℕ). HasBlock r.kind r.marker bs offset ds next) (sym same) (subst (λ (m : List ℕ). HasBlock r.kind m bytes offset ds next) mark here)

-- the rows of a block, after one with the key before
pub block_rows : (d : Direct) (bytes : List ℕ) (offset count : ℕ) (content : List ℕ) (next : ℕ) → HasContent d bytes offset count content next → (o : Opened) (f : Form) (changes : Bool) (before : Option Values)
    (rows : List Stamped) → o.form ≡ f → o.changes ≡ changes → o.file.bytes ≡ bytes → IsDirect d f o.file → AreRows f changes before rows content []
    → length rows ≡ count → (ds : List Data) × HasBlock o.file.kind o.file.marker o.file.bytes offset ds next × (judged o before (placed offset ds) ≡ all_judged rows)
block_rows d bytes offset count content next has o f changes before rows form kinds same direct all many =
    let (ds, as_many, items, is) = all o offset form kinds direct.written in
    (ds, content_block d bytes offset count content next has o.file ds same direct.marker (as_many ∙ many) items, is)

-- ---- the marker of a file

pub marker_is : (bytes : List ℕ) (r : Reader) → IsOpened bytes r → 16 ≤ r.first → take 16 (drop (r.first - 16) bytes) ≡ r.marker
marker_is bytes r opened some =
    let h = opened.header.preamble in
    let rest : List ℕ = drop r.first bytes in
    let p = datum_follows (avro.map_of avro.bytes) (metadata opened.header.pairs) h.start h.left h.pairs_read in
    let before : List ℕ = magic ++ p.prefix in
    let parts : bytes ≡ before ++ (r.marker ++ rest) =
    h.begins ∙ ap (λ (bs : List ℕ). magic ++ bs) (p.parts ∙ ap (λ (bs : List ℕ). p.prefix ++ bs) h.marked) ∙ sym (append_assoc magic p.prefix (r.marker ++ rest)) in
    let long : length bytes ≡ length before + (length r.marker + length rest) =
    ap length parts ∙ length-append before (r.marker ++ rest) ∙ ap (λ (n : ℕ). length before + n) (length-append r.marker rest) in
    let left : length rest ≡ length bytes - r.first = length-drop r.first bytes in
    let n : r.first - 16 ≡ length before = omega (arith, h.sixteen, opened.within) in
    let here : drop (r.first - 16) bytes ≡ r.marker ++ rest =
    ap (λ (k : ℕ). drop k bytes) n ∙ ap (drop (length before)) parts ∙ drop_at before (r.marker ++ rest) (length before) refl in
    ap (take 16) here ∙ ap (λ (k : ℕ). take k (r.marker ++ rest)) (sym h.sixteen) ∙ take-append_seam r.marker rest
