-- The rows that a file has fit its table's columns, have their own keys, and a number and a kind that may stand there.
use Rattle.std.proofs.Common.{◌≡◌, ℕ, ◌≤◌, ℤ, pos, negsuc, ◌≤ℤ◌, int_le, min, nat_le, List, [], ◌∷◌, map, Bool, true, false, ◌&&◌, Option, None, Some, Result, Ok, Err, refl, sym, subst, arith}
use Rattle.std.specs.Prelude.{IsTrue, is_some, codes, drop, if◌then◌else◌, option_map}
use Rattle.std.specs.List.{AllByRecursion}
use Rattle.std.specs.Str.{bytes_eq}
use Rattle.std.proofs.lemmas.Bool.{and_parts, leb-true}
use Rattle.std.proofs.lemmas.Float.{T_from_true}
use Rattle.std.proofs.lemmas.Int.{ints}
use lib.Signed.{le_z_yes}
use Rattle.pm_base.specs.Outcome.{◌>>=◌}
use Rattle.pm_base.specs.Steps as options
use Rattle.pm_base.proofs.Laws.{step_ok, AllByRecursion-append}
use Rattle.pm_options.specs.declared.kinds.EngineKind.{EngineKind}
use Rattle.pm_options.specs.declared.kinds.EngineKind.TheVariants as engines
use Rattle.pm_avro_schema.specs.Avro as avro
use Rattle.pm_avro_schema.specs.Avro.{Avro, Fields, no_fields, field}
use Rattle.pm_avro_data.specs.Datum.{Data, null, boolean, int, long, bytes, text, record_of, union_of, Items, no_items, item}
use Rattle.pm_avro_file.specs.Reader.{Reader, HasBlock}
use Rattle.pm_model_history.specs.Merge.{key_of}
use Rattle.pm_model_history.specs.Merged.{primary_of}
use Rattle.pm_model_history.specs.Taken.{stores_by}
use Rattle.pm_record.specs.Scalar.{long_in}
use Rattle.pm_record.specs.Record.{all_values, beside_null, inner, not_null, optional, present, selected, value_in, values_in}
use Rattle.pm_record.specs.declared.misfit.Misfit.{Misfit}
use Rattle.pm_record.specs.declared.misfit.Misfit.TheVariants.{Bad, Unsupported}
use Rattle.pm_rows.specs.RowText.{kind_text}
use Rattle.pm_schema.specs.declared.schema.TableSchema.{TableSchema}
use Rattle.pm_values.specs.Fits.{Fits, FitsColumn, IsInType, first_day, last_day}
use Rattle.pm_values.specs.Kind.{retracts}
use Rattle.pm_values.specs.Order.{Values}
use Rattle.pm_values.specs.declared.column.ColType.{ColType}
use Rattle.pm_values.specs.declared.column.ColType.TheVariants as types
use Rattle.pm_values.specs.declared.column.Column.{Column}
use Rattle.pm_values.specs.declared.kind.Kind.{Kind}
use Rattle.pm_values.specs.declared.kind.Kind.TheVariants.{Insert}
use Rattle.pm_values.specs.declared.record.Stamped.{Stamped}
use Rattle.pm_values.specs.declared.refusal.Refusal.{Refusal}
use Rattle.pm_values.specs.declared.value.Value.{Value}
use Rattle.pm_values.specs.declared.value.Value.TheVariants.{Null, Bool as Truth, Int as Whole, Text as Words, Bytes as Octets, Day, Millis}
use Rattle.pm_run.specs.declared.slot.Fit.{Fit}
use Rattle.pm_run.specs.declared.slot.Fit.TheVariants.{Plain, Optional}
use Rattle.pm_run.specs.declared.slot.Slot.{Slot}
use Rattle.pm_run.specs.Form.{Form, field_of, form_of, row_fields}
use Rattle.pm_run.specs.Kinds.{slot_of, slots_of}
use Rattle.pm_run.specs.Order.{following, may_follow}
use Rattle.pm_run.specs.Row as rows
use Rattle.pm_run.specs.Row.{IsOfFile, agreed, at_most, kind_in, may_stand, most_sequence, natural, nearest_sequence, number_in, optional_in, row_in, row_kind, row_of, scalar_in, sequence_in, stored_kind, unless_retracts, value_by, whole_in}
use Rattle.pm_run.specs.Rows.{AreBytes, Blocks, Follow, HasRows, Judged, LeadTo, all_placed, judged, next_row, opened_with, placed, then_judged}
use Rattle.pm_run.specs.Taking.{first_read, found}
use Rattle.pm_run.specs.Writing.{HaveRows}
use Rattle.pm_run.proofs.RangeLemmas.{AreWithin, IsWithin, block_within, drop_bytes}

-- ---- steps

found_some : {X : Type 0} (o : Option X) (x : X) → found o ≡ Ok x → o ≡ Some x
found_some (Some y) x e = cc
found_some None x e = cc

ok_same : {X : Type 0} (x y : X) → ◌≡◌ {A = Result X Misfit} (Ok x) (Ok y) → x ≡ y
ok_same x y e = cc

some_step : {A B : Type 0} (o : Option A) (f : A → Option B) (y : B) → options.◌>>=◌ o f ≡ Some y → (x : A) × (o ≡ Some x) × (f x ≡ Some y)
some_step (Some x) f y e = (x, refl, e)
some_step None f y e = cc

-- ---- what stands at names

value_within : (name : List ℕ) (fs : Fields) (ds : Items) (d : Data) → value_in name fs ds ≡ Some d → AreWithin ds → IsWithin d
value_within name no_fields ds d e w = cc
value_within name (field other t fs) no_items d e w = cc
value_within name (field other t fs) (item x ds) d e w = by_test (bytes_eq name other) (λ later. value_within name fs ds d later w.1) e
  where
    by_test : (b : Bool) → (value_in name fs ds ≡ Some d → IsWithin d) → (if b then Some x else value_in name fs ds) ≡ Some d → IsWithin d
    by_test true later e = let same : x ≡ d = cc in subst IsWithin same w.0
    by_test false later e = later e

all_within : (names : List (List ℕ)) (fs : Fields) (ds : Items) (out : List Data) → all_values names fs ds ≡ Some out → AreWithin ds → AllByRecursion IsWithin out
all_within [] fs ds out e w = let none : [] ≡ out = cc in subst (AllByRecursion IsWithin) none tt
all_within (name ∷ names) fs ds out e w =
    let one = some_step (value_in name fs ds) (λ d. options.◌>>=◌ (all_values names fs ds) (λ later. Some (d ∷ later))) out e in
    let more = some_step (all_values names fs ds) (λ later. Some (one.0 ∷ later)) out one.2 in
    let same : one.0 ∷ more.0 ≡ out = let both : Some (one.0 ∷ more.0) ≡ Some out = more.2 in cc in
    subst (AllByRecursion IsWithin) same (value_within name fs ds one.0 one.1 w, all_within names fs ds more.0 more.1 w)

values_within : (names : List (List ℕ)) (t : Avro) (d : Data) (out : List Data) → values_in names t d ≡ Some out → IsWithin d → AllByRecursion IsWithin out
values_within names (avro.record_of fs) (record_of ds) out e w = all_within names fs ds out e w
values_within names t d out e w = cc

inner_within : (d : Data) → IsWithin d → IsWithin (inner d)
inner_within (union_of k d) w = w
inner_within d w = w

chosen_within : (b : Bool) (d : Data) → IsWithin d → IsWithin (if b then inner d else d)
chosen_within true d w = inner_within d w
chosen_within false d w = w

not_null_within : (d e : Data) → not_null d ≡ Some e → IsWithin d → IsWithin e
not_null_within null e is w = cc
not_null_within d e is w = let same : d ≡ e = cc in subst IsWithin same w

selected_within : (names : List (List ℕ)) (t : Avro) (d : Data) (out : List Data) → selected names t d ≡ Some out → IsWithin d → AllByRecursion IsWithin out
selected_within names t d out e w =
    let p = some_step (present t d) (values_in names (beside_null t)) out e in
    let here = not_null_within (if is_some (optional t) then inner d else d) p.0 p.1 (chosen_within (is_some (optional t)) d w) in
    values_within names (beside_null t) p.0 out p.2 here

-- ---- one value

-- a value fits a column of the type, which null may stand in or not
abbrev FitsKind : ColType → Bool → Value → Type 0
FitsKind kind nullable Null = IsTrue nullable
FitsKind kind nullable value = IsInType kind value

fits_column : (c : Column) (v : Value) → FitsKind c.kind c.nullable v → FitsColumn c v
fits_column c Null h = h
fits_column c v h = h

-- an integer in a range
whole_within : (low high z : ℤ) (v : Value) → whole_in low high z ≡ Some v → (Whole z ≡ v) × (low ≤ℤ z) × (z ≤ℤ high)
whole_within low high z v e = by_test (int_le low z && int_le z high) refl e
  where
    by_test : (b : Bool) → (int_le low z && int_le z high) ≡ b → (if b then Some (Whole z) else None) ≡ Some v → (Whole z ≡ v) × (low ≤ℤ z) × (z ≤ℤ high)
    by_test true is e =
        let sides = and_parts (int_le low z) (int_le z high) is in
        let same : Whole z ≡ v = cc in
        (same, le_z_yes (T_from_true (int_le low z) sides.0), le_z_yes (T_from_true (int_le z high) sides.1))
    by_test false is e = cc

day_within : (z : ℤ) (v : Value) → rows.day_in z ≡ Some v → (Day z ≡ v) × (first_day ≤ℤ z) × (z ≤ℤ last_day)
day_within z v e = by_test (int_le first_day z && int_le z last_day) refl e
  where
    by_test : (b : Bool) → (int_le first_day z && int_le z last_day) ≡ b → (if b then Some (Day z) else None) ≡ Some v → (Day z ≡ v) × (first_day ≤ℤ z) × (z ≤ℤ last_day)
    by_test true is e =
        let sides = and_parts (int_le first_day z) (int_le z last_day) is in
        let same : Day z ≡ v = cc in
        (same, le_z_yes (T_from_true (int_le first_day z) sides.0), le_z_yes (T_from_true (int_le z last_day) sides.1))
    by_test false is e = cc

scalar_fits : (kind : ColType) (n : Bool) (d : Data) (v : Value) → scalar_in kind d ≡ Some v → IsWithin d → FitsKind kind n v
scalar_fits types.Boolean n (boolean b) v e w = let same : Truth b ≡ v = cc in subst (FitsKind types.Boolean n) same tt
scalar_fits types.TinyInt n (int z) v e w =
    let r = whole_within (negsuc 127) (pos 127) z v e in
    subst (FitsKind types.TinyInt n) r.0 (omega (arith, ints, r.1, r.2))
scalar_fits types.SmallInt n (int z) v e w =
    let r = whole_within (negsuc 32767) (pos 32767) z v e in
    subst (FitsKind types.SmallInt n) r.0 (omega (arith, ints, r.1, r.2))
scalar_fits types.Int n (int z) v e w = let same : Whole z ≡ v = cc in subst (FitsKind types.Int n) same w
scalar_fits types.BigInt n (long z) v e w = let same : Whole z ≡ v = cc in subst (FitsKind types.BigInt n) same w
scalar_fits types.BigInt n (int z) v e w = let same : Whole z ≡ v = cc in subst (FitsKind types.BigInt n) same (omega (arith, ints, w))
scalar_fits types.Text n (text bs) v e w = let same : Words bs ≡ v = cc in subst (FitsKind types.Text n) same w
scalar_fits types.Bytes n (bytes bs) v e w = let same : Octets bs ≡ v = cc in subst (FitsKind types.Bytes n) same w
scalar_fits types.Date n (int z) v e w = let r = day_within z v e in subst (FitsKind types.Date n) r.0 (r.1, r.2)
scalar_fits types.Timestamp n (long z) v e w = let same : Millis z ≡ v = cc in subst (FitsKind types.Timestamp n) same w
scalar_fits types.Timestamp n (int z) v e w = let same : Millis z ≡ v = cc in subst (FitsKind types.Timestamp n) same (omega (arith, ints, w))
scalar_fits kind n d v e w = cc

null_fits : (kind : ColType) (n b : Bool) (v : Value) → n ≡ b → (if b then Ok Null else Err Bad) ≡ Ok v → FitsKind kind n v
null_fits kind n true v is e = let same : Null ≡ v = cc in subst (FitsKind kind n) same (rw is refl)
null_fits kind n false v is e = cc

optional_fits : (s : Slot) (d : Data) (v : Value) → optional_in s d ≡ Ok v → IsWithin d → FitsKind s.kind s.nullable v
optional_fits s null v e w = null_fits s.kind s.nullable s.nullable v refl e
optional_fits s d v e w = scalar_fits s.kind s.nullable d v (found_some (scalar_in s.kind d) v e) w

value_fits : (fit : Fit) (s : Slot) (d : Data) (v : Value) → value_by fit s d ≡ Ok v → IsWithin d → FitsKind s.kind s.nullable v
value_fits Plain s d v e w = scalar_fits s.kind s.nullable d v (found_some (scalar_in s.kind d) v e) w
value_fits Optional s (union_of k d) v e w = optional_fits s d v e w
value_fits fit s d v e w = cc

-- ---- the values of a row

-- a datum that was read, and those after it
record IsFirst {X : Type 0} (reads : Data → Result X Misfit) (x : X × List Data) : Type 0 where
  datum : Data
  read : reads datum ≡ Ok x.0
  within : IsWithin datum
  later : AllByRecursion IsWithin x.1

first_of : {X : Type 0} (reads : Data → Result X Misfit) (ds : List Data) (x : X × List Data) → first_read reads ds ≡ Ok x → AllByRecursion IsWithin ds → IsFirst reads x
first_of reads [] x e w = cc
first_of {X} reads (d ∷ ds) x e w =
    let p = step_ok (reads d) (λ (y : X). Ok (y, ds)) x e in
    let same : (p.0, ds) ≡ x = ok_same (p.0, ds) x p.2 in
    subst (IsFirst reads) same (record { datum = d; read = p.1; within = w.0; later = w.1 })

values_fit : (t : Avro) (columns : List Column) (ds : List Data) (got : Values × List Data) → rows.values_in (slots_of t (map field_of columns)) ds ≡ Ok got → AllByRecursion IsWithin ds
    → Fits columns got.0
values_fit t [] ds got e w = let none : ([], ds) ≡ got = cc in subst (λ (g : Values × List Data). Fits [] g.0) none tt
values_fit t (c ∷ columns) ds got e w =
    let s = slot_of t (field_of c) in
    let slots = slots_of t (map field_of columns) in
    let one = step_ok (first_read (rows.value_in s) ds) (λ (x : Value × List Data). rows.values_in slots x.1 >>= λ (later : Values × List Data). Ok (x.0 ∷ later.0, later.1)) got e in
    let more = step_ok (rows.values_in slots one.0.1) (λ (later : Values × List Data). Ok (one.0.0 ∷ later.0, later.1)) got one.2 in
    let f = first_of (rows.value_in s) ds one.0 one.1 w in
    let same : (one.0.0 ∷ more.0.0, more.0.1) ≡ got = ok_same (one.0.0 ∷ more.0.0, more.0.1) got more.2 in
    let here : FitsColumn c one.0.0 = fits_column c one.0.0 (value_fits s.fit s f.datum one.0.0 f.read f.within) in
    let after : Fits columns more.0.0 = values_fit t columns one.0.1 more.0 more.1 f.later in
    subst (λ (g : Values × List Data). Fits (c ∷ columns) g.0) same (here, after)

-- ---- the number and the kind

at_most_within : (most m n : ℕ) → at_most most m ≡ Some n → n ≤ most
at_most_within most m n e = by_test (nat_le m most) refl e
  where
    by_test : (b : Bool) → nat_le m most ≡ b → (if b then Some m else None) ≡ Some n → n ≤ most
    by_test true is e = let same : m ≡ n = cc in subst (λ (k : ℕ). k ≤ most) same (leb-true m most is)
    by_test false is e = cc

nearest_within : (most n : ℕ) → min n most ≤ most
nearest_within most n = omega arith

number_within : (changes : Bool) (d : Data) (n : ℕ) → sequence_in changes d ≡ Ok n → n ≤ most_sequence
number_within true d n e = by_long (long_in d) (found_some (number_in true d) n e)
  where
    by_long : (number : Option ℤ) → option_map nearest_sequence number ≡ Some n → n ≤ most_sequence
    by_long (Some (pos m)) e =
        let same : min m most_sequence ≡ n = cc in
        subst (λ (k : ℕ). k ≤ most_sequence) same (nearest_within most_sequence m)
    by_long (Some (negsuc m)) e = let same : 0 ≡ n = cc in subst (λ (k : ℕ). k ≤ most_sequence) same (nearest_within most_sequence 0)
    by_long None e = cc
number_within false d n e =
    let p = some_step (options.◌>>=◌ (long_in d) natural) (at_most most_sequence) n (found_some (number_in false d) n e) in
    at_most_within most_sequence p.0 n p.2

unless_kept : (kind kept got : Kind) → unless_retracts kind kept ≡ Ok got → (kept ≡ got) × (retracts kind ≡ false)
unless_kept kind kept got e = by_test (retracts kind) (Unsupported (codes "_VALUE_KIND") (kind_text kind)) refl e
  where
    by_test : (b : Bool) (m : Misfit) → retracts kind ≡ b → (if b then Err m else Ok kept) ≡ Ok got → (kept ≡ got) × (retracts kind ≡ false)
    by_test true m is e = cc
    by_test false m is e = let same : kept ≡ got = cc in (same, is)

stored_stands : (engine : EngineKind) (kind kept : Kind) → stored_kind engine kind ≡ Ok kept → stores_by engine kept ≡ true
stored_stands engines.Deduplicate kind kept e = refl
stored_stands engines.FirstRow kind kept e = let p = unless_kept kind kind kept e in rw (← p.0, p.1) refl
stored_stands engines.PartialUpdate kind kept e = let p = unless_kept kind Insert kept e in rw (← p.0) refl
stored_stands engines.Aggregation kind kept e = let p = unless_kept kind Insert kept e in rw (← p.0) refl

kind_stands : (s : TableSchema) (changes : Bool) (kind kept : Kind) → row_kind changes s.options.engine kind ≡ Ok kept → may_stand changes s kept ≡ true
kind_stands s true kind kept e = refl
kind_stands s false kind kept e = stored_stands s.options.engine kind kept e

-- ---- a row

-- what comes after each step of a row's reading
abbrev made : Form → ℕ → Values → Kind → Result Stamped Misfit
made f seq row kept = Ok (record { key = key_of f.primary row; seq = seq; kind = kept; row = row })

abbrev after_own : Form → Bool → ℕ → Kind → Values → Values → Result Stamped Misfit
after_own f changes seq kind row own = row_kind changes f.engine kind >>= made f seq row

abbrev after_keys : Form → Bool → ℕ → Kind → Values → Values × List Data → Result Stamped Misfit
after_keys f changes seq kind row key = agreed f.places row key.0 >>= after_own f changes seq kind row

abbrev after_row : Form → Bool → List Slot → ℕ → Kind → Values × List Data → Result Stamped Misfit
after_row f changes keys seq kind row = rows.values_in keys row.1 >>= after_keys f changes seq kind row.0

abbrev after_kind : Form → Bool → List Slot → List Slot → ℕ → Kind × List Data → Result Stamped Misfit
after_kind f changes columns keys seq kind = rows.values_in columns kind.1 >>= after_row f changes keys seq kind.0

abbrev after_sequence : Form → Bool → List Slot → List Slot → ℕ × List Data → Result Stamped Misfit
after_sequence f changes columns keys seq = first_read kind_in seq.1 >>= after_kind f changes columns keys seq.0

module _ (s : TableSchema) (changes : Bool) where
  -- a row that is made of what was read
  made_of_file : (seq : ℕ) (kind kept : Kind) (row : Values) (x : Stamped) → Fits s.columns row → seq ≤ most_sequence → row_kind changes s.options.engine kind ≡ Ok kept
      → made (form_of s) seq row kept ≡ Ok x → IsOfFile s changes x
  made_of_file seq kind kept row x fits numbered stored e =
      let y : Stamped = record { key = key_of (primary_of s) row; seq = seq; kind = kept; row = row } in
      let own : IsOfFile s changes y = record { fits = fits; own = refl; numbered = numbered; kept = kind_stands s changes kind kept stored } in
      subst (IsOfFile s changes) (ok_same y x e) own

  -- a row that was read of data
  row_of_file : (t : Avro) (keys : List Slot) (ds : List Data) (x : Stamped) → row_of (form_of s) changes (slots_of t (map field_of s.columns)) keys ds ≡ Ok x → AllByRecursion IsWithin ds
      → IsOfFile s changes x
  row_of_file t keys ds x e w =
      let f = form_of s in
      let columns = slots_of t (map field_of s.columns) in
      let seq = step_ok (first_read (sequence_in changes) ds) (after_sequence f changes columns keys) x e in
      let first = first_of (sequence_in changes) ds seq.0 seq.1 w in
      let kind = step_ok (first_read kind_in seq.0.1) (after_kind f changes columns keys seq.0.0) x seq.2 in
      let second = first_of kind_in seq.0.1 kind.0 kind.1 first.later in
      let row = step_ok (rows.values_in columns kind.0.1) (after_row f changes keys seq.0.0 kind.0.0) x kind.2 in
      let key = step_ok (rows.values_in keys row.0.1) (after_keys f changes seq.0.0 kind.0.0 row.0.0) x row.2 in
      let own = step_ok (agreed f.places row.0.0 key.0.0) (after_own f changes seq.0.0 kind.0.0 row.0.0) x key.2 in
      let kept = step_ok (row_kind changes f.engine kind.0.0) (made f seq.0.0 row.0.0) x own.2 in
      made_of_file seq.0.0 kind.0.0 kept.0 row.0.0 x (values_fit t s.columns kind.0.1 row.0 row.1 second.later) (number_within changes first.datum seq.0.0 first.read) kept.1 kept.2

  -- a row that a datum is
  row_in_file : (t : Avro) (d : Data) (x : Stamped) → row_in (form_of s) changes t d ≡ Ok x → IsWithin d → IsOfFile s changes x
  row_in_file t d x e w =
      let f = form_of s in
      let p = step_ok (found (selected (row_fields f) t d)) (row_of f changes (slots_of t f.columns) (slots_of t f.keys)) x e in
      row_of_file t (slots_of t f.keys) p.0 x p.2 (selected_within (row_fields f) t d p.0 (found_some (selected (row_fields f) t d) p.0 p.1) w)

  follows_as : (before : Option Values) (y x : Stamped) → following changes before y ≡ Ok x → y ≡ x
  follows_as before y x e = by_test (may_follow changes before y.key) e
    where
      by_test : (b : Bool) → (if b then Ok y else Err Bad) ≡ Ok x → y ≡ x
      by_test true e = cc
      by_test false e = cc

  module _ (path : List ℕ) (r : Reader) where
    next_of_file : (before : Option Values) (d : Data) (x : Stamped) → next_row (opened_with s changes path r) before d ≡ Ok x → IsWithin d → IsOfFile s changes x
    next_of_file before d x e w =
        let p = step_ok (row_in (form_of s) changes r.kind d) (following changes before) x e in
        subst (IsOfFile s changes) (follows_as before p.0 x p.2) (row_in_file r.kind d p.0 p.1 w)

    -- ---- rows of data

    pub judged_of_file : (ps : List (ℕ × Data)) (before : Option Values) → AllByRecursion (λ (p : ℕ × Data). IsWithin p.1) ps
        → AllByRecursion (IsOfFile s changes) (judged (opened_with s changes path r) before ps).rows
    judged_of_file [] before w = tt
    judged_of_file (p ∷ ps) before w =
        by_row (next_row (opened_with s changes path r) before p.1) (λ (x : Stamped). judged (opened_with s changes path r) (Some x.key) ps)
        (λ x e. next_of_file before p.1 x e w.0) (λ x. judged_of_file ps (Some x.key) w.1)
      where
        by_row : (q : Result Stamped Misfit) (later : Stamped → Judged) → ((x : Stamped) → q ≡ Ok x → IsOfFile s changes x) → ((x : Stamped) → AllByRecursion (IsOfFile s changes) (later x).rows)
            → AllByRecursion (IsOfFile s changes) (then_judged path p.0 q later).rows
        by_row (Ok x) later here more = (here x refl, more x)
        by_row (Err misfit) later here more = tt

    -- ---- blocks

    placed_within : (offset : ℕ) (ds : List Data) → AllByRecursion IsWithin ds → AllByRecursion (λ (p : ℕ × Data). IsWithin p.1) (placed offset ds)
    placed_within offset [] w = tt
    placed_within offset (d ∷ ds) w = (w.0, placed_within offset ds w.1)

    blocks_within : (blocks : Blocks) (offset last : ℕ) → AreBytes r.bytes → LeadTo r offset blocks last → AllByRecursion (λ (p : ℕ × Data). IsWithin p.1) (all_placed blocks)
    blocks_within [] offset last all lead = tt
    blocks_within (b ∷ blocks) offset last all lead =
        AllByRecursion-append (λ (p : ℕ × Data). IsWithin p.1) (placed b.0 b.1) (all_placed blocks)
        (placed_within b.0 b.1 (block_within r.kind r.marker b.1 (drop offset r.bytes) (drop lead.1 r.bytes) (drop_bytes offset r.bytes all) lead.2.block))
        (blocks_within blocks lead.1 last all lead.3)

    -- the rows of a block
    pub block_of_file : (offset next : ℕ) (ds : List Data) (before : Option Values) → AreBytes r.bytes → HasBlock r.kind r.marker r.bytes offset ds next
        → AllByRecursion (IsOfFile s changes) (judged (opened_with s changes path r) before (placed offset ds)).rows
    block_of_file offset next ds before all block =
        judged_of_file (placed offset ds) before
        (placed_within offset ds (block_within r.kind r.marker ds (drop offset r.bytes) (drop next r.bytes) (drop_bytes offset r.bytes all) block.block))

    -- the rows from an offset on
    pub follow_of_file : (offset : ℕ) (before : Option Values) (rows : List Stamped) (end : Option Refusal) → AreBytes r.bytes → Follow (opened_with s changes path r) offset before rows end
        → AllByRecursion (IsOfFile s changes) rows
    follow_of_file offset before rows end all f =
        subst (AllByRecursion (IsOfFile s changes)) f.same (judged_of_file (all_placed f.blocks) before (blocks_within f.blocks offset f.last all f.lead))

  -- ---- files

  -- the rows of a file
  pub rows_of_file : (content : List ℕ) (rows : List Stamped) → AreBytes content → HasRows s changes content rows → AllByRecursion (IsOfFile s changes) rows
  rows_of_file content rows all h = follow_of_file [] h.0 h.0.first None rows None (subst AreBytes (sym h.1.same) all) (h.3 [])

-- the rows of a run
pub rows_of_run : (s : TableSchema) (files : List (List ℕ)) (rows : List Stamped) → AllByRecursion AreBytes files → HaveRows s files rows → AllByRecursion (IsOfFile s false) rows
rows_of_run s [] rows all h = subst (AllByRecursion (IsOfFile s false)) (sym h) tt
rows_of_run s (content ∷ files) rows all h =
    subst (AllByRecursion (IsOfFile s false)) (sym h.2)
    (AllByRecursion-append (IsOfFile s false) h.0 h.1 (rows_of_file s false content h.0 all.0 h.3) (rows_of_run s files h.1 all.1 h.4))
