-- Steps of loops over a row's values and over rows.
use Rattle.std.proofs.Common.{◌≡◌, ℕ, zero, suc, ◌+◌, ◌<◌, ◌≤◌, ◌-◌, min, max, Option, Some, List, [], ◌∷◌, ◌++◌, length, get_or, take, drop, refl, sym, ap, ◌∙◌, arith}
use Rattle.std.proofs.lemmas.List.{map_push, take_all}
use Rattle.std.specs.List.{last_or}
use Rattle.pm_base.proofs.Laws.{last_or-push}
use Rattle.pm_avro_data.specs.Adding.{Adds}
use Rattle.pm_avro_data.specs.Datum.{Data, items_of, record_of}
use Rattle.pm_avro_data.specs.HasType.{HasType}
use Rattle.pm_avro_data.proofs.Facts.{added_more}
use Rattle.pm_values.specs.Order.{Values}
use Rattle.pm_values.specs.declared.record.Stamped.{Stamped}
use Rattle.pm_values.specs.declared.value.Value.{Value}
use Rattle.pm_run_form.proofs.LoopLemmas.{drop_next, take_next}
use Rattle.pm_run.specs.declared.form.Field.{Field}
use Rattle.pm_run.specs.Kinds.{field_type}
use Rattle.pm_run.specs.Order.{keys_of, last_key}
use Rattle.pm_run.specs.Row.{value_data, values_data}
use Rattle.pm_run.specs.Typed.{HaveFields}
use Rattle.pm_run.specs.Writing.{first_key, first_sequence, greatest_of, least_of}

-- ---- data of values

have_push : (fields : List Field) (values : Values) (x : Field) (value : Value) → HaveFields fields (values_data fields values) → length fields ≡ length values
    → HasType (field_type x) (value_data x value) → HaveFields (fields ++ x ∷ []) (values_data (fields ++ x ∷ []) (values ++ value ∷ []))
have_push [] [] x value have many typed = (typed, tt)
have_push [] (v ∷ values) x value have many typed = absurd (omega arith)
have_push (y ∷ fields) [] x value have many typed = absurd (omega arith)
have_push (y ∷ fields) (v ∷ values) x value have many typed = (have.0, have_push fields values x value have.1 (omega arith) typed)

values-push : (fields : List Field) (values : Values) (x : Field) (value : Value) → length fields ≡ length values
    → values_data (fields ++ x ∷ []) (values ++ value ∷ []) ≡ values_data fields values ++ value_data x value ∷ []
values-push [] [] x value many = refl
values-push [] (v ∷ values) x value many = absurd (omega arith)
values-push (y ∷ fields) [] x value many = absurd (omega arith)
values-push (y ∷ fields) (v ∷ values) x value many = ap (λ (ds : List Data). value_data y v ∷ ds) (values-push fields values x value (omega arith))

length-take_both : {X Y : Type 0} (n : ℕ) (xs : List X) (ys : List Y) → length xs ≡ length ys → length (take n xs) ≡ length (take n ys)
length-take_both zero xs ys same = refl
length-take_both (suc n) [] [] same = refl
length-take_both (suc n) [] (y ∷ ys) same = absurd (omega arith)
length-take_both (suc n) (x ∷ xs) [] same = absurd (omega arith)
length-take_both (suc n) (x ∷ xs) (y ∷ ys) same = ap suc (length-take_both n xs ys (omega arith))

module _ (fields : List Field) (values : Values) (i : ℕ) (x : Field) (value : Value) (first : i < length fields) (second : i < length values) (x_is : x ≡ get_or fields i x)
    (value_is : value ≡ get_or values i value) where
  -- one more value is added
  pub values_next : (before middle after : List ℕ) → Adds before middle (record_of (items_of (values_data (take i fields) (take i values)))) → length fields ≡ length values
      → Adds middle after (value_data x value) → Adds before after (record_of (items_of (values_data (take (i + 1) fields) (take (i + 1) values))))
  values_next before middle after so_far many more =
      rw (take_next fields i x first x_is, take_next values i value second value_is, values-push (take i fields) (take i values) x value (length-take_both i fields values many))
      (added_more before middle after (values_data (take i fields) (take i values)) (value_data x value) so_far more)

  pub have_next : HaveFields (take i fields) (values_data (take i fields) (take i values)) → length fields ≡ length values → HasType (field_type x) (value_data x value)
      → HaveFields (take (i + 1) fields) (values_data (take (i + 1) fields) (take (i + 1) values))
  have_next have many typed =
      rw (take_next fields i x first x_is, take_next values i value second value_is)
      (have_push (take i fields) (take i values) x value have (length-take_both i fields values many) typed)

-- all values are added
pub values_end : (fields : List Field) (values : Values) (i : ℕ) (before after : List ℕ) → length fields ≤ i → length fields ≡ length values
    → Adds before after (record_of (items_of (values_data (take i fields) (take i values)))) → Adds before after (record_of (items_of (values_data fields values)))
values_end fields values i before after le many added = rw (take_all i fields le, take_all i values (omega arith)) at added

pub have_end : (fields : List Field) (values : Values) (i : ℕ) → length fields ≤ i → length fields ≡ length values → HaveFields (take i fields) (values_data (take i fields) (take i values))
    → HaveFields fields (values_data fields values)
have_end fields values i le many have = rw (take_all i fields le, take_all i values (omega arith)) at have

-- ---- sequence numbers

least_next : (n m : ℕ) (rows : List Stamped) → min m (least_of n rows) ≡ least_of (min n m) rows
least_next n m [] = omega arith
least_next n m (x ∷ rows) = omega (arith, least_next n m rows)

greatest_next : (n m : ℕ) (rows : List Stamped) → max m (greatest_of n rows) ≡ greatest_of (max n m) rows
greatest_next n m [] = omega arith
greatest_next n m (x ∷ rows) = omega (arith, greatest_next n m rows)

module _ (rows : List Stamped) (i : ℕ) (x : Stamped) (lt : i < length rows) (is : x ≡ get_or rows i x) (n first : ℕ) where
  pub least_step : (m : ℕ) → m ≡ min n x.seq → least_of n (drop i rows) ≡ first → least_of m (drop (i + 1) rows) ≡ first
  least_step m e so_far = rw e (sym (least_next n x.seq (drop (i + 1) rows)) ∙ ap (least_of n) (sym (drop_next rows i x lt is)) ∙ so_far)

  pub greatest_step : (m : ℕ) → m ≡ max n x.seq → greatest_of n (drop i rows) ≡ first → greatest_of m (drop (i + 1) rows) ≡ first
  greatest_step m e so_far = rw e (sym (greatest_next n x.seq (drop (i + 1) rows)) ∙ ap (greatest_of n) (sym (drop_next rows i x lt is)) ∙ so_far)

-- ---- the first and the last row

pub first_is : (rows : List Stamped) (x : Stamped) → 1 ≤ length rows → x ≡ get_or rows 0 x → (first_key rows ≡ Some x.key) × (first_sequence rows ≡ x.seq)
first_is [] x some is = absurd (omega arith)
first_is (y ∷ rows) x some is = (ap (λ (z : Stamped). Some z.key) (sym is), ap (λ (z : Stamped). z.seq) (sym is))

pub last_is : (before : Option Values) (rows : List Stamped) (x : Stamped) → 1 ≤ length rows → x ≡ get_or rows (length rows - 1) x → last_key before rows ≡ Some x.key
last_is before rows x some is =
    let i = length rows - 1 in
    let whole : rows ≡ take i rows ++ x ∷ [] = sym (take_all (i + 1) rows (omega arith)) ∙ take_next rows i x (omega arith) is in
    ap (last_key before) whole ∙ ap (last_or before) (map_push (λ (z : Stamped). z.key) (take i rows) x) ∙ last_or-push before (keys_of (take i rows)) x.key
