-- Values of a row that are its key, and the last key of rows.
use Rattle.std.proofs.Common.{◌≡◌, ℕ, suc, ◌-◌, ◌&&◌, List, [], ◌∷◌, length, Option, None, Some, Bool, true, false, refl, sym, ap, ◌∙◌, arith}
use Rattle.std.specs.Ordering.{is_eq}
use Rattle.std.specs.Cmp.{Equal-is}
use Rattle.std.proofs.lemmas.Bool.{and_parts}
use Rattle.pm_values.specs.Order.{Values, value_cmp}
use Rattle.pm_values.specs.declared.value.Value.{Value}
use Rattle.pm_values.proofs.Lemmas.{value_cmp-IsAntisymmetric}
use Rattle.pm_model_history.specs.Merge.{key_of, value_at}
use Rattle.pm_run.specs.Row.{agree}
use Rattle.std.specs.Prelude.{slice_get}
use Rattle.pm_values.specs.declared.record.Stamped.{Stamped}
use Rattle.pm_run.specs.Order.{last_key}

-- values of another number than the indexes don't agree
pub agree-many : (places : List ℕ) (row values : Values) → (length places ≡ length values → ⊥) → false ≡ agree places row values
agree-many [] row [] many = absurd (many refl)
agree-many [] row (value ∷ values) many = refl
agree-many (i ∷ places) row [] many = refl
agree-many (i ∷ places) row (value ∷ values) many = by_first (is_eq (value_cmp value (value_at row i))) (agree-many places row values (λ e. many (ap suc e)))
  where
    by_first : (b : Bool) → false ≡ agree places row values → false ≡ (b && agree places row values)
    by_first true e = e
    by_first false e = refl

-- values that agree with the row's are the key of the row
pub agreed_keys : (places : List ℕ) (row values : Values) → agree places row values ≡ true → values ≡ key_of places row
agreed_keys [] row [] e = refl
agreed_keys [] row (value ∷ values) e = cc
agreed_keys (i ∷ places) row [] e = cc
agreed_keys (i ∷ places) row (value ∷ values) e =
    let both = and_parts (is_eq (value_cmp value (value_at row i))) (agree places row values) e in
    let first = value_cmp-IsAntisymmetric value (value_at row i) ((Equal-is (value_cmp value (value_at row i))).0 both.0) in
    let later = agreed_keys places row values both.1 in
    ap (λ (v : Value). v ∷ values) first ∙ ap (λ (vs : Values). value_at row i ∷ vs) later

-- so values that agree at the indexes of the whole key are the key
pub whole_key : (places primary : List ℕ) (row values : Values) → places ≡ primary → agree places row values ≡ true → values ≡ key_of primary row
whole_key places primary row values same e = rw (sym same) (agreed_keys places row values e)

-- the key of the last row, or the one before all
pub last_of_slice : (before : Option Values) (rows : List Stamped) (x : Stamped) → Some x ≡ slice_get rows (length rows - 1) → Some x.key ≡ last_key before rows
last_of_slice before [] x e = let no : Some x ≡ None = e in cc
last_of_slice before (y ∷ []) x e = let same : x ≡ y = cc in ap (λ (z : Stamped). Some z.key) same
last_of_slice before (y ∷ z ∷ rows) x e =
    let n : length (y ∷ z ∷ rows) - 1 ≡ suc (length (z ∷ rows) - 1) = omega arith in
    let later : Some x ≡ slice_get (z ∷ rows) (length (z ∷ rows) - 1) = e ∙ ap (slice_get (y ∷ z ∷ rows)) n in
    last_of_slice (Some y.key) (z ∷ rows) x later
