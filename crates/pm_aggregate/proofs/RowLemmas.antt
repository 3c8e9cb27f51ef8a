-- A row that is made value by value.
use Rattle.std.proofs.Common.{◌≡◌, ℕ, ◌+◌, ◌<◌, ◌≤◌, List, [], ◌∷◌, ◌++◌, drop, length, get_or, slice_get, Some, sym, ap, subst, ◌∙◌, arith, inl, inr}
use Rattle.std.proofs.Math.ListN.{get_or-append}
use Rattle.std.proofs.Math.Seq.{get_or-append_seam}
use Rattle.std.proofs.lemmas.Bool.{cases_lt}
use Rattle.std.proofs.lemmas.List.{drop-drop, get_or-drop}
use Rattle.std.proofs.lemmas.Option.{get_or_from_slice_get, slice_get_within}
use Rattle.pm_values.specs.Order.{Values}
use Rattle.pm_values.specs.declared.value.Value.{Value}
use Rattle.pm_values.specs.declared.value.Value.TheVariants.{Null}
use Rattle.pm_model_history.specs.Merge.{value_at}

-- what holds of the values so far, for each index below, holds with one more
pub each-more : {F : Type 0} (P : ℕ → F → Value → Type 0) (fs : List F) (vs : Values) (v : Value) (n : ℕ) (x : F) → x ≡ get_or fs n x → length vs ≡ n
    → ((i : ℕ) (f : F) → i < n → slice_get fs i ≡ Some f → P i f (value_at vs i)) → P n x v
    → (i : ℕ) (f : F) → i < n + 1 → slice_get fs i ≡ Some f → P i f (value_at (vs ++ v ∷ []) i)
each-more P fs vs v n x is size each here i f below at =
    elim (cases_lt i n) [
      | inl less ↦
          let within : i < length vs = omega (arith, size) in
          subst (P i f) (sym (get_or-append vs (v ∷ []) Null i within)) (each i f less at)
      | inr more ↦
          let last : i ≡ n = omega arith in
          let length_is : i ≡ length vs = omega (arith, size) in
          let there : slice_get fs n ≡ Some f = subst (λ k. slice_get fs k ≡ Some f) last at in
          let one : x ≡ f = is ∙ get_or_from_slice_get fs n f x there in
          let new : value_at (vs ++ v ∷ []) i ≡ v = ap (value_at (vs ++ v ∷ [])) length_is ∙ get_or-append_seam vs v [] Null in
          subst (P i f) (sym new) (subst (λ k. P k f v) (sym last) (subst (λ g. P n g v) one here))
    ]

-- an index at which something stands is one of those below the length
pub each-all : {F : Type 0} (P : ℕ → F → Type 0) (fs : List F) (n : ℕ) → length fs ≤ n → ((i : ℕ) (f : F) → i < n → slice_get fs i ≡ Some f → P i f) → (i : ℕ) (f : F) → slice_get fs i ≡ Some f → P i f
each-all P fs n all each i f at = let within = slice_get_within fs i f at in each i f (omega arith) at

-- the next of the values that are left stands at the index
pub next-at : (row left : Values) (v : Value) (n : ℕ) → left ≡ drop n row → v ≡ value_at left 0 → v ≡ value_at row n
next-at row left v n rest is =
    let here : n + 0 ≡ n = omega arith in
    is ∙ ap (λ vs. value_at vs 0) rest ∙ get_or-drop n row 0 Null ∙ ap (value_at row) here

-- and those after it are left then
pub next-left : (row left next : Values) (n : ℕ) → left ≡ drop n row → next ≡ drop 1 left → next ≡ drop (n + 1) row
next-left row left next n rest is = is ∙ ap (drop 1) rest ∙ drop-drop 1 n row
