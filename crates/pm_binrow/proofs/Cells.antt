-- Reading one cell after another, as a loop does.
use Rattle.std.proofs.Common.{◌≡◌, ℕ, ◌+◌, false, List, [], ◌∷◌, ◌++◌}
use Rattle.std.proofs.Common.{take, drop, Option, Some, None, refl, sym, ap, ◌∙◌, append_assoc}
use Rattle.std.proofs.lemmas.List.{append-nil}
use Rattle.std.specs.Str.{IsUtf8, is_utf8}
use Rattle.std.proofs.lemmas.Bool.{false_from_ne_true}
use Rattle.std.proofs.lemmas.Str.{IsUtf8-from_is_utf8, is_utf8-from_IsUtf8}
use Rattle.pm_base.specs.Steps.{◌>>=◌}
use Rattle.pm_values.specs.declared.value.Value.{Value}
use Rattle.pm_values.specs.declared.value.Value.TheVariants.{Text as Words}
use Rattle.pm_values.specs.declared.column.ColType.{ColType}
use Rattle.pm_values.specs.declared.column.ColType.TheVariants as types
use Rattle.pm_values.specs.Order.{Values}
use Rattle.pm_binrow.specs.declared.fault.BinFault.{BinFault}
use Rattle.pm_binrow.specs.declared.fault.BinFault.TheVariants as faults
use Rattle.pm_binrow.specs.Reading.{YieldsNone, cell_in, cells_in, is_marked, some_in, text_in, with_earlier}

-- ---- a text

pub text_some : (size : ℕ) (place tails text later : List ℕ) → text_in size place tails ≡ Some (text, later) → IsUtf8 text
    → some_in size types.Text place tails ≡ Some (Words text, later)
unfolding some_in
text_some size place tails text later e utf8 = rw (e, is_utf8-from_IsUtf8 text utf8) refl

pub text_none : (size : ℕ) (place tails text later : List ℕ) → text_in size place tails ≡ Some (text, later) → (IsUtf8 text → ⊥)
    → some_in size types.Text place tails ≡ None
unfolding some_in
text_none size place tails text later e other =
    let no : is_utf8 text ≡ false = false_from_ne_true (is_utf8 text) (λ yes. other (IsUtf8-from_is_utf8 text yes)) in
    rw (e, no) refl

-- ---- one cell more

with_earlier-cons : (earlier : Values) (value : Value) (read : Option Values)
    → with_earlier earlier (read >>= λ values. Some (value ∷ values)) ≡ with_earlier (earlier ++ value ∷ []) read
with_earlier-cons earlier value None = refl
with_earlier-cons earlier value (Some values) = ap Some (sym (append_assoc earlier (value ∷ []) values))

pub cells_in-cons : (size : ℕ) (nulls : List ℕ) (index : ℕ) (kind : ColType) (kinds : List ColType) (places tails : List ℕ)
    → cells_in size nulls index (kind ∷ kinds) places tails ≡ (cell_in size kind (is_marked nulls index) (take 8 places) tails
    >>= λ cell. cells_in size nulls (index + 1) kinds (drop 8 places) cell.1 >>= λ values. Some (cell.0 ∷ values))
unfolding cells_in
cells_in-cons size nulls index kind kinds places tails = refl

-- a fault of one is a fault of all
pub fails_all : {Y B : Type 0} (e : BinFault) (one : Option Y) (all : Option B) → YieldsNone e one → (one ≡ None → all ≡ None) → YieldsNone e all
fails_all faults.Memory one all fails h = tt
fails_all faults.Bad one all fails h = h fails

module _ (size : ℕ) (nulls : List ℕ) (earlier : Values) (kinds : List ColType) (total : Option Values) where
  pub cells_more : (index next : ℕ) (kind : ColType) (later : List ColType) (places place after tails left : List ℕ) (value : Value)
      → kinds ≡ kind ∷ later → next ≡ index + 1 → place ≡ take 8 places → after ≡ drop 8 places
      → cell_in size kind (is_marked nulls index) place tails ≡ Some (value, left)
      → with_earlier earlier (cells_in size nulls index kinds places tails) ≡ total
      → with_earlier (earlier ++ value ∷ []) (cells_in size nulls next later after left) ≡ total
  cells_more index next kind later places place after tails left value parts counted first rest one so_far =
      let here : cell_in size kind (is_marked nulls index) (take 8 places) tails ≡ Some (value, left) = rw first at one in
      let step : cells_in size nulls index kinds places tails ≡ (cells_in size nulls next later after left >>= λ values. Some (value ∷ values)) =
      rw (parts, cells_in-cons size nulls index kind later places tails, here, counted, rest) refl in
      sym (with_earlier-cons earlier value (cells_in size nulls next later after left)) ∙ sym (ap (with_earlier earlier) step) ∙ so_far

  pub cells_fail : (index : ℕ) (kind : ColType) (later : List ColType) (places place tails : List ℕ)
      → kinds ≡ kind ∷ later → place ≡ take 8 places
      → with_earlier earlier (cells_in size nulls index kinds places tails) ≡ total
      → cell_in size kind (is_marked nulls index) place tails ≡ None → total ≡ None
  cells_fail index kind later places place tails parts first so_far none =
      let here : cell_in size kind (is_marked nulls index) (take 8 places) tails ≡ None = rw first at none in
      let step : cells_in size nulls index kinds places tails ≡ None =
      rw (parts, cells_in-cons size nulls index kind later places tails, here) refl in
      sym so_far ∙ ap (with_earlier earlier) step

  pub cells_end : (index : ℕ) (places tails : List ℕ) → kinds ≡ [] → tails ≡ []
      → with_earlier earlier (cells_in size nulls index kinds places tails) ≡ total → total ≡ Some earlier
  unfolding cells_in
  cells_end index places tails none over so_far = sym (rw (none, over) at so_far) ∙ ap Some (append-nil earlier)

  pub cells_left : (index : ℕ) (places tails : List ℕ) → kinds ≡ [] → (tails ≡ [] → ⊥)
      → with_earlier earlier (cells_in size nulls index kinds places tails) ≡ total → total ≡ None
  unfolding cells_in
  cells_left index places [] none left so_far = absurd (left refl)
  cells_left index places (b ∷ tails) none left so_far = sym (rw none at so_far)
