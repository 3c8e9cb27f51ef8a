-- Values where they lie.
use Rattle.std.proofs.Common.{◌≡◌, ◌<◌, ℕ, List, Some, map, get_or, slice_get, option_map, length, ap, ◌∙◌}
use Rattle.std.proofs.lemmas.Option.{get_or_from_slice_get, slice_get-get_or, slice_get-map}
use Rattle.pm_model_history.specs.Merge.{value_at}
use Rattle.pm_row_slots.specs.Seen.{seen_value}
use Rattle.pm_row_slots.specs.declared.seen.Seen.{Seen}
use Rattle.pm_values.specs.declared.value.Value.{Value}
use Rattle.pm_values.specs.declared.value.Value.TheVariants.{Null}

-- the value at an index of values that lie in bytes or are lent
pub seen_at : (row : List Seen) (index : ℕ) (value : Seen) → slice_get row index ≡ Some value → value_at (map seen_value row) index ≡ seen_value value
seen_at row index value is =
    get_or_from_slice_get (map seen_value row) index (seen_value value) Null
    (slice_get-map seen_value row index ∙ ap (λ found. option_map seen_value found) is)

pub own_at : (row : List Value) (index : ℕ) (value : Value) → slice_get row index ≡ Some value → value_at row index ≡ value
own_at row index value is = get_or_from_slice_get row index value Null is

-- a value within a row, whatever stands in the place of one that isn't there
pub value_within : (row : List Value) (index : ℕ) → index < length row → value_at row index ≡ get_or row index (value_at row index)
value_within row index within = get_or_from_slice_get row index (get_or row index (value_at row index)) Null (slice_get-get_or row index (value_at row index) within)
