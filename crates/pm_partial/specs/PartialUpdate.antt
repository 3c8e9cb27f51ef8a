-- Partial updates: which schemas they serve, and, private, how a stored row is made.
use Rattle.std.specs.Prelude.{◌≡◌, ◌==◌, ℕ, List, [], ◌∷◌, ◌++◌, length, map, Bool, true, not, ◌&&◌, Some, slice_get}
use Rattle.std.specs.Prelude.{slice_index_or, if◌then◌else◌}
use Rattle.std.specs.Ordering.{is_le}
use Rattle.pm_schema.specs.Rules.{groups_hold, may_be_null}
use Rattle.pm_schema.specs.declared.schema.TableSchema.{TableSchema}
use Rattle.pm_values.specs.Kind.{retracts}
use Rattle.pm_values.specs.Order.{Values, value_cmp}
use Rattle.pm_values.specs.declared.kind.Kind.{Kind}
use Rattle.pm_values.specs.declared.value.Value.{Value}
use Rattle.pm_values.specs.declared.value.Value.TheVariants.{Null}
use Rattle.pm_model_history.specs.ColumnValue.{is_null}
use Rattle.pm_model_history.specs.Merge.{HistoryRow, value_at}
use Rattle.pm_aggregate.specs.Column.{Cell, IsOfType, SpeaksForCells}
use Rattle.pm_aggregate.specs.Functions.{last_non_null_of}
use Rattle.pm_partial.specs.declared.update.Side.{Side}
use Rattle.pm_partial.specs.declared.update.Side.TheVariants as sides
use Rattle.pm_partial.specs.declared.update.Update.{Update}
use Rattle.pm_partial.specs.declared.update.Update.TheVariants.{Key, Latest, InGroup}

-- The schema's rows can be updated in part: the columns outside the key are nullable, and no column that leads a
-- sequence group is of the key or in a list. Each schema that a file or a draft declares is so.
pub record CanUpdate (s : TableSchema) : Type 0 where
  pub nullable : may_be_null s ≡ true
  pub groups : groups_hold s ≡ true

-- Private: a leading value takes the place of another: it isn't null, and it isn't less
abbrev pub follows : Value → Value → Bool
follows older newer = not (is_null newer) && is_le (value_cmp older newer)

-- Private: what is left of a row's value at an index in a column of the group that the column at `lead` leads, by the
-- row's kind and by which of its values are null: nothing without a leading value
abbrev pub left_of : ℕ → ℕ → Kind → List Bool → Value → Value
left_of lead index kind nulls value =
    if slice_index_or nulls lead true then Null else (if retracts kind && not (index == lead) then Null else value)

-- Private: a row's value at an index became a stored one
abbrev pub IsLifted : Update → Kind → List Bool → ℕ → Value → Value → Type 0
IsLifted Key kind nulls index value stored = stored ≡ value
IsLifted (Latest column) kind nulls index value stored =
    IsOfType column value → SpeaksForCells (last_non_null_of column true) stored ((kind, value) ∷ [])
IsLifted (InGroup lead) kind nulls index value stored = stored ≡ left_of lead index kind nulls value

-- Private: which of two stored rows a column is taken from
abbrev pub side_of : Values → Values → Update → Side
side_of older newer Key = sides.Newer
side_of older newer (Latest kind) = sides.Latest kind
side_of older newer (InGroup lead) =
    if follows (value_at older lead) (value_at newer lead) then sides.Newer else sides.Older

-- Private: a value was taken from that side, or those of both became one
abbrev pub IsFrom : Side → Value → Value → Value → Type 0
IsFrom sides.Older older newer stored = stored ≡ older
IsFrom sides.Newer older newer stored = stored ≡ newer
IsFrom (sides.Latest kind) older newer stored =
    (before after : List Cell) → SpeaksForCells (last_non_null_of kind true) older before
    → SpeaksForCells (last_non_null_of kind true) newer after
    → SpeaksForCells (last_non_null_of kind true) stored (before ++ after)

-- Private: a row was made, one value for each column
pub record AreLifted (updates : List Update) (r : HistoryRow) (stored : Values) : Type 0 where
  pub size : length stored ≡ length updates
  pub each : (i : ℕ) (u : Update) → slice_get updates i ≡ Some u
      → IsLifted u r.0 (map is_null r.1) i (value_at r.1 i) (value_at stored i)

-- Private: two stored rows became one
pub record AreCombined (updates : List Update) (older newer stored : Values) : Type 0 where
  pub size : length stored ≡ length updates
  pub each : (i : ℕ) (u : Update) → slice_get updates i ≡ Some u
      → IsFrom (side_of older newer u) (value_at older i) (value_at newer i) (value_at stored i)
