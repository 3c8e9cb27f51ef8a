-- A column by itself: what an aggregator means, and when a value speaks for rows of the column.
use Rattle.std.specs.Prelude.{◌≡◌, ◌≢◌, List, [], ◌∷◌, ◌++◌, map, Bool, true}
use Rattle.std.specs.List.{AllByRecursion}
use Rattle.pm_values.specs.Fits.{IsInType}
use Rattle.pm_values.specs.Kind.{retracts}
use Rattle.pm_values.specs.declared.column.ColType.{ColType}
use Rattle.pm_values.specs.declared.kind.Kind.{Kind}
use Rattle.pm_values.specs.declared.kind.Kind.TheVariants.{Insert}
use Rattle.pm_values.specs.declared.value.Value.{Value}
use Rattle.pm_values.specs.declared.value.Value.TheVariants.{Null}
use Rattle.pm_model_history.specs.Merge.{HistoryRow}

-- what a row has in one column: its kind and the value
abbrev pub Cell : Type 0
Cell = Kind × Value

-- cells as rows of one column
abbrev pub rows_of : List Cell → List HistoryRow
rows_of cells = map (λ (cell : Cell). (cell.0, cell.1 ∷ [])) cells

-- a value of a nullable column of the type
abbrev pub IsOfType : ColType → Value → Type 0
IsOfType kind Null = Unit {0}
IsOfType kind value = IsInType kind value

-- What an aggregator means: the type of its column, which is nullable; whether it takes a row, by whether that one
-- retracts; and what the column is worth over rows of one key.
pub record ColumnMeaning : Type 0 where
  pub kind : ColType
  pub takes : Bool → Bool
  pub value : List Cell → Value

-- a taken cell: its value is of the type, and its kind is taken
pub record IsTakenCell (m : ColumnMeaning) (cell : Cell) : Type 0 where
  pub of_type : IsOfType m.kind cell.1
  pub taken : m.takes (retracts cell.0) ≡ true

abbrev pub AreTakenCells : ColumnMeaning → List Cell → Type 0
AreTakenCells m cells = AllByRecursion (IsTakenCell m) cells

-- The value speaks for the cells of a key, of which there are some: stored as one that inserts, it is what it is worth
-- by itself, and among any cells of the key it is worth the same as they are.
pub record SpeaksForCells (m : ColumnMeaning) (value : Value) (cells : List Cell) : Type 0 where
  pub some : cells ≢ []
  pub all_taken : AreTakenCells m cells
  pub taken : IsTakenCell m (Insert, value)
  pub alone : m.value ((Insert, value) ∷ []) ≡ value
  pub worth : (before after : List Cell) → AreTakenCells m before → AreTakenCells m after
      → m.value (before ++ (cells ++ after)) ≡ m.value (before ++ (Insert, value) ∷ after)
