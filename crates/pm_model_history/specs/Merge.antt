-- Rows and their keys.
use Rattle.std.specs.Prelude.{ℕ, List, map, filter}
use Rattle.std.specs.List.{AllByRecursion, slice_index_or}
use Rattle.std.specs.Ordering.{eq_by_cmp}
use Rattle.pm_values.specs.declared.value.Value.{Value}
use Rattle.pm_values.specs.declared.value.Value.TheVariants.{Null}
use Rattle.pm_values.specs.declared.column.Column.{Column}
use Rattle.pm_values.specs.declared.kind.Kind.{Kind}
use Rattle.pm_values.specs.Order.{Values, key_cmp}
use Rattle.pm_values.specs.Fits.{Fits}

-- a history row: a kind and the values of the row
abbrev pub HistoryRow : Type 0
HistoryRow = Kind × Values

-- each row fits the columns
abbrev pub AllFit : List Column → List HistoryRow → Type 0
AllFit columns rows = AllByRecursion (λ (r : HistoryRow). Fits columns r.1) rows

-- the value at a column's index, null where there is none
abbrev pub value_at : Values → ℕ → Value
value_at values index = slice_index_or values index Null

-- the key of a row: its values at the indexes of the primary key's columns
abbrev pub key_of : List ℕ → Values → Values
key_of primary values = map (λ index. value_at values index) primary

-- the rows of one key among all rows, in their order
abbrev pub rows_of : List ℕ → Values → List HistoryRow → List HistoryRow
rows_of primary key rows = filter (λ (r : HistoryRow). eq_by_cmp key_cmp key (key_of primary r.1)) rows
