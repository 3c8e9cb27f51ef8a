-- What the aggregate functions mean, each for a column of a type: what the history's definitions say of it.
use Rattle.std.specs.Prelude.{ℕ, List, Bool, true, not, ◌||◌, if◌then◌else◌}
use Rattle.std.specs.List.{filter_map}
use Rattle.std.specs.Ordering.{is_le, is_ge}
use Rattle.pm_values.specs.declared.column.ColType.{ColType}
use Rattle.pm_model_history.specs.ColumnValue.{adding, all_value, any_value, extreme_value, first_value, joined_value}
use Rattle.pm_model_history.specs.ColumnValue.{last_left, last_value, non_null, sum_value, summand, text_in, truth_in}
use Rattle.pm_model_history.specs.ColumnValue.{values_at, width_of}
use Rattle.pm_model_history.specs.Merge.{HistoryRow}
use Rattle.pm_aggregate.specs.Column.{Cell, ColumnMeaning, rows_of}

-- the rows that count: without those that retract, where the column skips them
abbrev pub counting : Bool → List Cell → List HistoryRow
counting skips cells = if skips then adding (rows_of cells) else rows_of cells

-- rows that retract are taken where they are skipped
abbrev pub takes_where : Bool → Bool → Bool
takes_where skips retract = skips || not retract

abbrev pub sum_of : ColType → Bool → ColumnMeaning
sum_of kind skips = record {
  kind = kind;
  takes = λ retract. true;
  value = λ cells. sum_value (width_of kind) (filter_map (summand 0) (counting skips cells));
}

abbrev pub greatest_of : ColType → Bool → ColumnMeaning
greatest_of kind skips = record {
  kind = kind;
  takes = takes_where skips;
  value = λ cells. extreme_value is_le (non_null (values_at 0 (counting skips cells)));
}

abbrev pub least_of : ColType → Bool → ColumnMeaning
least_of kind skips = record {
  kind = kind;
  takes = takes_where skips;
  value = λ cells. extreme_value is_ge (non_null (values_at 0 (counting skips cells)));
}

abbrev pub last_of : ColType → ColumnMeaning
last_of kind = record { kind = kind; takes = λ retract. true; value = λ cells. last_left 0 (rows_of cells) }

abbrev pub last_non_null_of : ColType → Bool → ColumnMeaning
last_non_null_of kind skips = record {
  kind = kind;
  takes = takes_where skips;
  value = λ cells. last_value (non_null (values_at 0 (counting skips cells)));
}

abbrev pub first_of : ColType → ColumnMeaning
first_of kind = record {
  kind = kind;
  takes = λ retract. not retract;
  value = λ cells. first_value (values_at 0 (rows_of cells));
}

abbrev pub first_non_null_of : ColType → Bool → ColumnMeaning
first_non_null_of kind skips = record {
  kind = kind;
  takes = takes_where skips;
  value = λ cells. first_value (non_null (values_at 0 (counting skips cells)));
}

abbrev pub joined_of : ColType → Bool → List ℕ → ColumnMeaning
joined_of kind skips delimiter = record {
  kind = kind;
  takes = takes_where skips;
  value = λ cells. joined_value delimiter (filter_map text_in (values_at 0 (counting skips cells)));
}

abbrev pub all_of : ColType → Bool → ColumnMeaning
all_of kind skips = record {
  kind = kind;
  takes = takes_where skips;
  value = λ cells. all_value (filter_map truth_in (values_at 0 (counting skips cells)));
}

abbrev pub any_of : ColType → Bool → ColumnMeaning
any_of kind skips = record {
  kind = kind;
  takes = takes_where skips;
  value = λ cells. any_value (filter_map truth_in (values_at 0 (counting skips cells)));
}
