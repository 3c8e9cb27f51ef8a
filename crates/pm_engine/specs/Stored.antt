-- A stored row as one of a history.
use Rattle.pm_model_history.specs.Merge.{HistoryRow}
use Rattle.pm_engine.specs.declared.stored.Stored.{Stored}

-- the kind and the values of a stored row
abbrev pub as_row : Stored → HistoryRow
as_row stored = (stored.kind, stored.row)
