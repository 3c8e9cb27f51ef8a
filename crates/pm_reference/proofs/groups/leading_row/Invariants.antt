use Rattle.std.proofs.Common.{◌≡◌, drop, filter, None}
use Rattle.std.specs.List.{last_or}
use Rattle.std.specs.Option.{option_copied}
use Rattle.pm_model_history.specs.ColumnValue.{is_leading}
use Rattle.pm_reference.proofs.groups.leading_row.Given as goal

-- the last so far, or one of those that are left
abbrev pub invariant-loop-row : goal.invariant-loop-row
invariant-loop-row l = last_or (option_copied l.last) (filter (is_leading l.lead l.rows) (drop l.row-index l.rows)) ≡ last_or None (filter (is_leading l.lead l.rows) l.rows)
