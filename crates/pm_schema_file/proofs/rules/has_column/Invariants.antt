use Rattle.std.proofs.Common.{◌≡◌, drop}
use Rattle.pm_schema.specs.Rules.{is_among, names_of}
use Rattle.pm_schema_file.proofs.rules.has_column.Given as goal

abbrev pub invariant-loop-column : goal.invariant-loop-column
invariant-loop-column l = is_among (names_of (drop l.column-index l.columns)) l.name ≡ is_among (names_of l.columns) l.name
