use Rattle.std.proofs.Common.{◌≡◌, drop}
use Rattle.std.specs.List.{list_all}
use Rattle.pm_schema.specs.Rules.{is_name, names_of}
use Rattle.pm_schema_file.proofs.rules.all_named.Given as goal

abbrev pub invariant-loop-column : goal.invariant-loop-column
invariant-loop-column l = list_all is_name (names_of (drop l.column-index l.columns)) ≡ list_all is_name (names_of l.columns)
