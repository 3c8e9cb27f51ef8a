use Rattle.std.proofs.Common.{◌≡◌, drop}
use Rattle.std.specs.List.{list_all}
use Rattle.pm_schema.specs.Rules.{is_value_column}
use Rattle.pm_schema_file.proofs.rules.all_values.Given as goal

abbrev pub invariant-loop-name : goal.invariant-loop-name
invariant-loop-name g l = list_all (λ e. is_value_column l.schema e.0) (drop l.name-index l.entries) ≡ list_all (λ e. is_value_column l.schema e.0) l.entries
