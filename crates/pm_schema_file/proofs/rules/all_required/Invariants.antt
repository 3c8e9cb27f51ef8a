use Rattle.std.proofs.Common.{◌≡◌, drop}
use Rattle.std.specs.List.{list_all}
use Rattle.pm_schema.specs.Rules.{is_required}
use Rattle.pm_schema_file.proofs.rules.all_required.Given as goal

abbrev pub invariant-loop-name : goal.invariant-loop-name
invariant-loop-name l = list_all (is_required l.columns) (drop l.name-index l.names) ≡ list_all (is_required l.columns) l.names
