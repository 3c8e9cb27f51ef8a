use Rattle.std.proofs.Common.{◌≡◌, drop}
use Rattle.pm_schema.specs.Rules.{is_required}
use Rattle.pm_schema_file.proofs.rules.is_required.Given as goal

abbrev pub invariant-loop-column : goal.invariant-loop-column
invariant-loop-column l = is_required (drop l.column-index l.columns) l.name ≡ is_required l.columns l.name
