use Rattle.std.proofs.Common.{◌≡◌, drop}
use Rattle.pm_schema.specs.Rules.{differ, names_of}
use Rattle.pm_schema_file.proofs.rules.columns_differ.Given as goal

abbrev pub invariant-loop-index : goal.invariant-loop-index
invariant-loop-index l = differ (names_of (drop l.index l.columns)) ≡ differ (names_of l.columns)
