use Rattle.std.proofs.Common.{◌≡◌, drop}
use Rattle.pm_schema.specs.Rules.{differ}
use Rattle.pm_schema_file.proofs.rules.differ.Given as goal

abbrev pub invariant-loop-index : goal.invariant-loop-index
invariant-loop-index l = differ (drop l.index l.names) ≡ differ l.names
