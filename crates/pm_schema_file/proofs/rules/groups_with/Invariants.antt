use Rattle.std.proofs.Common.{◌≡◌, drop, ◌+◌}
use Rattle.pm_schema.specs.Rules.{groups_with}
use Rattle.pm_schema_file.proofs.rules.groups_with.Given as goal

abbrev pub invariant-loop-names : goal.invariant-loop-names
invariant-loop-names l = l.count + groups_with (drop l.names-index l.groups) l.name ≡ groups_with l.groups l.name
