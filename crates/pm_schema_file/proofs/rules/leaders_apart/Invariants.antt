use Rattle.std.proofs.Common.{◌≡◌, drop, ◌==◌}
use Rattle.std.specs.List.{list_all}
use Rattle.pm_schema.specs.Rules.{groups_with}
use Rattle.pm_schema_file.proofs.rules.leaders_apart.Given as goal

abbrev pub invariant-loop-leader : goal.invariant-loop-leader
invariant-loop-leader l = list_all (λ g. groups_with l.groups g.0 == 0) (drop l.leader-index l.groups) ≡ list_all (λ g. groups_with l.groups g.0 == 0) l.groups
