use Rattle.std.proofs.Common.{◌≡◌, drop}
use Rattle.std.specs.List.{list_all}
use Rattle.pm_schema.specs.Rules.{group_holds}
use Rattle.pm_schema_file.proofs.rules.all_groups_hold.Given as goal

abbrev pub invariant-loop-leader : goal.invariant-loop-leader
invariant-loop-leader l = list_all (group_holds l.schema) (drop l.leader-index l.groups) ≡ list_all (group_holds l.schema) l.groups
