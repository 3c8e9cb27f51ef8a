use Rattle.std.proofs.Common.{◌≡◌, drop, nat_le}
use Rattle.std.specs.List.{list_all}
use Rattle.pm_schema.specs.Rules.{groups_with}
use Rattle.pm_schema_file.proofs.rules.in_one_at_most.Given as goal

abbrev pub invariant-loop-column : goal.invariant-loop-column
invariant-loop-column l = list_all (λ c. nat_le (groups_with l.groups c.name) 1) (drop l.column-index l.columns) ≡ list_all (λ c. nat_le (groups_with l.groups c.name) 1) l.columns
