use Rattle.std.proofs.Common.{◌≡◌, drop, nat_le}
use Rattle.std.specs.List.{list_all}
use Rattle.pm_schema_file.proofs.rules.ids_within.Given as goal

abbrev pub invariant-loop-column : goal.invariant-loop-column
invariant-loop-column l = list_all (λ c. nat_le c.id l.highest) (drop l.column-index l.columns) ≡ list_all (λ c. nat_le c.id l.highest) l.columns
