use Rattle.std.proofs.Common.{◌≡◌, drop, ◌==◌, map}
use Rattle.std.specs.List.{list_any}
use Rattle.pm_schema_file.proofs.rules.has_id.Given as goal

abbrev pub invariant-loop-column : goal.invariant-loop-column
invariant-loop-column l = list_any (λ other. other == l.id) (map (λ c. c.id) (drop l.column-index l.columns)) ≡ list_any (λ other. other == l.id) (map (λ c. c.id) l.columns)
