use Rattle.std.proofs.Common.{◌≡◌, drop, map}
use Rattle.pm_schema.specs.Rules.{ids_differ}
use Rattle.pm_schema_file.proofs.rules.ids_differ.Given as goal

abbrev pub invariant-loop-index : goal.invariant-loop-index
invariant-loop-index l = ids_differ (map (λ c. c.id) (drop l.index l.columns)) ≡ ids_differ (map (λ c. c.id) l.columns)
