use Rattle.std.proofs.Common.{◌≡◌, drop, ◌||◌}
use Rattle.std.specs.List.{list_all}
use Rattle.pm_schema.specs.Rules.{is_among}
use Rattle.pm_schema_file.proofs.rules.may_be_null.Given as goal

abbrev pub invariant-loop-column : goal.invariant-loop-column
invariant-loop-column l = list_all (λ c. c.nullable || is_among l.primary c.name) (drop l.column-index l.columns) ≡ list_all (λ c. c.nullable || is_among l.primary c.name) l.columns
