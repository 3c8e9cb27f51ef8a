use Rattle.std.proofs.Common.{◌≡◌, drop, not}
use Rattle.std.specs.List.{list_any}
use Rattle.pm_schema.specs.Rules.{is_among}
use Rattle.pm_schema_file.proofs.rules.some_left.Given as goal

abbrev pub invariant-loop-name : goal.invariant-loop-name
invariant-loop-name l = list_any (λ name. not (is_among l.others name)) (drop l.name-index l.names) ≡ list_any (λ name. not (is_among l.others name)) l.names
