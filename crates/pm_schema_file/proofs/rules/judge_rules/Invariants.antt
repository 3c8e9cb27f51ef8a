use Rattle.std.proofs.Common.{◌≡◌, drop}
use Rattle.pm_options.specs.Faults.{first_of}
use Rattle.pm_schema.specs.Rules.{broken, rule_fault}
use Rattle.pm_schema_file.proofs.rules.judge_rules.Given as goal

abbrev pub invariant-loop-rule : goal.invariant-loop-rule
invariant-loop-rule l = first_of (broken l.schema) (drop l.rule-index l.rule-items) ≡ rule_fault l.schema
