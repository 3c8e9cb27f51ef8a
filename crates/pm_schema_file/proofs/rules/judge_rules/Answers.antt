use Rattle.std.proofs.lemmas.Result.{err_from_is_err_and}
use Rattle.pm_options.specs.Faults.{fault_of}
use Rattle.pm_options.proofs.Judging.{judge-failed, judge-next}
use Rattle.pm_schema.specs.Rules.{all_rules, broken, rule_fault}
use Rattle.pm_schema.specs.declared.rules.Rule.TheVariants.{Names}
use Rattle.pm_schema_file.proofs.rules.judge_rules.Goals as goal

pub returns-in_err-judge_rule : goal.returns-in_err-judge_rule
returns-in_err-judge_rule c =
    let p = err_from_is_err_and c.from_residual.result c.from_residual.ensures.1 in
    rw (p.1, p.2)
    (judge-failed (broken c.args.schema.now) all_rules c.loop-rule.rule-index Names (fault_of c.in_err-judge_rule.field-0.0) (rule_fault c.args.schema.now)
    c.loop-rule-test.true c.in_err-judge_rule.ensures c.loop-rule.invariant)

pub loop-rule-preserved : goal.loop-rule-preserved
loop-rule-preserved c =
    judge-next (broken c.args.schema.now) all_rules c.loop-rule.rule-index Names c.in_ok-judge_rule.field-0 (rule_fault c.args.schema.now) c.loop-rule-test.true
    c.in_ok-judge_rule.ensures c.loop-rule.invariant
