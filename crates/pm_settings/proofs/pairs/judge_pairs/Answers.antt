use Rattle.std.proofs.lemmas.Result.{err_from_is_err_and}
use Rattle.pm_options.specs.Faults.{fault_of}
use Rattle.pm_options.specs.Pairs.{all_pairs, pair_fault, refused_pair}
use Rattle.pm_options.specs.declared.pairs.Pair.TheVariants.{InputEngine}
use Rattle.pm_options.proofs.Judging.{judge-failed}
use Rattle.pm_settings.proofs.pairs.judge_pairs.Goals as goal

pub returns-in_err-judge_pair : goal.returns-in_err-judge_pair
returns-in_err-judge_pair c =
    let p = err_from_is_err_and c.from_residual.result c.from_residual.ensures.1 in
    rw (p.1, p.2)
    (judge-failed (refused_pair c.args.options.now) all_pairs c.loop-pair.pair-index InputEngine (fault_of c.in_err-judge_pair.field-0.0) (pair_fault c.args.options.now)
    c.loop-pair-test.true c.in_err-judge_pair.ensures c.loop-pair.invariant)
