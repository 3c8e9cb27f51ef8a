use Rattle.std.proofs.Common.{arith}
use Rattle.pm_run_scalars.proofs.SpelledLemmas.{least_after}
use Rattle.pm_run_scalars.proofs.leaf.after_least.Goals as goal

pub returns-then-ends_above-clause-least : goal.returns-then-ends_above-clause-least
returns-then-ends_above-clause-least c = λ n groups.
    least_after c.args.size n c.args.bytes.now c.split_at.result.1.now (omega arith) (omega arith) (c.ends_above.ensures c.if-ends_above.true) c.split_at.ensures.back groups
