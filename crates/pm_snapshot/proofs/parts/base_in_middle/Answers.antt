use Rattle.std.proofs.Common.{arith}
use Rattle.pm_snapshot.proofs.PartLemmas.{middle_long, middle_without_identifier, middle_without_hyphen, middle_other}
use Rattle.pm_snapshot.proofs.parts.base_in_middle.Goals as goal

pub returns-then-text-lt-IDENTIFIER-clause-other : goal.returns-then-text-lt-IDENTIFIER-clause-other
returns-then-text-lt-IDENTIFIER-clause-other c base h = omega (arith, middle_long c.args.text.now base h)

pub returns-then-not-is_identifier-clause-other : goal.returns-then-not-is_identifier-clause-other
returns-then-not-is_identifier-clause-other c base h =
    middle_without_identifier c.args.text.now c.split_at.result.0.now c.split_at.ensures.front
    (λ is. let yes = c.is_identifier.ensures.1 is in cc) base h

pub returns-in_err-made-clause-other : goal.returns-in_err-made-clause-other
returns-in_err-made-clause-other c =
    rw c.from_residual.ensures (middle_without_hyphen c.args.text.now c.split_at.result.1.now
    c.split_at.ensures.back c.in_err-made.ensures.cases)

pub returns-clause-other : goal.returns-clause-other
returns-clause-other c =
    middle_other c.base_in_made.result c.args.text.now c.split_at.result.1.now c.in_ok-made.made.now
    c.split_at.ensures.back c.in_ok-made.ensures.cases.1 c.base_in_made.ensures.other
