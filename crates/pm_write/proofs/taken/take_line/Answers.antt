use Rattle.std.proofs.Common.{sym, subst, arith}
use Rattle.pm_run.specs.Writing.{CountFrom}
use Rattle.pm_write.proofs.TakenLemmas.{CountFrom-push}
use Rattle.pm_write.proofs.taken.take_line.Goals as goal

-- the taken row has the next number
pub returns-in_ok-keep-in-Take-clause-numbers : goal.returns-in_ok-keep-in-Take-clause-numbers
returns-in_ok-keep-in-Take-clause-numbers c = λ counts.
    subst (CountFrom 0) (sym c.in_ok-keep-in-Take.ensures) (CountFrom-push 0 c.args.rows.now _ counts (omega arith))
