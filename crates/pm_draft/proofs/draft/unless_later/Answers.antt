use Rattle.pm_base.proofs.Laws.{Fails-step}
use Rattle.pm_options.specs.Faults.{fault_of, judged}
use Rattle.pm_draft.specs.Draft.{later_fault}
use Rattle.pm_draft.proofs.OrderLemmas.{judged_first}
use Rattle.pm_draft.proofs.draft.unless_later.Goals as goal

pub returns-in-Err : goal.returns-in-Err
returns-in-Err c = λ defined answers.
    rw (judged_first c.args.later c.args.reading defined c.if-comes_first.ensures answers)
    (Fails-step (fault_of c.in-Err.refusal) (judged (later_fault c.args.later)) (λ alone. c.args.reading) c.in-Err.ensures)
