use Rattle.std.proofs.Common.{None, refl, sym, subst}
use Rattle.pm_run.specs.Reader.{RunView, StillGives, before_first}
use Rattle.pm_run.specs.Rows.{opened_with}
use Rattle.pm_run.proofs.OneLemmas.{opened_unless_memory, reads_rows}
use Rattle.pm_run.proofs.laws.reading_law.Goals as goal

pub returns-clause-opens : goal.returns-clause-opens
returns-clause-opens c = λ s changes path bytes rows e h refused. opened_unless_memory c.one_opening_law.ensures s changes path bytes rows h e refused

pub returns-clause-gives : goal.returns-clause-gives
returns-clause-gives c = λ s changes path bytes v rows h opened.
    let follow = (reads_rows c.one_opening_law.ensures s changes path bytes opened.1 rows opened.2 h).1 in
    let still : StillGives (before_first (opened_with s changes path opened.1)) rows None = (rows, refl, follow) in
    subst (λ (w : RunView). StillGives w rows None) (sym opened.4) still
