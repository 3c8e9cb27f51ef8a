use Rattle.pm_engines.specs.TableEngine.{HasEngine}
use Rattle.pm_read_table.proofs.AfterLemmas.{if_err, if_ok}
use Rattle.pm_group_files.specs.Collected.{nothing_of}
use Rattle.pm_group_files.proofs.Facts.{next_of_table}
use Rattle.pm_scan.specs.declared.phase.Phase.{Phase}
use Rattle.pm_scan.proofs.AfterLemmas.{start_on}
use Rattle.pm_scan.proofs.after.open.Goals as goal

pub with_files-requires : goal.with_files-requires
with_files-requires c =
    rw c.read_files.ensures (next_of_table HasEngine c.args.view.id (nothing_of c.args.view.schema) c.in-Ok.jobs.items c.requires.engine)

pub returns-in-Ok-clause-opens : goal.returns-in-Ok-clause-opens
returns-in-Ok-clause-opens c =
    if_ok c.with_files.result _ _
    (λ (later : Phase) on. start_on c.args.rows c.args.view c.in-Ok.jobs.items c.read_files.result later c.in-Ok.ensures.jobs c.in-Ok.ensures.within
    c.in-Ok.ensures.ordered c.read_files.ensures on)
    c.with_files.ensures.goes

pub returns-in-Ok-clause-memory : goal.returns-in-Ok-clause-memory
returns-in-Ok-clause-memory c = if_err c.with_files.result _ _ (λ refusal fails. fails.0) c.with_files.ensures.memory
