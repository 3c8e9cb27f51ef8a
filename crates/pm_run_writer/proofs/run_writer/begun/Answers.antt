use Rattle.pm_run_writer.proofs.TypeLemmas.{run_readable, run_takes}
use Rattle.pm_run_writer.proofs.run_writer.begun.Goals as goal

pub begin-requires-clause-readable : goal.begin-requires-clause-readable
begin-requires-clause-readable c = rw c.requires.kind (run_readable c.args.writer.now.form c.requires.differ)

pub begin-requires-clause-some : goal.begin-requires-clause-some
begin-requires-clause-some c = rw c.requires.kind (run_takes c.args.writer.now.form)
