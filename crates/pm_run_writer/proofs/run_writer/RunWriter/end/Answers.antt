use Rattle.std.proofs.Common.{refl}
use Rattle.pm_run_writer.proofs.WrittenLemmas.{ended}
use Rattle.pm_run_writer.proofs.run_writer.RunWriter.end.Goals as goal

pub returns-clause-ended : goal.returns-clause-ended
returns-clause-ended c = λ s limit level rows hand.
    ended s limit level c.args.names.now rows c.args.self.now hand c.in_ok-file.file
    (λ begun summary last.
    rw c.in_ok-name.ensures.name at
    (c.in_ok-file.ensures s c.args.names.now.session rows hand.writer (rw c.replace-rows.ensures.value begun) (rw c.replace-summary.ensures.value summary) (rw c.deref.ensures last)))
    _ refl refl refl (rw c.replace-rows.ensures.after (rw c.session.ensures at (c.in_ok-next.ensures.begun s hand.writer))) (rw c.replace-summary.ensures.after c.none.ensures) c.clear.ensures
