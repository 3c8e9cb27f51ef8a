use Rattle.pm_read_whole.proofs.AfterLemmas.{stays_whole}
use Rattle.pm_read_whole.proofs.machine.PhasePhase.next.Goals as goal

pub after_view-requires-clause-stays : goal.after_view-requires-clause-stays
after_view-requires-clause-stays c = stays_whole
