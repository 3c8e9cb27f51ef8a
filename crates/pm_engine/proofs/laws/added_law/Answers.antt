use Rattle.pm_engine.proofs.CoverLemmas.{covers-added, covers_all-added}
use Rattle.pm_engine.proofs.laws.added_law.Goals as goal

pub returns : goal.returns
returns c = record { some = covers-added; all = covers_all-added }
