use Rattle.pm_engine.proofs.CoverLemmas.{covers-hidden, covers-worth}
use Rattle.pm_engine.proofs.laws.covers_law.Goals as goal

pub returns : goal.returns
returns c = record { worth = covers-worth; hidden = covers-hidden }
