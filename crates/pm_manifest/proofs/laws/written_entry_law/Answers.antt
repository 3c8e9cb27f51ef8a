use Rattle.pm_manifest.proofs.AgainLemmas.{entry_again, meta_again}
use Rattle.pm_manifest.proofs.ShapeLemmas.{shape_of-HasRest}
use Rattle.pm_manifest.proofs.laws.written_entry_law.Goals as goal

pub returns-clause-entry : goal.returns-clause-entry
returns-clause-entry c = entry_again

pub returns-clause-meta : goal.returns-clause-meta
returns-clause-meta c = meta_again

pub returns-clause-shape : goal.returns-clause-shape
returns-clause-shape c = shape_of-HasRest
