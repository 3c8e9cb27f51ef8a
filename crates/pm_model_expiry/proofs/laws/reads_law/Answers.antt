use Rattle.pm_model_expiry.proofs.KnownLemmas.{left-all, left-read}
use Rattle.pm_model_expiry.proofs.laws.reads_law.Goals as goal

pub returns-clause-lists : goal.returns-clause-lists
returns-clause-lists c = left-all

pub returns-clause-reads : goal.returns-clause-reads
returns-clause-reads c = left-read
