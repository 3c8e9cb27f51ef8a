use Rattle.pm_dedup.proofs.FirstLemmas.{lifts}
use Rattle.pm_dedup.proofs.first_row.FirstRowMergeEngine.lift.Goals as goal

-- a taken row speaks for itself
pub returns-clause-lifts : goal.returns-clause-lifts
returns-clause-lifts c fits = lifts c.args.self.now.schema c.args.kind c.args.row c.args.self.now.keeps_first c.args.self.now.distinct c.requires.taken fits
