use Rattle.pm_dedup.proofs.LastLemmas.{lifts}
use Rattle.pm_dedup.proofs.deduplicate.DeduplicateMergeEngine.lift.Goals as goal

-- a taken row speaks for itself
pub returns-clause-lifts : goal.returns-clause-lifts
returns-clause-lifts c fits = lifts c.args.self.now.schema c.args.kind c.args.row c.args.self.now.deduplicates c.requires.taken fits
