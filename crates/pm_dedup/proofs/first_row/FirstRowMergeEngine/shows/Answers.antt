use Rattle.pm_dedup.proofs.FirstLemmas.{shows_some}
use Rattle.pm_dedup.proofs.first_row.FirstRowMergeEngine.shows.Goals as goal

-- a stored row shows
pub returns-clause-alone : goal.returns-clause-alone
returns-clause-alone c = shows_some c.args.self.now.schema _ c.args.self.now.keeps_first (λ e. cc)

-- and the rows that it speaks for do
pub returns-clause-shows : goal.returns-clause-shows
returns-clause-shows c key rows speaks = shows_some c.args.self.now.schema rows c.args.self.now.keeps_first speaks.some
