use Rattle.pm_aggregate.proofs.EndLemmas.{first-combines}
use Rattle.pm_aggregate.proofs.ends.FirstValueAggregator.combine.Goals as goal

-- the older value speaks for what both speak for
pub returns : goal.returns
returns c = record {
  combines = λ before after one two. first-combines c.args.self.now.kind c.args.older c.args._newer before after one two;
}
