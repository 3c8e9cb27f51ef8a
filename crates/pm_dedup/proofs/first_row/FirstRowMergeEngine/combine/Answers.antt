use Rattle.pm_dedup.proofs.FirstLemmas.{combines, combines-kind}
use Rattle.pm_dedup.proofs.first_row.FirstRowMergeEngine.combine.Goals as goal

-- the older one has the kind of both, and speaks for both
pub returns : goal.returns
returns c = record {
  kind = λ before after some _ own _. combines-kind c.args.self.now.schema c.args.older.kind before after c.args.self.now.keeps_first some own;
  combines = λ key before after one two. combines c.args.self.now.schema key _ _ before after c.args.self.now.keeps_first c.args.self.now.distinct one two;
}
