use Rattle.pm_dedup.proofs.LastLemmas.{combines, combines-kind}
use Rattle.pm_dedup.proofs.deduplicate.DeduplicateMergeEngine.combine.Goals as goal

-- the newer one has the kind of both, and speaks for both
pub returns : goal.returns
returns c = record {
  kind = λ before after _ some _ own. combines-kind c.args.self.now.schema c.args.newer.kind before after c.args.self.now.deduplicates some own;
  combines = λ key before after one two. combines c.args.self.now.schema key _ _ before after c.args.self.now.deduplicates one two;
}
