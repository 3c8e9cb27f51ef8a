use Rattle.std.proofs.Common.{sym, arith}
use Rattle.pm_dedup.proofs.LastLemmas.{combines, combines-kind}
use Rattle.pm_dedup.proofs.deduplicate.DeduplicateMergeEngine.needed.Goals as goal

-- the newer one is what both are combined to
pub returns : goal.returns
returns c older newer same = record {
  same_key = sym same;
  number = omega arith;
  kind = λ before after _ some _ own. combines-kind c.args.self.now.schema newer.kind before after c.args.self.now.deduplicates some own;
  speaks = λ key before after one two. combines c.args.self.now.schema key _ _ before after c.args.self.now.deduplicates one two;
}
