use Rattle.std.proofs.Common.{refl}
use Rattle.pm_dedup.proofs.FirstLemmas.{combines, combines-kind}
use Rattle.pm_dedup.proofs.first_row.FirstRowMergeEngine.needed.Goals as goal

-- the older one is what both are combined to
pub returns : goal.returns
returns c older newer same = record {
  same_key = refl;
  number = refl;
  kind = λ before after some _ own _. combines-kind c.args.self.now.schema older.kind before after c.args.self.now.keeps_first some own;
  speaks = λ key before after one two. combines c.args.self.now.schema key _ _ before after c.args.self.now.keeps_first c.args.self.now.distinct one two;
}
