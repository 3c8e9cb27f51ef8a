use Rattle.std.proofs.Common.{arith}
use Rattle.pm_model_folder.proofs.LedgerFacts.{stands-kept}
use Rattle.pm_model_folder.proofs.laws.past_law.Goals as goal

pub returns : goal.returns
returns c = stands-kept c.one_contents_law.ensures c.kept_law.ensures c.same_law-2.ensures (record {
  found = c.found_law.ensures;
  same = c.same_law.ensures;
  goes_on = c.goes_on_law.ensures;
  high = λ path text s is.
      let declared = c.declared_law.ensures.file path text s ((c.schema_law.ensures.exact path text s).0 is) in
      let low = declared.options.levels.0 in
      omega (arith, low);
}) c.kept_law-2.ensures c.kept_law-3.ensures.change
