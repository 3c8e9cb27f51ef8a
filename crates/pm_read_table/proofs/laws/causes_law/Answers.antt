use Rattle.pm_read_table.proofs.CauseLemmas.{causes}
use Rattle.pm_read_table.proofs.laws.causes_law.Goals as goal

pub returns : goal.returns
returns c = causes (record {
  joined = (c.joined_law.ensures.left, c.joined_law.ensures.order);
  lists = c.one_reading_law.ensures;
  manifests = c.one_reading_law-2.ensures;
  contents = c.one_contents_law.ensures;
})
