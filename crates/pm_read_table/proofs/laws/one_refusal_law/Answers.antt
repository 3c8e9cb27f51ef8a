use Rattle.pm_read_table.proofs.OneLemmas.{one_refusal}
use Rattle.pm_read_table.proofs.laws.one_refusal_law.Goals as goal

pub returns : goal.returns
returns c = one_refusal (record {
  joined = (c.joined_law.ensures.left, c.joined_law.ensures.order);
  lists = c.one_reading_law.ensures;
  manifests = c.one_reading_law-2.ensures;
})
