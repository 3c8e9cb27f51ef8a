use Rattle.pm_group_files.proofs.WholeLemmas.{are-whole}
use Rattle.pm_group_files.proofs.laws.whole_law.Goals as goal

pub returns : goal.returns
returns c = are-whole (record {
  one_rows = c.one_list_law.ensures.follow;
  in_order = c.order_law.ensures.follow;
  after_other = c.order_law.ensures.other;
  gives = c.reading_law.ensures.gives;
  opens = c.reading_law.ensures.opens;
})
