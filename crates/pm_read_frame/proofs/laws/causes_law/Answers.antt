use Rattle.pm_read_frame.proofs.CauseLemmas.{causes}
use Rattle.pm_read_frame.proofs.ChangeLemmas.{RowLaws}
use Rattle.pm_read_frame.proofs.laws.causes_law.Goals as goal

pub returns : goal.returns
returns c =
    let laws : RowLaws = record { follow = c.one_list_law.ensures.follow; gives = c.reading_law.ensures.gives } in
    causes c.log_causes_law.ensures c.one_contents_law.ensures c.reading_law.ensures.opens laws
