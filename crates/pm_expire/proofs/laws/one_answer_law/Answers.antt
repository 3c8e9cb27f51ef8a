use Rattle.pm_read_table.proofs.OneLemmas.{OneLaws}
use Rattle.pm_expire.proofs.OneLemmas.{failed_answer, one_answer}
use Rattle.pm_expire.proofs.laws.one_answer_law.Goals as goal

pub returns : goal.returns
returns c =
    let laws : OneLaws = record {
      joined = (c.joined_law.ensures.left, c.joined_law.ensures.order);
      lists = c.one_reading_law.ensures;
      manifests = c.one_reading_law-2.ensures;
    } in
    record { one = one_answer laws; failed = failed_answer laws }
