use Rattle.pm_read_frame.proofs.OneLemmas.{OneLaws, failed_frame, one_answer}
use Rattle.pm_read_frame.proofs.laws.one_answer_law.Goals as goal

pub returns : goal.returns
returns c =
    let laws : OneLaws = record {
      lists = c.one_reading_law.ensures;
      manifests = c.one_reading_law-2.ensures;
      opening = c.one_opening_law.ensures;
      rows = c.one_list_law.ensures.follow;
    } in
    record { one = one_answer laws; failed = failed_frame }
