use Rattle.pm_command_follow.proofs.OneLemmas.{OneLaws}
use Rattle.pm_command_consume.proofs.OneLemmas.{failed_answer, one_answer}
use Rattle.pm_command_consume.proofs.laws.one_answer_law.Goals as goal

pub returns : goal.returns
returns c =
    let laws : OneLaws = record {
      scans = record {
        reader = record {
          joined = (c.joined_law.ensures.left, c.joined_law.ensures.order);
          lists = c.one_reading_law.ensures;
          manifests = c.one_reading_law-2.ensures;
        };
        runs = c.one_runs_law.ensures;
        read = record { opening = c.one_opening_law.ensures; rows = c.one_list_law.ensures.follow };
      };
      frames = record {
        lists = c.one_reading_law.ensures;
        manifests = c.one_reading_law-2.ensures;
        opening = c.one_opening_law.ensures;
        rows = c.one_list_law.ensures.follow;
      };
    } in
    record { one = one_answer laws c.causes_law.ensures; failed = failed_answer laws c.causes_law.ensures }
