use Rattle.pm_expire.proofs.AllCallsLemmas.{all_calls}
use Rattle.pm_expire.proofs.laws.all_calls_law.Goals as goal

pub returns : goal.returns
returns c =
    all_calls (record {
      end = c.end_law.ensures;
      kinds = c.kept_law.ensures;
      one = c.one_contents_law.ensures;
      some = c.alone_law.ensures.some;
      all = c.alone_law.ensures.all;
      given_back = c.given_back_law.ensures;
    })
