use Rattle.pm_expire.proofs.CauseLemmas.{causes}
use Rattle.pm_expire.proofs.laws.alone_causes_law.Goals as goal

pub returns : goal.returns
returns c =
    causes
    (record {
      end = c.end_law.ensures;
      kinds = c.kept_law.ensures;
      one = c.one_contents_law.ensures;
      some = c.alone_law.ensures.some;
      all = c.alone_law.ensures.all;
      given_back = c.given_back_law.ensures;
    })
    (record {
      joined = (c.joined_law.ensures.left, c.joined_law.ensures.order);
      lists = c.one_reading_law.ensures;
      manifests = c.one_reading_law-2.ensures;
    })
