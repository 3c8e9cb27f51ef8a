use Rattle.pm_model_expiry.proofs.RemovalLemmas.{begun, next-goes, rest-known}
use Rattle.pm_model_expiry.proofs.laws.removes_law.Goals as goal

pub returns-clause-begins : goal.returns-clause-begins
returns-clause-begins c = begun

pub returns-clause-change : goal.returns-clause-change
returns-clause-change c = next-goes (record {
  expires = c.steps_law.ensures.expires;
  removes = c.steps_law.ensures.removes;
  forgets = c.steps_law.ensures.forgets;
}) c.one_contents_law.ensures c.same_law.ensures

pub returns-clause-rest : goal.returns-clause-rest
returns-clause-rest c = rest-known (record {
  moves = c.consumers_law.ensures.moved;
  holds = c.kept_law.ensures;
  announced = c.expirer_law.ensures.announced;
  left = c.expirer_law.ensures.left;
}) (record {
  expires = c.steps_law.ensures.expires;
  removes = c.steps_law.ensures.removes;
  forgets = c.steps_law.ensures.forgets;
}) c.one_contents_law.ensures c.same_law.ensures
