use Rattle.pm_model_expiry.proofs.KnownLemmas.{announced-on, between-on, dropped-on, gone-on, left-on}
use Rattle.pm_model_expiry.proofs.RemovalLemmas.{removals-on}
use Rattle.pm_model_expiry.proofs.laws.known_law.Goals as goal

pub returns-clause-announced : goal.returns-clause-announced
returns-clause-announced c = λ me f after p q s end stands advances is. announced-on (record {
  moves = c.consumers_law.ensures.moved;
  holds = c.kept_law.ensures;
  announced = c.expirer_law.ensures.announced;
  left = c.expirer_law.ensures.left;
}) me f after p q s stands advances is end

pub returns-clause-left : goal.returns-clause-left
returns-clause-left c = λ me f after p q s end names stands advances is. left-on (record {
  moves = c.consumers_law.ensures.moved;
  holds = c.kept_law.ensures;
  announced = c.expirer_law.ensures.announced;
  left = c.expirer_law.ensures.left;
}) me f after p q s stands advances is end names

pub returns-clause-gone : goal.returns-clause-gone
returns-clause-gone c = λ me f after p q s id stands advances is. gone-on (record {
  moves = c.consumers_law.ensures.moved;
  holds = c.kept_law.ensures;
  announced = c.expirer_law.ensures.announced;
  left = c.expirer_law.ensures.left;
}) me f after p q s stands advances is id

pub returns-clause-between : goal.returns-clause-between
returns-clause-between c = λ me f after p q s id stands advances is. between-on (record {
  moves = c.consumers_law.ensures.moved;
  holds = c.kept_law.ensures;
  announced = c.expirer_law.ensures.announced;
  left = c.expirer_law.ensures.left;
}) me f after p q s stands advances is id

pub returns-clause-dropped : goal.returns-clause-dropped
returns-clause-dropped c = dropped-on

pub returns-clause-removals : goal.returns-clause-removals
returns-clause-removals c = removals-on (record {
  moves = c.consumers_law.ensures.moved;
  holds = c.kept_law.ensures;
  announced = c.expirer_law.ensures.announced;
  left = c.expirer_law.ensures.left;
})
