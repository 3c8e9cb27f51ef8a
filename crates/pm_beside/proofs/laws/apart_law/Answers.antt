use Rattle.pm_beside.proofs.laws.apart_law.Goals as goal

pub returns-clause-stands : goal.returns-clause-stands
returns-clause-stands c = λ me f after p q stands others. c.past_law.ensures others.0 f after p q stands others.2

pub returns-clause-goes_on : goal.returns-clause-goes_on
returns-clause-goes_on c = λ me f after p q others. c.goes_on_law.ensures others.0 f after p.history q.history others.2.change
