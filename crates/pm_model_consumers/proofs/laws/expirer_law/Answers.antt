use Rattle.pm_model_consumers.proofs.ExpiryLemmas.{announced-kept, announces-end, left-kept, lists-names, reads-absent, reads-one}
use Rattle.pm_model_consumers.proofs.laws.expirer_law.Goals as goal

pub returns-clause-announced : goal.returns-clause-announced
returns-clause-announced c = announced-kept

pub returns-clause-left : goal.returns-clause-left
returns-clause-left c = λ me m n end names holds change known. left-kept me m n end names known change

pub returns-clause-lists : goal.returns-clause-lists
returns-clause-lists c = lists-names

pub returns-clause-reads : goal.returns-clause-reads
returns-clause-reads c = reads-one

pub returns-clause-absent : goal.returns-clause-absent
returns-clause-absent c = reads-absent

pub returns-clause-announces : goal.returns-clause-announces
returns-clause-announces c = announces-end
