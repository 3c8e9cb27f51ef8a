use Rattle.pm_model_consumers.proofs.FollowerLemmas.{lists-floors, own-settled, registered-kept, registers-file, settles-file}
use Rattle.pm_model_consumers.proofs.laws.follower_law.Goals as goal

pub returns-clause-kept : goal.returns-clause-kept
returns-clause-kept c = registered-kept

pub returns-clause-lists : goal.returns-clause-lists
returns-clause-lists c = lists-floors

pub returns-clause-settles : goal.returns-clause-settles
returns-clause-settles c = settles-file

pub returns-clause-registers : goal.returns-clause-registers
returns-clause-registers c = registers-file

pub returns-clause-own : goal.returns-clause-own
returns-clause-own c = λ me m n name listed k holds change waiting now. own-settled me m n name listed k holds waiting now change
