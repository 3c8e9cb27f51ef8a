use Rattle.pm_run.proofs.OneLemmas.{follow_same, rows_same, run_same, still_same}
use Rattle.pm_run.proofs.laws.one_list_law.Goals as goal

pub returns-clause-one : goal.returns-clause-one
returns-clause-one c = λ s changes bytes rows others h k. rows_same c.one_opening_law.ensures c.one_block_law.ensures.one s changes bytes rows others h k

pub returns-clause-run : goal.returns-clause-run
returns-clause-run c = λ s files rows others h k. run_same c.one_opening_law.ensures c.one_block_law.ensures.one s files rows others h k

pub returns-clause-follow : goal.returns-clause-follow
returns-clause-follow c = λ o offset before rows others end other f g. follow_same o c.one_block_law.ensures.one offset before rows others end other f g

pub returns-clause-still : goal.returns-clause-still
returns-clause-still c = λ v rows others end other g h. still_same c.one_block_law.ensures.one v rows others end other g h
