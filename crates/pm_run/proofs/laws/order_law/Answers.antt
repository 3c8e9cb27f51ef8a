use Rattle.std.proofs.Common.{[], None, false}
use Rattle.pm_run.specs.Rows.{opened_with}
use Rattle.pm_run.proofs.OneLemmas.{follow_in_order, follow_other}
use Rattle.pm_run.proofs.OrderLemmas.{in_order_rising}
use Rattle.pm_run.proofs.laws.order_law.Goals as goal

pub returns-clause-order : goal.returns-clause-order
returns-clause-order c = λ s changes bytes rows h. follow_in_order (opened_with s changes [] h.0) h.0.first None rows None (h.3 [])

pub returns-clause-rising : goal.returns-clause-rising
returns-clause-rising c = λ s bytes rows h. in_order_rising rows (follow_in_order (opened_with s false [] h.0) h.0.first None rows None (h.3 []))

pub returns-clause-follow : goal.returns-clause-follow
returns-clause-follow c = λ o offset before rows end f. follow_in_order o offset before rows end f

pub returns-clause-other : goal.returns-clause-other
returns-clause-other c = λ o offset before other rows f order. follow_other o offset before other rows f order
