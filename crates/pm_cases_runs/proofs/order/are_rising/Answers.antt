use Rattle.std.proofs.Common.{sym, ◌∙◌}
use Rattle.pm_cases_runs.proofs.OrderLemmas.{in_order_rising}
use Rattle.pm_cases_runs.proofs.order.are_rising.Goals as goal

pub returns : goal.returns
returns c = λ rise. in_order_rising c.args.rows.now (sym c.are_in_order.ensures ∙ rise)
