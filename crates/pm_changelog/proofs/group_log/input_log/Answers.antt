use Rattle.pm_changelog.proofs.LogLemmas.{log-made}
use Rattle.pm_changelog.proofs.OrderLemmas.{order-sorted}
use Rattle.pm_changelog.proofs.group_log.input_log.Goals as goal

pub invariant_of-result : goal.invariant_of-result
invariant_of-result c = order-sorted c.sort.new.self c.in_ok-sort.ensures.sorted

pub returns : goal.returns
returns c = λ s own.
    log-made c.args.rows.now c.in_ok-copies.copies c.sort.new.self c.in_ok-copies.ensures c.in_ok-sort.ensures.sorted c.by_key_law.ensures.only c.in_ok-sort.ensures.stable c.sort.ensures.same s own
