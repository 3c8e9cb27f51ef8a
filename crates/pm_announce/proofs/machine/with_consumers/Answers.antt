use Rattle.std.proofs.Common.{ℕ, List, subst, ◌∙◌}
use Rattle.pm_consumer_files.specs.declared.lines.NamedConsumer.{NamedConsumer}
use Rattle.pm_read_expiry.specs.Times.{IsLeastNext}
use Rattle.pm_announce.specs.Announcer.{all_consumers, announced_of, AfterEnd}
use Rattle.pm_announce.proofs.machine.with_consumers.Goals as goal

pub returns-then-is_list_done-clause-goes : goal.returns-then-is_list_done-clause-goes
returns-then-is_list_done-clause-goes c =
    let next = c.least_next.result in
    all_consumers next (c.is_list_done.ensures.0 c.if-is_list_done.true)
    (subst (λ (cs : List NamedConsumer). IsLeastNext cs next) (c.as_slice.ensures.value ∙ c.into_consumers-consumers.ensures) c.least_next.ensures)
    (subst (λ (end : ℕ). AfterEnd (announced_of c.args.found end) c.with_end.result) c.end_after-end.ensures c.with_end.ensures.goes)
