use Rattle.std.proofs.Common.{rules}
use Rattle.pm_values.specs.declared.refusal.Refusal.{Refusal}
use Rattle.pm_read_table.proofs.AfterLemmas.{if_err, lists_refuse}
use Rattle.pm_read_table.proofs.after.after_lists.Goals as goal

pub returns-in-Ok-clause-memory : goal.returns-in-Ok-clause-memory
returns-in-Ok-clause-memory c =
    if_err c.go_on.result _ _
    (λ (refusal : Refusal) over. lists_refuse c.args.sought.asked.schema c.from.result.items c.new-in-Ok.result.entries refusal (search rules) over)
    c.go_on.ensures.refuses
