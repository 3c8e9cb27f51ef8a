use Rattle.std.proofs.Common.{inl}
use Rattle.pm_values.specs.declared.refusal.Refusal.{Refusal}
use Rattle.pm_read_table.proofs.AfterLemmas.{if_err}
use Rattle.pm_compactor.proofs.PartLemmasAfter.{fails-to-open}
use Rattle.pm_compactor.proofs.after.after_view.Goals as goal

pub returns-in-Ok-clause-refuses : goal.returns-in-Ok-clause-refuses
returns-in-Ok-clause-refuses c =
    if_err c.with_reader.result _ _
    (λ (refusal : Refusal) fails. inl (fails-to-open c.args.asking c.args.reader c.args.answer c.take.new.self refusal c.requires.is_compactor c.in-Ok.ensures.goes fails.0 fails.1))
    c.with_reader.ensures.memory
