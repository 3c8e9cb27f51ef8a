use Rattle.std.proofs.Common.{inl, inr}
use Rattle.pm_values.specs.declared.refusal.Refusal.{Refusal}
use Rattle.pm_read_table.proofs.AfterLemmas.{if_err, if_ok}
use Rattle.pm_read_table.proofs.Facts.{goes_ahead}
use Rattle.pm_read_table.proofs.WithinLemmas.{failed}
use Rattle.pm_read_table.proofs.within.after_view.Goals as goal

pub take-requires : goal.take-requires
take-requires g c = record { may = c.requires.may }

pub with_reader-requires-clause-left : goal.with_reader-requires-clause-left
with_reader-requires-clause-left g c = (goes_ahead c.args.reader c.args.answer c.take.new.self c.in-Ok.ensures.goes).1

pub with_reader-requires-clause-reads : goal.with_reader-requires-clause-reads
with_reader-requires-clause-reads g c = c.requires.stays c.args.reader c.args.answer c.take.new.self c.in-Ok.ensures.goes c.requires.reads

pub returns-in-Ok-clause-goes : goal.returns-in-Ok-clause-goes
returns-in-Ok-clause-goes g c = if_ok c.with_reader.result _ _ (λ later on. (c.take.new.self, c.in-Ok.ensures.goes, on)) c.with_reader.ensures.goes

pub returns-in-Ok-clause-holds : goal.returns-in-Ok-clause-holds
returns-in-Ok-clause-holds g c = c.with_reader.ensures.holds

pub returns-in-Ok-clause-refuses : goal.returns-in-Ok-clause-refuses
returns-in-Ok-clause-refuses g c =
    if_err c.with_reader.result _ _
    (λ (refusal : Refusal) fails. inl (failed g.P.OpensView.reads c.args.reader c.args.answer c.take.new.self refusal c.in-Ok.ensures.goes
    (c.requires.stays c.args.reader c.args.answer c.take.new.self c.in-Ok.ensures.goes c.requires.reads) fails.0 fails.1))
    c.with_reader.ensures.memory

pub returns-in-Err-clause-goes : goal.returns-in-Err-clause-goes
returns-in-Err-clause-goes g c = tt

pub returns-in-Err-clause-holds : goal.returns-in-Err-clause-holds
returns-in-Err-clause-holds g c = tt

pub returns-in-Err-clause-refuses : goal.returns-in-Err-clause-refuses
returns-in-Err-clause-refuses g c = inr c.in-Err.ensures.refuses.0
