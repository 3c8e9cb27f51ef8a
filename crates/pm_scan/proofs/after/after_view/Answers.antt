use Rattle.std.proofs.Common.{inl, inr}
use Rattle.pm_values.specs.declared.refusal.Refusal.{Refusal}
use Rattle.pm_engines.specs.TableEngine.{HasEngine}
use Rattle.pm_read_table.proofs.AfterLemmas.{if_err, if_ok}
use Rattle.pm_read_table.proofs.Facts.{goes_ahead}
use Rattle.pm_read_table.proofs.WithinLemmas.{failed, schema_stays}
use Rattle.pm_scan.specs.Scanner.{IsEngineOf}
use Rattle.pm_scan.specs.declared.phase.Phase.{Phase}
use Rattle.pm_scan.proofs.after.after_view.Goals as goal

pub take-requires : goal.take-requires
take-requires c = record { may = c.requires.may }

pub with_reader-requires-clause-left : goal.with_reader-requires-clause-left
with_reader-requires-clause-left c = (goes_ahead c.args.reader c.args.answer c.take.new.self c.in-Ok.ensures.goes).1

pub with_reader-requires-clause-engine : goal.with_reader-requires-clause-engine
with_reader-requires-clause-engine c = schema_stays HasEngine c.args.reader c.args.answer c.take.new.self c.in-Ok.ensures.goes c.requires.engine

pub returns-in-Ok-clause-goes : goal.returns-in-Ok-clause-goes
returns-in-Ok-clause-goes c = if_ok c.with_reader.result _ _ (λ (later : Phase) on. (c.take.new.self, c.in-Ok.ensures.goes, on)) c.with_reader.ensures.goes

pub returns-in-Ok-clause-is_scanner : goal.returns-in-Ok-clause-is_scanner
returns-in-Ok-clause-is_scanner c = c.with_reader.ensures.is_scanner

pub returns-in-Ok-clause-refuses : goal.returns-in-Ok-clause-refuses
returns-in-Ok-clause-refuses c =
    if_err c.with_reader.result _ _
    (λ (refusal : Refusal) fails. inl (failed IsEngineOf c.args.reader c.args.answer c.take.new.self refusal c.in-Ok.ensures.goes
    (schema_stays HasEngine c.args.reader c.args.answer c.take.new.self c.in-Ok.ensures.goes c.requires.engine) fails.0 fails.1))
    c.with_reader.ensures.memory

pub returns-in-Err-clause-goes : goal.returns-in-Err-clause-goes
returns-in-Err-clause-goes c = tt

pub returns-in-Err-clause-is_scanner : goal.returns-in-Err-clause-is_scanner
returns-in-Err-clause-is_scanner c = tt

pub returns-in-Err-clause-refuses : goal.returns-in-Err-clause-refuses
returns-in-Err-clause-refuses c = inr c.in-Err.ensures.refuses.0
