use Rattle.std.proofs.Common.{inl, inr}
use Rattle.pm_values.specs.declared.refusal.Refusal.{Refusal}
use Rattle.pm_engines.specs.TableEngine.{HasEngine}
use Rattle.pm_read_table.proofs.AfterLemmas.{if_err, if_ok}
use Rattle.pm_group_files.proofs.Facts.{table_stays}
use Rattle.pm_scan.specs.declared.phase.Phase.{Phase}
use Rattle.pm_scan.proofs.FilesLemmas.{failed}
use Rattle.pm_scan.proofs.after.after_files.Goals as goal

pub take-requires : goal.take-requires
take-requires c = record { may = c.requires.may }

pub with_files-requires : goal.with_files-requires
with_files-requires c = table_stays HasEngine c.args.files c.args.answer c.take.new.self c.in-Ok.ensures.goes c.requires.engine

pub returns-in-Ok-clause-goes : goal.returns-in-Ok-clause-goes
returns-in-Ok-clause-goes c = if_ok c.with_files.result _ _ (λ (later : Phase) on. (c.take.new.self, c.in-Ok.ensures.goes, on)) c.with_files.ensures.goes

pub returns-in-Ok-clause-is_scanner : goal.returns-in-Ok-clause-is_scanner
returns-in-Ok-clause-is_scanner c = c.with_files.ensures.is_scanner

pub returns-in-Ok-clause-refuses : goal.returns-in-Ok-clause-refuses
returns-in-Ok-clause-refuses c =
    if_err c.with_files.result _ _
    (λ (refusal : Refusal) fails. inl (failed c.args.files c.args.answer c.take.new.self refusal c.in-Ok.ensures.goes fails.0 fails.1))
    c.with_files.ensures.memory

pub returns-in-Err-clause-goes : goal.returns-in-Err-clause-goes
returns-in-Err-clause-goes c = tt

pub returns-in-Err-clause-is_scanner : goal.returns-in-Err-clause-is_scanner
returns-in-Err-clause-is_scanner c = tt

pub returns-in-Err-clause-refuses : goal.returns-in-Err-clause-refuses
returns-in-Err-clause-refuses c = inr c.in-Err.ensures.refuses.0
