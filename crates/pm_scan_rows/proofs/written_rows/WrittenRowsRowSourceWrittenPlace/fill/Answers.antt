use Rattle.pm_run.specs.Form.{form_of}
use Rattle.pm_scan_rows.proofs.written_rows.WrittenRowsRowSourceWrittenPlace.fill.Goals as goal

pub returns-then-not-is_none-clause-fits : goal.returns-then-not-is_none-clause-fits
returns-then-not-is_none-clause-fits c = λ table given place. c.in_ok-fill_own.ensures.form (form_of table) given

pub returns-clause-fits : goal.returns-clause-fits
returns-clause-fits c = λ table given place. c.in_ok-fill_later.ensures.form (form_of table) (c.in_ok-fill_own.ensures.form (form_of table) given).0
