use Rattle.pm_read_schema.proofs.Facts.{cause, no_next}
use Rattle.pm_read_schema.proofs.laws.causes_law.Goals as goal

pub returns-clause-cause : goal.returns-clause-cause
returns-clause-cause c = cause

pub returns-clause-no_table : goal.returns-clause-no_table
returns-clause-no_table c = no_next
