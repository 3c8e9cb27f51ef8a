use Rattle.pm_schema.proofs.Facts.{draft_fault}
use Rattle.pm_schema.proofs.laws.draft_fault_law.Goals as goal

pub returns : goal.returns
returns c = draft_fault
