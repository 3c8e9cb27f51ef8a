use Rattle.pm_record.proofs.Values.{selected_typed}
use Rattle.pm_record.proofs.laws.selected_law.Goals as goal

pub returns : goal.returns
returns c = selected_typed
