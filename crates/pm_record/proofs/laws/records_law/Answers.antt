use Rattle.pm_record.proofs.FileLemmas.{file_holds, file_read}
use Rattle.pm_record.proofs.laws.records_law.Goals as goal

pub returns : goal.returns
returns g c = λ takes reads path bytes xs.
    let whole = c.whole_file_law.ensures in
    (file_holds whole takes reads path bytes xs, λ h. file_read whole takes reads path bytes xs h.0 h.1 h.2 h.3 h.4 h.5)
