use Rattle.std.proofs.Common.{true}
use Rattle.pm_run_writer.proofs.FileLemmas.{changes_of, file_back}
use Rattle.pm_run_writer.proofs.laws.changes_law.Goals as goal

pub returns : goal.returns
returns c = λ s level marker name rows f differ some file each order.
    file_back s differ true c.whole_file_law.ensures marker f.bytes rows some file.writable (changes_of s rows file.writable each) order file.bytes
