use Rattle.std.proofs.Common.{◌≡◌, ◌++◌, drop}
use Rattle.pm_read_frame.specs.Taken.{files_of}
use Rattle.pm_read_frame.proofs.file.files_of.Given as goal

abbrev pub invariant-loop-entry : goal.invariant-loop-entry
invariant-loop-entry l = l.files.items ++ files_of l.fn.schema (drop l.entry-index l.changes) ≡ files_of l.fn.schema l.fn.changes
