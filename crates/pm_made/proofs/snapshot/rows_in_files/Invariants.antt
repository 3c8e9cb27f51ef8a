use Rattle.std.proofs.Common.{◌≡◌, ◌+◌, drop}
use Rattle.pm_model_folder.specs.Entries.{rows_in_files}
use Rattle.pm_made.proofs.snapshot.rows_in_files.Given as goal

-- the rows so far, and those of the files that are left
abbrev pub invariant-loop-entry : goal.invariant-loop-entry
invariant-loop-entry l = l.count + rows_in_files (drop l.entry-index l.entries) ≡ rows_in_files l.entries
