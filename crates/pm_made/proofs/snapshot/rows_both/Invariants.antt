use Rattle.std.proofs.Common.{◌≡◌, ◌+◌, drop, filter, not}
use Rattle.pm_manifest.specs.declared.entry.Entry.{Entry}
use Rattle.pm_model_folder.specs.Entries.{rows_in_files}
use Rattle.pm_made.proofs.snapshot.rows_both.Given as goal

-- the rows so far, and those of the entries that are left
abbrev pub invariant-loop-entry : goal.invariant-loop-entry
invariant-loop-entry l = record {
  added : l.added + rows_in_files (filter (λ (e : Entry). e.add) (drop l.entry-index l.entries)) ≡ rows_in_files (filter (λ (e : Entry). e.add) l.entries);
  removed : l.removed + rows_in_files (filter (λ (e : Entry). not e.add) (drop l.entry-index l.entries))
      ≡ rows_in_files (filter (λ (e : Entry). not e.add) l.entries);
}
