use Rattle.std.proofs.Common.{◌≡◌, ◌+◌, drop, filter, not}
use Rattle.indexmap.specs.IndexSet.{contains}
use Rattle.pm_manifest.specs.FileId.{id_eq}
use Rattle.pm_manifest.specs.Live.{id_of}
use Rattle.pm_manifest.specs.declared.entry.Entry.{Entry}
use Rattle.pm_model_folder.specs.Entries.{rows_in_files}
use Rattle.pm_made.proofs.snapshot.rows_without.Given as goal

-- the rows so far, and those of the entries that are left
abbrev pub invariant-loop-entry : goal.invariant-loop-entry
invariant-loop-entry l =
    l.count + rows_in_files (filter (λ (e : Entry). not (contains id_eq l.gone (id_of e))) (drop l.entry-index l.entries))
    ≡ rows_in_files (filter (λ (e : Entry). not (contains id_eq l.gone (id_of e))) l.entries)
