use Rattle.std.proofs.Common.{◌≡◌, take}
use Rattle.indexmap.specs.IndexSet.{contains}
use Rattle.pm_manifest.specs.FileId.{id_eq}
use Rattle.pm_manifest.specs.Live.{id_of}
use Rattle.pm_manifest.specs.declared.entry.Entry.{Entry}
use Rattle.pm_made.specs.Delta.{is_of_any}
use Rattle.pm_made.proofs.removed.files_of.Given as goal

-- the files of the entries so far
abbrev pub invariant-loop-entry : goal.invariant-loop-entry
invariant-loop-entry l = (e : Entry) → contains id_eq l.files (id_of e) ≡ is_of_any (take l.entry-index l.entries) e
