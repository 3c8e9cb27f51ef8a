use Rattle.std.proofs.Common.{◌≡◌, ◌++◌, drop, map}
use Rattle.pm_choice.specs.Choice.{live_entry}
use Rattle.pm_choice.proofs.removed.push_files.Given as goal

-- the entries so far, and those of the files that are left
abbrev pub invariant-loop-file : goal.invariant-loop-file
invariant-loop-file l =
    l.removed.items ++ map (live_entry l.schema l.group) (drop l.file-index l.files) ≡ l.fn.removed.items ++ map (live_entry l.schema l.group) l.files
