use Rattle.std.proofs.Common.{◌≡◌, ◌++◌, drop, map}
use Rattle.pm_manifest.specs.declared.entry.Entry.{Entry}
use Rattle.pm_made.proofs.data.copy_all.Given as goal

-- the entries so far, and those that are left
abbrev pub invariant-loop-entry : goal.invariant-loop-entry
invariant-loop-entry l =
    l.entries.items ++ map (λ (e : Entry). record e { add = l.add }) (drop l.entry-index l.given)
    ≡ l.fn.entries.items ++ map (λ (e : Entry). record e { add = l.add }) l.given
