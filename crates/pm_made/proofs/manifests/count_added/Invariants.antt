use Rattle.std.proofs.Common.{◌≡◌, ◌+◌, ◌≤◌, drop, filter, length}
use Rattle.pm_manifest.specs.declared.entry.Entry.{Entry}
use Rattle.pm_made.proofs.manifests.count_added.Given as goal

-- the count so far, and the entries that are left
abbrev pub invariant-loop-entry : goal.invariant-loop-entry
invariant-loop-entry l = record {
  count : l.count + length (filter (λ (e : Entry). e.add) (drop l.entry-index l.entries)) ≡ length (filter (λ (e : Entry). e.add) l.entries);
  within : l.count ≤ l.entry-index;
}
