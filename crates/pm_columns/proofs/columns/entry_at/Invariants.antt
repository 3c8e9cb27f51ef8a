use Rattle.std.proofs.Common.{◌≡◌, drop}
use Rattle.pm_options.specs.Entries.{entry_at}
use Rattle.pm_columns.proofs.columns.entry_at.Given as goal

-- none so far has the name
abbrev pub invariant-loop-other : goal.invariant-loop-other
invariant-loop-other g l = entry_at l.name (drop l.other-index l.entries) ≡ entry_at l.name l.entries
