use Rattle.std.proofs.Common.{◌≡◌, drop}
use Rattle.pm_options.specs.Entries.{entry_at, keyed}
use Rattle.pm_settings.proofs.entries.entry_of.Given as goal

abbrev pub invariant-loop-name : goal.invariant-loop-name
invariant-loop-name g l = entry_at l.key (keyed (drop l.name-index l.entries)) ≡ entry_at l.key (keyed l.entries)
