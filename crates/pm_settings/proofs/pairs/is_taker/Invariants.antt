use Rattle.std.proofs.Common.{◌≡◌, drop}
use Rattle.pm_options.specs.Entries.{entry_at}
use Rattle.pm_settings.proofs.pairs.is_taker.Given as goal

abbrev pub invariant-loop-name : goal.invariant-loop-name
invariant-loop-name l = entry_at l.column (drop l.name-index l.functions) ≡ entry_at l.column l.functions
