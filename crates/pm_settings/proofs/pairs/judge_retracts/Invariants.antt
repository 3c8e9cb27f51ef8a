use Rattle.std.proofs.Common.{◌≡◌, drop}
use Rattle.pm_options.specs.Pairs.{first_ignored}
use Rattle.pm_settings.proofs.pairs.judge_retracts.Given as goal

abbrev pub invariant-loop-column : goal.invariant-loop-column
invariant-loop-column l =
    first_ignored l.options.functions (drop l.column-index l.column-items) ≡ first_ignored l.options.functions l.options.ignore_retract
