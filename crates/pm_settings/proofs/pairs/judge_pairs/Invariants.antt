use Rattle.std.proofs.Common.{◌≡◌, drop}
use Rattle.pm_options.specs.Faults.{first_of}
use Rattle.pm_options.specs.Pairs.{pair_fault, refused_pair}
use Rattle.pm_settings.proofs.pairs.judge_pairs.Given as goal

abbrev pub invariant-loop-pair : goal.invariant-loop-pair
invariant-loop-pair l = first_of (refused_pair l.options) (drop l.pair-index l.pair-items) ≡ pair_fault l.options
