use Rattle.std.proofs.Common.{◌≡◌, drop}
use Rattle.pm_options.specs.Faults.{first_of}
use Rattle.pm_options.specs.Reading.{setting_fault}
use Rattle.pm_options.specs.Settings.{views}
use Rattle.pm_settings.proofs.read.judge_settings.Given as goal

abbrev pub invariant-loop-key : goal.invariant-loop-key
invariant-loop-key l =
    first_of (λ s. setting_fault (s.0.now, s.1.now)) (drop l.key-index l.settings) ≡ first_of setting_fault (views l.settings)
