use Rattle.std.proofs.Common.{take}
use Rattle.pm_options.specs.Written.{Adds}
use Rattle.pm_settings.proofs.write.push_kept.Given as goal

abbrev pub invariant-loop-key : goal.invariant-loop-key
invariant-loop-key l = Adds l.fn.out.items l.out.items (take l.key-index l.kept)
