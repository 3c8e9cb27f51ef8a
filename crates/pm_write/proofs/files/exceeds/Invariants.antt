use Rattle.std.proofs.Common.{◌≡◌, drop}
use Rattle.pm_write.specs.Files.{exceeds}
use Rattle.pm_write.specs.Held.{all_groups}
use Rattle.pm_write.proofs.files.exceeds.Given as goal

-- none so far needs a greater number
abbrev pub invariant-loop-held : goal.invariant-loop-held
invariant-loop-held l = exceeds l.next (all_groups (drop l.held-index l.groups)) ≡ exceeds l.next (all_groups l.groups)
