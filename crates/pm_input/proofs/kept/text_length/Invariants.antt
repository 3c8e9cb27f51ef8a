use Rattle.std.proofs.Common.{◌≡◌, ◌+◌, drop}
use Rattle.pm_input.specs.Kept.{marked_length}
use Rattle.pm_input.proofs.kept.text_length.Given as goal

-- with the lines that are left it is as long as all
abbrev pub invariant-loop-mark : goal.invariant-loop-mark
invariant-loop-mark l = l.length + marked_length (drop l.mark-index l.marks) ≡ marked_length l.marks
