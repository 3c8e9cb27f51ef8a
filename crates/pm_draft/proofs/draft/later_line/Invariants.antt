use Rattle.std.proofs.Common.{◌≡◌, length}
use Rattle.pm_draft.specs.Draft.{later_line}
use Rattle.pm_draft.proofs.draft.later_line.Given as goal

abbrev pub invariant-loop-line : goal.invariant-loop-line
invariant-loop-line l = later_line l.left ≡ later_line l.lines

abbrev pub decreases-loop-line : goal.decreases-loop-line
decreases-loop-line l = length l.left
