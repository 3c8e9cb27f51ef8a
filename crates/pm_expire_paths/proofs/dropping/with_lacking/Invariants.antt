use Rattle.std.proofs.Common.{◌↔◌, ℕ, List, length}
use Rattle.pm_expire_paths.specs.Dropping.{HasOrLacks}
use Rattle.pm_expire_paths.proofs.dropping.with_lacking.Given as goal

abbrev pub invariant-loop-path : goal.invariant-loop-path
invariant-loop-path l = (path : List ℕ) → HasOrLacks l.all.items l.left.items l.sorted path
    ↔ HasOrLacks l.fn.paths.items l.fn.others.items l.sorted path

-- how many are left
abbrev pub decreases-loop-path : goal.decreases-loop-path
decreases-loop-path l = length l.left.items
