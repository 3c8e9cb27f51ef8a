use Rattle.std.proofs.Common.{◌≡◌, length}
use Rattle.std.specs.List.{fold}
use Rattle.pm_binrow.specs.Hashing.{mixed, words}
use Rattle.pm_binrow.proofs.hashing.hash.Given as goal

abbrev pub invariant-loop-word : goal.invariant-loop-word
invariant-loop-word l = fold mixed l.hash (words l.rest) ≡ fold mixed 42 (words l.body)

abbrev pub decreases-loop-word : goal.decreases-loop-word
decreases-loop-word l = length l.rest
