use Rattle.std.proofs.Common.{◌≡◌, List, None}
use Rattle.pm_merge.specs.Merge.{runs_of}
use Rattle.pm_merge.specs.Merging.{GivesAll, HasLeft, rests_of, rows_left}
use Rattle.pm_merge.specs.Source.{Rest, rest_in_memory}
use Rattle.pm_merge.proofs.merge.merged.Given as goal

-- the rows of the run were given, and what is left of the sources came after them
abbrev pub invariant-loop-slot : goal.invariant-loop-slot
invariant-loop-slot g l = record {
  given : (left : List Rest) × GivesAll (g.E.MergeEngine.meaning l.engine) (rests_of (runs_of l.fn.older_first.items)) l.run.items left
      × HasLeft (g.E.MergeEngine.meaning l.engine) (λ s. s) rest_in_memory l.merging left;
  none : l.slot.value ≡ None;
}

abbrev pub decreases-loop-slot : goal.decreases-loop-slot
decreases-loop-slot g l = rows_left (λ s. s) rest_in_memory l.merging
