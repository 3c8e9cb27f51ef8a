use Rattle.std.proofs.Common.{◌≡◌, ℕ, List, ◌++◌, length, map}
use Rattle.std.specs.List.{AllByRecursion}
use Rattle.pm_engine.specs.Covers.{row_of}
use Rattle.pm_run.specs.Writing.{CountFrom}
use Rattle.pm_write.specs.Taken.{IsTakenRow, taken_in, with_taken}
use Rattle.pm_write.proofs.taken.take_lines.Given as goal

-- whatever lines come later: the rows so far, and those that are taken of the lines that are left
abbrev pub invariant-loop-line : goal.invariant-loop-line
invariant-loop-line l = record {
  exact : (later : List (ℕ × List ℕ)) → with_taken (map row_of l.rows) (taken_in l.schema l.room (l.left ++ later)) ≡ with_taken (map row_of l.fn.rows) (taken_in l.schema l.fn.room (l.lines ++ later));
  taken : AllByRecursion (IsTakenRow l.schema) l.fn.rows → AllByRecursion (IsTakenRow l.schema) l.rows;
  numbers : CountFrom 0 l.fn.rows → CountFrom 0 l.rows;
}

abbrev pub decreases-loop-line : goal.decreases-loop-line
decreases-loop-line l = length l.left
