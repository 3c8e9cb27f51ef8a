use Rattle.std.proofs.Common.{◌≡◌, ◌<◌, ◌≤◌, [], ◌∷◌, ◌++◌, take, drop, length}
use Rattle.std.specs.List.{FoldsTo}
use Rattle.pm_engine.specs.Reducing.{Puts}
use Rattle.pm_engine.proofs.reducing.combined_rows.Given as goal

-- the rows so far are in the run, which is the first rows and the one in hand; those after them stand as they did
abbrev pub invariant-loop-index : goal.invariant-loop-index
invariant-loop-index g l = record {
  before : l.count < l.index;
  within : l.index ≤ length l.fn.rows;
  as_many : length l.rows ≡ length l.fn.rows;
  later : drop l.index l.rows ≡ drop l.index l.fn.rows;
  folds : FoldsTo (Puts (g.E.MergeEngine.meaning l.engine)) [] (take l.index l.fn.rows) (take l.count l.rows ++ l.last ∷ []);
}
