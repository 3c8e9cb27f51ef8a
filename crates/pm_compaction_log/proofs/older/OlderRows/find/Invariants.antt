use Rattle.std.proofs.Common.{◌≡◌, List, Some}
use Rattle.pm_values.specs.declared.record.Stamped.{Stamped}
use Rattle.pm_engine.specs.Covers.{Run}
use Rattle.pm_merge.specs.Merging.{GivesAll}
use Rattle.pm_merge.specs.Source.{Rest}
use Rattle.pm_compaction_log.specs.Older.{AreBelow, AreLeft, most_left}
use Rattle.pm_compaction_log.proofs.older.OlderRows.find.Given as goal

-- rows with lower keys were given
abbrev pub invariant-loop-self : goal.invariant-loop-self
invariant-loop-self g l = record {
  so_far : (x : Stamped) (rests : List Rest) → l.newer ≡ Some x → AreLeft (g.E.MergeEngine.meaning l.engine) g.S.RowSource.rest l.fn.self rests
      → (passed : Run) × (left : List Rest) × AreBelow x.key passed × GivesAll (g.E.MergeEngine.meaning l.engine) rests passed left
      × AreLeft (g.E.MergeEngine.meaning l.engine) g.S.RowSource.rest l.self left;
}

abbrev pub decreases-loop-self : goal.decreases-loop-self
decreases-loop-self g l = most_left g.S.RowSource.rest l.self
