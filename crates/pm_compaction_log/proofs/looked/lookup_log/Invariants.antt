use Rattle.std.proofs.Common.{◌≡◌, List, None, map}
use Rattle.pm_model_following.specs.Following.{leaves_out_equal}
use Rattle.pm_engine.specs.Covers.{Run}
use Rattle.pm_merge.specs.Merging.{HasLeft, rows_left}
use Rattle.pm_merge.specs.Source.{Rest}
use Rattle.pm_lookup.specs.Lookup.{IsFor, looked_in}
use Rattle.pm_compaction_log.specs.Older.{AreLeft, held}
use Rattle.pm_compaction_log.proofs.BesideLemmas.{FoundBoth}
use Rattle.pm_compaction_log.proofs.OlderLemmas.{AreBeside}
use Rattle.pm_compaction_log.proofs.SoFarLemmas.{SoFar}
use Rattle.pm_compaction_log.proofs.looked.lookup_log.Given as goal

-- The rows that were given are told of, and what is left of the sources came after them; so of the ones beside, of which
-- none that was given has a key above all of these.
abbrev pub invariant-loop-slot : goal.invariant-loop-slot
invariant-loop-slot g l = record {
  so_far : (run : Run) × (left : List Rest)
      × SoFar (g.E.MergeEngine.meaning l.engine) (leaves_out_equal l.schema l.schema.options.engine)
      (FoundBoth (g.E.MergeEngine.meaning l.engine) l.schema (looked_in l.fn.under) (map g.S.RowSource.rest l.fn.beside.items))
      (map g.S.RowSource.rest l.fn.newer.items) run left l.log
      × HasLeft (g.E.MergeEngine.meaning l.engine) held g.S.RowSource.rest l.merging left
      × (rests : List Rest) × AreBeside (g.E.MergeEngine.meaning l.engine) (map g.S.RowSource.rest l.fn.beside.items) run rests
      × AreLeft (g.E.MergeEngine.meaning l.engine) g.S.RowSource.rest l.nearer rests;
  same : looked_in l.under ≡ looked_in l.fn.under;
  opened : IsFor l.schema l.under;
  none : l.slot.value ≡ None;
}

abbrev pub decreases-loop-slot : goal.decreases-loop-slot
decreases-loop-slot g l = rows_left held g.S.RowSource.rest l.merging
